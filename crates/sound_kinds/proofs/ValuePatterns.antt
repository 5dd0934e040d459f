-- The pattern of what is read at a built-in sort of values is of that sort.
use Rattle.std.proofs.Common.{◌≡◌, ◌⊎◌, inl, inr, ℕ, ◌<◌, ◌≤◌, Bool, true, false, cond, List, map, Option, Some, None, refl, sym, ap, subst, ◌∙◌, arith}
use Rattle.std.proofs.lemmas.Bool.{ne_eqb}
use Rattle.std.proofs.lemmas.Option.{slice_get-map}
use Rattle.std.specs.Prelude.{slice_get}
use Rattle.k_terms.specs.declared.op.Op.{Op}
use Rattle.k_terms.specs.declared.op.Op.TheVariants.{MulInt, DivInt, ModInt, AddInt, SubInt, JoinString, LtInt, LeInt, GtInt, GeInt, EqInt, NeInt, EqK, NeK, InKeys, Not, And, Or, SetKey, GetKey, SizeMap, SizeList, LengthString, IntToString}
use Rattle.k_terms.specs.declared.value.Value.{Value, Int, Bool as Truth, Str, Id, Node', Items', Seq', Map', List' as Listed', Freezer'}
use Rattle.k_terms.specs.Sorts.{SortOrder, least_sort, sort_k, sort_map, sort_list}
use Rattle.grammar_terms.specs.declared.shape.Shape.{Shape, Leaf as LeafShape}
use Rattle.grammar_terms.specs.declared.word.Word.{Word}
use Rattle.grammar_terms.specs.declared.word.WordKind.{WordKind}
use Rattle.grammar_terms.specs.declared.word.WordKind.TheVariants.{Terminal as TerminalWord, Literal as LiteralWord, Variable as VariableWord, Wild, EmptyList}
use Rattle.grammar_terms.specs.Reading.{is_leaf, is_wild}
use Rattle.rule_terms.specs.declared.pattern.Pattern.{Pattern, Var, Lit, Apply}
use Rattle.rule_terms.specs.Sound.{result_sort, sort_of, is_map_expression}
use Rattle.rule_tokens.specs.declared.token.RuleToken.{RuleToken}
use Rattle.rule_contents.specs.Words.{literal_sort}
use Rattle.rule_parts.specs.declared.argument_sorts.Productions.{Productions}
use Rattle.rule_parts.specs.declared.leaves.Leaf.{Leaf}
use Rattle.rule_parts.specs.declared.leaves.LeafKind.TheVariants.{Variable, Literal, Other}
use Rattle.rule_parts.specs.declared.terms.Occurrence.{Occurrence}
use Rattle.rule_parts.specs.Leaves.{home_of}
use Rattle.rule_parts.specs.Terms.{number_of, built_by, built, pattern_by, pattern_at, leaf_pattern, as_sequence, at_place, pattern_of, all_patterns, sorts_of, occurrences, occurrence_by, leaf_by}
use Rattle.rule_parts.proofs.TermLayers.{occurrences-Leaf, pattern-Leaf, pattern-Node}
use Rattle.rule_drafts.specs.Bodies.{variable_in}
use Rattle.sound_sequences.proofs.Told.{IsSettled, AreSettled}
use Rattle.sound_kinds.proofs.BaseSorts.{IsBase}
use Rattle.sound_kinds.proofs.ValueShapes.{IsValue}
use Rattle.sound_kinds.proofs.ValueWords.{IsGood, AreGood, AreLeaves}

-- a pattern whose values are of a sort: a variable, a literal or an operator of it
pub data IsTyped (sorts : List ℕ) (sort : ℕ) : Pattern → Type 0 where
  typed_variable : (x : ℕ) → slice_get sorts x ≡ Some sort → IsTyped sorts sort (Var x)
  typed_literal : (v : Value) → literal_sort v ≡ sort → IsTyped sorts sort (Lit v)
  typed_operator : (op : Op) (parts : List Pattern) → result_sort op ≡ Some sort → IsTyped sorts sort (Apply op parts)

-- ---- its sort

-- a literal of such a sort is of no lower one
literal_least : (o : SortOrder) (v : Value) → 2 ≤ literal_sort v → least_sort o v ≡ literal_sort v
literal_least o (Int number) low = refl
literal_least o (Truth truth) low = refl
literal_least o (Str text) low = refl
literal_least o (Id symbol) low = refl
literal_least o (Node' _ _ _) low = absurd (omega (arith, low))
literal_least o (Items' _ _ _) low = absurd (omega (arith, low))
literal_least o (Seq' _ _) low = absurd (omega (arith, low))
literal_least o (Map' _ _) low = absurd (omega (arith, low))
literal_least o (Listed' _ _) low = absurd (omega (arith, low))
literal_least o (Freezer' _ _ _ _) low = absurd (omega (arith, low))

-- its values are below that sort
pub typed_sort : (o : SortOrder) (sorts : List ℕ) (sort : ℕ) (part : Pattern) → IsBase sort → IsTyped sorts sort part → sort_of o sorts part ≡ Some sort
typed_sort o sorts sort part is (typed_variable x there) = there
typed_sort o sorts sort part is (typed_literal v same) = let low = is.low in ap Some (literal_least o v (omega (arith, same, low)) ∙ same)
typed_sort o sorts sort part is (typed_operator op parts result) = result

-- ---- whole maps and lists

pub literal_no_map : (v : Value) → literal_sort v < 7
literal_no_map (Int number) = omega arith
literal_no_map (Truth truth) = omega arith
literal_no_map (Str text) = omega arith
literal_no_map (Id symbol) = omega arith
literal_no_map (Node' _ _ _) = omega arith
literal_no_map (Items' _ _ _) = omega arith
literal_no_map (Seq' _ _) = omega arith
literal_no_map (Map' _ _) = omega arith
literal_no_map (Listed' _ _) = omega arith
literal_no_map (Freezer' _ _ _ _) = omega arith

-- an operator's values are maps where it puts an entry into one, and never lists
abbrev IsOperatorOf : Op → ℕ → Type 0
IsOperatorOf op sort = (sort ≡ sort_map → (parts : List Pattern) → is_map_expression (Apply op parts) ≡ true) × (sort ≡ sort_list → ⊥)

other_sort : (own sort : ℕ) {A : Type 0} → own < 7 → Some own ≡ Some sort → (sort ≡ sort_map → A) × (sort ≡ sort_list → ⊥)
other_sort own sort less e =
    let same : own ≡ sort = cc in
    (λ (f : sort ≡ sort_map). absurd (omega (arith, less, same, f)), λ (f : sort ≡ sort_list). omega (arith, less, same, f))

operator_sort : (op : Op) (sort : ℕ) → result_sort op ≡ Some sort → IsOperatorOf op sort
operator_sort MulInt sort e = other_sort 3 sort (omega arith) e
operator_sort DivInt sort e = other_sort 3 sort (omega arith) e
operator_sort ModInt sort e = other_sort 3 sort (omega arith) e
operator_sort AddInt sort e = other_sort 3 sort (omega arith) e
operator_sort SubInt sort e = other_sort 3 sort (omega arith) e
operator_sort JoinString sort e = other_sort 5 sort (omega arith) e
operator_sort LtInt sort e = other_sort 4 sort (omega arith) e
operator_sort LeInt sort e = other_sort 4 sort (omega arith) e
operator_sort GtInt sort e = other_sort 4 sort (omega arith) e
operator_sort GeInt sort e = other_sort 4 sort (omega arith) e
operator_sort EqInt sort e = other_sort 4 sort (omega arith) e
operator_sort NeInt sort e = other_sort 4 sort (omega arith) e
operator_sort EqK sort e = other_sort 4 sort (omega arith) e
operator_sort NeK sort e = other_sort 4 sort (omega arith) e
operator_sort InKeys sort e = other_sort 4 sort (omega arith) e
operator_sort Not sort e = other_sort 4 sort (omega arith) e
operator_sort And sort e = other_sort 4 sort (omega arith) e
operator_sort Or sort e = other_sort 4 sort (omega arith) e
operator_sort SetKey sort e = let same : sort_map ≡ sort = cc in (λ f parts. refl, λ (f : sort ≡ sort_list). omega (arith, same, f))
operator_sort GetKey sort e = absurd (let f : None ≡ Some sort = e in cc)
operator_sort SizeMap sort e = other_sort 3 sort (omega arith) e
operator_sort SizeList sort e = other_sort 3 sort (omega arith) e
operator_sort LengthString sort e = other_sort 3 sort (omega arith) e
operator_sort IntToString sort e = other_sort 5 sort (omega arith) e

-- what is of sort Map is a variable, or puts an entry into a map
pub typed_map : (sorts : List ℕ) (part : Pattern) → IsTyped sorts sort_map part → ((x : ℕ) × (variable_in part ≡ Some x)) ⊎ ((variable_in part ≡ None) × (is_map_expression part ≡ true))
typed_map sorts part (typed_variable x there) = inl (x, refl)
typed_map sorts part (typed_literal v same) = let less = literal_no_map v in absurd (omega (arith, less, same))
typed_map sorts part (typed_operator op parts result) = inr (refl, (operator_sort op sort_map result).0 refl parts)

-- what is of sort List is a variable
pub typed_list : (sorts : List ℕ) (part : Pattern) → IsTyped sorts sort_list part → (x : ℕ) × (variable_in part ≡ Some x)
typed_list sorts part (typed_variable x there) = (x, refl)
typed_list sorts part (typed_literal v same) = let less = literal_no_map v in absurd (omega (arith, less, same))
typed_list sorts part (typed_operator op parts result) = absurd ((operator_sort op sort_list result).1 refl)

-- ---- the pattern of what is read

module _ (n : ℕ) (tokens : List RuleToken) (words : List Word) (leaves : List Leaf) (good : AreGood n words) (are : AreLeaves tokens words leaves) (g : Productions) (vars : List Occurrence) where
  abbrev pub vars_sorts : List ℕ
  vars_sorts = map (λ (v : Occurrence). v.sort) vars

  abbrev Typed : ℕ → Pattern → Type 0
  Typed sort part = IsTyped vars_sorts sort part

  abbrev at_base : (sort : ℕ) (part : Pattern) → IsBase sort → at_place vars sort part ≡ part
  at_base sort part is = ap (λ b. cond b (as_sequence vars part) part) (ne_eqb sort sort_k (λ e. let low = is.low in absurd (omega (arith, e, low))))

  variable_typed : (o : Occurrence) (sort : ℕ) → IsSettled vars o → o.sort ≡ sort → Typed sort (Var (number_of vars o.home))
  variable_typed o sort settled same =
      typed_variable (number_of vars o.home) (slice_get-map (λ (v : Occurrence). v.sort) vars (number_of vars o.home) ∙ settled.known ∙ ap Some same)

  -- a token of a sort, where it is a literal or a variable, and one without a sort
  token_typed : (at home : ℕ) (kind : WordKind) (own sort : ℕ) (left whole : Bool) → is_leaf kind ≡ true → IsGood n kind own → own ≡ sort
      → AreSettled vars (occurrence_by at (elim kind [ VariableWord ↦ Variable home (Some own) | Wild ↦ Variable home None | LiteralWord value ↦ Literal value | TerminalWord text ↦ Other | EmptyList ↦ Other ]) left sort whole)
      → Typed sort (pattern_by vars (elim kind [ VariableWord ↦ Variable home (Some own) | Wild ↦ Variable home None | LiteralWord value ↦ Literal value | TerminalWord text ↦ Other | EmptyList ↦ Other ]))
  token_typed at home (TerminalWord text) own sort left whole leaf is same settled = absurd (let f : false ≡ true = leaf in cc)
  token_typed at home (LiteralWord value) own sort left whole leaf is same settled = typed_literal value (sym is ∙ same)
  token_typed at home VariableWord own sort left whole leaf is same settled = variable_typed _ sort settled.0 same
  token_typed at home Wild own sort left whole leaf is same settled = absurd (let f : false ≡ true = leaf in cc)
  token_typed at home EmptyList own sort left whole leaf is same settled = absurd (let f : false ≡ true = leaf in cc)

  wild_typed : (at home : ℕ) (kind : WordKind) (own sort : ℕ) (left whole : Bool) → is_wild kind ≡ true
      → AreSettled vars (occurrence_by at (elim kind [ VariableWord ↦ Variable home (Some own) | Wild ↦ Variable home None | LiteralWord value ↦ Literal value | TerminalWord text ↦ Other | EmptyList ↦ Other ]) left sort whole)
      → Typed sort (pattern_by vars (elim kind [ VariableWord ↦ Variable home (Some own) | Wild ↦ Variable home None | LiteralWord value ↦ Literal value | TerminalWord text ↦ Other | EmptyList ↦ Other ]))
  wild_typed at home (TerminalWord text) own sort left whole wild settled = absurd (let f : false ≡ true = wild in cc)
  wild_typed at home (LiteralWord value) own sort left whole wild settled = absurd (let f : false ≡ true = wild in cc)
  wild_typed at home VariableWord own sort left whole wild settled = absurd (let f : false ≡ true = wild in cc)
  wild_typed at home Wild own sort left whole wild settled = variable_typed _ sort settled.0 refl
  wild_typed at home EmptyList own sort left whole wild settled = absurd (let f : false ≡ true = wild in cc)

  -- a leaf of a term
  abbrev LeafTyped : ℕ → Option Leaf → Bool → Bool → Type 0
  LeafTyped sort o left whole = AreSettled vars (leaf_by o left sort whole) → Typed sort (pattern_at vars o)

  leaf_typed : (at sort : ℕ) (left whole : Bool) → IsBase sort → ((m : ℕ) × LeafTyped sort (slice_get leaves at) left whole)
      → AreSettled vars (occurrences g leaves left sort whole (LeafShape at)) → Typed sort (pattern_of g leaves vars sort (LeafShape at))
  leaf_typed at sort left whole is typed settled =
      subst (Typed sort) (sym (pattern-Leaf g leaves vars sort at ∙ at_base sort (leaf_pattern vars leaves at) is))
      (typed.1 (subst (AreSettled vars) (occurrences-Leaf g leaves left sort whole at) settled))

  -- ---- any

  pub value_typed : (sort : ℕ) (shape : Shape) (left whole : Bool) → IsBase sort → IsValue words g.declared sort shape
      → AreSettled vars (occurrences g leaves left sort whole shape) → Typed sort (pattern_of g leaves vars sort shape)
  value_typed sort shape left whole is (inl token) settled =
      let leaf = are token.at token.word token.there in
      subst (λ it. Typed sort (pattern_of g leaves vars sort it)) (sym token.is)
      (leaf_typed token.at sort left whole is (
        leaf.0,
        subst (λ o. LeafTyped sort o left whole) (sym leaf.1)
            (token_typed leaf.0 (home_of tokens leaf.0) token.word.kind token.word.sort sort left whole token.leaf (good token.at token.word token.there) token.sort_is),
      )
      (subst (λ it. AreSettled vars (occurrences g leaves left sort whole it)) token.is settled))
  value_typed sort shape left whole is (inr (inl token)) settled =
      let leaf = are token.at token.word token.there in
      subst (λ it. Typed sort (pattern_of g leaves vars sort it)) (sym token.is)
      (leaf_typed token.at sort left whole is (
        leaf.0,
        subst (λ o. LeafTyped sort o left whole) (sym leaf.1)
            (wild_typed leaf.0 (home_of tokens leaf.0) token.word.kind token.word.sort sort left whole token.wild),
      )
      (subst (λ it. AreSettled vars (occurrences g leaves left sort whole it)) token.is settled))
  value_typed sort shape left whole is (inr (inr one)) settled =
      let parts : List Pattern = all_patterns g leaves vars false (sorts_of g one.p) 0 one.shapes in
      let pattern : pattern_of g leaves vars sort shape ≡ Apply one.op parts =
      ap (pattern_of g leaves vars sort) one.is ∙ pattern-Node g leaves vars sort one.p one.shapes ∙ at_base sort (built g one.p parts) is
      ∙ ap (λ o. built_by o one.p parts) one.operator in
      subst (Typed sort) (sym pattern) (typed_operator one.op parts one.result)
