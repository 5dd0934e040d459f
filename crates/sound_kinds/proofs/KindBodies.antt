-- The body of a content is of the kind of its cell, and a single value is of the cell's sort.
use Rattle.std.proofs.Common.{◌≡◌, ⊎_elim, ℕ, Bool, true, false, cond, ◌==◌, List, [], ◌∷◌, length, Option, Some, None, refl, sym, ap, subst, ◌∙◌}
use Rattle.std.specs.List.{AllByRecursion, flat_map}
use Rattle.k_terms.specs.Sorts.{SortOrder, Below, sort_k, sort_map, sort_list}
use Rattle.k_terms.specs.Sorts.Below.{same}
use Rattle.grammar_terms.specs.declared.shape.Shape.{Shape}
use Rattle.grammar_terms.specs.declared.word.Word.{Word}
use Rattle.rule_terms.specs.declared.defs.Kind.{Kind}
use Rattle.rule_terms.specs.declared.defs.Kind.TheVariants.{Cells as CellsKind, Seq as SeqKind, Map as MapKind, List as ListKind, One as OneKind}
use Rattle.rule_terms.specs.declared.pattern.Pattern.{Pattern}
use Rattle.rule_terms.specs.declared.pattern.Body.{Body, Map as MapBody, List as ListBody, One as OneBody, Made as MadeBody}
use Rattle.rule_terms.specs.Sound.{is_body_of, is_map_expression, sort_of}
use Rattle.rule_tokens.specs.declared.token.RuleToken.{RuleToken}
use Rattle.rule_parts.specs.declared.argument_sorts.Productions.{Productions}
use Rattle.rule_parts.specs.declared.leaves.Leaf.{Leaf}
use Rattle.rule_parts.specs.declared.parts.Part.{Part}
use Rattle.rule_parts.specs.declared.parts.What.{What}
use Rattle.rule_parts.specs.declared.parts.What.TheVariants.{Item, Tail, Entry, Rest, Made, Inner, Whole}
use Rattle.rule_parts.specs.declared.terms.Occurrence.{Occurrence}
use Rattle.rule_parts.specs.Sides.{is_left, stands, item_sort, whole_sort, what_occurrences, part_occurrences, what_sequence, what_items, what_entries, what_rests, what_made, of_side, items_before}
use Rattle.rule_parts.specs.Terms.{occurrences, pattern_of}
use Rattle.rule_drafts.specs.Bodies.{dots_number, seq_by, rest_by, variable_in, made_map, made_list, map_by, list_by, list_items, rest_place, one_by, body_of, is_filled}
use Rattle.sound_sequences.proofs.Whats.{all_joined}
use Rattle.sound_sequences.proofs.Terms.{left_of_all, right_of_all}
use Rattle.sound_sequences.proofs.Told.{IsSettled, AreSettled}
use Rattle.sound_kinds.proofs.BaseSorts.{IsBase}
use Rattle.sound_kinds.proofs.ValueShapes.{IsValue}
use Rattle.sound_kinds.proofs.ValueWords.{AreGood, AreLeaves}
use Rattle.sound_kinds.proofs.ValuePatterns.{IsTyped, vars_sorts, typed_sort, typed_map, typed_list, value_typed}
use Rattle.sound_kinds.proofs.ValueRoles.{item_want, made_want, IsWanted, IsRight, AreRight}

-- what is asked of a body in a cell of a kind: it is of that kind, and a single value is of the cell's sort
pub record IsKindBody (o : SortOrder) (vars : List ℕ) (kind : Kind) (body : Body) : Type 0 where
  pub kind_is : is_body_of kind body ≡ true
  pub value : (q : Pattern) (sort : ℕ) → body ≡ OneBody q → kind ≡ OneKind sort → (least : ℕ) × (sort_of o vars q ≡ Some least) × Below o least sort

-- ---- bodies by their parts

seq_kind : (vars : List Occurrence) (dots : Option ℕ) (parts : List Pattern) → is_body_of SeqKind (seq_by vars dots parts) ≡ true
seq_kind vars None parts = refl
seq_kind vars (Some x) parts = refl

module _ (sorts : List ℕ) where
  map_made : (part : Pattern) → IsTyped sorts sort_map part → is_body_of MapKind (made_map part) ≡ true
  map_made part typed =
      ⊎_elim
      (λ (found : (x : ℕ) × (variable_in part ≡ Some x)). ap (λ (o : Option ℕ). is_body_of MapKind (elim o [ Some x ↦ MapBody [] (Some x) | None ↦ MadeBody part ])) found.1)
      (λ (found : (variable_in part ≡ None) × (is_map_expression part ≡ true)).
      ap (λ (o : Option ℕ). is_body_of MapKind (elim o [ Some x ↦ MapBody [] (Some x) | None ↦ MadeBody part ])) found.0 ∙ found.1)
      (typed_map sorts part typed)

  list_made : (part : Pattern) → IsTyped sorts sort_list part → is_body_of ListKind (made_list part) ≡ true
  list_made part typed =
      let found = typed_list sorts part typed in
      ap (λ (o : Option ℕ). is_body_of ListKind (elim o [ Some x ↦ ListBody [] (Some x) [] | None ↦ MadeBody part ])) found.1

  map_kind : (made : List Pattern) (entries : List (Pattern × Pattern)) (rest : Option ℕ) → AllByRecursion (IsTyped sorts sort_map) made
      → is_body_of MapKind (map_by made entries rest) ≡ true
  map_kind [] entries rest all = refl
  map_kind (part ∷ made) entries rest all = map_made part all.0

  list_kind : (made items : List Pattern) (rest : Option ℕ) (place : ℕ) → AllByRecursion (IsTyped sorts sort_list) made → is_body_of ListKind (list_by made items rest place) ≡ true
  list_kind [] items None place all = refl
  list_kind [] items (Some x) place all = refl
  list_kind (part ∷ made) items rest place all = list_made part all.0

  one_kind : (sort : ℕ) (items : List Pattern) → is_body_of (OneKind sort) (one_by items) ≡ true
  one_kind sort [] = refl
  one_kind sort (part ∷ items) = refl

  same_one : (one other : Pattern) → OneBody one ≡ OneBody other → one ≡ other
  same_one one other e = cc

  one_value : (o : SortOrder) (sort : ℕ) (items : List Pattern) → IsBase sort → is_filled items ≡ true → AllByRecursion (IsTyped sorts sort) items
      → (q : Pattern) → one_by items ≡ OneBody q → (least : ℕ) × (sort_of o sorts q ≡ Some least) × Below o least sort
  one_value o sort [] based filled all q e = absurd (let f : false ≡ true = filled in cc)
  one_value o sort (part ∷ items) based filled all q e =
      (sort, ap (sort_of o sorts) (sym (same_one part q e)) ∙ typed_sort o sorts sort part based all.0, same sort)

-- ---- the parts of a side

cond_all : {X : Type 0} (P : X → Type 0) (b : Bool) (xs : List X) → AllByRecursion P xs → AllByRecursion P (cond b xs [])
cond_all P true xs all = all
cond_all P false xs all = tt

module _ (n : ℕ) (tokens : List RuleToken) (words : List Word) (leaves : List Leaf) (good : AreGood n words) (are : AreLeaves tokens words leaves) (g : Productions) (vars : List Occurrence) where
  abbrev Val : ℕ → Shape → Type 0
  Val sort shape = IsValue words g.declared sort shape

  abbrev sorts : List ℕ
  sorts = vars_sorts n tokens words leaves good are g vars

  abbrev Typed : ℕ → Pattern → Type 0
  Typed sort part = IsTyped sorts sort part

  module _ (kind : Kind) (m count : ℕ) (items_base : (sort : ℕ) → item_want kind ≡ Some sort → IsBase sort) (made_base : (sort : ℕ) → made_want kind ≡ Some sort → IsBase sort) where
    abbrev pub RightParts : List (Part Shape) → Type 0
    RightParts parts = AreRight Val kind m count items_base made_base parts

    abbrev RightWhat : What Shape → Type 0
    RightWhat what = IsRight Val kind m count items_base made_base what

    abbrev Wanted : Option ℕ → Shape → Type 0
    Wanted o shape = IsWanted Val kind m count items_base made_base o shape

    abbrev SettledWhat : Bool → What Shape → Type 0
    SettledWhat left what = AreSettled vars (what_occurrences g leaves kind left what)

    there : (o : Option ℕ) (sort own : ℕ) (shape : Shape) (left whole : Bool) → o ≡ Some sort → own ≡ sort → IsBase sort → Wanted o shape
        → AreSettled vars (occurrences g leaves left own whole shape) → Typed sort (pattern_of g leaves vars sort shape)
    there o sort own shape left whole is alike based wanted settled =
        value_typed n tokens words leaves good are g vars sort shape left whole based (subst (λ it. Wanted it shape) is wanted)
        (subst (λ it. AreSettled vars (occurrences g leaves left it whole shape)) alike settled)

    item_typed : (sort : ℕ) → item_want kind ≡ Some sort → item_sort kind ≡ sort → (left : Bool) (what : What Shape) → RightWhat what → SettledWhat left what
        → AllByRecursion (Typed sort) (what_items g leaves vars sort what)
    item_typed sort want is left (Item shape) right settled =
        (there (item_want kind) sort (item_sort kind) shape left (item_sort kind == sort_k) want is (items_base sort want) right settled, tt)
    item_typed sort want is left (Tail at) right settled = tt
    item_typed sort want is left (Entry key value) right settled = tt
    item_typed sort want is left (Rest at) right settled = tt
    item_typed sort want is left (Made shape) right settled = tt
    item_typed sort want is left (Inner at) right settled = tt
    item_typed sort want is left Whole right settled = tt

    made_typed : (sort : ℕ) → made_want kind ≡ Some sort → whole_sort kind ≡ sort → (left : Bool) (what : What Shape) → RightWhat what → SettledWhat left what
        → AllByRecursion (Typed sort) (what_made g leaves vars sort what)
    made_typed sort want is left (Made shape) right settled = (there (made_want kind) sort (whole_sort kind) shape left true want is (made_base sort want) right settled, tt)
    made_typed sort want is left (Item shape) right settled = tt
    made_typed sort want is left (Tail at) right settled = tt
    made_typed sort want is left (Entry key value) right settled = tt
    made_typed sort want is left (Rest at) right settled = tt
    made_typed sort want is left (Inner at) right settled = tt
    made_typed sort want is left Whole right settled = tt

    side_typed : (sort : ℕ) (f : What Shape → List Pattern) → ((left : Bool) (what : What Shape) → RightWhat what → SettledWhat left what → AllByRecursion (Typed sort) (f what))
        → (left : Bool) (parts : List (Part Shape)) → RightParts parts → AreSettled vars (flat_map (part_occurrences g leaves kind) parts)
        → AllByRecursion (Typed sort) (of_side left f parts)
    side_typed sort f each left [] right settled = tt
    side_typed sort f each left (part ∷ parts) right settled =
        all_joined (Typed sort) (cond (stands left part.side) (f part.what) []) (of_side left f parts)
        (cond_all (Typed sort) (stands left part.side) (f part.what)
        (each (is_left part.side) part.what right.0
        (left_of_all (IsSettled vars) (part_occurrences g leaves kind part) (flat_map (part_occurrences g leaves kind) parts) settled)))
        (side_typed sort f each left parts right.1
        (right_of_all (IsSettled vars) (part_occurrences g leaves kind part) (flat_map (part_occurrences g leaves kind) parts) settled))

  -- ---- bodies

  -- what is asked of the parts of a content that stands on a side
  pub record HasParts (kind : Kind) (m count : ℕ) (left : Bool) (parts : List (Part Shape)) : Type 0 where
    pub items_base : (sort : ℕ) → item_want kind ≡ Some sort → IsBase sort
    pub made_base : (sort : ℕ) → made_want kind ≡ Some sort → IsBase sort
    pub right : RightParts kind m count items_base made_base parts
    pub settled : AreSettled vars (flat_map (part_occurrences g leaves kind) parts)
    pub single : (sort : ℕ) → kind ≡ OneKind sort → is_filled (of_side left (what_items g leaves vars sort) parts) ≡ true

  no_single : {X : Type 0} (kind : Kind) (sort : ℕ) → item_want kind ≡ None → kind ≡ OneKind sort → X
  no_single kind sort none is = absurd (let f : None ≡ Some sort = sym none ∙ ap item_want is in cc)

  one_sort : (own other : ℕ) → OneKind own ≡ OneKind other → own ≡ other
  one_sort own other e = cc

  pub kind_body : (o : SortOrder) (tag : _) (left : Bool) (kind : Kind) (m count : ℕ) (parts : List (Part Shape)) → HasParts kind m count left parts
      → IsKindBody o sorts kind (body_of g leaves vars tag left parts kind)
  kind_body o tag left CellsKind m count parts has = record { kind_is = refl; value = λ q sort is kind_is. no_single CellsKind sort refl kind_is }
  kind_body o tag left SeqKind m count parts has = record {
    kind_is = seq_kind vars (dots_number vars tag) (of_side left (what_sequence g leaves vars) parts);
    value = λ q sort is kind_is. no_single SeqKind sort refl kind_is;
  }
  kind_body o tag left MapKind m count parts has = record {
    kind_is =
        map_kind sorts (of_side left (what_made g leaves vars sort_map) parts) (of_side left (what_entries g leaves vars) parts)
        (rest_by (dots_number vars tag) (of_side left (what_rests leaves vars) parts))
        (side_typed MapKind m count has.items_base has.made_base sort_map (what_made g leaves vars sort_map)
        (made_typed MapKind m count has.items_base has.made_base sort_map refl refl) left parts has.right has.settled);
    value = λ q sort is kind_is. no_single MapKind sort refl kind_is;
  }
  kind_body o tag left ListKind m count parts has = record {
    kind_is =
        list_kind sorts (of_side left (what_made g leaves vars sort_list) parts) (list_items g leaves vars tag left parts)
        (rest_by (dots_number vars tag) (of_side left (what_rests leaves vars) parts))
        (rest_place tag (items_before left parts) (length (list_items g leaves vars tag left parts)))
        (side_typed ListKind m count has.items_base has.made_base sort_list (what_made g leaves vars sort_list)
        (made_typed ListKind m count has.items_base has.made_base sort_list refl refl) left parts has.right has.settled);
    value = λ q sort is kind_is. no_single ListKind sort refl kind_is;
  }
  kind_body o tag left (OneKind own) m count parts has = record {
    kind_is = one_kind sorts own (of_side left (what_items g leaves vars own) parts);
    value = λ q sort is kind_is.
        subst (λ s. (least : ℕ) × (sort_of o sorts q ≡ Some least) × Below o least s) (one_sort own sort kind_is)
        (one_value sorts o own (of_side left (what_items g leaves vars own) parts) (has.items_base own refl) (has.single own refl)
        (side_typed (OneKind own) m count has.items_base has.made_base own (what_items g leaves vars own)
        (item_typed (OneKind own) m count has.items_base has.made_base own refl refl) left parts has.right has.settled) q is);
  }
