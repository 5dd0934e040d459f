-- Where the variables of a rule are told: at tokens that are variables, or by the `...` of a cell.
use Rattle.std.proofs.Common.{◌≡◌, ℕ, zero, suc, ◌+◌, Bool, true, false, cond, ◌==◌, List, [], ◌∷◌, ◌++◌, map, drop, Option, Some, None, refl, sym, ap, subst, arith}
use Rattle.std.specs.Prelude.{slice_get, unwrap_or}
use Rattle.std.specs.List.{AllByRecursion, flat_map, position_from}
use Rattle.k_terms.specs.Sorts.{sort_k, sort_kitem, sort_bool}
use Rattle.k_terms.specs.declared.value.Symbol.{Symbol}
use Rattle.grammar_terms.specs.declared.shape.Shape.{Shape, Leaf as LeafShape, Node' as NodeS', Items' as ItemsS', Row_of-Shape, end_of-Shape, more_of-Shape}
use Rattle.grammar_terms.specs.declared.word.WordKind.{WordKind}
use Rattle.grammar_terms.specs.declared.word.WordKind.TheVariants.{Terminal as TerminalWord, Literal as LiteralWord, Variable as VariableWord, Wild, EmptyList}
use Rattle.rule_terms.specs.declared.defs.Kind.{Kind}
use Rattle.rule_tokens.specs.declared.token.RuleKind.{RuleKind}
use Rattle.rule_tokens.specs.declared.token.RuleKind.TheVariants as kind
use Rattle.rule_tokens.specs.declared.token.RuleToken.{RuleToken}
use Rattle.rule_contents.specs.Words.{word_of}
use Rattle.rule_parts.specs.declared.argument_sorts.Productions.{Productions}
use Rattle.rule_parts.specs.declared.leaves.Leaf.{Leaf}
use Rattle.rule_parts.specs.declared.leaves.LeafKind.{LeafKind}
use Rattle.rule_parts.specs.declared.leaves.LeafKind.TheVariants.{Variable, Literal, Other}
use Rattle.rule_parts.specs.declared.parts.Part.{Part}
use Rattle.rule_parts.specs.declared.parts.What.{What}
use Rattle.rule_parts.specs.declared.parts.What.TheVariants.{Item, Tail, Entry, Rest, Made, Inner, Whole}
use Rattle.rule_parts.specs.declared.terms.Occurrence.{Occurrence}
use Rattle.rule_parts.specs.Leaves.{name_in, is_same_name, is_of_name, named_home, home_by, home_of, leaf_kind, leaves_from, leaves_of}
use Rattle.rule_parts.specs.Sides.{is_left, item_sort, whole_sort, what_occurrences, part_occurrences}
use Rattle.rule_parts.specs.Terms.{sorts_of, place_sort, takes_sequence, is_sequence, is_end, occurrence_by, leaf_by, leaf_occurrence, rest_occurrence, occurrences, row_occurrences}
use Rattle.rule_drafts.specs.declared.reading.Condition.{Condition}
use Rattle.rule_drafts.specs.Cells.{is_open}
use Rattle.rule_drafts.specs.Drafts.{condition_occurrences}

all_joined : {X : Type 0} (P : X → Type 0) (xs ys : List X) → AllByRecursion P xs → AllByRecursion P ys → AllByRecursion P (xs ++ ys)
all_joined P [] ys one other = other
all_joined P (x ∷ xs) ys one other = (one.0, all_joined P xs ys one.1 other)

all_dropped : {X : Type 0} (P : X → Type 0) (n : ℕ) (xs : List X) → AllByRecursion P xs → AllByRecursion P (drop n xs)
all_dropped P zero xs all = all
all_dropped P (suc n) [] all = tt
all_dropped P (suc n) (x ∷ xs) all = all_dropped P n xs all.1

all_at : {X : Type 0} (P : X → Type 0) (n : ℕ) (xs : List X) (x : X) → AllByRecursion P xs → slice_get xs n ≡ Some x → P x
all_at P n [] x all e = absurd (let f : None ≡ Some x = e in cc)
all_at P zero (y ∷ xs) x all e = let same : y ≡ x = cc in subst P same all.0
all_at P (suc n) (y ∷ xs) x all e = all_at P n xs x all.1 e

-- a token is there that is no opening tag
pub record IsNoTag (tokens : List RuleToken) (home : ℕ) : Type 0 where
  pub token : RuleToken
  pub is : slice_get tokens home ≡ Some token
  pub shut : is_open token.kind ≡ false

-- ---- leaves

abbrev IsGoodKind : List RuleToken → LeafKind → Type 0
IsGoodKind tokens (Variable home sort) = IsNoTag tokens home
IsGoodKind tokens (Literal value) = Unit {0}
IsGoodKind tokens Other = Unit {0}

abbrev pub AreGood : List RuleToken → List Leaf → Type 0
AreGood tokens leaves = AllByRecursion (λ (leaf : Leaf). IsGoodKind tokens leaf.kind) leaves

-- a token of a name is no tag
name_shut : (k : RuleKind) (name : Symbol) → is_same_name name (name_in k) ≡ true → is_open k ≡ false
name_shut (kind.Open cell) name e = absurd (let f : false ≡ true = e in cc)
name_shut (kind.Close cell) name e = refl
name_shut kind.Rewrite name e = refl
name_shut kind.Then name e = refl
name_shut kind.MapsTo name e = refl
name_shut kind.Dots name e = refl
name_shut (kind.Dot sort) name e = refl
name_shut kind.ListItem name e = refl
name_shut (kind.Terminal text) name e = refl
name_shut (kind.Literal value) name e = refl
name_shut (kind.Variable other sort) name e = refl

record IsPassed {X : Type 0} (test : X → Bool) (at : ℕ) (xs : List X) (found : ℕ) : Type 0 where
  place : ℕ
  found_is : found ≡ at + place
  item : X
  is : slice_get xs place ≡ Some item
  passes : test item ≡ true

passed : {X : Type 0} (test : X → Bool) (at : ℕ) (xs : List X) (found : ℕ) → position_from test at xs ≡ Some found → IsPassed test at xs found
passed test at [] found e = absurd (let f : None ≡ Some found = e in cc)
passed test at (x ∷ xs) found e =
    elim (test x) as (λ b. test x ≡ b → cond b (Some at) (position_from test (at + 1) xs) ≡ Some found → IsPassed test at (x ∷ xs) found) [
      | true ↦ λ here first. let same : at ≡ found = cc in record { place = 0; found_is = (let e : found ≡ at + 0 = omega (arith, same) in e); item = x; is = refl; passes = here }
      | false ↦ λ away later. let rest = passed test (at + 1) xs found later in let same : found ≡ at + 1 + rest.place = rest.found_is in
          record { place = suc rest.place; found_is = (let e : found ≡ at + suc rest.place = omega (arith, same) in e); item = rest.item; is = rest.is; passes = rest.passes }
    ] refl e

module _ (tokens : List RuleToken) where
  named_shut : (at : ℕ) (token : RuleToken) (name : Symbol) → slice_get tokens at ≡ Some token → is_open token.kind ≡ false → IsNoTag tokens (named_home tokens name at)
  named_shut at token name is shut =
      elim (position_from (is_of_name name) 0 tokens) as (λ o. position_from (is_of_name name) 0 tokens ≡ o → IsNoTag tokens (unwrap_or o at)) [
        | None ↦ λ _. record { token = token; is = is; shut = shut }
        | Some home ↦ λ e.
            let p = passed (is_of_name name) 0 tokens home e in
            let same : p.place ≡ home = (let f : home ≡ 0 + p.place = p.found_is in omega (arith, f)) in
            record { token = p.item; is = subst (λ n. slice_get tokens n ≡ Some p.item) same p.is; shut = name_shut p.item.kind name p.passes }
      ] refl

  home_shut : (at : ℕ) (token : RuleToken) (name : Option Symbol) → slice_get tokens at ≡ Some token → is_open token.kind ≡ false → IsNoTag tokens (home_by tokens at name)
  home_shut at token None is shut = record { token = token; is = is; shut = shut }
  home_shut at token (Some name) is shut = named_shut at token name is shut

  home_of_shut : (at : ℕ) (token : RuleToken) → slice_get tokens at ≡ Some token → is_open token.kind ≡ false → IsNoTag tokens (home_of tokens at)
  home_of_shut at token is shut =
      subst (λ (o : Option RuleToken). IsNoTag tokens (elim o [ None ↦ at | Some t ↦ home_by tokens at (name_in t.kind) ])) (sym is) (home_shut at token (name_in token.kind) is shut)

  -- a word of a tag is a terminal
  word_good : (sorts : List (Symbol × ℕ)) (at : ℕ) (token : RuleToken) → slice_get tokens at ≡ Some token → IsGoodKind tokens (leaf_kind tokens at (word_of sorts token))
  word_good sorts at token is = by_kind token.kind refl
    where
      by_word : (w : WordKind) (sort : ℕ) → is_open token.kind ≡ false
          → IsGoodKind tokens (elim w [
            | VariableWord ↦ Variable (home_of tokens at) (Some sort)
            | Wild ↦ Variable (home_of tokens at) None
            | LiteralWord value ↦ Literal value
            | TerminalWord text ↦ Other
            | EmptyList ↦ Other
          ])
      by_word (TerminalWord text) sort shut = tt
      by_word (LiteralWord value) sort shut = tt
      by_word VariableWord sort shut = home_of_shut at token is shut
      by_word Wild sort shut = home_of_shut at token is shut
      by_word EmptyList sort shut = tt

      by_kind : (k : RuleKind) → token.kind ≡ k → IsGoodKind tokens (leaf_kind tokens at (word_of sorts token))
      by_kind (kind.Open cell) e =
          subst (λ (j : RuleKind). IsGoodKind tokens (leaf_kind tokens at (word_of sorts (record { kind = j; start = token.start; end = token.end })))) (sym e) tt
      by_kind (kind.Close cell) e = by_word (word_of sorts token).kind (word_of sorts token).sort (ap is_open e)
      by_kind kind.Rewrite e = by_word (word_of sorts token).kind (word_of sorts token).sort (ap is_open e)
      by_kind kind.Then e = by_word (word_of sorts token).kind (word_of sorts token).sort (ap is_open e)
      by_kind kind.MapsTo e = by_word (word_of sorts token).kind (word_of sorts token).sort (ap is_open e)
      by_kind kind.Dots e = by_word (word_of sorts token).kind (word_of sorts token).sort (ap is_open e)
      by_kind (kind.Dot sort) e = by_word (word_of sorts token).kind (word_of sorts token).sort (ap is_open e)
      by_kind kind.ListItem e = by_word (word_of sorts token).kind (word_of sorts token).sort (ap is_open e)
      by_kind (kind.Terminal text) e = by_word (word_of sorts token).kind (word_of sorts token).sort (ap is_open e)
      by_kind (kind.Literal value) e = by_word (word_of sorts token).kind (word_of sorts token).sort (ap is_open e)
      by_kind (kind.Variable name sort) e = by_word (word_of sorts token).kind (word_of sorts token).sort (ap is_open e)

  from_good : (sorts : List (Symbol × ℕ)) (at : ℕ) (rest : List RuleToken) → ((i : ℕ) (token : RuleToken) → slice_get rest i ≡ Some token → slice_get tokens (at + i) ≡ Some token)
      → AreGood tokens (leaves_from tokens at (map (word_of sorts) rest))
  from_good sorts at [] there = tt
  from_good sorts at (token ∷ rest) there =
      let start : at + 0 ≡ at = omega arith in (
        word_good sorts at token (subst (λ n. slice_get tokens n ≡ Some token) start (there 0 token refl)),
        from_good sorts (at + 1) rest (λ i other is. let next : at + suc i ≡ at + 1 + i = omega arith in subst (λ n. slice_get tokens n ≡ Some other) next (there (suc i) other is)),
      )

  pub leaves_good : (sorts : List (Symbol × ℕ)) → AreGood tokens (leaves_of tokens (map (word_of sorts) tokens))
  leaves_good sorts = from_good sorts 0 tokens (λ i token is. let same : i ≡ 0 + i = omega arith in subst (λ n. slice_get tokens n ≡ Some token) same is)

  -- ---- terms

  abbrev IsGood : Occurrence → Type 0
  IsGood o = IsNoTag tokens o.home

  by_good : (at : ℕ) (k : LeafKind) (left : Bool) (sort : ℕ) (whole : Bool) → IsGoodKind tokens k → AllByRecursion IsGood (occurrence_by at k left sort whole)
  by_good at (Variable home None) left sort whole good = (good, tt)
  by_good at (Variable home (Some own)) left sort whole good = (good, tt)
  by_good at (Literal value) left sort whole good = tt
  by_good at Other left sort whole good = tt

  module _ (g : Productions) (leaves : List Leaf) (good : AreGood tokens leaves) where
    leaf_by_good : (o : Option Leaf) (left : Bool) (sort : ℕ) (whole : Bool) → ((leaf : Leaf) → o ≡ Some leaf → IsGoodKind tokens leaf.kind) → AllByRecursion IsGood (leaf_by o left sort whole)
    leaf_by_good None left sort whole each = tt
    leaf_by_good (Some leaf) left sort whole each = by_good leaf.at leaf.kind left sort whole (each leaf refl)

    leaf_good : (left : Bool) (sort : ℕ) (whole : Bool) (at : ℕ) → AllByRecursion IsGood (leaf_occurrence leaves left sort whole at)
    leaf_good left sort whole at = leaf_by_good (slice_get leaves at) left sort whole (λ leaf is. all_at (λ (l : Leaf). IsGoodKind tokens l.kind) at leaves leaf good is)

    rest_good : (left : Bool) (sort : ℕ) (rest : Option ℕ) → AllByRecursion IsGood (rest_occurrence leaves left sort rest)
    rest_good left sort None = tt
    rest_good left sort (Some at) = leaf_good left sort true at

    mutual
      unfolding occurrences row_occurrences

      shape_good : (left : Bool) (sort : ℕ) (whole : Bool) (shape : Shape) → AllByRecursion IsGood (occurrences g leaves left sort whole shape)
      shape_good left sort whole (LeafShape at) = leaf_good left sort whole at
      shape_good left sort whole (NodeS' p _ shapes) = row_good left false false (sorts_of g p) 0 shapes
      shape_good left sort whole (ItemsS' p _ shapes rest) =
          all_joined IsGood _ _ (row_good left true (is_sequence p) (sorts_of g p) 0 shapes) (rest_good left (place_sort true (sorts_of g p) 0) rest)

      row_good : {n : _} (left list sequence : Bool) (sorts : List ℕ) (i : ℕ) (row : Row_of-Shape n) → AllByRecursion IsGood (row_occurrences g leaves left list sequence sorts i row)
      row_good left list sequence sorts i end_of-Shape = tt
      row_good left list sequence sorts i (more_of-Shape shape shapes) =
          all_joined IsGood _ _ (shape_good left (place_sort list sorts i) (takes_sequence sequence (place_sort list sorts i) (is_end shapes)) shape)
          (row_good left list sequence sorts (i + 1) shapes)

    what_good : (k : Kind) (left : Bool) (what : What Shape) → AllByRecursion IsGood (what_occurrences g leaves k left what)
    what_good k left (Item shape) = shape_good left (item_sort k) (item_sort k == sort_k) shape
    what_good k left (Tail at) = leaf_good left sort_k true at
    what_good k left (Entry key value) = all_joined IsGood _ _ (shape_good left sort_kitem false key) (shape_good left sort_kitem false value)
    what_good k left (Rest at) = leaf_good left (whole_sort k) true at
    what_good k left (Made shape) = shape_good left (whole_sort k) true shape
    what_good k left (Inner at) = tt
    what_good k left Whole = tt

    pub parts_good : (k : Kind) (parts : List (Part Shape)) → AllByRecursion IsGood (flat_map (part_occurrences g leaves k) parts)
    parts_good k [] = tt
    parts_good k (part ∷ parts) = all_joined IsGood _ _ (what_good k (is_left part.side) part.what) (parts_good k parts)

    pub term_good : (left : Bool) (sort : ℕ) (whole : Bool) (shape : Shape) → AllByRecursion IsGood (occurrences g leaves left sort whole shape)
    term_good = shape_good

  pub dropped_good : (n : ℕ) (leaves : List Leaf) → AreGood tokens leaves → AreGood tokens (drop n leaves)
  dropped_good n leaves good = all_dropped (λ (leaf : Leaf). IsGoodKind tokens leaf.kind) n leaves good

  pub condition_good : (g : Productions) (leaves : List Leaf) → AreGood tokens leaves → (condition : Option Condition) → AllByRecursion IsGood (condition_occurrences g leaves condition)
  condition_good g leaves good None = tt
  condition_good g leaves good (Some condition) = term_good g (drop condition.first leaves) (dropped_good condition.first leaves good) false sort_bool false condition.shape
