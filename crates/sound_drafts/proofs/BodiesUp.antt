-- A variable on the left of a content's parts stands in the body of the content on the left, and so does the rest of its `...`, where its form is one of a rule.
use Rattle.std.proofs.Common.{◌≡◌, ◌⊎◌, inl, inr, ⊎_elim, ℕ, zero, suc, ◌+◌, ◌≤◌, Bool, true, false, cond, ◌==◌, ◌||◌, List, [], ◌∷◌, ◌++◌, length, take, drop, Option, Some, None, refl, sym, ap, ◌∙◌, arith, length-append}
use Rattle.std.proofs.lemmas.Bool.{or_cases, eq-eqb}
use Rattle.std.proofs.lemmas.Bool.Decides.{nat_tests}
use Rattle.std.specs.Prelude.{nat_lt}
use Rattle.std.specs.List.{AllByRecursion, list_any}
use Rattle.k_terms.specs.Sorts.{sort_map, sort_list}
use Rattle.grammar_terms.specs.declared.shape.Shape.{Shape}
use Rattle.rule_terms.specs.declared.defs.Kind.{Kind}
use Rattle.rule_terms.specs.declared.defs.Kind.TheVariants.{Cells as CellsKind, Seq as SeqKind, Map as MapKind, List as ListKind, One as OneKind}
use Rattle.rule_terms.specs.declared.pattern.Pattern.{Pattern}
use Rattle.rule_terms.specs.Patterns.{mentions, is_rest}
use Rattle.rule_terms.specs.Sound.{body_mentions}
use Rattle.rule_parts.specs.declared.argument_sorts.Productions.{Productions}
use Rattle.rule_parts.specs.declared.leaves.Leaf.{Leaf}
use Rattle.rule_parts.specs.declared.parts.Part.{Part}
use Rattle.rule_parts.specs.declared.parts.Side.{Side as Stands}
use Rattle.rule_parts.specs.declared.parts.Side.TheVariants.{Both, Left, Right}
use Rattle.rule_parts.specs.declared.parts.What.{What}
use Rattle.rule_parts.specs.declared.parts.What.TheVariants.{Item, Tail, Entry, Rest, Made, Inner, Whole}
use Rattle.rule_parts.specs.declared.terms.Occurrence.{Occurrence}
use Rattle.rule_parts.specs.Terms.{number_of, variable_at}
use Rattle.rule_parts.specs.Sides.{is_left, stands, as_list, what_sequence, what_items, what_entries, what_rests, what_made, what_wholes, on_side, of_side, items_before}
use Rattle.rule_drafts.specs.Bodies.{seq_by, rest_by, map_by, list_by, one_by, rest_place, list_items, dots_number, body_of, one_if, written_rests, is_bad_form}
use Rattle.rule_drafts.specs.Cells.{tag_of}
use Rattle.sound_drafts.proofs.Contents.{in_entry, is_it}
use Rattle.sound_drafts.proofs.ListRests.{rests_in_lists}
use Rattle.sound_drafts.proofs.Occurred.{or_first, or_last, its_number, split_up}
use Rattle.sound_drafts.proofs.PartsRead.{IsNotMade, IsReadPart}
use Rattle.sound_drafts.proofs.PartsUp.{StandsIn}
use Rattle.sound_drafts.proofs.SingleValues.{HasOneItem}

-- ---- lists

either_up : {A : Type 0} (test : A → Bool) (n : ℕ) (xs : List A) → list_any test xs ≡ true → (list_any test (take n xs) || list_any test (drop n xs)) ≡ true
either_up test zero xs e = e
either_up test (suc n) [] e = e
either_up test (suc n) (x ∷ xs) e =
    ⊎_elim
    (λ (here : test x ≡ true). or_first (list_any test (take (suc n) (x ∷ xs))) (list_any test (drop n xs)) (or_first (test x) (list_any test (take n xs)) here))
    (λ (later : list_any test xs ≡ true).
    ⊎_elim
    (λ (front : list_any test (take n xs) ≡ true). or_first (list_any test (take (suc n) (x ∷ xs))) (list_any test (drop n xs)) (or_last (test x) (list_any test (take n xs)) front))
    (λ (behind : list_any test (drop n xs) ≡ true). or_last (list_any test (take (suc n) (x ∷ xs))) (list_any test (drop n xs)) behind)
    (or_cases (list_any test (take n xs)) (list_any test (drop n xs)) (either_up test n xs later)))
    (or_cases (test x) (list_any test xs) e)

few : (n : ℕ) → nat_lt 1 n ≡ false → n ≤ 1
few n e = grind (arith, nat_tests)

first_no : (a b : Bool) → (a || b) ≡ false → a ≡ false
first_no true b e = absurd (let f : true ≡ false = e in cc)
first_no false b e = refl

-- a rest among those that are written, of which there is one at most with that of `...`
rest_up : (x n : ℕ) (b : Bool) (rests : List ℕ) (wholes : ℕ) → length rests ≤ wholes → one_if b + wholes ≤ 1 → list_any (λ y. x == y) rests ≡ true → is_rest x (rest_by (cond b (Some n) None) rests) ≡ true
rest_up x n b [] wholes less most e = absurd (let f : false ≡ true = e in cc)
rest_up x n true (y ∷ rests) wholes less most e = absurd (omega (arith, less, most))
rest_up x n false (y ∷ []) wholes less most e = only (x == y) e
  where
    only : (b : Bool) → (b || false) ≡ true → b ≡ true
    only true e = refl
    only false e = e
rest_up x n false (y ∷ z ∷ rests) wholes less most e = absurd (omega (arith, less, most))

two_dots : (l r : Bool) (wholes : ℕ) → one_if l + one_if r + wholes ≤ 1 → one_if (l || r) + wholes ≤ 1
two_dots true r wholes most = omega (arith, most)
two_dots false r wholes most = omega (arith, most)

-- ---- parts

module _ (g : Productions) (leaves : List Leaf) (vars : List Occurrence) (count : ℕ) (ReadAt : ℕ → Shape → Type 0) (rested : (sort : ℕ) (shape : Shape) → ReadAt sort shape → rests_in_lists shape ≡ true) where
  not_made : (sort : ℕ) (side : Stands) (what : What Shape) → (is_left side ≡ true → IsNotMade what) → on_side true (what_made g leaves vars sort) (record { side = side; what = what }) ≡ []
  not_made sort Right what free = refl
  not_made sort Both (Item shape) free = refl
  not_made sort Both (Tail at) free = refl
  not_made sort Both (Entry key value) free = refl
  not_made sort Both (Rest at) free = refl
  not_made sort Both (Made shape) free = absurd (free refl)
  not_made sort Both (Inner at) free = refl
  not_made sort Both Whole free = refl
  not_made sort Left (Item shape) free = refl
  not_made sort Left (Tail at) free = refl
  not_made sort Left (Entry key value) free = refl
  not_made sort Left (Rest at) free = refl
  not_made sort Left (Made shape) free = absurd (free refl)
  not_made sort Left (Inner at) free = refl
  not_made sort Left Whole free = refl

  -- no expression of a whole stands on the left
  pub none_made : (k : Kind) (sort : ℕ) (parts : List (Part Shape)) → AllByRecursion (IsReadPart k count ReadAt) parts → of_side true (what_made g leaves vars sort) parts ≡ []
  none_made k sort [] all = refl
  none_made k sort (part ∷ parts) all = ap (λ made. made ++ of_side true (what_made g leaves vars sort) parts) (not_made sort part.side part.what all.0.1) ∙ none_made k sort parts all.1

  listed_few : (o : Option ℕ) → length (as_list o) ≤ 1
  listed_few None = omega arith
  listed_few (Some x) = omega arith

  what_few : (what : What Shape) → length (what_rests leaves vars what) ≤ length (what_wholes what)
  what_few (Item shape) = omega arith
  what_few (Tail at) = omega arith
  what_few (Entry key value) = omega arith
  what_few (Rest at) = listed_few (variable_at vars leaves at)
  what_few (Made shape) = omega arith
  what_few (Inner at) = omega arith
  what_few Whole = omega arith

  part_few : (b : Bool) (what : What Shape) → length (cond b (what_rests leaves vars what) []) ≤ length (cond b (what_wholes what) [])
  part_few true what = what_few what
  part_few false what = omega arith

  rests_few : (left : Bool) (parts : List (Part Shape)) → length (of_side left (what_rests leaves vars) parts) ≤ written_rests left parts
  rests_few left [] = omega arith
  rests_few left (part ∷ parts) =
      let one = part_few (stands left part.side) part.what in
      let rest = rests_few left parts in
      let rests = length-append (on_side left (what_rests leaves vars) part) (of_side left (what_rests leaves vars) parts) in
      let wholes = length-append (on_side left what_wholes part) (of_side left what_wholes parts) in
      omega (arith, one, rest, rests, wholes)

  -- ---- bodies

  module _ (x : ℕ) where
    seq_up : (o : Option ℕ) (parts : List Pattern) → list_any (mentions x) parts ≡ true → body_mentions x (seq_by vars o parts) ≡ true
    seq_up None parts e = split_up vars x parts e
    seq_up (Some y) parts e = or_first (list_any (mentions x) parts) (x == y) e

    seq_rest_up : (o : Option ℕ) (parts : List Pattern) → is_rest x o ≡ true → body_mentions x (seq_by vars o parts) ≡ true
    seq_rest_up None parts e = absurd (let f : false ≡ true = e in cc)
    seq_rest_up (Some y) parts e = or_last (list_any (mentions x) parts) (x == y) e

    map_up : (made : List Pattern) (entries : List (Pattern × Pattern)) (rest : Option ℕ) → made ≡ [] → (list_any (in_entry g leaves vars x) entries ≡ true) ⊎ (is_rest x rest ≡ true)
        → body_mentions x (map_by made entries rest) ≡ true
    map_up made entries rest none (inl e) = ap (λ m. body_mentions x (map_by m entries rest)) none ∙ or_first (list_any (in_entry g leaves vars x) entries) (is_rest x rest) e
    map_up made entries rest none (inr e) = ap (λ m. body_mentions x (map_by m entries rest)) none ∙ or_last (list_any (in_entry g leaves vars x) entries) (is_rest x rest) e

    list_parts_up : (items : List Pattern) (rest : Option ℕ) (place : ℕ) → list_any (mentions x) items ≡ true → body_mentions x (list_by [] items rest place) ≡ true
    list_parts_up items None place e = or_first (list_any (mentions x) items || false) false (or_first (list_any (mentions x) items) false e)
    list_parts_up items (Some y) place e = or_first (list_any (mentions x) (take place items) || list_any (mentions x) (drop place items)) (x == y) (either_up (mentions x) place items e)

    list_rest_up : (items : List Pattern) (rest : Option ℕ) (place : ℕ) → is_rest x rest ≡ true → body_mentions x (list_by [] items rest place) ≡ true
    list_rest_up items None place e = absurd (let f : false ≡ true = e in cc)
    list_rest_up items (Some y) place e = or_last (list_any (mentions x) (take place items) || list_any (mentions x) (drop place items)) (x == y) e

    list_up : (made items : List Pattern) (rest : Option ℕ) (place : ℕ) → made ≡ [] → (list_any (mentions x) items ≡ true) ⊎ (is_rest x rest ≡ true) → body_mentions x (list_by made items rest place) ≡ true
    list_up made items rest place none (inl e) = ap (λ m. body_mentions x (list_by m items rest place)) none ∙ list_parts_up items rest place e
    list_up made items rest place none (inr e) = ap (λ m. body_mentions x (list_by m items rest place)) none ∙ list_rest_up items rest place e

    one_up : (parts : List Pattern) → length parts ≤ 1 → list_any (mentions x) parts ≡ true → body_mentions x (one_by parts) ≡ true
    one_up [] few e = absurd (let f : false ≡ true = e in cc)
    one_up (part ∷ []) few e = or_first (mentions x part) false (only (mentions x part) e)
      where
        only : (b : Bool) → (b || false) ≡ true → b ≡ true
        only true e = refl
        only false e = e
    one_up (one ∷ other ∷ parts) few e = absurd (omega (arith, few))

  module _ (cell start : ℕ) (before behind : Bool) (parts : List (Part Shape)) where
    abbrev FormFits : Kind → Type 0
    FormFits k = is_bad_form vars (tag_of cell start before behind) (written_rests true parts) k (body_of g leaves vars (tag_of cell start before behind) true parts k) ≡ false

    map_few : FormFits MapKind → one_if (before || behind) + written_rests true parts ≤ 1
    map_few fits = few (one_if (before || behind) + written_rests true parts) fits

    list_few : FormFits ListKind → one_if (before || behind) + written_rests true parts ≤ 1
    list_few fits = two_dots before behind (written_rests true parts) (few (one_if before + one_if behind + written_rests true parts) (first_no (nat_lt 1 (one_if before + one_if behind + written_rests true parts)) _ fits))

    pub stands_up : (o : Occurrence) (k : Kind) → AllByRecursion (IsReadPart k count ReadAt) parts → FormFits k → HasOneItem g leaves vars true k parts
        → StandsIn g leaves vars count ReadAt rested parts o k → body_mentions (its_number vars o) (body_of g leaves vars (tag_of cell start before behind) true parts k) ≡ true
    stands_up o CellsKind all fits one s = absurd s
    stands_up o SeqKind all fits one s = seq_up (its_number vars o) (dots_number vars (tag_of cell start before behind)) (of_side true (what_sequence g leaves vars) parts) s
    stands_up o MapKind all fits one s =
        let rests = of_side true (what_rests leaves vars) parts in
        map_up (its_number vars o) (of_side true (what_made g leaves vars sort_map) parts) (of_side true (what_entries g leaves vars) parts)
        (rest_by (dots_number vars (tag_of cell start before behind)) rests) (none_made MapKind sort_map parts all)
        (⊎_elim (λ (e : list_any (in_entry g leaves vars (its_number vars o)) (of_side true (what_entries g leaves vars) parts) ≡ true). inl e)
        (λ (e : list_any (is_it g leaves vars (its_number vars o)) rests ≡ true).
        inr (rest_up (its_number vars o) (number_of vars start) (before || behind) rests (written_rests true parts) (rests_few true parts) (map_few fits) e)) s)
    stands_up o ListKind all fits one s =
        let rests = of_side true (what_rests leaves vars) parts in
        let items = list_items g leaves vars (tag_of cell start before behind) true parts in
        list_up (its_number vars o) (of_side true (what_made g leaves vars sort_list) parts) items
        (rest_by (dots_number vars (tag_of cell start before behind)) rests) (rest_place (tag_of cell start before behind) (items_before true parts) (length items)) (none_made ListKind sort_list parts all)
        (⊎_elim (λ (e : list_any (mentions (its_number vars o)) items ≡ true). inl e)
        (λ (e : list_any (is_it g leaves vars (its_number vars o)) rests ≡ true).
        inr (rest_up (its_number vars o) (number_of vars start) (before || behind) rests (written_rests true parts) (rests_few true parts) (list_few fits) e)) s)
    stands_up o (OneKind sort) all fits one s = one_up (its_number vars o) (of_side true (what_items g leaves vars sort) parts) (one sort refl) s

    dots_are : (x : ℕ) (b : Bool) (n : ℕ) → b ≡ true → x ≡ n → is_rest x (cond b (Some n) None) ≡ true
    dots_are x true n e is = eq-eqb x n is
    dots_are x false n e is = absurd (let f : false ≡ true = e in cc)

    first_rest : (x : ℕ) (o : Option ℕ) (rests : List ℕ) → is_rest x o ≡ true → is_rest x (rest_by o rests) ≡ true
    first_rest x None rests e = absurd (let f : false ≡ true = e in cc)
    first_rest x (Some y) rests e = e

    -- the rest of `...` is that of the body
    pub dots_up : (x : ℕ) (k : Kind) → AllByRecursion (IsReadPart k count ReadAt) parts → FormFits k → (k ≡ CellsKind → ⊥) → (before || behind) ≡ true → x ≡ number_of vars start
        → body_mentions x (body_of g leaves vars (tag_of cell start before behind) true parts k) ≡ true
    dots_up x CellsKind all fits some dots is = absurd (some refl)
    dots_up x SeqKind all fits some dots is =
        seq_rest_up x (dots_number vars (tag_of cell start before behind)) (of_side true (what_sequence g leaves vars) parts) (dots_are x (before || behind) (number_of vars start) dots is)
    dots_up x MapKind all fits some dots is =
        map_up x (of_side true (what_made g leaves vars sort_map) parts) (of_side true (what_entries g leaves vars) parts)
        (rest_by (dots_number vars (tag_of cell start before behind)) (of_side true (what_rests leaves vars) parts)) (none_made MapKind sort_map parts all)
        (inr (first_rest x (dots_number vars (tag_of cell start before behind)) (of_side true (what_rests leaves vars) parts) (dots_are x (before || behind) (number_of vars start) dots is)))
    dots_up x ListKind all fits some dots is =
        let items = list_items g leaves vars (tag_of cell start before behind) true parts in
        list_up x (of_side true (what_made g leaves vars sort_list) parts) items
        (rest_by (dots_number vars (tag_of cell start before behind)) (of_side true (what_rests leaves vars) parts))
        (rest_place (tag_of cell start before behind) (items_before true parts) (length items)) (none_made ListKind sort_list parts all)
        (inr (first_rest x (dots_number vars (tag_of cell start before behind)) (of_side true (what_rests leaves vars) parts) (dots_are x (before || behind) (number_of vars start) dots is)))
    dots_up x (OneKind sort) all fits some dots is = absurd (let f : true ≡ false = sym dots ∙ fits in cc)
