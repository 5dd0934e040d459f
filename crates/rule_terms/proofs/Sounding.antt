-- A test that a rule is sound, and that a definition is. It takes a test of the order of sorts.
use Rattle.std.proofs.Common.{◌≡◌, inl, inr, ℕ, zero, suc, ◌<◌, Bool, true, false, not, ◌==◌, ◌&&◌, List, ◌++◌, length, map, refl, sym, ap, subst, ◌∙◌, arith}
use Rattle.std.proofs.lemmas.Bool.{eqb-true, eq-eqb, ltb-true, leb-true, cases_lt}
use Rattle.std.proofs.lemmas.Option.{slice_get_within}
use Rattle.std.specs.Prelude.{Option, Some, None, IsTrue, Contains, slice_get, is_none, nat_lt, nat_le}
use Rattle.std.specs.Option.{option_map}
use Rattle.std.specs.List.{list_all}
use Rattle.k_terms.specs.Sorts.{SortOrder, Below, sort_bag}
use Rattle.rule_terms.specs.declared.defs.CellShape.{CellShape}
use Rattle.rule_terms.specs.declared.defs.Kind.{Kind}
use Rattle.rule_terms.specs.declared.defs.Kind.TheVariants.{One as OneKind}
use Rattle.rule_terms.specs.declared.pattern.Pattern.{Pattern}
use Rattle.rule_terms.specs.declared.pattern.Body.{Body, One}
use Rattle.rule_terms.specs.declared.rule.Rule.{Rule}
use Rattle.rule_terms.specs.Language.{Language}
use Rattle.rule_terms.specs.Numbers.{all_different}
use Rattle.rule_terms.specs.Patterns.{same_rest, cond_mentions}
use Rattle.rule_terms.specs.Spots.{Spot, spots, new_spots, occurs_elsewhere}
use Rattle.rule_terms.specs.Sound.{side_limit, cell_limit, is_placed_shape, IsSound, sort_of, is_body_of, has_formed_values, has_no_operator, has_whole_sequences, all_patterns, condition_test, is_made, is_item, has_one_form, cells_rest, body_mentions, side_mentions, conditions_mention, cell_of_mark, may_come_and_go, IsPlaced, IsSameCell, HasSoundCells, HasSoundVariables, HasSoundPatterns, HasNumbersInRange, IsSoundRule}
use Rattle.rule_terms.specs.InRange.{is_pattern_in_range, is_origin_in_range}
use Rattle.rule_terms.proofs.Defined.{passes, both, one_of}
use Rattle.rule_terms.proofs.NotBelow.{leads, led}
use Rattle.rule_terms.proofs.Known.{body_has_known, cond_has_known, met, body_known, cond_known}

-- ---- the test of the cells

-- the declared cell of the cell around is the declared parent
abbrev is_parent : Option (Option ℕ) → Option ℕ → Bool
is_parent None None = true
is_parent (Some o) (Some m) = same_rest o (Some m)
is_parent _ _ = false

abbrev has_value_of : (ℕ → ℕ → Bool) → SortOrder → List ℕ → Kind → Body → Bool
has_value_of below o vars (OneKind sort) (One q) = elim (sort_of o vars q) [ None ↦ false | Some least ↦ below least sort ]
has_value_of below o vars _ _ = true

abbrev is_placed_in : (ℕ → ℕ → Bool) → Language → List ℕ → List Spot → Spot → CellShape → Bool
is_placed_in below d vars ps p shape = is_parent (option_map (cell_of_mark ps) p.above) shape.parent && is_body_of shape.kind p.body && has_value_of below d.sorts vars shape.kind p.body

abbrev is_placed : (ℕ → ℕ → Bool) → Language → List ℕ → List Spot → Spot → Bool
is_placed below d vars ps p = elim (slice_get d.cells p.cell) [ None ↦ false | Some shape ↦ is_placed_in below d vars ps p shape ]

abbrev is_same_cell : Spot → Spot → Bool
is_same_cell p q = p.cell == q.cell && same_rest p.above q.above && same_rest (cells_rest p.body) (cells_rest q.body)

abbrev is_new_closed : Spot → Bool
is_new_closed q = is_none (cells_rest q.body)

abbrev stays : Spot → Spot → Bool
stays p q = leads (p.mark == q.mark) (is_same_cell p q)

abbrev has_sound_marks : Rule → Bool
has_sound_marks r =
    all_different (map (λ (p : Spot). p.mark) (spots r.left))
    && all_different (map (λ (p : Spot). p.mark) (spots r.right))
    && r.left.mark == r.right.mark

abbrev has_sound_places : (ℕ → ℕ → Bool) → Language → Rule → Bool
has_sound_places below d r =
    list_all (is_placed below d r.vars (spots r.left)) (spots r.left)
    && list_all (is_placed below d r.vars (spots r.right)) (spots r.right)
    && list_all (λ p. list_all (stays p) (spots r.right)) (spots r.left)
    && list_all is_new_closed (new_spots r)

abbrev has_sound_counts : Language → Rule → Bool
has_sound_counts d r =
    list_all (may_come_and_go d (spots r.right)) (spots r.left)
    && list_all (may_come_and_go d (spots r.left)) (spots r.right)
    && nat_le (length (spots r.left)) side_limit
    && nat_le (length (new_spots r)) side_limit

-- ---- the test of the variables and of the patterns

abbrev each_below : ℕ → (ℕ → Bool) → Bool
each_below zero test = true
each_below (suc n) test = test n && each_below n test

abbrev has_own_rest : Rule → Spot → Bool
has_own_rest r p = elim (cells_rest p.body) [ None ↦ true | Some x ↦ same_rest (slice_get r.vars x) (Some sort_bag) && not (occurs_elsewhere r p.mark x) ]

abbrev has_sound_variables : Rule → Bool
has_sound_variables r =
    each_below (length r.vars) (λ x. side_mentions x (spots r.left))
    && list_all (λ (p : Spot). body_has_known (length r.vars) p.body) (spots r.left ++ spots r.right)
    && list_all (cond_has_known (length r.vars)) r.when
    && list_all (has_own_rest r) (spots r.left)

abbrev has_sound_patterns : Rule → Bool
has_sound_patterns r =
    list_all (λ (p : Spot). all_patterns has_formed_values p.body) (spots r.left ++ spots r.right)
    && list_all (condition_test has_formed_values) r.when
    && list_all (λ (p : Spot). all_patterns has_no_operator p.body && not (is_made p.body)) (spots r.left)
    && list_all (λ (p : Spot). all_patterns (has_whole_sequences r.vars) p.body) (spots r.left ++ spots r.right)
    && list_all (condition_test (has_whole_sequences r.vars)) r.when
    && list_all (λ (p : Spot). has_one_form r.vars p.body) (spots r.left ++ spots r.right)
    && list_all (condition_test (is_item r.vars)) r.when

abbrev has_numbers_in_range : SortOrder → Rule → Bool
has_numbers_in_range o r =
    is_origin_in_range o r.origin
    && list_all (λ (p : Spot). all_patterns (is_pattern_in_range o) p.body) (spots r.left ++ spots r.right)
    && list_all (condition_test (is_pattern_in_range o)) r.when

-- ---- what a passed test gives

same_rest_is : (a b : Option ℕ) → same_rest a b ≡ true → a ≡ b
same_rest_is None None e = refl
same_rest_is (Some x) (Some y) e = ap Some (eqb-true x y e)
same_rest_is None (Some y) e = cc
same_rest_is (Some x) None e = cc

parent_is : (above : Option (Option ℕ)) (parent : Option ℕ) → is_parent above parent ≡ true → above ≡ option_map Some parent
parent_is None None e = refl
parent_is (Some o) (Some m) e = ap Some (same_rest_is o (Some m) e)
parent_is None (Some m) e = cc
parent_is (Some o) None e = cc

abbrev HasSort : SortOrder → List ℕ → Pattern → ℕ → Type 0
HasSort o vars q sort = (least : ℕ) × (sort_of o vars q ≡ Some least) × Below o least sort

module _ (below : ℕ → ℕ → Bool) (d : Language) (sound : (a b : ℕ) → below a b ≡ true → Below d.sorts a b) where
  value_is : (vars : List ℕ) (q : Pattern) (sort : ℕ) → has_value_of below d.sorts vars (OneKind sort) (One q) ≡ true → HasSort d.sorts vars q sort
  value_is vars q sort e = elim (sort_of d.sorts vars q) as (λ o. sort_of d.sorts vars q ≡ o → elim o [ None ↦ false | Some least ↦ below least sort ] ≡ true → HasSort d.sorts vars q sort) [
    | None ↦ λ is f. cc
    | Some least ↦ λ is f. (least, is, sound least sort f)
  ] refl e

  placed_in : (vars : List ℕ) (ps : List Spot) (p : Spot) (shape : CellShape) → slice_get d.cells p.cell ≡ Some shape → is_placed_in below d vars ps p shape ≡ true → IsPlaced d vars ps p
  placed_in vars ps p shape declared e =
      let three = both _ _ e in
      let two = both _ _ three.0 in
      record {
        shape = shape;
        declared = declared;
        parent = parent_is (option_map (cell_of_mark ps) p.above) shape.parent two.0;
        kind = two.1;
        value = λ q sort f g. value_is vars q sort (sym (λ i. has_value_of below d.sorts vars (g i) (f i)) ∙ three.1);
      }

  placed : (vars : List ℕ) (ps : List Spot) (p : Spot) → is_placed below d vars ps p ≡ true → IsPlaced d vars ps p
  placed vars ps p e = elim (slice_get d.cells p.cell) as (λ o. slice_get d.cells p.cell ≡ o → elim o [ None ↦ false | Some shape ↦ is_placed_in below d vars ps p shape ] ≡ true → IsPlaced d vars ps p) [
    | None ↦ λ is f. cc
    | Some shape ↦ λ is f. placed_in vars ps p shape is f
  ] refl e

  all_placed : (vars : List ℕ) (ps : List Spot) → list_all (is_placed below d vars ps) ps ≡ true → (p : Spot) → Contains ps p → IsPlaced d vars ps p
  all_placed vars ps e p within = placed vars ps p (passes (is_placed below d vars ps) ps p e within)

same_cell : (p q : Spot) → is_same_cell p q ≡ true → IsSameCell p q
same_cell p q e =
    let three = both _ _ e in
    let two = both _ _ three.0 in
    record { cell = eqb-true p.cell q.cell two.0; above = same_rest_is p.above q.above two.1; rest = same_rest_is (cells_rest p.body) (cells_rest q.body) three.1 }

all_stay : (ps qs : List Spot) → list_all (λ p. list_all (stays p) qs) ps ≡ true → (p q : Spot) → Contains ps p → Contains qs q → p.mark ≡ q.mark → IsSameCell p q
all_stay ps qs e p q left right same = same_cell p q (led _ _ (passes (stays p) qs q (passes (λ p. list_all (stays p) qs) ps p e left) right) (eq-eqb p.mark q.mark same))

no_rest : (o : Option ℕ) → is_none o ≡ true → o ≡ None
no_rest None e = refl
no_rest (Some x) e = cc

each_is : (n : ℕ) (test : ℕ → Bool) → each_below n test ≡ true → (x : ℕ) → x < n → test x ≡ true
each_is zero test e x lt = absurd (omega arith)
each_is (suc n) test e x lt = elim (cases_lt x n) [
  | inl low ↦ each_is n test (both _ _ e).1 x low
  | inr high ↦ let same : n ≡ x = omega arith in subst (λ y. test y ≡ true) same (both _ _ e).0
]

own_rest : (r : Rule) (p : Spot) (x : ℕ) → has_own_rest r p ≡ true → cells_rest p.body ≡ Some x → (slice_get r.vars x ≡ Some sort_bag) × IsTrue (not (occurs_elsewhere r p.mark x))
own_rest r p x e is =
    let h : (same_rest (slice_get r.vars x) (Some sort_bag) && not (occurs_elsewhere r p.mark x)) ≡ true =
    ap (λ (o : Option ℕ). elim o [ None ↦ true | Some x ↦ same_rest (slice_get r.vars x) (Some sort_bag) && not (occurs_elsewhere r p.mark x) ]) (sym is) ∙ e in
    (same_rest_is _ _ (both _ _ h).0, (both _ _ h).1)

variables : (r : Rule) → has_sound_variables r ≡ true → HasSoundVariables r
variables r e =
    let four = both _ _ e in
    let three = both _ _ four.0 in
    let two = both _ _ three.0 in
    record {
      bound = each_is (length r.vars) (λ x. side_mentions x (spots r.left)) two.0;
      known = λ x m. elim (one_of (side_mentions x (spots r.left ++ spots r.right)) (conditions_mention x r.when) m) [
        | inl here ↦ met (λ (p : Spot). body_has_known (length r.vars) p.body) (λ (p : Spot). body_mentions x p.body) (λ p k n. body_known (length r.vars) x p.body k n) (spots r.left ++ spots r.right) two.1 here
        | inr there ↦ met (cond_has_known (length r.vars)) (cond_mentions x) (cond_known (length r.vars) x) r.when three.1 there
      ];
      rests = λ p x within is. own_rest r p x (passes (has_own_rest r) (spots r.left) p four.1 within) is;
    }

patterns : (r : Rule) → has_sound_patterns r ≡ true → HasSoundPatterns r
patterns r e =
    let seven = both _ _ e in
    let six = both _ _ seven.0 in
    let five = both _ _ six.0 in
    let four = both _ _ five.0 in
    let three = both _ _ four.0 in
    let two = both _ _ three.0 in
    record { values = two.0; condition_values = two.1; no_operator = three.1; sequences = four.1; condition_sequences = five.1; forms = six.1; condition_forms = seven.1 }

numbers : (o : SortOrder) (r : Rule) → has_numbers_in_range o r ≡ true → HasNumbersInRange o r
numbers o r e =
    let three = both _ _ e in
    let two = both _ _ three.0 in
    record { origin = two.0; patterns = two.1; conditions = three.1 }

cells : (below : ℕ → ℕ → Bool) (d : Language) (r : Rule) → ((a b : ℕ) → below a b ≡ true → Below d.sorts a b) → has_sound_marks r ≡ true → has_sound_places below d r ≡ true → has_sound_counts d r ≡ true → HasSoundCells d r
cells below d r sound marks places counts =
    let mark = both _ _ marks in
    let place = both _ _ places in
    let inner = both _ _ place.0 in
    let sides = both _ _ inner.0 in
    let count = both _ _ counts in
    let alone = both _ _ count.0 in
    record {
      left_marks = (both _ _ mark.0).0;
      right_marks = (both _ _ mark.0).1;
      one_root = eqb-true r.left.mark r.right.mark mark.1;
      left_placed = all_placed below d sound r.vars (spots r.left) sides.0;
      right_placed = all_placed below d sound r.vars (spots r.right) sides.1;
      staying = all_stay (spots r.left) (spots r.right) inner.1;
      new_closed = λ q within. no_rest (cells_rest q.body) (passes is_new_closed (new_spots r) q place.1 within);
      removed_alone = (both _ _ alone.0).0;
      new_alone = (both _ _ alone.0).1;
      few_left = leb-true (length (spots r.left)) side_limit alone.1;
      few_new = leb-true (length (new_spots r)) side_limit count.1;
    }

abbrev pub is_sound_rule : (ℕ → ℕ → Bool) → Language → Rule → Bool
is_sound_rule below d r = has_sound_marks r && has_sound_places below d r && has_sound_counts d r && has_sound_variables r && has_sound_patterns r && has_numbers_in_range d.sorts r

-- a rule that passes the test is sound
pub sound_rule : (below : ℕ → ℕ → Bool) (d : Language) (r : Rule) → ((a b : ℕ) → below a b ≡ true → Below d.sorts a b) → is_sound_rule below d r ≡ true → IsSoundRule d r
sound_rule below d r sound e =
    let six = both _ _ e in
    let five = both _ _ six.0 in
    let four = both _ _ five.0 in
    let three = both _ _ four.0 in
    let two = both _ _ three.0 in
    record { cells = cells below d r sound two.0 two.1 three.1; variables = variables r four.1; patterns = patterns r five.1; numbers = numbers d.sorts r six.1 }

-- ---- a definition

abbrev is_placed_at : List CellShape → ℕ → Bool
is_placed_at shapes n = elim (slice_get shapes n) [ None ↦ false | Some shape ↦ is_placed_shape shapes n shape ]

abbrev pub is_sound : (ℕ → ℕ → Bool) → Language → Bool
is_sound below d =
    nat_lt 0 (length d.cells)
    && nat_le (length d.cells) cell_limit
    && each_below (length d.cells) (is_placed_at d.cells)
    && length d.labels == length d.sorts.productions
    && list_all (is_sound_rule below d) d.rules

placed_at : (shapes : List CellShape) (n : ℕ) (shape : CellShape) → is_placed_at shapes n ≡ true → slice_get shapes n ≡ Some shape → is_placed_shape shapes n shape ≡ true
placed_at shapes n shape e is = ap (λ (o : Option CellShape). elim o [ None ↦ false | Some shape ↦ is_placed_shape shapes n shape ]) (sym is) ∙ e

-- a definition that passes the test is sound
pub sound_definition : (below : ℕ → ℕ → Bool) (d : Language) → ((a b : ℕ) → below a b ≡ true → Below d.sorts a b) → is_sound below d ≡ true → IsSound d
sound_definition below d sound e =
    let five = both _ _ e in
    let four = both _ _ five.0 in
    let three = both _ _ four.0 in
    let two = both _ _ three.0 in
    record {
      some_cell = ltb-true 0 (length d.cells) two.0;
      few_cells = leb-true (length d.cells) cell_limit two.1;
      tree = λ n shape is. placed_at d.cells n shape (each_is (length d.cells) (is_placed_at d.cells) three.1 n (slice_get_within d.cells n shape is)) is;
      labels = eqb-true (length d.labels) (length d.sorts.productions) four.1;
      rules = λ r within. sound_rule below d r sound (passes (is_sound_rule below d) d.rules r five.1 within);
    }
