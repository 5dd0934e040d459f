-- The numbers of the children of a cell, gone through in rising order.
use Rattle.std.proofs.Common.{arith, suc, inl, inr, ◌⊎◌, ◌≡◌, ℕ, ◌<◌, Bool, true, false, ◌==◌, List, [], ◌∷◌, map, filter, length, cond, refl, sym, ap, subst, ◌∙◌}
use Rattle.std.specs.Prelude.{Option, Some, None, nat_eq, nat_lt}
use Rattle.std.specs.Option.{option_eq}
use Rattle.std.specs.Ordering.{nat_cmp}
use Rattle.std.specs.FinMap.{is_sorted}
use Rattle.std.proofs.lemmas.List.{length-map}
use Rattle.live_config.specs.declared.cell.Cell.{Cell}
use Rattle.std.proofs.lemmas.Bool.{cases_lt, eq-eqb}
use Rattle.std.proofs.lemmas.Bool.Decides.{nat_tests}
use Rattle.live_config.specs.Configuration.{Configuration, cell_at, parent_number, first_number, below, is_child_of}
use Rattle.live_config.specs.Live.{is_past, cells_past, has_parent, children_past}
use Rattle.live_config.proofs.Members.{Has, kept, keeps, has_map, map_has, Rises, same_rising}
use Rattle.live_config.proofs.Children.{numbers_rise, filter_rises, found_has}

abbrev pub numbers_past : Configuration → Option ℕ → Option ℕ → List ℕ
numbers_past c parent after = map (λ e. e.0) (children_past c parent after)

nothing_first : (es : List (ℕ × Cell)) → first_number es ≡ None → map (λ e. e.0) es ≡ []
nothing_first [] e = refl
nothing_first (x ∷ es) e = absurd (let no : Some x.0 ≡ None = e in cc)

pub none_past : (c : Configuration) (parent after : Option ℕ) → first_number (children_past c parent after) ≡ None → numbers_past c parent after ≡ []
none_past c parent after e = nothing_first (children_past c parent after) e

same_parent : (o : Option ℕ) (n : ℕ) → option_eq nat_eq o (Some n) ≡ elim o [ None ↦ false | Some m ↦ m == n ]
same_parent None n = refl
same_parent (Some m) n = refl

filter_same : {X : Type 0} (p q : X → Bool) (xs : List X) → ((x : X) → p x ≡ q x) → filter p xs ≡ filter q xs
filter_same p q [] same = refl
filter_same p q (x ∷ xs) same = (λ i. cond (same x i) (x ∷ filter_same p q xs same i) (filter_same p q xs same i))

all_past : (es : List (ℕ × Cell)) → filter (λ e. is_past None e.0) es ≡ es
all_past [] = refl
all_past (e ∷ es) = ap (λ xs. e ∷ xs) (all_past es)

pub below_past : (c : Configuration) (n : ℕ) → numbers_past c (Some n) None ≡ below c n
below_past c n =
    ap (map (λ e. e.0)) (ap (filter (λ e. has_parent (Some n) e.1)) (all_past c.cells) ∙ filter_same (λ e. has_parent (Some n) e.1) (λ e. is_child_of n e.1) c.cells (λ e. same_parent (parent_number e.1) n))

lt_of : (a b : ℕ) → nat_lt a b ≡ true → a < b
lt_of a b e = elim (cases_lt a b) [ inl l ↦ l | inr other ↦ absurd (let fails : nat_lt a b ≡ false = grind (arith, nat_tests) in let f : true ≡ false = sym e ∙ fails in cc) ]

of_lt : (a b : ℕ) → a < b → nat_lt a b ≡ true
of_lt a b l = grind (arith, nat_tests)

module _ (c : Configuration) (rising : is_sorted nat_cmp c.cells ≡ true) (parent : Option ℕ) where
  pub past_rises : (after : Option ℕ) → Rises (numbers_past c parent after)
  past_rises after = filter_rises (λ e. has_parent parent e.1) (cells_past c after) (filter_rises (λ e. is_past after e.0) c.cells (numbers_rise c.cells rising))

  -- a number is among those past another
  is_there : (after : Option ℕ) (m : ℕ) → Has (numbers_past c parent after) m → (e : ℕ × Cell) × Has c.cells e × (is_past after e.0 ≡ true) × (has_parent parent e.1 ≡ true) × (e.0 ≡ m)
  is_there after m h =
      let e = map_has (λ (e : ℕ × Cell). e.0) (children_past c parent after) m h in
      let outer = kept (λ (e : ℕ × Cell). has_parent parent e.1) (cells_past c after) e.0 e.1 in
      let inner = kept (λ (e : ℕ × Cell). is_past after e.0) c.cells e.0 outer.0 in
      (e.0, inner.0, inner.1, outer.1, e.2)

  is_among : (after : Option ℕ) (e : ℕ × Cell) → Has c.cells e → is_past after e.0 ≡ true → has_parent parent e.1 ≡ true → Has (numbers_past c parent after) e.0
  is_among after e h past its =
      has_map (λ (e : ℕ × Cell). e.0) (children_past c parent after) e
      (keeps (λ (e : ℕ × Cell). has_parent parent e.1) (cells_past c after) e (keeps (λ (e : ℕ × Cell). is_past after e.0) c.cells e h past) its)

  past_less : (after : Option ℕ) (m k : ℕ) → is_past after m ≡ true → m < k → is_past after k ≡ true
  past_less None m k e less = refl
  past_less (Some n) m k e less = let first : n < m = lt_of n m e in of_lt n k (omega (arith, first, less))

  first_has : (es : List (ℕ × Cell)) (m : ℕ) → first_number es ≡ Some m → Has (map (λ e. e.0) es) m
  first_has [] m e = absurd (let no : None ≡ Some m = e in cc)
  first_has (x ∷ es) m e = inl (let f : Some x.0 ≡ Some m = e in cc)

  first_least : (es : List (ℕ × Cell)) (m : ℕ) → Rises (map (λ e. e.0) es) → first_number es ≡ Some m → (k : ℕ) → Has (map (λ e. e.0) es) k → (m ≡ k) ⊎ (m < k)
  first_least [] m rises e k h = absurd h
  first_least (x ∷ es) m rises e k (inl s) = inl (let f : Some x.0 ≡ Some m = e in let g : x.0 ≡ m = cc in sym g ∙ s)
  first_least (x ∷ es) m rises e k (inr h) = inr (let f : Some x.0 ≡ Some m = e in let g : x.0 ≡ m = cc in subst (λ j. j < k) g (rises.0 k h))

  -- the first child past a number, and those past it
  pub next_past : (after : Option ℕ) (m : ℕ) → first_number (children_past c parent after) ≡ Some m → numbers_past c parent after ≡ m ∷ numbers_past c parent (Some m)
  next_past after m e =
      same_rising (numbers_past c parent after) (m ∷ numbers_past c parent (Some m)) (past_rises after)
      ((λ k h. let at = is_there (Some m) k h in subst (λ j. m < j) at.4 (lt_of m at.0.0 at.2)), past_rises (Some m))
      (λ k h. elim (first_least (children_past c parent after) m (past_rises after) e k h) [
        | inl s ↦ inl s
        | inr less ↦ let at = is_there after k h in inr (subst (Has (numbers_past c parent (Some m))) at.4 (is_among (Some m) at.0 at.1 (of_lt m at.0.0 (subst (λ j. m < j) (sym at.4) less)) at.3))
      ])
      (λ k h. elim h [
        | inl s ↦ subst (Has (numbers_past c parent after)) s (first_has (children_past c parent after) m e)
        | inr g ↦
            let at = is_there (Some m) k g in
            let first = is_there after m (first_has (children_past c parent after) m e) in
            let past : is_past after at.0.0 ≡ true = past_less after m at.0.0 (subst (λ j. is_past after j ≡ true) first.4 first.2) (lt_of m at.0.0 at.2) in
            subst (Has (numbers_past c parent after)) at.4 (is_among after at.0 at.1 past at.3)
      ])

  -- the first one is passed by where a test drops it
  pub passed_by : (test : ℕ → Bool) (kept_numbers : List ℕ) (after : Option ℕ) (m : ℕ) → first_number (children_past c parent after) ≡ Some m → test m ≡ false
      → kept_numbers ≡ filter test (numbers_past c parent after) → kept_numbers ≡ filter test (numbers_past c parent (Some m))
  passed_by test kept_numbers after m e dropped is =
      is ∙ ap (filter test) (next_past after m e) ∙ ap (λ b. cond b (m ∷ filter test (numbers_past c parent (Some m))) (filter test (numbers_past c parent (Some m)))) dropped

  pub fewer_past : (after : Option ℕ) (m : ℕ) → first_number (children_past c parent after) ≡ Some m → length (children_past c parent (Some m)) < length (children_past c parent after)
  fewer_past after m e =
      let count = ap length (next_past after m e) in
      let these : length (numbers_past c parent after) ≡ length (children_past c parent after) = length-map (children_past c parent after) (λ e. e.0) in
      let those : length (numbers_past c parent (Some m)) ≡ length (children_past c parent (Some m)) = length-map (children_past c parent (Some m)) (λ e. e.0) in
      let all : length (numbers_past c parent after) ≡ suc (length (numbers_past c parent (Some m))) = count in
      omega (arith, these, those, all)

  -- a cell with this parent is among them
  pub child_past : (n : ℕ) (cell : Cell) → cell_at c n ≡ Some cell → parent_number cell ≡ parent → Has (numbers_past c parent None) n
  child_past n cell there its =
      is_among None (n, cell) (found_has c.cells n cell there) refl (ap (λ o. option_eq nat_eq o parent) its ∙ itself parent)
    where
      itself : (o : Option ℕ) → option_eq nat_eq o o ≡ true
      itself None = refl
      itself (Some m) = eq-eqb m m refl
