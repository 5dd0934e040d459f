-- Declared cells as patterns, one level after the other.
use Rattle.std.proofs.Common.{◌≡◌, ℕ, zero, suc, ◌+◌, ◌-◌, ◌<◌, Bool, true, false, cond, List, [], ◌∷◌, ◌++◌, map, refl, sym, ap, ◌∙◌, arith}
use Rattle.std.specs.Prelude.{None}
use Rattle.std.specs.List.{filter, range_with_len}
use Rattle.std.proofs.lemmas.List.{map-append, append-nil}
use Rattle.std.proofs.lemmas.List.Elements.{filter-append}
use Rattle.rule_terms.specs.declared.pattern.Body.{Body, Cells}
use Rattle.rule_terms.specs.declared.pattern.CellPat.{CellPat, roll-CellPat}
use Rattle.cell_trees.specs.Trees.{Tree}
use Rattle.cell_trees.specs.Initials.{held_at}
use Rattle.cell_trees.specs.Defaults.{body_of, children_of, default_down}

pub last_level : (levels : ℕ) (tree : Tree) (more number : ℕ) (inside : List CellPat) → levels ≡ 0 → inside ≡ []
    → roll-CellPat (record { cell = number; mark = more + number; body = Cells inside None }) ≡ default_down levels tree more number
unfolding default_down
last_level levels tree more number inside none empty =
    (λ i. roll-CellPat (record { cell = number; mark = more + number; body = Cells (empty i) None }))
    ∙ ap (λ k. default_down k tree more number) (sym none)

pub one_level : (levels : ℕ) (tree : Tree) (more number : ℕ) (inside : List CellPat) (body : Body) → 0 < levels
    → inside ≡ map (default_down (levels - 1) tree more) (children_of tree number) → body ≡ body_of (held_at tree number) inside
    → roll-CellPat (record { cell = number; mark = more + number; body = body }) ≡ default_down levels tree more number
unfolding default_down
one_level zero tree more number inside body some inside_is body_is = absurd (omega (arith, some))
one_level (suc levels) tree more number inside body some inside_is body_is =
    let down : suc levels - 1 ≡ levels = omega arith in
    (λ i. roll-CellPat (record { cell = number; mark = more + number; body = body_is i }))
    ∙ (λ i. roll-CellPat (record { cell = number; mark = more + number; body = body_of (held_at tree number) (inside_is i) }))
    ∙ (λ i. roll-CellPat (record { cell = number; mark = more + number; body = body_of (held_at tree number) (map (default_down (down i) tree more) (children_of tree number)) }))

range_more : (a n j : ℕ) → a + n ≡ j → range_with_len a (n + 1) ≡ range_with_len a n ++ j ∷ []
range_more a zero j is = let same : a ≡ j = omega arith in ap (λ x. x ∷ []) same
range_more a (suc n) j is =
    let size : suc n + 1 ≡ suc (n + 1) = omega arith in
    ap (range_with_len a) size ∙ ap (λ xs. a ∷ xs) (range_more (a + 1) n j (omega arith))

module _ {X : Type 0} (f : ℕ → X) (test : ℕ → Bool) where
  made_one : (x : ℕ) → map f (filter test (x ∷ [])) ≡ cond (test x) (f x ∷ []) []
  made_one x = elim (test x) as (λ b. map f (cond b (x ∷ []) []) ≡ cond b (f x ∷ []) []) [ true ↦ refl | false ↦ refl ]

  made_more : (n : ℕ) → map f (filter test (range_with_len 0 (n + 1))) ≡ map f (filter test (range_with_len 0 n)) ++ cond (test n) (f n ∷ []) []
  made_more n =
      ap (λ xs. map f (filter test xs)) (range_more 0 n n (omega arith))
      ∙ ap (map f) (filter-append test (range_with_len 0 n) (n ∷ []))
      ∙ map-append f (filter test (range_with_len 0 n)) (filter test (n ∷ []))
      ∙ ap (λ ys. map f (filter test (range_with_len 0 n)) ++ ys) (made_one n)

  -- what is made of the numbers that pass a test, with the next one or without it
  pub one_made : (n : ℕ) (made : List X) (x : X) → made ≡ map f (filter test (range_with_len 0 n)) → true ≡ test n → x ≡ f n
      → made ++ x ∷ [] ≡ map f (filter test (range_with_len 0 (n + 1)))
  one_made n made x is passes x_is =
      (λ i. is i ++ x_is i ∷ []) ∙ ap (λ (b : Bool). map f (filter test (range_with_len 0 n)) ++ cond b (f n ∷ []) []) passes ∙ sym (made_more n)

  pub none_made : (n : ℕ) (made : List X) → made ≡ map f (filter test (range_with_len 0 n)) → false ≡ test n
      → made ≡ map f (filter test (range_with_len 0 (n + 1)))
  none_made n made is fails =
      is ∙ sym (append-nil (map f (filter test (range_with_len 0 n)))) ∙ ap (λ (b : Bool). map f (filter test (range_with_len 0 n)) ++ cond b (f n ∷ []) []) fails ∙ sym (made_more n)
