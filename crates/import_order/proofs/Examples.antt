-- The definitions tried on closed values.
use Rattle.std.proofs.Common.{◌≡◌, ℕ, List, [], ◌∷◌, refl, inl}
use Rattle.import_order.specs.Imports.{by_one}
use Rattle.import_order.specs.Order.{firsts, IsClosure, closes, none, next}
use Rattle.import_order.proofs.Closures.{one_closure, lies_on_no_cycle}

first_places : firsts (3 ∷ 1 ∷ 3 ∷ 2 ∷ 1 ∷ []) ≡ 3 ∷ 1 ∷ 2 ∷ []
first_places = refl

-- 3 imports 1 and 2, and these import 0
abbrev diamond : List (List ℕ)
diamond = [] ∷ (0 ∷ []) ∷ (0 ∷ []) ∷ (1 ∷ 2 ∷ []) ∷ []

bottom : IsClosure diamond 0 (0 ∷ [])
bottom = closes 0 (0 ∷ []) [] none refl

left : IsClosure diamond 1 (0 ∷ 1 ∷ [])
left = closes 1 (0 ∷ 1 ∷ []) ((0 ∷ []) ∷ []) (next 0 [] (0 ∷ []) [] bottom none) refl

right : IsClosure diamond 2 (0 ∷ 2 ∷ [])
right = closes 2 (0 ∷ 2 ∷ []) ((0 ∷ []) ∷ []) (next 0 [] (0 ∷ []) [] bottom none) refl

top : IsClosure diamond 3 (0 ∷ 1 ∷ 2 ∷ 3 ∷ [])
top =
    closes 3 (0 ∷ 1 ∷ 2 ∷ 3 ∷ []) ((0 ∷ 1 ∷ []) ∷ (0 ∷ 2 ∷ []) ∷ [])
    (next 1 (2 ∷ []) (0 ∷ 1 ∷ []) ((0 ∷ 2 ∷ []) ∷ []) left (next 2 [] (0 ∷ 2 ∷ []) [] right none))
    refl

not_turned : IsClosure diamond 3 (0 ∷ 2 ∷ 1 ∷ 3 ∷ []) → ⊥
not_turned closure = let same = one_closure diamond 3 _ _ top closure in absurd (cc)

-- a module that imports itself has no closure
none_of_itself : (order : List ℕ) → IsClosure ((0 ∷ []) ∷ []) 0 order → ⊥
none_of_itself order closure = lies_on_no_cycle ((0 ∷ []) ∷ []) 0 order closure (by_one 0 0 (inl refl))

-- past the end nothing is imported
past_the_end : IsClosure diamond 4 (4 ∷ [])
past_the_end = closes 4 (4 ∷ []) [] none refl
