-- A tree put at its place.
use Rattle.std.proofs.Common.{◌≡◌, suc, ◌≤◌, true, false, cond, List, [], ◌∷◌, ◌++◌, length, refl, ap, arith}
use Rattle.std.specs.List.{insert}
use Rattle.cell_completion.specs.declared.tree.Tree.{Tree}
use Rattle.cell_completion.specs.Building.{stands_before, place_of, inserted, all_inserted}

pub place_within : (t : Tree) (us : List Tree) → place_of t us ≤ length us
place_within t [] = omega (arith)
place_within t (u ∷ us) =
    elim (stands_before u t) as (λ b. cond b (suc (place_of t us)) 0 ≤ length (u ∷ us)) [
      | true ↦ let rest = place_within t us in omega (arith, rest)
      | false ↦ omega (arith)
    ]

pub inserted_at : (t : Tree) (us : List Tree) → insert us (place_of t us) t ≡ inserted t us
inserted_at t [] = refl
inserted_at t (u ∷ us) =
    elim (stands_before u t) as (λ b. insert (u ∷ us) (cond b (suc (place_of t us)) 0) t ≡ cond b (u ∷ inserted t us) (t ∷ u ∷ us)) [
      | true ↦ ap (λ vs. u ∷ vs) (inserted_at t us)
      | false ↦ refl
    ]

-- one more behind several
pub all_inserted_more : (ts us : List Tree) (t : Tree) → all_inserted (ts ++ t ∷ []) us ≡ inserted t (all_inserted ts us)
all_inserted_more [] us t = refl
all_inserted_more (u ∷ ts) us t = all_inserted_more ts (inserted u us) t
