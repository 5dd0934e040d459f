-- How many cells trees have.
use Rattle.std.proofs.Common.{◌≡◌, ℕ, zero, suc, ◌+◌, ◌*◌, ◌<◌, ◌≤◌, List, [], ◌∷◌, length, get_or, refl, sym, ap, ◌∙◌, arith}
use denote.Hole.Carrier.{out}
use mathlib.Core.Former.{Count}
use Rattle.cell_completion.specs.declared.tree.Tree.{Tree, Tree', out-Tree, Row_of-Tree, end_of-Tree, more_of-Tree}
use Rattle.cell_completion.specs.declared.tree.Tree.TheBlock.{items-the_row-Tree, items_shown-the_row-Tree-0}
use Rattle.cell_completion.proofs.Unfolded.{inside}

unfoldable mutual
  pub size : Tree → ℕ
  size (Tree' cell mark held row) = suc (row_size row)

  pub row_size : {n : Count} → Row_of-Tree n → ℕ
  row_size end_of-Tree = 0
  row_size (more_of-Tree t ts) = size t + row_size ts

abbrev pub size_all : List Tree → ℕ
size_all [] = 0
size_all (t ∷ ts) = size t + size_all ts

row_is : {n : Count} (row : Row_of-Tree n) → row_size row ≡ size_all (items-the_row-Tree n row)
unfolding row_size
row_is end_of-Tree = refl
row_is (more_of-Tree t ts) = ap (λ k. size t + k) (row_is ts)

size_is : (t : Tree) → size t ≡ suc (size_all (inside t))
unfolding size out-Tree out
size_is (Tree' cell mark s row) = ap suc (row_is row ∙ ap size_all (sym (items_shown-the_row-Tree-0 s row)))

pub smaller_inside : (t : Tree) (lent : List Tree) → lent ≡ inside t → 2 * size_all lent + 1 < 2 * size t
smaller_inside t lent same =
    let one = size_is t in
    let all = ap size_all same in
    omega (arith, one, all)

size_at : (ts : List Tree) (i : ℕ) (d : Tree) → i < length ts → size (get_or ts i d) ≤ size_all ts
size_at [] i d less = absurd (omega (arith, less))
size_at (t ∷ ts) zero d less = omega arith
size_at (t ∷ ts) (suc i) d less = let rest = size_at ts i d (omega (arith, less)) in omega (arith, rest)

pub smaller_at : (ts : List Tree) (i : ℕ) (t : Tree) → i < length ts → t ≡ get_or ts i t → 2 * size t < 2 * size_all ts + 1
smaller_at ts i t less is =
    let here = size_at ts i t less in
    let same = ap size is in
    omega (arith, here, same)
