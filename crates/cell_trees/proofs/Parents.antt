-- Where declared cells stand.
use Rattle.std.proofs.Common.{◌≡◌, ℕ, ◌<◌, false, ◌==◌, ◌&&◌, List, length, subst, arith}
use Rattle.std.proofs.lemmas.Bool.{ltb-true}
use Rattle.std.proofs.lemmas.Option.{slice_get_within}
use Rattle.std.specs.Prelude.{Option, Some, None, IsTrue, nat_lt, slice_get}
use Rattle.std.specs.Option.{option_map_or}
use Rattle.rule_terms.specs.declared.defs.CellShape.{CellShape}
use Rattle.rule_terms.specs.Sound.{has_cells}
use Rattle.rule_terms.proofs.Defined.{both}
use Rattle.cell_trees.specs.Trees.{Tree, IsTree}

parent_before : (shapes : List CellShape) (n m : ℕ) (parent : Option ℕ) → parent ≡ Some m
    → IsTrue (elim parent [ None ↦ n == 0 | Some k ↦ nat_lt k n && option_map_or (λ (s : CellShape). has_cells s.kind) (slice_get shapes k) false ]) → m < n
parent_before shapes n m None is t = absurd (let f : None ≡ Some m = is in cc)
parent_before shapes n m (Some k) is t = let same : k ≡ m = cc in subst (λ j. j < n) same (ltb-true k n (both _ _ t).0)

-- a declared parent has a number below the limit
pub parent_is_few : (tree : Tree) → IsTree tree → (n m : ℕ) (shape : CellShape) → slice_get tree.shapes n ≡ Some shape → shape.parent ≡ Some m → m < 64
parent_is_few tree is n m shape at parent =
    let before : m < n = parent_before tree.shapes n m shape.parent parent (is.placed n shape at) in
    let within : n < length tree.shapes = slice_get_within tree.shapes n shape at in
    let few = is.few_cells in
    omega arith
