-- Cells that make a tree, as the code keeps it.
use Rattle.std.specs.Prelude.{◌≡◌, ℕ, ◌<◌, ◌≤◌, true, List, [], ◌∷◌, length, map, Option, Some, IfSome, is_some, slice_get}
use Rattle.std.specs.List.{AllByRecursion}
use Rattle.cell_trees.specs.declared.declared.Declared.{Declared}
use Rattle.cell_trees.specs.declared.declared.Declared.TheVariants.{Program}
use Rattle.cell_trees.specs.Trees.{Tree, IsTree}
use Rattle.cell_config.specs.declared.division.ConfigCell.{ConfigCell}
use Rattle.cell_config.specs.declared.division.Division.{Division}
use Rattle.cell_config.specs.Refusals.{first_some, program_of}
use Rattle.cell_config.specs.Cells.{shape_of, IsTreeOf}

abbrev pub helds_of : List ConfigCell → List (Option Declared)
helds_of cells = map (λ (cell : ConfigCell). cell.held) cells

abbrev pub tree_with : List ConfigCell → ℕ → ℕ → Tree
tree_with cells k sort = record { shapes = map shape_of cells; held = helds_of cells; k = k; sort = sort }

-- a cell of this number has the program, of this sort
abbrev pub HasProgramAt : List ConfigCell → ℕ → ℕ → Type 0
HasProgramAt cells number sort = slice_get (helds_of cells) number ≡ Some (Some (Program sort))

-- the cell around one has a small number
abbrev pub HasFewBefore : ConfigCell → Type 0
HasFewBefore cell = IfSome cell.parent (λ parent. parent < 64)

pub record MakesTree (cells : List ConfigCell) : Type 0 where
  pub few : length cells ≤ 64
  pub parents : AllByRecursion HasFewBefore cells
  pub program : is_some (first_some program_of cells) ≡ true
  pub tree : (number sort : ℕ) → HasProgramAt cells number sort → IsTree (tree_with cells number sort)

-- there is one configuration, and its cells make a tree
pub record IsOne (divisions : List Division) : Type 0 where
  pub division : Division
  pub is : divisions ≡ division ∷ []
  pub makes : MakesTree division.cells

-- the tree of the one configuration
pub record IsOnlyTree (divisions : List Division) (tree : Tree) : Type 0 where
  pub division : Division
  pub is : divisions ≡ division ∷ []
  pub tree_is : IsTreeOf division.cells tree
