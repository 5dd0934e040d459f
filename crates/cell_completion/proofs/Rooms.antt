-- Room in one cell, one tree after the other.
use Rattle.std.proofs.Common.{ℕ, Bool, not, ◌==◌, ◌&&◌, ◌||◌, List, [], ◌∷◌, Option, Some, None}
use Rattle.rule_terms.specs.declared.defs.CellShape.{CellShape}
use Rattle.cell_completion.specs.declared.tree.Tree.{Tree, out-Tree}
use Rattle.cell_completion.specs.Completion.{is_many}
use Rattle.cell_completion.specs.Building.{have_room}

-- trees have room behind one of a declared cell
abbrev pub room_behind : List CellShape → Option ℕ → List Tree → Bool
room_behind shapes None ts = have_room shapes ts
room_behind shapes (Some cell) [] = have_room shapes []
room_behind shapes (Some cell) (t ∷ ts) = (not (cell == (out-Tree t).cell) || is_many shapes cell) && have_room shapes (t ∷ ts)
