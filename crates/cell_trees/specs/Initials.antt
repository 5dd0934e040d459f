-- The configuration that a program begins with.
use Rattle.std.specs.Prelude.{ℕ, ◌+◌, List, [], ◌∷◌, map, Option, Some, None, option_map, slice_get, unwrap_or, ℤ}
use Rattle.k_terms.specs.declared.value.Value.{Value, Int, out-Value}
use Rattle.k_terms.specs.declared.value.Value.TheOpen as value
use Rattle.k_terms.specs.declared.value.Content.{Content}
use Rattle.k_terms.specs.declared.value.Content.TheVariants as content
use Rattle.rule_terms.specs.declared.defs.CellShape.{CellShape}
use Rattle.live_config.specs.declared.cell.Cell.{Cell}
use Rattle.live_config.specs.Configuration.{Configuration}
use Rattle.cell_trees.specs.declared.declared.Declared.{Declared}
use Rattle.cell_trees.specs.declared.declared.Declared.TheVariants.{Program, Input, Fixed}
use Rattle.cell_trees.specs.Trees.{Tree}

-- the items of a program: those of a sequence, else the one
abbrev pub items_of : Value → List Value
items_of program = elim (out-Value program) [ value.Seq values ↦ values | _ ↦ program ∷ [] ]

-- what a cell begins with
abbrev pub begins_with : Value → List ℤ → Option Declared → Content
begins_with program input None = content.Cells
begins_with program input (Some (Program sort)) = content.Seq (items_of program)
begins_with program input (Some Input) = content.List (map (λ number. Int number) input)
begins_with program input (Some (Fixed c)) = c

-- what a declared cell declares
abbrev pub held_at : Tree → ℕ → Option Declared
held_at tree number = unwrap_or (slice_get tree.held number) None

-- the cell of a declared one: its number is one more, and its parent is that of the declared parent
abbrev pub first_cell : Tree → Value → List ℤ → ℕ → CellShape → Cell
first_cell tree program input number shape = record {
  kind = number;
  parent = option_map (λ (parent : ℕ). record { 0 = parent + 1 }) shape.parent;
  content = begins_with program input (held_at tree number);
}

-- those of the declared cells from a number on, which have these shapes
abbrev pub first_cells : Tree → Value → List ℤ → ℕ → List CellShape → List (ℕ × Cell)
first_cells tree program input number [] = []
first_cells tree program input number (shape ∷ shapes) =
    (number + 1, first_cell tree program input number shape) ∷ first_cells tree program input (number + 1) shapes

-- One cell of each declared cell, numbered from 1 in their order.
abbrev pub initial_of : Tree → Value → List ℤ → Configuration
initial_of tree program input = record { cells = first_cells tree program input 0 tree.shapes }
