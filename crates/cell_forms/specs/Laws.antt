-- Laws of the definitions.
use Rattle.std.specs.Prelude.{◌≡◌, ℕ, ◌<◌, List, Option, Some, None, slice_get}
use Rattle.cell_forms.specs.declared.form.Sign.{Sign}
use Rattle.cell_forms.specs.declared.form.CellForm.{CellForm}
use Rattle.cell_forms.specs.declared.form.Stop.{Stop as Stopped}
use Rattle.cell_forms.specs.Written.{Cell, cells_of}
use Rattle.cell_forms.specs.Forms.{IsForm, IsStop}

-- tokens have one form
abbrev pub HasOneForm : Type 0
HasOneForm = (signs : List Sign) (one other : List CellForm) → IsForm signs one → IsForm signs other → one ≡ other

-- or stop at one place, with the same cells
abbrev pub HasOneStop : Type 0
HasOneStop = (signs : List Sign) (one other : Stopped) → IsStop signs one → IsStop signs other → one ≡ other

-- but never both
abbrev pub HasFormOrStop : Type 0
HasFormOrStop = (signs : List Sign) (cells : List CellForm) (stop : Stopped) → IsForm signs cells → IsStop signs stop → ⊥

-- the cell around is one before that holds cells; the first alone has none
abbrev pub IsInTree : List CellForm → ℕ → Option ℕ → Type 0
IsInTree cells number None = number ≡ 0
IsInTree cells number (Some parent) = (parent < number) × (outer : CellForm) × (slice_get cells parent ≡ Some outer) × (outer.content ≡ None)

-- The cells of a configuration are a tree.
abbrev pub HasTree : Type 0
HasTree = (cell : Cell) (number : ℕ) (one : CellForm) → slice_get (cells_of cell) number ≡ Some one → IsInTree (cells_of cell) number one.parent
