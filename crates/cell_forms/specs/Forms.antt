-- Which tokens are a configuration, or where none goes on.
use Rattle.std.specs.Prelude.{◌≡◌, ℕ, ◌+◌, ◌<◌, ◌≤◌, nat_lt, if◌then◌else◌, Bool, true, false, List, [], ◌∷◌, ◌++◌, length, take, map, filter, Option, Some, None}
use Rattle.std.specs.Option.{option_and_then}
use Rattle.cell_forms.specs.declared.form.Sign.{Sign}
use Rattle.cell_forms.specs.declared.form.Sign.TheVariants.{Open, Close, Other}
use Rattle.cell_forms.specs.declared.form.CellForm.{CellForm}
use Rattle.cell_forms.specs.declared.form.Stop.{Stop as Stopped}
use Rattle.cell_forms.specs.declared.form.FormFault.{FormFault}
use Rattle.cell_forms.specs.declared.form.FormFault.TheVariants.{Stop, Memory}
use Rattle.cell_forms.specs.Written.{Cell, signs_of, IsConfiguration, cells_of}

-- these tokens are this configuration
pub record IsWritten (signs : List Sign) (cell : Cell) : Type 0 where
  pub single : IsConfiguration cell
  pub signs_are : signs_of cell ≡ signs

-- some configuration begins with these tokens
pub record Begins (signs : List Sign) : Type 0 where
  pub cell : Cell
  pub more : List Sign
  pub written : IsWritten (signs ++ more) cell

-- the tokens are a configuration, and these are its cells
abbrev pub IsForm : List Sign → List CellForm → Type 0
IsForm signs cells = (cell : Cell) × IsWritten signs cell × (cells ≡ cells_of cell)

-- ---- up to a place

-- a content that ends before it
abbrev pub content_before : ℕ → ℕ × ℕ → Option (ℕ × ℕ)
content_before at content = if nat_lt content.1 at then Some content else None

abbrev pub form_before : ℕ → CellForm → CellForm
form_before at cell = record { name = cell.name; many = cell.many; tag = cell.tag; parent = cell.parent; content = option_and_then (content_before at) cell.content }

-- the cells whose opening tags stand before it, with the contents that end before it
abbrev pub cells_before : ℕ → List CellForm → List CellForm
cells_before at cells = map (form_before at) (filter (λ (cell : CellForm). nat_lt cell.tag at) cells)

abbrev pub outer_of : List ℕ → List ℕ
outer_of [] = []
outer_of (number ∷ numbers) = numbers

-- The numbers of the cells that are open behind tokens, the innermost first, where these were open before them and there were
-- this many cells.
abbrev pub open_from : ℕ → List ℕ → List Sign → List ℕ
open_from count numbers [] = numbers
open_from count numbers (Open name many ∷ signs) = open_from (count + 1) (count ∷ numbers) signs
open_from count numbers (Close name ∷ signs) = open_from count (outer_of numbers) signs
open_from count numbers (Other ∷ signs) = open_from count numbers signs

abbrev pub open_behind : List Sign → List ℕ
open_behind signs = open_from 0 [] signs

abbrev pub first_of : List ℕ → Option ℕ
first_of [] = None
first_of (number ∷ numbers) = Some number

-- whether the opening tag of a cell that occurs once can follow
abbrev pub TakesCell : List Sign → Bool → Type 0
TakesCell signs true = (name : List ℕ) → Begins (signs ++ Open name false ∷ [])
TakesCell signs false = (name : List ℕ) → Begins (signs ++ Open name false ∷ []) → ⊥

-- A configuration can begin with the tokens up to this place, and none begins with one token more; or it can begin with all of
-- them, and they are none.
pub record IsStop (signs : List Sign) (stop : Stopped) : Type 0 where
  pub within : stop.at ≤ length signs
  pub begins : Begins (take stop.at signs)
  pub none : stop.at < length signs → Begins (take (stop.at + 1) signs) → ⊥
  pub unfinished : (cell : Cell) → IsWritten signs cell → ⊥
  pub cells : stop.cells ≡ cells_before stop.at (cells_of begins.cell)
  pub inside : stop.inside ≡ first_of (open_behind (take stop.at signs))
  pub takes_cell : TakesCell (take stop.at signs) stop.takes_cell

abbrev pub IsFormFault : List Sign → FormFault → Type 0
IsFormFault signs (Stop stop) = IsStop signs stop
IsFormFault signs Memory = Unit {0}
