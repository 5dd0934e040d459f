-- One token after the other: the cells that are read, and those that are open. This is how the code keeps what was read.
use Rattle.std.specs.Prelude.{ℕ, ◌+◌, ◌-◌, ◌<◌, ◌^◌, if◌then◌else◌, Bool, true, false, List, [], ◌∷◌, ◌++◌, length, Option, Some, None}
use Rattle.std.specs.Option.{option_and_then}
use Rattle.std.specs.Str.{bytes_eq}
use Rattle.cell_forms.specs.declared.form.Sign.{Sign}
use Rattle.cell_forms.specs.declared.form.Sign.TheVariants as sign
use Rattle.cell_forms.specs.declared.form.CellForm.{CellForm}
use Rattle.cell_forms.specs.declared.stack.Opening.{Opening}
use Rattle.cell_forms.specs.declared.state.Tag.{Tag}
use Rattle.cell_forms.specs.declared.state.Level.{Level}
use Rattle.cell_forms.specs.declared.state.Level.TheVariants.{Start, Opened, Among, End}
use Rattle.cell_forms.specs.declared.state.State.{State}

abbrev pub innermost : List Opening → Option ℕ
innermost [] = None
innermost (cell ∷ outer) = Some cell.number

-- the innermost cell has this name
abbrev pub is_within : List Opening → List ℕ → Bool
is_within [] name = false
is_within (cell ∷ outer) name = bytes_eq cell.name name

abbrev pub nothing : State
nothing = record { cells = []; level = Start; around = [] }

abbrev pub form_of : Tag → Option (ℕ × ℕ) → CellForm
form_of tag content = record { name = tag.name; many = tag.many; tag = tag.at; parent = tag.parent; content = content }

abbrev pub closed : List Opening → Level
closed [] = End
closed (cell ∷ outer) = Among

abbrev pub tag_in : List Opening → List ℕ → Bool → ℕ → Tag
tag_in around name many at = record { name = name; many = many; at = at; parent = innermost around }

-- behind an opening tag, in these cells
abbrev pub opened : List CellForm → List Opening → List ℕ → Bool → ℕ → State
opened cells around name many at = record { cells = cells; level = Opened (tag_in around name many at) false; around = around }

-- the cell of a tag holds cells
abbrev pub entered : List CellForm → List Opening → Tag → List Opening
entered cells around tag = record { number = length cells; name = tag.name } ∷ around

abbrev pub open_step : State → List ℕ → Bool → ℕ → Option State
open_step state name many at = elim state.level [
  | Start ↦ if many then None else Some (opened state.cells state.around name false at)
  | Opened tag content ↦
      if content then None
      else Some (opened (state.cells ++ form_of tag None ∷ []) (entered state.cells state.around tag) name many at)
  | Among ↦ Some (opened state.cells state.around name many at)
  | End ↦ None
]

-- behind a whole cell
abbrev pub left : List CellForm → List Opening → State
left cells around = record { cells = cells; level = closed around; around = around }

-- the innermost open cell is closed, if it has this name
abbrev pub leave : List CellForm → List Opening → List ℕ → Option State
leave cells [] name = None
leave cells (cell ∷ around) name = if bytes_eq cell.name name then Some (left cells around) else None

abbrev pub close_content : List CellForm → List Opening → Tag → List ℕ → ℕ → Option State
close_content cells around tag name at = if bytes_eq tag.name name then Some (left (cells ++ form_of tag (Some (tag.at + 1, at)) ∷ []) around) else None

abbrev pub close_step : State → List ℕ → ℕ → Option State
close_step state name at = elim state.level [
  | Start ↦ None
  | Opened tag content ↦ if content then close_content state.cells state.around tag name at else None
  | Among ↦ leave state.cells state.around name
  | End ↦ None
]

abbrev pub other_step : State → Option State
other_step state = elim state.level [
  | Start ↦ None
  | Opened tag content ↦ Some (record { cells = state.cells; level = Opened tag true; around = state.around })
  | Among ↦ None
  | End ↦ None
]

-- the number of the tag at which the reader stands is that of a token
abbrev pub IsInRange : State → Type 0
IsInRange state = elim state.level [
  | Start ↦ Unit {0}
  | Opened tag content ↦ tag.at < 2 ^ 64 - 1
  | Among ↦ Unit {0}
  | End ↦ Unit {0}
]

-- with one token more, which has this number
abbrev pub step : State → ℕ → Sign → Option State
step state at (sign.Open name many) = open_step state name many at
step state at (sign.Close name) = close_step state name at
step state at sign.Other = other_step state

-- with tokens of which the first has this number
unfoldable pub steps : State → ℕ → List Sign → Option State
steps state at [] = Some state
steps state at (one ∷ signs) = option_and_then (λ next. steps next (at + 1) signs) (step state at one)

-- ---- what is told where no token follows

abbrev pub shown : State → List CellForm
shown state = elim state.level [
  | Start ↦ state.cells
  | Opened tag content ↦ state.cells ++ form_of tag None ∷ []
  | Among ↦ state.cells
  | End ↦ state.cells
]

abbrev pub inside_of : State → Option ℕ
inside_of state = elim state.level [
  | Start ↦ innermost state.around
  | Opened tag content ↦ Some (length state.cells)
  | Among ↦ innermost state.around
  | End ↦ innermost state.around
]

abbrev pub takes_cell : State → Bool
takes_cell state = elim state.level [
  | Start ↦ true
  | Opened tag content ↦ if content then false else true
  | Among ↦ true
  | End ↦ false
]

abbrev pub is_whole : State → Bool
is_whole state = elim state.level [
  | Start ↦ false
  | Opened tag content ↦ false
  | Among ↦ false
  | End ↦ true
]
