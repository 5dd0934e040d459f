-- What is read of a configuration, as the code keeps it.
use Rattle.std.specs.Prelude.{◌≡◌, ℕ, ◌+◌, ◌<◌, ◌≤◌, List, length, take, Some, None}
use Rattle.cell_forms.specs.declared.form.Sign.{Sign}
use Rattle.cell_forms.specs.declared.form.Stop.{Stop as Stopped}
use Rattle.cell_forms.specs.declared.form.FormFault.{FormFault}
use Rattle.cell_forms.specs.declared.form.FormFault.TheVariants.{Stop, Memory}
use Rattle.cell_forms.specs.declared.state.State.{State}
use Rattle.cell_forms.specs.Steps.{nothing, steps, shown, inside_of, takes_cell}

-- the tokens are read up to this place, in this state
abbrev pub IsReadTo : List Sign → ℕ → State → Type 0
IsReadTo signs at state = steps nothing 0 (take at signs) ≡ Some state

-- and no further
abbrev pub StopsThere : List Sign → ℕ → Type 0
StopsThere signs at = at < length signs → steps nothing 0 (take (at + 1) signs) ≡ None

pub record IsReadUpTo (signs : List Sign) (at : ℕ) (state : State) : Type 0 where
  pub within : at ≤ length signs
  pub read : IsReadTo signs at state
  pub none : StopsThere signs at

-- what is told there
abbrev pub stop_at : ℕ → State → Stopped
stop_at at state = record { at = at; cells = shown state; inside = inside_of state; takes_cell = takes_cell state }

abbrev pub IsToldAt : ℕ → State → FormFault → Type 0
IsToldAt at state (Stop stop) = stop ≡ stop_at at state
IsToldAt at state Memory = Unit {0}
