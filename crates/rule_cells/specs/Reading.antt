-- What is read of a body, as the code keeps it.
use Rattle.std.specs.Prelude.{◌≡◌, ℕ, ◌+◌, ◌<◌, List, length, take, Some, None}
use Rattle.rule_terms.specs.declared.defs.CellShape.{CellShape}
use Rattle.rule_tokens.specs.declared.token.RuleToken.{RuleToken}
use Rattle.rule_cells.specs.declared.form.FormFault.{FormFault}
use Rattle.rule_cells.specs.declared.form.FormFault.TheVariants.{NoReading, Memory}
use Rattle.rule_cells.specs.declared.form.Side as code
use Rattle.rule_cells.specs.declared.mark.Mark.{Mark}
use Rattle.rule_cells.specs.declared.state.State.{State}
use Rattle.rule_cells.specs.Marks.{marks}
use Rattle.rule_cells.specs.Written.{Side, side_at}
use Rattle.rule_cells.specs.Forms.{IsWritten, start_of}
use Rattle.rule_cells.specs.Steps.{nothing, steps}

-- all tokens are read
abbrev pub IsReadTo : List CellShape → List RuleToken → State → Type 0
IsReadTo cells tokens state = steps cells nothing 0 (marks tokens) ≡ Some state

-- the tokens are read up to the one of this number
pub record IsReadUpTo (cells : List CellShape) (tokens : List RuleToken) (at number : ℕ) : Type 0 where
  pub within : number < length tokens
  pub place : at ≡ start_of tokens number
  pub state : State
  pub read : steps cells nothing 0 (take number (marks tokens)) ≡ Some state
  pub none : steps cells nothing 0 (take (number + 1) (marks tokens)) ≡ None

abbrev pub IsReadFault : List CellShape → List RuleToken → FormFault → Type 0
IsReadFault cells tokens (NoReading at) = (number : ℕ) × IsReadUpTo cells tokens at number
IsReadFault cells tokens Memory = Unit {0}

-- the tokens are a side
pub record IsSideRead (cells : List CellShape) (signs : List Mark) (found : code.Side) : Type 0 where
  pub side : Side
  pub written : IsWritten cells signs side
  pub is : found ≡ side_at 0 side
