use Rattle.std.proofs.Common.{◌≡◌, take}
use Rattle.std.specs.Prelude.{Some}
use Rattle.rule_cells.specs.Marks.{marks}
use Rattle.rule_cells.specs.Steps.{nothing, steps}
use Rattle.rule_cells.proofs.read.read_tokens.Given as goal

abbrev pub invariant-loop-at : goal.invariant-loop-at
invariant-loop-at l = steps l.cells nothing 0 (take l.at (marks l.tokens)) ≡ Some l.state
