use Rattle.std.proofs.Common.{◌≡◌, drop}
use Rattle.std.specs.List.{position_from}
use Rattle.rule_cells.specs.Forms.{begins_condition}
use Rattle.rule_cells.proofs.read.condition_word.Given as goal

abbrev pub invariant-loop-at : goal.invariant-loop-at
invariant-loop-at l = position_from (begins_condition l.text) 0 l.tokens ≡ position_from (begins_condition l.text) l.at (drop l.at l.tokens)
