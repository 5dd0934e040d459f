use Rattle.std.proofs.Common.{◌≡◌, drop}
use Rattle.std.specs.List.{list_any}
use Rattle.rule_cells.specs.Marks.{marks}
use Rattle.rule_cells.specs.Forms.{is_of_bag}
use Rattle.rule_cells.proofs.read.has_bag.Given as goal

abbrev pub invariant-loop-token : goal.invariant-loop-token
invariant-loop-token l = list_any is_of_bag (marks l.tokens) ≡ list_any is_of_bag (marks (drop l.token-index l.tokens))
