use Rattle.std.proofs.Common.{◌≡◌, drop}
use Rattle.std.specs.List.{list_any}
use Rattle.sorted_grammar.specs.Marks.{returns}
use Rattle.sorted_grammar.proofs.cycles.any_returns.Given as goal

abbrev pub invariant-loop-target : goal.invariant-loop-target
invariant-loop-target l = list_any (λ from. returns l.rows from l.to) (drop l.target-index l.targets) ≡ list_any (λ from. returns l.rows from l.to) l.targets
