use Rattle.std.proofs.Common.{◌≡◌, take}
use Rattle.std.specs.List.{flat_map}
use Rattle.sorted_grammar.specs.Marks.{targets_from}
use Rattle.sorted_grammar.proofs.leading.production_targets.Given as goal

abbrev pub invariant-loop-production : goal.invariant-loop-production
invariant-loop-production l = l.all.items ≡ flat_map (targets_from l.row l.sort) (take l.production-index l.prods)
