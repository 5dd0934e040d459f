use Rattle.std.proofs.Common.{◌≡◌, map, take}
use Rattle.rule_parts.specs.Productions.{arguments_of}
use Rattle.rule_parts.proofs.declared_sorts.arguments.Given as goal

abbrev pub invariant-loop-production : goal.invariant-loop-production
invariant-loop-production l = l.rows.items ≡ map arguments_of (take l.production-index l.prods)
