use Rattle.std.proofs.Common.{◌≡◌, drop}
use Rattle.production_reader.specs.Next.{had_after_prods}
use Rattle.production_reader.proofs.groups.had_after.Given as goal

abbrev pub invariant-loop-production : goal.invariant-loop-production
invariant-loop-production l = had_after_prods l.fn.had l.productions ≡ had_after_prods l.now (drop l.production-index l.productions)
