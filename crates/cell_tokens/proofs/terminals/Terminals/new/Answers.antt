use Rattle.program_tokens.proofs.Lookup.{production_added}
use Rattle.cell_tokens.proofs.terminals.Terminals.new.Goals as goal

pub loop-production-preserved : goal.loop-production-preserved
loop-production-preserved c =
    production_added c.add_all.new.self c.loop-production.found c.prods-prods.result.now c.loop-production.production-index c.production-item.result c.loop-production-test.true c.production-item.is
    c.in_ok-add_all.ensures c.loop-production.invariant
