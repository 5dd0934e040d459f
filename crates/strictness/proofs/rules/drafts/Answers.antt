use Rattle.strictness.proofs.Ranges.{production_added}
use Rattle.strictness.proofs.rules.drafts.Goals as goal

pub loop-index-preserved : goal.loop-index-preserved
loop-index-preserved c =
    production_added c.args.cell c.args.prods.now c.loop-index.index c.index-prods-index.result c.in_ok-number_of.field-0 c.add_drafts.new.drafts.items c.loop-index.drafts.items
    c.loop-index-test.true c.index-prods-index.is c.in_ok-number_of.ensures c.in_ok-add_drafts.ensures c.loop-index.invariant
