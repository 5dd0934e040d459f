use Rattle.program_tokens.proofs.Lookup.{item_added}
use Rattle.cell_tokens.proofs.terminals.Terminals.add_items.Goals as goal

pub loop-item-preserved : goal.loop-item-preserved
loop-item-preserved c =
    item_added c.add_item.new.self c.loop-item.self c.args.self.now c.args.items.now c.loop-item.item-index c.item-item.result c.loop-item-test.true c.item-item.is
    c.in_ok-add_item.ensures c.loop-item.invariant
