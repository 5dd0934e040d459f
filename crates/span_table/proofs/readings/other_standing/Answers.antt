use Rattle.span_rows.proofs.Adding.{has_item}
use Rattle.span_table.proofs.Telling.{other_next}
use Rattle.span_table.proofs.readings.other_standing.Goals as goal

pub returns-then-is_other : goal.returns-then-is_other
returns-then-is_other c =
    let other = c.is_other.ensures.other c.if-is_other.true in
    (has_item c.args.rows.now c.loop-row.row-index c.row-item.result c.loop-row-test.true c.row-item.is, other.0, other.1)

pub loop-row-preserved : goal.loop-row-preserved
loop-row-preserved c =
    other_next c.args.grammar.now c.args.sort c.args.rows.now c.args.code.now c.loop-row.row-index c.row-item.result c.loop-row-test.true c.row-item.is
    (c.is_other.ensures.same c.if-is_other.false) c.loop-row.invariant
