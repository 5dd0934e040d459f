use Rattle.std.proofs.Common.{◌∙◌, sym, true≢false}
use Rattle.span_rows.proofs.Adding.{has_item}
use Rattle.span_table.proofs.Telling.{first_next}
use Rattle.span_table.proofs.readings.first_standing.Goals as goal

pub returns-then-stands_alone : goal.returns-then-stands_alone
returns-then-stands_alone c =
    (has_item c.args.rows.now c.loop-row.row-index c.row-item.result c.loop-row-test.true c.row-item.is, c.stands_alone.ensures.0 c.if-stands_alone.true)

pub loop-row-preserved : goal.loop-row-preserved
loop-row-preserved c =
    first_next c.args.grammar.now c.args.sort c.args.rows.now c.loop-row.row-index c.row-item.result c.loop-row-test.true c.row-item.is
    (λ stands. true≢false (sym (c.stands_alone.ensures.1 stands) ∙ c.if-stands_alone.false)) c.loop-row.invariant
