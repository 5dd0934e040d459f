use Rattle.rule_tokens.proofs.Fitting.{cell_found, cell_later}
use Rattle.rule_tokens.proofs.forms.cell_number.Goals as goal

pub returns-then-eq : goal.returns-then-eq
returns-then-eq c =
    cell_found c.args.cells.now c.loop-index.index c.index-cells-index.result c.args.name.now c.as_slice.result.now c.eq.result c.loop-index-test.true c.index-cells-index.is c.as_slice.ensures
    c.eq.ensures c.if-eq.true c.loop-index.invariant

pub loop-index-preserved : goal.loop-index-preserved
loop-index-preserved c =
    cell_later c.args.cells.now c.loop-index.index c.index-cells-index.result c.args.name.now c.as_slice.result.now c.eq.result c.loop-index-test.true c.index-cells-index.is c.as_slice.ensures
    c.eq.ensures c.if-eq.false c.loop-index.invariant
