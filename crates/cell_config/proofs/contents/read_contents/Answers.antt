use Rattle.cell_config.proofs.Reading.{read_more}
use Rattle.cell_config.proofs.contents.read_contents.Goals as goal

pub loop-number-preserved : goal.loop-number-preserved
loop-number-preserved c =
    read_more c.args.grammar.now c.args.tokens.now c.args.forms.now c.loop-number.number c.loop-number.cells c.push.new.self c.index-forms-number.result c.in_ok-cell_of-in-Ok.field-0
    c.loop-number-test.true c.index-forms-number.is c.loop-number.invariant c.in-Ok.held c.in-Ok.ensures c.in_ok-cell_of-in-Ok.ensures c.in_ok-push-in-Ok.ensures.ok
