use Rattle.std.proofs.Common.{sym}
use Rattle.cell_forms.proofs.Deciding.{before_end, at_end, whole_form}
use Rattle.cell_forms.proofs.read.read_form.Goals as goal

pub returns-then-at-signs : goal.returns-then-at-signs
returns-then-at-signs c = before_end c.args.signs.now c.in-Ok.at c.in-Ok.state c.fault_of.result c.in-Ok.ensures c.if-at-signs.true c.fault_of.ensures

pub returns-then-is_whole : goal.returns-then-is_whole
returns-then-is_whole c = whole_form c.args.signs.now c.in-Ok.at c.in-Ok.state c.in-Ok.ensures c.if-at-signs.false (sym c.if-is_whole.ensures)

pub returns : goal.returns
returns c = at_end c.args.signs.now c.in-Ok.at c.in-Ok.state c.fault_of-2.result c.in-Ok.ensures (sym c.if-is_whole.ensures) c.fault_of-2.ensures
