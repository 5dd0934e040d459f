use Rattle.std.proofs.Common.{ap, sym, refl, ◌∙◌, rules}
use Rattle.std.specs.Prelude.{Some, false}
use Rattle.cell_forms.specs.Steps.{steps}
use Rattle.cell_forms.proofs.Deciding.{read_more, stopped, range_of}
use Rattle.cell_forms.proofs.read.read_signs.Goals as goal

pub loop-at-init : goal.loop-at-init
unfolding steps
loop-at-init c = ap Some (sym c.nothing-state.ensures)

pub returns-then-not-can_follow : goal.returns-then-not-can_follow
returns-then-not-can_follow c =
    stopped c.args.signs.now c.loop-at.at c.index-signs-at.result c.loop-at.state false c.loop-at-test.true c.index-signs-at.is c.loop-at.invariant c.if-not-can_follow.ensures refl

pub step-requires : goal.step-requires
step-requires c = range_of c.args.signs.now c.loop-at.at c.loop-at.state c.loop-at-test.true (search rules) c.loop-at.invariant

pub loop-at-preserved : goal.loop-at-preserved
loop-at-preserved c =
    read_more c.args.signs.now c.loop-at.at c.index-signs-at.result c.loop-at.state c.in_ok-next.field-0 c.loop-at-test.true c.index-signs-at.is c.loop-at.invariant c.in_ok-next.ensures ∙ c.in-Some.is
