use Rattle.std.proofs.Common.{ap, sym, ◌∙◌}
use Rattle.std.specs.Prelude.{Some}
use Rattle.rule_cells.specs.Steps.{steps}
use Rattle.rule_cells.proofs.Deciding.{read_more, stopped}
use Rattle.rule_cells.proofs.read.read_tokens.Goals as goal

pub loop-at-init : goal.loop-at-init
unfolding steps
loop-at-init c = ap Some (sym c.nothing-state.ensures)

pub returns-in_default-next : goal.returns-in_default-next
returns-in_default-next c =
    stopped c.args.cells.now c.args.tokens.now c.loop-at.at c.index-tokens-at.result c.loop-at.state c.kind_mark.result c.in-Ok.next c.loop-at-test.true c.index-tokens-at.is c.kind_mark.ensures
    c.loop-at.invariant c.in-Ok.ensures c.in_default-next.is

pub loop-at-preserved : goal.loop-at-preserved
loop-at-preserved c =
    read_more c.args.cells.now c.args.tokens.now c.loop-at.at c.index-tokens-at.result c.loop-at.state c.kind_mark.result c.in-Ok.next c.loop-at-test.true c.index-tokens-at.is c.kind_mark.ensures
    c.loop-at.invariant c.in-Ok.ensures ∙ c.in-Some.is
