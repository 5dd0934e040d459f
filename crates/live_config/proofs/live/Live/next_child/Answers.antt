use Rattle.std.proofs.Common.{arith, ap, ◌∙◌, sym, filter}
use Rattle.live_config.specs.Configuration.{first_number}
use Rattle.live_config.specs.Live.{has_parent, number_of_cell}
use Rattle.live_config.proofs.Entries.{filter_passed, filter_failed, filter_ended}
use Rattle.live_config.proofs.live.Live.next_child.Goals as goal

pub loop-number-init : goal.loop-number-init
loop-number-init c = ap (λ es. filter (λ e. has_parent (number_of_cell c.args.parent) e.1) es) (sym c.past-number-items.ensures)

-- the first child that is left
pub returns-then-is_child : goal.returns-then-is_child
returns-then-is_child c =
    let child = filter_passed (λ e. has_parent (number_of_cell c.args.parent) e.1) _ _ _ c.loop-number-test.true c.loop-number-item.is (sym c.is_child.ensures ∙ c.if-is_child.true) in
    sym (ap first_number (c.loop-number.invariant ∙ child.1))

pub loop-number-preserved : goal.loop-number-preserved
loop-number-preserved c =
    c.loop-number.invariant ∙ filter_failed (λ e. has_parent (number_of_cell c.args.parent) e.1) _ _ _ c.loop-number-test.true c.loop-number-item.is (sym c.is_child.ensures ∙ c.if-is_child.false)

-- no child is left
pub returns : goal.returns
returns c =
    sym (ap first_number (c.loop-number.invariant ∙ filter_ended (λ e. has_parent (number_of_cell c.args.parent) e.1) c.past-number-items.result.now c.loop-number.number-index (omega (arith, c.loop-number-test.false))))
