use Rattle.std.proofs.Common.{ap, ◌∙◌}
use Rattle.leaf_match.specs.Bindings.{Tells}
use Rattle.bag_map_match.specs.Lent.{listed}
use Rattle.bag_map_match.specs.Matching.{AllHold}
use Rattle.bag_map_match.proofs.LeftBound.{unbound_left, bound_left}
use Rattle.bag_map_match.proofs.binding.bind_left.Goals as goal

pub returns-then-not-branch : goal.returns-then-not-branch
returns-then-not-branch c =
    let told : Tells c.sorts.result.now c.as_slice.result.now c.in_ok-match_cells.field-0 c.in_ok-bindings.bindings c.match_cells.new.bindings
    (AllHold c.args.live.now.now (listed c.deref.result.now) c.as_slice-2.result.now (listed c.deref-2.result.now) c.as_slice-2.result.now c.as_slice-keys.result.now) = c.in_ok-match_cells.ensures.tells in
    unbound_left c.args.defs.now c.args.live.now.now c.args.site.now c.args.rule.now c.sorts.result.now c.as_slice.result.now (listed c.deref.result.now) (listed c.deref-2.result.now)
    c.as_slice-2.result.now c.as_slice-keys.result.now c.in_ok-bindings.bindings c.match_cells.new.bindings
    c.in_ok-match_cells.field-0 c.sorts.ensures c.as_slice.ensures (ap listed c.deref.ensures.value ∙ c.in_ok-spots.ensures) (ap listed c.deref-2.ensures.value ∙ c.in_ok-spots.ensures)
    c.as_slice-2.ensures c.as_slice-keys.ensures c.in_ok-bindings.ensures told c.if-not-branch.true

pub returns : goal.returns
returns c =
    let told : Tells c.sorts.result.now c.as_slice.result.now c.in_ok-match_cells.field-0 c.in_ok-bindings.bindings c.match_cells.new.bindings
    (AllHold c.args.live.now.now (listed c.deref.result.now) c.as_slice-2.result.now (listed c.deref-2.result.now) c.as_slice-2.result.now c.as_slice-keys.result.now) = c.in_ok-match_cells.ensures.tells in
    bound_left c.args.defs.now c.args.live.now.now c.args.site.now c.args.rule.now c.sorts.result.now c.as_slice.result.now (listed c.deref.result.now) (listed c.deref-2.result.now)
    c.as_slice-2.result.now c.as_slice-keys.result.now c.in_ok-bindings.bindings c.match_cells.new.bindings
    c.in_ok-match_cells.field-0 c.sorts.ensures c.as_slice.ensures (ap listed c.deref.ensures.value ∙ c.in_ok-spots.ensures) (ap listed c.deref-2.ensures.value ∙ c.in_ok-spots.ensures)
    c.as_slice-2.ensures c.as_slice-keys.ensures c.in_ok-bindings.ensures told c.if-not-branch.false c.in_ok-match_cells.ensures.suited c.in_ok-match_cells.ensures.reaches
