use Rattle.std.proofs.Common.{not, filter, Some, sym, ap, ◌∙◌}
use Rattle.rule_terms.specs.Numbers.{has_number}
use Rattle.live_config.specs.Live.{number_of_cell}
use Rattle.live_config.specs.Firing.{numbers_of}
use Rattle.bag_map_match.specs.Lent.{listed, marks_of}
use Rattle.bag_map_match.proofs.Following.{below_past, passed_by, fewer_past}
use Rattle.bag_map_match.proofs.left.are_named.Goals as goal

pub loop-child-init : goal.loop-child-init
loop-child-init c =
    ap (filter (λ m. not (has_number (numbers_of (listed c.args.left.now.spots.now) c.args.left.now.numbers.now (marks_of c.args.cells.now)) m)))
    (sym (below_past c.args.left.now.live.now.now c.args.number))

pub loop-child-smaller : goal.loop-child-smaller
loop-child-smaller c =
    fewer_past c.args.left.now.live.now.now c.requires.rising (Some c.args.number) (number_of_cell c.loop-child.after) c.in-Some.child.0
    (sym c.next_child.ensures ∙ ap number_of_cell c.in-Some.is)

pub loop-child-preserved : goal.loop-child-preserved
loop-child-preserved c =
    passed_by c.args.left.now.live.now.now c.requires.rising (Some c.args.number)
    (λ m. not (has_number (numbers_of (listed c.args.left.now.spots.now) c.args.left.now.numbers.now (marks_of c.args.cells.now)) m))
    (filter (λ m. not (has_number (numbers_of (listed c.args.left.now.spots.now) c.args.left.now.numbers.now (marks_of c.args.cells.now)) m)) _)
    (number_of_cell c.loop-child.after) c.in-Some.child.0
    (sym c.next_child.ensures ∙ ap number_of_cell c.in-Some.is)
    (ap not (sym c.is_named.ensures ∙ c.if-not-is_named.false)) c.loop-child.invariant
