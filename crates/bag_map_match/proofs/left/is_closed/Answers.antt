use Rattle.bag_map_match.specs.Lent.{listed}
use Rattle.bag_map_match.proofs.Closed.{closed_is}
use Rattle.bag_map_match.proofs.left.is_closed.Goals as goal

pub returns-in-None : goal.returns-in-None
returns-in-None c =
    let same = closed_is c.args.left.now.live.now.now (listed c.args.left.now.spots.now) c.args.left.now.numbers.now c.args.body.now c.in-Cells.cells c.as_slice.result.now
    c.in-Cells.rest c.args.number c.in-Cells.is c.in-None.is c.as_slice.ensures in
    ((λ e. same.0 (c.are_named.ensures.0 e)), (λ h. c.are_named.ensures.1 (same.1 h)))
