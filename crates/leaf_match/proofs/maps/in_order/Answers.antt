use Rattle.leaf_match.proofs.Rising.{rise_in_order, same_numbers}
use Rattle.leaf_match.proofs.maps.in_order.Goals as goal

pub returns-clause-rising : goal.returns-clause-rising
returns-clause-rising c =
    rise_in_order c.args.places.items c.sort_unstable.new.self.items c.from_vec.result c.sort_unstable.ensures.permutation c.sort_unstable.ensures.sorted c.from_vec.ensures c.requires

pub returns-clause-same : goal.returns-clause-same
returns-clause-same c = same_numbers c.args.places.items c.sort_unstable.new.self.items c.from_vec.result c.sort_unstable.ensures.permutation c.from_vec.ensures
