use Rattle.std.proofs.Common.{◌≡◌, drop}
use Rattle.rule_terms.specs.Numbers.{has_number}
use Rattle.live_config.specs.Firing.{numbers_of}
use Rattle.bag_map_match.specs.Lent.{listed, marks_of}
use Rattle.bag_map_match.proofs.cells.is_named.Given as goal

abbrev pub invariant-loop-cell : goal.invariant-loop-cell
invariant-loop-cell l =
    has_number (numbers_of (listed l.spots) l.numbers (marks_of l.cells)) l.number ≡ has_number (numbers_of (listed l.spots) l.numbers (marks_of (drop l.cell-index l.cells))) l.number
