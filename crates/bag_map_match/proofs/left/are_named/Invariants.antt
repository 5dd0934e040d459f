use Rattle.std.proofs.Common.{◌≡◌, ℕ, not, filter, length, Some}
use Rattle.std.specs.Prelude.{Option}
use Rattle.rule_terms.specs.Numbers.{has_number}
use Rattle.live_config.specs.Configuration.{Configuration, below}
use Rattle.live_config.specs.Live.{children_past, number_of_cell}
use Rattle.live_config.specs.Firing.{numbers_of}
use Rattle.rule_terms.specs.declared.pattern.CellPat.{CellPat}
use Rattle.bag_map_match.specs.Lent.{listed, marks_of}
use Rattle.bag_map_match.proofs.Following.{numbers_past}
use Rattle.bag_map_match.proofs.left.are_named.Given as goal

-- what is past the last child decides
abbrev pub invariant-loop-child : goal.invariant-loop-child
invariant-loop-child l =
    filter (λ m. not (has_number (numbers_of (listed l.left.spots.now) l.left.numbers.now (marks_of l.cells)) m)) (below l.left.live.now.now l.number)
    ≡ filter (λ m. not (has_number (numbers_of (listed l.left.spots.now) l.left.numbers.now (marks_of l.cells)) m)) (numbers_past l.left.live.now.now (Some l.number) (number_of_cell l.after))

abbrev pub decreases-loop-child : goal.decreases-loop-child
decreases-loop-child l = length (children_past l.left.live.now.now (Some l.number) (number_of_cell l.after))
