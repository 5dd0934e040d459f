use Rattle.std.proofs.Common.{◌≡◌, ℕ, ◌-◌, ◌^◌, min, length, take}
use Rattle.std.specs.List.{filter, flat_map}
use Rattle.rule_terms.specs.CellCounts.{spots_under, is_beside}
use Rattle.rule_terms.proofs.counts.+counting_new.Given as goal

abbrev pub invariant-new_among-loop-cell : goal.invariant-new_among-loop-cell
invariant-new_among-loop-cell l =
    (above : ℕ) → l.count ≡ min (length (filter (is_beside l.side) (flat_map (spots_under above) (take l.cell-index l.cells)))) (2 ^ 32 - 1)
