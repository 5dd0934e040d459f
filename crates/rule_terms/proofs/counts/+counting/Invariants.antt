use Rattle.std.proofs.Common.{◌≡◌, ℕ, ◌-◌, ◌^◌, min, length, take}
use Rattle.std.specs.List.{flat_map}
use Rattle.rule_terms.specs.CellCounts.{spots_under}
use Rattle.rule_terms.proofs.counts.+counting.Given as goal

abbrev pub invariant-cells_among-loop-cell : goal.invariant-cells_among-loop-cell
invariant-cells_among-loop-cell l = (above : ℕ) → l.count ≡ min (length (flat_map (spots_under above) (take l.cell-index l.cells))) (2 ^ 32 - 1)
