use Rattle.std.proofs.Common.{◌≡◌, ℕ, false, take}
use Rattle.std.specs.List.{flat_map}
use Rattle.rule_terms.specs.Spots.{has_mark}
use Rattle.rule_terms.specs.CellCounts.{spots_under}
use Rattle.rule_terms.proofs.counts.+marking.Given as goal

abbrev pub invariant-has_mark_among-loop-cell : goal.invariant-has_mark_among-loop-cell
invariant-has_mark_among-loop-cell l = (above : ℕ) → has_mark (flat_map (spots_under above) (take l.cell-index l.cells)) l.mark ≡ false
