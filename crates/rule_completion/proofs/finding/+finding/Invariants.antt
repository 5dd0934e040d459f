use Rattle.std.proofs.Common.{◌≡◌, ℕ, None, take}
use Rattle.std.specs.List.{flat_map}
use Rattle.rule_terms.specs.CellCounts.{spots_under}
use Rattle.live_config.specs.Footprint.{body_of_mark}
use Rattle.rule_completion.proofs.finding.+finding.Given as goal

abbrev pub invariant-find_among-loop-cell : goal.invariant-find_among-loop-cell
invariant-find_among-loop-cell l = (above : ℕ) → body_of_mark (flat_map (spots_under above) (take l.cell-index l.cells)) l.mark ≡ None
