use Rattle.std.proofs.Common.{◌≡◌, drop}
use Rattle.rule_drafts.specs.Cells.{reading_at}
use Rattle.rule_drafts.proofs.contents.reading_at.Given as goal

abbrev pub invariant-loop-reading : goal.invariant-loop-reading
invariant-loop-reading l = reading_at l.readings l.first ≡ reading_at (drop l.reading-index l.readings) l.first
