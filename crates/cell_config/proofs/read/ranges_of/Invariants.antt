use Rattle.std.proofs.Common.{◌≡◌, take}
use Rattle.cell_config.specs.Cells.{ranges_of}
use Rattle.cell_config.proofs.read.ranges_of.Given as goal

abbrev pub invariant-loop-sentence : goal.invariant-loop-sentence
invariant-loop-sentence l = l.ranges.items ≡ ranges_of (take l.sentence-index l.sentences)
