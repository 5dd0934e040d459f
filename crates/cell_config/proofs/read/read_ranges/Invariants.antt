use Rattle.std.proofs.Common.{map, take}
use Rattle.program_tokens.specs.Base.{GoesOn}
use Rattle.cell_config.specs.Divisions.{between}
use Rattle.cell_config.specs.Cells.{AreDivided}
use Rattle.cell_config.proofs.read.read_ranges.Given as goal

abbrev pub invariant-loop-range : goal.invariant-loop-range
invariant-loop-range l = record {
  divided : AreDivided l.grammar l.text l.fn.names (map (λ range. between l.fn.tokens range.0 range.1) (take l.range-index l.ranges)) l.names l.divisions;
  goes : GoesOn l.fn.names l.names;
}
