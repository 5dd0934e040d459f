use Rattle.std.proofs.Common.{◌≡◌, [], drop}
use Rattle.span_table.specs.Codes.{read_back}
use Rattle.span_table.specs.ReadBack.{from_parts}
use Rattle.span_table.proofs.codes.shape_of.Given as goal

abbrev pub invariant-loop-sign : goal.invariant-loop-sign
invariant-loop-sign l = read_back l.code [] [] ≡ from_parts (drop l.sign-index l.code) l.parts
