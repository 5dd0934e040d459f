use Rattle.std.proofs.Common.{◌≡◌, ◌++◌, length}
use Rattle.production_reader.specs.Allowed.{unescaped, text_of_string}
use Rattle.cell_tokens.proofs.literals.text_of_string.Given as goal

abbrev pub invariant-loop-byte : goal.invariant-loop-byte
invariant-loop-byte l = text_of_string l.string ≡ l.found ++ unescaped l.rest

abbrev pub decreases-loop-byte : goal.decreases-loop-byte
decreases-loop-byte l = length l.rest
