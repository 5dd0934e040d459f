use Rattle.std.proofs.Common.{◌≡◌, ◌<◌, ◌^◌, drop}
use Rattle.production_reader.specs.Allowed.{number_of, number_after}
use Rattle.cell_tokens.proofs.literals.number_of.Given as goal

abbrev pub invariant-loop-digit : goal.invariant-loop-digit
invariant-loop-digit l = (number_of l.digits ≡ number_after l.number (drop l.digit-index l.digits)) × (l.number < 2 ^ 127)
