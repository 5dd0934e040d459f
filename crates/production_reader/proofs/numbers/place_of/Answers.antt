use Rattle.std.proofs.Common.{arith, refl, slice_index}
use Rattle.production_reader.proofs.Texts.{too_great}
use Rattle.production_reader.proofs.numbers.place_of.Goals as goal

pub returns-then-number-ge4294967296 : goal.returns-then-number-ge4294967296
returns-then-number-ge4294967296 c =
    too_great c.args.digits.now c.loop-digit.digit-index c.loop-digit.number (slice_index c.args.digits.now c.loop-digit.digit-index) c.loop-digit.invariant.0 (omega arith) refl
    (omega (arith, c.saturating_sub.ensures, c.from.ensures))
