use Rattle.std.proofs.Common.{arith, refl, slice_index}
use Rattle.program_tokens.proofs.Numbers.{wide_before, wide_after}
use Rattle.cell_tokens.proofs.literals.number_of.Goals as goal

pub returns-then-number : goal.returns-then-number
returns-then-number c = wide_before c.args.digits.now c.loop-digit.digit-index c.loop-digit.number c.loop-digit.invariant.0 c.loop-digit-test.true c.if-number.true

pub returns-then-number-gt-GREATEST : goal.returns-then-number-gt-GREATEST
returns-then-number-gt-GREATEST c =
    wide_after c.args.digits.now c.loop-digit.digit-index c.loop-digit.number (slice_index c.args.digits.now c.loop-digit.digit-index) c.loop-digit.invariant.0
    c.loop-digit-test.true refl (omega (arith, c.saturating_sub.ensures, c.from.ensures, c.if-number-gt-GREATEST.true))
