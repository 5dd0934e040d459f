use Rattle.cell_tokens.proofs.Fitting.{fits_end, fits_apart}
use Rattle.cell_tokens.proofs.signs.fits.Goals as goal

pub returns-in_default : goal.returns-in_default
returns-in_default c =
    fits_end c.args.text.now c.args.signs.now c.loop-place.place c.loop-place.end c.args.tokens.now _ c.loop-place-test.true c.in_default.ensures.lookup.3 c.loop-place.invariant

pub returns-then-token-end : goal.returns-then-token-end
returns-then-token-end c =
    fits_apart c.args.text.now c.args.signs.now c.loop-place.place c.loop-place.end c.args.tokens.now c.in-Some.token.now _ c.loop-place-test.true c.in-Some.ensures.lookup.3.0 c.in-Some.ensures.lookup.1 c.if-token-end.true
    c.loop-place.invariant
