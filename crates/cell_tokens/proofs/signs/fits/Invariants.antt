use Rattle.std.proofs.Common.{◌≡◌, drop}
use Rattle.cell_tokens.specs.Signs.{fits}
use Rattle.cell_tokens.proofs.signs.fits.Given as goal

abbrev pub invariant-loop-place : goal.invariant-loop-place
invariant-loop-place l = fits l.text l.signs l.at l.tokens ≡ fits l.text (drop l.place l.signs) l.end (drop l.place l.tokens)
