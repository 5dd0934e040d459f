use Rattle.std.proofs.Common.{◌≡◌, drop}
use Rattle.production_reader.specs.Allowed.{has_comment}
use Rattle.production_reader.proofs.strings.has_comment.Given as goal

abbrev pub invariant-loop-at : goal.invariant-loop-at
invariant-loop-at l = has_comment l.text ≡ has_comment (drop l.at l.text)
