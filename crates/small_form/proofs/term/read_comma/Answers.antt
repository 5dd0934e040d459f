use Rattle.std.proofs.Common.{subst, refl, arith, ◌++◌}
use Rattle.small_form.specs.Pieces.{Reads}
use Rattle.small_form.proofs.Exact.{comma_later}
use Rattle.small_form.proofs.term.read_comma.Goals as goal

pub returns-clause-exact : goal.returns-clause-exact
returns-clause-exact c = λ pieces rest read.
    c.eat.ensures.exact pieces rest refl (subst (λ t. Reads (t ++ pieces) c.args.reader.now rest) (comma_later c.args.place (omega arith)) read)
