use Rattle.std.proofs.Common.{refl, ◌∷◌}
use Rattle.std.specs.Prelude.{codes}
use Rattle.small_form.proofs.definition.read_becomes.Goals as goal

pub returns-then-not-eat-clause-exact : goal.returns-then-not-eat-clause-exact
returns-then-not-eat-clause-exact c = λ pieces rest read.
    let none = (c.if-not-eat.ensures.exact (codes ":" ∷ codes "=" ∷ pieces) rest refl read).0 in
    absurd (cc)

pub returns-then-not-eat-2-clause-exact : goal.returns-then-not-eat-2-clause-exact
returns-then-not-eat-2-clause-exact c = λ pieces rest read.
    let first = c.if-not-eat.ensures.exact (codes ":" ∷ codes "=" ∷ pieces) rest refl read in
    let none = (c.if-not-eat-2.ensures.exact (codes "=" ∷ pieces) rest refl first.1).0 in
    absurd (cc)

pub returns-clause-exact : goal.returns-clause-exact
returns-clause-exact c = λ pieces rest read.
    let first = c.if-not-eat.ensures.exact (codes ":" ∷ codes "=" ∷ pieces) rest refl read in
    let second = c.if-not-eat-2.ensures.exact (codes "=" ∷ pieces) rest refl first.1 in
    c.eat-3.ensures.exact pieces rest refl second.1
