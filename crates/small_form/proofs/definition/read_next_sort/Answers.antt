use Rattle.std.proofs.Common.{refl, subst, arith, ◌∷◌, ◌++◌, ◌≡◌}
use Rattle.small_form.specs.Pieces.{Reads}
use Rattle.small_form.specs.Small.{comma_before}
use Rattle.small_form.proofs.Exact.{comma_later}
use Rattle.small_form.proofs.definition.read_next_sort.Goals as goal

pub returns-then-place-eq0-clause-exact : goal.returns-then-place-eq0-clause-exact
returns-then-place-eq0-clause-exact c = λ pieces rest solid read.
    let first : c.args.place ≡ 0 = omega arith in
    c.eat.ensures.exact pieces rest solid (subst (λ n. Reads (comma_before n ++ c.args.sort.now ∷ pieces) c.args.reader.now rest) first read)

pub returns-then-not-eat-clause-exact : goal.returns-then-not-eat-clause-exact
returns-then-not-eat-clause-exact c = λ pieces rest solid read.
    let later = subst (λ t. Reads (t ++ c.args.sort.now ∷ pieces) c.args.reader.now rest) (comma_later c.args.place (omega arith)) read in
    let none = (c.if-not-eat.ensures.exact (c.args.sort.now ∷ pieces) rest refl later).0 in
    absurd (cc)

pub returns-clause-exact : goal.returns-clause-exact
returns-clause-exact c = λ pieces rest solid read.
    let later = subst (λ t. Reads (t ++ c.args.sort.now ∷ pieces) c.args.reader.now rest) (comma_later c.args.place (omega arith)) read in
    let comma = c.if-not-eat.ensures.exact (c.args.sort.now ∷ pieces) rest refl later in
    c.eat-3.ensures.exact pieces rest solid comma.1
