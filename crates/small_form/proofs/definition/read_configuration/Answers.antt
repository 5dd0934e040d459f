use Rattle.std.proofs.Common.{◌≡◌, ◌++◌, ◌∷◌, [], ap, ◌∙◌, subst, sym, refl, IsTrue}
use Rattle.std.specs.Prelude.{codes}
use Rattle.small_form.specs.Pieces.{Reads, is_solid}
use Rattle.small_form.proofs.ReadsLemmas.{reads_four}
use Rattle.small_form.proofs.definition.read_configuration.Goals as goal

pub returns-clause-read : goal.returns-clause-read
returns-clause-read c =
    let program : c.as_slice.result.now ≡ codes "$PGM:" ++ c.args.sort.now =
    c.as_slice.ensures.value ∙ c.in_ok-extend_from_slice.ensures.items ∙ ap (λ t. t ++ c.args.sort.now) c.in_ok-program.ensures.items in
    reads_four (codes "configuration") (codes "<k>") (codes "$PGM:" ++ c.args.sort.now) (codes "</k>")
    c.args.reader.now c.eat.new.self c.eat-2.new.self c.eat-3.new.self c.eat-4.new.self
    c.if-not-eat.ensures.read c.if-not-eat-2.ensures.read
    (subst (λ p. Reads (p ∷ []) c.eat-2.new.self c.eat-3.new.self) program c.if-not-eat-3.ensures.read)
    c.if-not-eat-4.ensures.read

pub returns-then-not-eat-clause-exact : goal.returns-then-not-eat-clause-exact
returns-then-not-eat-clause-exact c = λ pieces rest read.
    let one = c.if-not-eat.ensures.exact (codes "<k>" ∷ (codes "$PGM:" ++ c.args.sort.now) ∷ codes "</k>" ∷ pieces) rest refl read in
    let none = one.0 in
    absurd (cc)

pub returns-then-not-eat-2-clause-exact : goal.returns-then-not-eat-2-clause-exact
returns-then-not-eat-2-clause-exact c = λ pieces rest read.
    let one = c.if-not-eat.ensures.exact (codes "<k>" ∷ (codes "$PGM:" ++ c.args.sort.now) ∷ codes "</k>" ∷ pieces) rest refl read in
    let two = c.if-not-eat-2.ensures.exact ((codes "$PGM:" ++ c.args.sort.now) ∷ codes "</k>" ∷ pieces) rest refl one.1 in
    let none = two.0 in
    absurd (cc)

pub returns-then-not-eat-3-clause-exact : goal.returns-then-not-eat-3-clause-exact
returns-then-not-eat-3-clause-exact c = λ pieces rest read.
    let one = c.if-not-eat.ensures.exact (codes "<k>" ∷ (codes "$PGM:" ++ c.args.sort.now) ∷ codes "</k>" ∷ pieces) rest refl read in
    let two = c.if-not-eat-2.ensures.exact ((codes "$PGM:" ++ c.args.sort.now) ∷ codes "</k>" ∷ pieces) rest refl one.1 in
    let program : c.as_slice.result.now ≡ codes "$PGM:" ++ c.args.sort.now =
    c.as_slice.ensures.value ∙ c.in_ok-extend_from_slice.ensures.items ∙ ap (λ t. t ++ c.args.sort.now) c.in_ok-program.ensures.items in
    let three = c.if-not-eat-3.ensures.exact (codes "</k>" ∷ pieces) rest (subst (λ p. IsTrue (is_solid p)) (sym program) refl)
    (subst (λ p. Reads (p ∷ codes "</k>" ∷ pieces) c.eat-2.new.self rest) (sym program) two.1) in
    let none = three.0 in
    absurd (cc)

pub returns-then-not-eat-4-clause-exact : goal.returns-then-not-eat-4-clause-exact
returns-then-not-eat-4-clause-exact c = λ pieces rest read.
    let one = c.if-not-eat.ensures.exact (codes "<k>" ∷ (codes "$PGM:" ++ c.args.sort.now) ∷ codes "</k>" ∷ pieces) rest refl read in
    let two = c.if-not-eat-2.ensures.exact ((codes "$PGM:" ++ c.args.sort.now) ∷ codes "</k>" ∷ pieces) rest refl one.1 in
    let program : c.as_slice.result.now ≡ codes "$PGM:" ++ c.args.sort.now =
    c.as_slice.ensures.value ∙ c.in_ok-extend_from_slice.ensures.items ∙ ap (λ t. t ++ c.args.sort.now) c.in_ok-program.ensures.items in
    let three = c.if-not-eat-3.ensures.exact (codes "</k>" ∷ pieces) rest (subst (λ p. IsTrue (is_solid p)) (sym program) refl)
    (subst (λ p. Reads (p ∷ codes "</k>" ∷ pieces) c.eat-2.new.self rest) (sym program) two.1) in
    let none = (c.if-not-eat-4.ensures.exact pieces rest refl three.1).0 in
    absurd (cc)

pub returns-clause-exact : goal.returns-clause-exact
returns-clause-exact c = λ pieces rest read.
    let one = c.if-not-eat.ensures.exact (codes "<k>" ∷ (codes "$PGM:" ++ c.args.sort.now) ∷ codes "</k>" ∷ pieces) rest refl read in
    let two = c.if-not-eat-2.ensures.exact ((codes "$PGM:" ++ c.args.sort.now) ∷ codes "</k>" ∷ pieces) rest refl one.1 in
    let program : c.as_slice.result.now ≡ codes "$PGM:" ++ c.args.sort.now =
    c.as_slice.ensures.value ∙ c.in_ok-extend_from_slice.ensures.items ∙ ap (λ t. t ++ c.args.sort.now) c.in_ok-program.ensures.items in
    let three = c.if-not-eat-3.ensures.exact (codes "</k>" ∷ pieces) rest (subst (λ p. IsTrue (is_solid p)) (sym program) refl)
    (subst (λ p. Reads (p ∷ codes "</k>" ∷ pieces) c.eat-2.new.self rest) (sym program) two.1) in
    let four = c.if-not-eat-4.ensures.exact pieces rest refl three.1 in
    (refl, four.1)
