use Rattle.std.proofs.Common.{refl, sym, subst, arith, [], ◌∷◌, IsTrue, true, ◌∙◌}
use Rattle.std.specs.Prelude.{codes}
use Rattle.small_form.specs.Pieces.{Reads}
use Rattle.small_form.proofs.Left.{mark_by, two_marks}
use Rattle.small_form.proofs.names.read_mark.Goals as goal

pub returns-then-eat-clause-exact : goal.returns-then-eat-clause-exact
returns-then-eat-clause-exact c = λ piece pieces rest is read.
    mark_by (λ m. Reads (m ∷ pieces) c.args.reader.now rest → IsTrue true × Reads pieces c.eat.new.self rest)
    (λ r. c.if-eat.ensures.exact pieces rest refl r)
    (λ r. absurd (two_marks 40 44 [] pieces c.args.reader.now c.eat.new.self rest refl refl (λ e. absurd (omega arith)) c.if-eat.ensures.read r))
    (λ r. absurd (two_marks 40 41 [] pieces c.args.reader.now c.eat.new.self rest refl refl (λ e. absurd (omega arith)) c.if-eat.ensures.read r))
    piece is read

pub returns-then-eat-2-clause-exact : goal.returns-then-eat-2-clause-exact
returns-then-eat-2-clause-exact c = λ piece pieces rest is read.
    mark_by (λ m. Reads (m ∷ pieces) c.args.reader.now rest → IsTrue true × Reads pieces c.eat-2.new.self rest)
    (λ r. let none = (c.if-eat.ensures.exact pieces rest refl r).0 in absurd (cc))
    (λ r. c.if-eat-2.ensures.exact pieces rest refl (subst (λ t. Reads (codes "," ∷ pieces) t rest) (sym c.if-eat.ensures.kept) r))
    (λ r. absurd (two_marks 44 41 [] pieces c.args.reader.now c.eat-2.new.self rest refl refl (λ e. absurd (omega arith))
    (subst (λ t. Reads (codes "," ∷ []) t c.eat-2.new.self) c.if-eat.ensures.kept c.if-eat-2.ensures.read) r))
    piece is read

pub returns-clause-exact : goal.returns-clause-exact
returns-clause-exact c = λ piece pieces rest is read.
    mark_by (λ m. Reads (m ∷ pieces) c.args.reader.now rest → IsTrue c.eat-3.result × Reads pieces c.eat-3.new.self rest)
    (λ r. let none = (c.if-eat.ensures.exact pieces rest refl r).0 in absurd (cc))
    (λ r.
    let none = (c.if-eat-2.ensures.exact pieces rest refl (subst (λ t. Reads (codes "," ∷ pieces) t rest) (sym c.if-eat.ensures.kept) r)).0 in
    absurd (cc))
    (λ r. c.eat-3.ensures.exact pieces rest refl (subst (λ t. Reads (codes ")" ∷ pieces) t rest) (sym (c.if-eat-2.ensures.kept ∙ c.if-eat.ensures.kept)) r))
    piece is read
