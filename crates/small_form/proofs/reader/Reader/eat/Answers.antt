use Rattle.std.proofs.Common.{rules, sym, ◌∙◌, subst, [], ◌∷◌, refl}
use Rattle.small_form.specs.Pieces.{Reads}
use Rattle.small_form.proofs.ReadsLemmas.{reads_piece, front_is}
use Rattle.small_form.proofs.Unique.{start_of, left_after, other_piece, not_apart}
use Rattle.small_form.proofs.reader.Reader.eat.Goals as goal

pub returns-in_default-clause-exact : goal.returns-in_default-clause-exact
returns-in_default-clause-exact c = λ pieces rest solid read.
    let s = start_of c.self.inside.rest.now c.args.self.now c.split_at.result.1.now c.leading_blanks.result c.self.view_is c.leading_blanks.ensures.within c.leading_blanks.ensures.blanks c.leading_blanks.ensures.all c.split_at.ensures.back in
    absurd (other_piece c.args.piece.now pieces c.args.self.now c.split_at.result.1.now rest s solid read c.in_default.ensures.cases)

pub returns-then-not-is_apart-clause-exact : goal.returns-then-not-is_apart-clause-exact
returns-then-not-is_apart-clause-exact c = λ pieces rest solid read.
    let s = start_of c.self.inside.rest.now c.args.self.now c.split_at.result.1.now c.leading_blanks.result c.self.view_is c.leading_blanks.ensures.within c.leading_blanks.ensures.blanks c.leading_blanks.ensures.all c.split_at.ensures.back in
    let front = front_is c.split_at.result.1.now c.args.piece.now c.in-Some.after.now c.in-Some.ensures.cases.0 c.in-Some.ensures.cases.1 in
    absurd (not_apart c.args.piece.now c.in-Some.after.now pieces c.args.self.now c.split_at.result.1.now rest s solid read front (search rules))

pub returns-clause-read : goal.returns-clause-read
returns-clause-read c =
    let front = front_is c.split_at.result.1.now c.args.piece.now c.in-Some.after.now c.in-Some.ensures.cases.0 c.in-Some.ensures.cases.1 in
    subst (λ t. Reads (c.args.piece.now ∷ []) t c.in-Some.after.now) c.self.view_is
    (reads_piece c.self.inside.rest.now c.args.piece.now c.in-Some.after.now c.leading_blanks.result (sym c.split_at.ensures.back ∙ front) c.leading_blanks.ensures.blanks (search rules))

pub returns-clause-exact : goal.returns-clause-exact
returns-clause-exact c = λ pieces rest solid read.
    let s = start_of c.self.inside.rest.now c.args.self.now c.split_at.result.1.now c.leading_blanks.result c.self.view_is c.leading_blanks.ensures.within c.leading_blanks.ensures.blanks c.leading_blanks.ensures.all c.split_at.ensures.back in
    let front = front_is c.split_at.result.1.now c.args.piece.now c.in-Some.after.now c.in-Some.ensures.cases.0 c.in-Some.ensures.cases.1 in
    (refl, left_after c.args.piece.now c.in-Some.after.now pieces c.args.self.now c.split_at.result.1.now rest s solid read front)
