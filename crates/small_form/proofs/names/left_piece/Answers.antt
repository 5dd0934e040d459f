use Rattle.std.proofs.Common.{refl, sym, subst, ◌∷◌, rules, ◌≡◌, ◌∙◌, ap}
use Rattle.std.specs.Bool.{then_some}
use Rattle.std.specs.Option.{IsSomeAnd, option_copied}
use Rattle.std.specs.Prelude.{None}
use Rattle.small_form.specs.Pieces.{Reads}
use Rattle.small_form.proofs.Left.{mark_left, label_left, variable_left, sort_word}
use Rattle.small_form.proofs.Unique.{word_solid}
use Rattle.small_form.proofs.names.left_piece.Goals as goal

pub returns-in_default-clause-exact : goal.returns-in_default-clause-exact
returns-in_default-clause-exact c = λ piece name pieces rest is kind read.
    let mark = mark_left c.args.sort.now piece name pieces c.args.reader.now rest is kind
    (λ w ps r word there. let none = (c.in_default.ensures.exact w ps r word there).0 in absurd (cc)) read in
    let there = c.read_mark.ensures.exact piece pieces rest mark.0 (subst (λ t. Reads (piece ∷ pieces) t rest) (sym c.in_default.ensures.kept) read) in
    (subst (λ o. IsSomeAnd o (λ found. option_copied found ≡ name)) (sym (c.then_some.ensures ∙ ap (λ b. then_some b None) there.0)) mark.1, there.1)

pub returns-then-not-is_variable-clause-exact : goal.returns-then-not-is_variable-clause-exact
returns-then-not-is_variable-clause-exact c = λ piece name pieces rest is kind read.
    label_left c.args.sort.now piece c.in-Some.word.now name pieces c.args.reader.now c.word.new.self rest is kind c.in-Some.ensures.word c.in-Some.ensures.read (search rules) c.in-Some.ensures.exact read

pub returns-then-not-eat-clause-exact : goal.returns-then-not-eat-clause-exact
returns-then-not-eat-clause-exact c = λ piece name pieces rest is kind read.
    let v = variable_left c.args.sort.now piece c.in-Some.word.now name pieces c.args.reader.now c.word.new.self rest is kind c.in-Some.ensures.word c.in-Some.ensures.read (search rules) c.in-Some.ensures.exact read in
    let none = (c.if-not-eat.ensures.exact (c.args.sort.now ∷ pieces) rest refl v.1).0 in
    absurd (cc)

pub returns-then-not-eat-2-clause-exact : goal.returns-then-not-eat-2-clause-exact
returns-then-not-eat-2-clause-exact c = λ piece name pieces rest is kind read.
    let v = variable_left c.args.sort.now piece c.in-Some.word.now name pieces c.args.reader.now c.word.new.self rest is kind c.in-Some.ensures.word c.in-Some.ensures.read (search rules) c.in-Some.ensures.exact read in
    let colon = c.if-not-eat.ensures.exact (c.args.sort.now ∷ pieces) rest refl v.1 in
    let none = (c.if-not-eat-2.ensures.exact pieces rest (word_solid c.args.sort.now (sort_word c.args.sort.now is)) colon.1).0 in
    absurd (cc)

pub returns-clause-exact : goal.returns-clause-exact
returns-clause-exact c = λ piece name pieces rest is kind read.
    let v = variable_left c.args.sort.now piece c.in-Some.word.now name pieces c.args.reader.now c.word.new.self rest is kind c.in-Some.ensures.word c.in-Some.ensures.read (search rules) c.in-Some.ensures.exact read in
    let colon = c.if-not-eat.ensures.exact (c.args.sort.now ∷ pieces) rest refl v.1 in
    let last = c.if-not-eat-2.ensures.exact pieces rest (word_solid c.args.sort.now (sort_word c.args.sort.now is)) colon.1 in
    (v.0, last.1)
