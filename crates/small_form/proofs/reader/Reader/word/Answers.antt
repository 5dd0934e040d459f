use Rattle.std.proofs.Common.{rules}
use Rattle.small_form.proofs.Unique.{start_of, IsFront, no_word, word_not_apart, word_read}
use Rattle.small_form.proofs.reader.Reader.word.Goals as goal

pub returns-then-not-is_word-clause-exact : goal.returns-then-not-is_word-clause-exact
returns-then-not-is_word-clause-exact c = λ w pieces rest word read.
    let s = start_of c.self.inside.rest.now c.args.self.now c.split_at.result.1.now c.leading_blanks.result c.self.view_is c.leading_blanks.ensures.within c.leading_blanks.ensures.blanks c.leading_blanks.ensures.all c.split_at.ensures.back in
    let f : IsFront c.split_at.result.1.now c.split_at-2.result.0.now c.split_at-2.result.1.now = record { count = c.leading_word.result; within = c.leading_word.ensures.within; word = c.leading_word.ensures.word; next = c.leading_word.ensures.all; front_is = c.split_at-2.ensures.front; after_is = c.split_at-2.ensures.back } in
    absurd (no_word w pieces c.args.self.now c.split_at.result.1.now rest c.split_at-2.result.0.now c.split_at-2.result.1.now s f word read (search rules))

pub returns-then-not-is_apart-clause-exact : goal.returns-then-not-is_apart-clause-exact
returns-then-not-is_apart-clause-exact c = λ w pieces rest word read.
    let s = start_of c.self.inside.rest.now c.args.self.now c.split_at.result.1.now c.leading_blanks.result c.self.view_is c.leading_blanks.ensures.within c.leading_blanks.ensures.blanks c.leading_blanks.ensures.all c.split_at.ensures.back in
    let f : IsFront c.split_at.result.1.now c.split_at-2.result.0.now c.split_at-2.result.1.now = record { count = c.leading_word.result; within = c.leading_word.ensures.within; word = c.leading_word.ensures.word; next = c.leading_word.ensures.all; front_is = c.split_at-2.ensures.front; after_is = c.split_at-2.ensures.back } in
    absurd (word_not_apart w pieces c.args.self.now c.split_at.result.1.now rest c.split_at-2.result.0.now c.split_at-2.result.1.now s f word read (search rules))

pub returns-clause-exact : goal.returns-clause-exact
returns-clause-exact c = λ w pieces rest word read.
    let s = start_of c.self.inside.rest.now c.args.self.now c.split_at.result.1.now c.leading_blanks.result c.self.view_is c.leading_blanks.ensures.within c.leading_blanks.ensures.blanks c.leading_blanks.ensures.all c.split_at.ensures.back in
    let f : IsFront c.split_at.result.1.now c.split_at-2.result.0.now c.split_at-2.result.1.now = record { count = c.leading_word.result; within = c.leading_word.ensures.within; word = c.leading_word.ensures.word; next = c.leading_word.ensures.all; front_is = c.split_at-2.ensures.front; after_is = c.split_at-2.ensures.back } in
    word_read w pieces c.args.self.now c.split_at.result.1.now rest c.split_at-2.result.0.now c.split_at-2.result.1.now s f word read
