use Rattle.std.proofs.Common.{◌≡◌, ◌+◌, ◌<◌, length, drop, sym, ap, subst, ◌∙◌, arith}
use Rattle.std.specs.Prelude.{codes}
use Rattle.production_reader.specs.Lexemes.{word}
use Rattle.production_reader.specs.Allowed.{in_groups, had_after}
use Rattle.file_reader.specs.Files.{had, noted, IsDeclared}
use Rattle.file_reader.specs.Reads.{IsSentenceRead}
use Rattle.file_reader.specs.declared.read.Read.TheVariants.{Other}
use Rattle.file_reader.specs.declared.sentence.Sentence.TheVariants as sentence
use Rattle.file_reader.proofs.Heads.{begins_within, no_true}
use Rattle.file_reader.proofs.Naming.{same_word}
use Rattle.file_reader.proofs.Declaring.{syntax_answer, syntax_answer_stop, syntax_missing}
use Rattle.file_reader.proofs.sentences.read_syntax.Goals as goal

pub returns-in_default : goal.returns-in_default
returns-in_default c =
    let below : c.args.from < length c.args.source.now = begins_within (word (codes "syntax")) c.args.source.now c.args.from c.requires in
    let place : c.past-at.result ≡ c.args.from + 1 = c.past-at.ensures in
    syntax_missing c.args.source.now c.args.sorts.now c.args.tokens.now c.args.from c.requires c.past-at.result place (omega arith) (λ sort declared begins. c.in_default.ensures sort begins)

pub returns-then-not-is_declared : goal.returns-then-not-is_declared
returns-then-not-is_declared c =
    let below : c.args.from < length c.args.source.now = begins_within (word (codes "syntax")) c.args.source.now c.args.from c.requires in
    let place : c.past-at.result ≡ c.args.from + 1 = c.past-at.ensures in
    syntax_missing c.args.source.now c.args.sorts.now c.args.tokens.now c.args.from c.requires c.past-at.result place (omega arith)
    (λ sort declared begins. no_true (sym c.if-not-is_declared.true ∙ c.is_declared.ensures.1
    (subst (λ t. IsDeclared t) (same_word sort c.in-Some.sort.now (drop c.past-at.result c.args.source.now) begins c.in-Some.ensures) declared)))

pub returns-in-Err : goal.returns-in-Err
returns-in-Err c =
    syntax_answer_stop c.args.source.now c.args.sorts.now c.args.tokens.now c.args.from c.requires c.past-at.result c.past.result c.in-Some.sort.now c.find-before.result c.in-Err.stop c.past-at.ensures c.past.ensures c.in-Some.ensures
    (c.is_declared.ensures.0 c.if-not-is_declared.false) c.find-before.ensures c.in-Err.ensures

pub returns : goal.returns
returns c =
    let groups = c.in-Ok.ensures in
    let now : c.standing.result ≡ had_after c.find-before.result (in_groups groups.written) = c.standing.ensures c.in-Some.sort.now groups.written groups.read.allowed groups.means in
    subst (λ sort. IsSentenceRead c.args.tokens.now c.args.source.now c.args.from c.args.sorts.now c.note_sort.new.sorts (Other (sentence.Syntax sort c.in-Ok.groups)) c.in-Ok.next)
    (sym (c.from_vec.ensures ∙ c.in-Ok-from_slice.ensures.items))
    (syntax_answer c.args.source.now c.args.sorts.now c.args.tokens.now c.args.from c.requires c.past-at.result c.past.result c.in-Some.sort.now c.find-before.result c.in-Ok.groups c.in-Ok.next c.note_sort.new.sorts c.past-at.ensures c.past.ensures
    c.in-Some.ensures (c.is_declared.ensures.0 c.if-not-is_declared.false) c.find-before.ensures groups
    (λ other. c.in-Ok-note_sort.ensures other ∙ ap (λ h. had (noted c.args.sorts.now c.in-Some.sort.now h) other) now))
