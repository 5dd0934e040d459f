use Rattle.std.proofs.Common.{ap, sym, ◌∙◌, arith}
use Rattle.program_tokens.specs.Words.{first_word}
use Rattle.program_tokens.proofs.Reading.{words_step}
use Rattle.program_tokens.proofs.words.read_words.Goals as goal

pub overflow_add-at : goal.overflow_add-at
overflow_add-at c =
    let next = ap (first_word c.args.terminals.now c.args.names.now c.args.text.now) (sym c.split_at.ensures.back) ∙ sym c.in_ok-word.ensures ∙ c.in-Some.is in
    let step = words_step c.args.terminals.now c.args.names.now c.args.text.now c.loop-at.words c.push.new.self c.in-Some.word c.in-Some.size c.loop-at.at c.args.tokens.now
    c.requires.stand c.loop-at.invariant.0 c.loop-at.invariant.1 next c.in_ok-push.ensures.ok in
    omega (arith, step.1)

pub loop-at-preserved : goal.loop-at-preserved
loop-at-preserved c =
    let next = ap (first_word c.args.terminals.now c.args.names.now c.args.text.now) (sym c.split_at.ensures.back) ∙ sym c.in_ok-word.ensures ∙ c.in-Some.is in
    let step = words_step c.args.terminals.now c.args.names.now c.args.text.now c.loop-at.words c.push.new.self c.in-Some.word c.in-Some.size c.loop-at.at c.args.tokens.now
    c.requires.stand c.loop-at.invariant.0 c.loop-at.invariant.1 next c.in_ok-push.ensures.ok in
    (step.0, step.1)
