use Rattle.std.proofs.Common.{ap, sym, ◌∙◌, arith, drop, drop_of_length-le}
use Rattle.cell_tokens.specs.CellTokens.{first_token, lexicon_with}
use Rattle.cell_tokens.proofs.Reading.{tokens_step, tokens_end, no_first}
use Rattle.cell_tokens.proofs.split.read_tokens.Goals as goal

pub overflow_add-at : goal.overflow_add-at
overflow_add-at c =
    let l = lexicon_with c.args.terminals.now c.args.grammar.now c.args.names.now in
    let next = ap (first_token l c.args.text.now) (sym c.split_at.ensures.back) ∙ sym c.in_ok-next.ensures ∙ c.in-Some.is in
    let step = tokens_step l c.args.text.now c.loop-at.found c.push.new.self c.in-Some.token c.loop-at.at c.args.tokens.now c.loop-at.invariant.0 c.loop-at.invariant.1 next c.in_ok-push.ensures.ok in
    omega (arith, step.1)

pub loop-at-preserved : goal.loop-at-preserved
loop-at-preserved c =
    let l = lexicon_with c.args.terminals.now c.args.grammar.now c.args.names.now in
    let next = ap (first_token l c.args.text.now) (sym c.split_at.ensures.back) ∙ sym c.in_ok-next.ensures ∙ c.in-Some.is in
    let step = tokens_step l c.args.text.now c.loop-at.found c.push.new.self c.in-Some.token c.loop-at.at c.args.tokens.now c.loop-at.invariant.0 c.loop-at.invariant.1 next c.in_ok-push.ensures.ok in
    (step.0, step.1)

pub loop-at-smaller : goal.loop-at-smaller
loop-at-smaller c =
    let l = lexicon_with c.args.terminals.now c.args.grammar.now c.args.names.now in
    let next = ap (first_token l c.args.text.now) (sym c.split_at.ensures.back) ∙ sym c.in_ok-next.ensures ∙ c.in-Some.is in
    let step = tokens_step l c.args.text.now c.loop-at.found c.push.new.self c.in-Some.token c.loop-at.at c.args.tokens.now c.loop-at.invariant.0 c.loop-at.invariant.1 next c.in_ok-push.ensures.ok in
    omega (arith, step.1, step.2)

pub returns-in_default : goal.returns-in_default
returns-in_default c =
    let l = lexicon_with c.args.terminals.now c.args.grammar.now c.args.names.now in
    tokens_end l c.args.text.now c.loop-at.found c.args.tokens.now (drop c.loop-at.at c.args.tokens.now) c.loop-at.invariant.0
    (no_first l c.args.text.now (drop c.loop-at.at c.args.tokens.now) (ap (first_token l c.args.text.now) (sym c.split_at.ensures.back) ∙ sym c.in_ok-next.ensures ∙ c.in_default.is))

pub returns : goal.returns
returns c =
    tokens_end (lexicon_with c.args.terminals.now c.args.grammar.now c.args.names.now) c.args.text.now c.loop-at.found c.args.tokens.now (drop c.loop-at.at c.args.tokens.now) c.loop-at.invariant.0
    (drop_of_length-le c.args.tokens.now c.loop-at-test.false)
