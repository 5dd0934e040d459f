use Rattle.std.proofs.Common.{ap, sym, ◌∙◌, arith}
use Rattle.rule_tokens.specs.RuleTokens.{first_token}
use Rattle.rule_tokens.specs.Splits.{lexicon_with}
use Rattle.rule_tokens.proofs.Reading.{tokens_step}
use Rattle.rule_tokens.proofs.split.read_tokens.Goals as goal

pub overflow_add-at : goal.overflow_add-at
overflow_add-at c =
    let next = ap (first_token (lexicon_with c.args.terminals.now c.args.grammar.now c.args.cells.now c.args.names.now) c.args.text.now) (sym c.split_at.ensures.back) ∙ sym c.in_ok-next.ensures ∙ c.in-Some.is in
    let step = tokens_step (lexicon_with c.args.terminals.now c.args.grammar.now c.args.cells.now c.args.names.now) c.args.text.now c.loop-at.found c.push.new.self c.in-Some.token c.in-Some.size c.loop-at.at c.args.tokens.now
    c.requires.stand c.loop-at.invariant.0 c.loop-at.invariant.1 next c.in_ok-push.ensures.ok in
    omega (arith, step.1)

pub loop-at-preserved : goal.loop-at-preserved
loop-at-preserved c =
    let next = ap (first_token (lexicon_with c.args.terminals.now c.args.grammar.now c.args.cells.now c.args.names.now) c.args.text.now) (sym c.split_at.ensures.back) ∙ sym c.in_ok-next.ensures ∙ c.in-Some.is in
    let step = tokens_step (lexicon_with c.args.terminals.now c.args.grammar.now c.args.cells.now c.args.names.now) c.args.text.now c.loop-at.found c.push.new.self c.in-Some.token c.in-Some.size c.loop-at.at c.args.tokens.now
    c.requires.stand c.loop-at.invariant.0 c.loop-at.invariant.1 next c.in_ok-push.ensures.ok in
    (step.0, step.1)

pub loop-at-smaller : goal.loop-at-smaller
loop-at-smaller c =
    let next = ap (first_token (lexicon_with c.args.terminals.now c.args.grammar.now c.args.cells.now c.args.names.now) c.args.text.now) (sym c.split_at.ensures.back) ∙ sym c.in_ok-next.ensures ∙ c.in-Some.is in
    let step = tokens_step (lexicon_with c.args.terminals.now c.args.grammar.now c.args.cells.now c.args.names.now) c.args.text.now c.loop-at.found c.push.new.self c.in-Some.token c.in-Some.size c.loop-at.at c.args.tokens.now
    c.requires.stand c.loop-at.invariant.0 c.loop-at.invariant.1 next c.in_ok-push.ensures.ok in
    omega (arith, step.1, step.2)
