use Rattle.std.proofs.Common.{sym, ap, ◌∙◌, subst, drop}
use Rattle.std.specs.List.{AllByRecursion}
use Rattle.rule_tokens.specs.RuleTokens.{IsInside, first_wide}
use Rattle.rule_tokens.specs.Splits.{lexicon_with}
use Rattle.rule_tokens.proofs.Reading.{tokens_inside}
use Rattle.rule_tokens.proofs.Splitting.{is_split}
use Rattle.rule_tokens.proofs.split.split_numbered.Goals as goal

pub first_wide-wide-requires : goal.first_wide-wide-requires
first_wide-wide-requires c =
    subst (AllByRecursion (IsInside c.args.text.now)) (sym c.as_slice.ensures)
    (tokens_inside (lexicon_with c.args.terminals.now c.args.grammar.now c.args.cells.now c.args.names.now) c.args.text.now c.in_ok-found.found c.args.tokens.now
    (drop c.in_ok-found.at c.args.tokens.now) c.requires.stand c.in_ok-found.ensures.tokens)

pub returns-clause-split : goal.returns-clause-split
returns-clause-split c = λ before names.
    is_split c.args.grammar.now c.args.cells.now before c.args.names.now c.args.terminals.now c.args.text.now c.args.tokens.now _ c.in_ok-found.at c.requires.same names
    c.in_ok-found.ensures.tokens c.in_ok-found.ensures.ends c.place_at.ensures (c.first_wide-wide.ensures ∙ ap (first_wide c.args.text.now) c.as_slice.ensures)

pub returns-clause-inside : goal.returns-clause-inside
returns-clause-inside c =
    tokens_inside (lexicon_with c.args.terminals.now c.args.grammar.now c.args.cells.now c.args.names.now) c.args.text.now c.in_ok-found.found c.args.tokens.now
    (drop c.in_ok-found.at c.args.tokens.now) c.requires.stand c.in_ok-found.ensures.tokens
