use Rattle.std.proofs.Common.{◌-◌, sym, subst}
use Rattle.k_lexer.specs.Before.{AllStand}
use Rattle.rule_tokens.specs.RuleTokens.{AllWhole}
use Rattle.rule_tokens.proofs.Whole.{whole_tokens}
use Rattle.rule_reader.proofs.Phases.{rule_refused}
use Rattle.rule_reader.proofs.rule.read_rule.Goals as goal

pub split_rule_by-requires-clause-stand : goal.split_rule_by-requires-clause-stand
split_rule_by-requires-clause-stand c =
    subst (AllStand c.args.text.now) (sym c.between-base.ensures) (whole_tokens c.args.text.now c.args.tokens.now c.in-Rule.first (c.in-Rule.past - c.in-Rule.first) c.requires.tokens).0

pub split_rule_by-requires-clause-whole : goal.split_rule_by-requires-clause-whole
split_rule_by-requires-clause-whole c =
    subst (AllWhole c.args.text.now) (sym c.between-base.ensures) (whole_tokens c.args.text.now c.args.tokens.now c.in-Rule.first (c.in-Rule.past - c.in-Rule.first) c.requires.tokens).1

pub returns-clause-fault : goal.returns-clause-fault
returns-clause-fault c =
    rule_refused c.args.grammar.now c.grammar.inside.rules.now c.args.cells.now c.args.names.now c.split_rule_by.new.names c.args.text.now c.args.tokens.now c.between-base.result.now
    c.args.rule.now c.in-Rule.at c.in-Rule.first c.in-Rule.past c.base_place-behind.result c.in-Ok.split c.grammar.view_is c.in-Rule.is c.between-base.ensures c.base_place-behind.ensures
    c.in-Ok.ensures.ok c.in-Err-draft_of_split.fault c.in-Err-draft_of_split.ensures.fault
