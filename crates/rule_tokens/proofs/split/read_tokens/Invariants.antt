use Rattle.std.proofs.Common.{◌≤◌, ◌-◌, drop, length}
use Rattle.rule_tokens.specs.RuleTokens.{AreRuleTokens}
use Rattle.rule_tokens.specs.Splits.{lexicon_with}
use Rattle.rule_tokens.proofs.split.read_tokens.Given as goal

abbrev pub invariant-loop-at : goal.invariant-loop-at
invariant-loop-at l = AreRuleTokens (lexicon_with l.terminals l.grammar l.cells l.names) l.text l.found l.tokens (drop l.at l.tokens) × (l.at ≤ length l.tokens)

abbrev pub decreases-loop-at : goal.decreases-loop-at
decreases-loop-at l = length l.tokens - l.at
