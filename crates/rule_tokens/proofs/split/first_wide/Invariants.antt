use Rattle.std.proofs.Common.{◌≡◌, drop}
use Rattle.rule_tokens.specs.RuleTokens.{first_wide}
use Rattle.rule_tokens.proofs.split.first_wide.Given as goal

abbrev pub invariant-loop-token : goal.invariant-loop-token
invariant-loop-token l = first_wide l.text l.tokens ≡ first_wide l.text (drop l.token-index l.tokens)
