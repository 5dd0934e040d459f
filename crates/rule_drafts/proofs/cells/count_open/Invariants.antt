use Rattle.std.proofs.Common.{◌≡◌, ◌≤◌, take, length, filter}
use Rattle.rule_tokens.specs.declared.token.RuleToken.{RuleToken}
use Rattle.rule_drafts.specs.Cells.{is_open}
use Rattle.rule_drafts.proofs.cells.count_open.Given as goal

abbrev pub invariant-loop-token : goal.invariant-loop-token
invariant-loop-token l = (l.count ≡ length (filter (λ (token : RuleToken). is_open token.kind) (take l.token-index l.tokens))) × (l.count ≤ l.token-index)
