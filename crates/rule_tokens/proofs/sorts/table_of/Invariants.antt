use Rattle.std.proofs.Common.{take}
use Rattle.rule_tokens.specs.Variables.{occurrences}
use Rattle.rule_tokens.specs.Tables.{Tells}
use Rattle.rule_tokens.proofs.sorts.table_of.Given as goal

abbrev pub invariant-loop-token : goal.invariant-loop-token
invariant-loop-token l = Tells (occurrences (take l.token-index l.tokens)) l.table
