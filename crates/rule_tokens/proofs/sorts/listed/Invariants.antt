use Rattle.std.proofs.Common.{◌≡◌, List, map, take}
use Rattle.rule_tokens.specs.Variables.{Occurrence, variable_of}
use Rattle.rule_tokens.specs.Tables.{Tells}
use Rattle.rule_tokens.proofs.sorts.listed.Given as goal

abbrev pub invariant-loop-place : goal.invariant-loop-place
invariant-loop-place l = (before : List Occurrence) → Tells before l.table → l.found.items ≡ map (variable_of before) (take l.place (map (λ entry. entry.0) l.table))
