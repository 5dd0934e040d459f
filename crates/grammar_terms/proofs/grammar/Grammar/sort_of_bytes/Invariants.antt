use Rattle.std.proofs.Common.{◌≡◌, drop}
use Rattle.std.specs.List.{position_from}
use Rattle.std.specs.Str.{bytes_eq}
use Rattle.grammar_terms.specs.Grammar.{sort_number}
use Rattle.grammar_terms.proofs.grammar.Grammar.sort_of_bytes.Given as goal

abbrev pub invariant-loop-index : goal.invariant-loop-index
invariant-loop-index l = sort_number l.names l.name ≡ position_from (λ other. bytes_eq other l.name) l.index (drop l.index l.names)
