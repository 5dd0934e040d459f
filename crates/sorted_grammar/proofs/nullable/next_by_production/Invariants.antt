use Rattle.std.proofs.Common.{◌≡◌, take, false}
use Rattle.grammar_terms.specs.Cuts.{Has}
use Rattle.grammar_terms.specs.declared.production.Production.{Production}
use Rattle.sorted_grammar.specs.Marks.{fires}
use Rattle.sorted_grammar.proofs.nullable.next_by_production.Given as goal

abbrev pub invariant-loop-production : goal.invariant-loop-production
invariant-loop-production l = (production : Production) → Has (take l.production-index l.prods) production → fires l.row production ≡ false
