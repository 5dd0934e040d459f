use Rattle.std.proofs.Common.{◌≡◌, take}
use Rattle.std.specs.List.{flat_map}
use Rattle.grammar_terms.specs.Grammar.{step_of}
use Rattle.grammar_terms.proofs.sort_steps.sort_steps.Given as goal

abbrev pub invariant-loop-production : goal.invariant-loop-production
invariant-loop-production l = l.steps.items ≡ flat_map step_of (take l.production-index l.prods)
