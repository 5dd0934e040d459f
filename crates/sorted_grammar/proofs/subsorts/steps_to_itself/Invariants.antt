use Rattle.std.proofs.Common.{take}
use Rattle.grammar_terms.specs.Cuts.{Has}
use Rattle.sorted_grammar.proofs.subsorts.steps_to_itself.Given as goal

abbrev pub invariant-loop-step : goal.invariant-loop-step
invariant-loop-step l = Has (take l.step-index l.steps) (l.sort, l.sort) → ⊥
