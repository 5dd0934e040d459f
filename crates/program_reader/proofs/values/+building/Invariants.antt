use Rattle.std.proofs.Common.{◌≡◌, take}
use Rattle.grammar_terms.specs.Values.{values_by, elements_by}
use Rattle.program_reader.proofs.values.+building.Given as goal

abbrev pub invariant-elements-loop-shape : goal.invariant-elements-loop-shape
invariant-elements-loop-shape l = l.values.items ≡ elements_by l.grammar.prods l.words l.sort (take l.shape-index l.shapes)

abbrev pub invariant-values-loop-index : goal.invariant-values-loop-index
invariant-values-loop-index l = l.values.items ≡ values_by l.grammar.prods l.words l.sorts (take l.index l.shapes)
