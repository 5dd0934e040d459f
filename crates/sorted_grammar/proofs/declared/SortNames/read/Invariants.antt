use Rattle.std.proofs.Common.{◌≡◌, drop}
use Rattle.sorted_grammar.specs.Naming.{with_sorts, names_of}
use Rattle.sorted_grammar.proofs.declared.SortNames.read.Given as goal

abbrev pub invariant-loop-sentence : goal.invariant-loop-sentence
invariant-loop-sentence l = with_sorts l.sorts (drop l.sentence-index l.sentences) ≡ names_of l.sentences
