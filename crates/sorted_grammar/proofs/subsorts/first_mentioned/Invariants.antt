use Rattle.std.proofs.Common.{◌≡◌, drop}
use Rattle.sorted_grammar.specs.Naming.{first_that, mentioned_in}
use Rattle.sorted_grammar.specs.Marks.{is_around}
use Rattle.sorted_grammar.proofs.subsorts.first_mentioned.Given as goal

abbrev pub invariant-loop-sentence : goal.invariant-loop-sentence
invariant-loop-sentence l = first_that (is_around l.names l.row) (mentioned_in l.sentences) ≡ first_that (is_around l.names l.row) (mentioned_in (drop l.sentence-index l.sentences))
