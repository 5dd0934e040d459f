use Rattle.std.proofs.Common.{ap}
use Rattle.std.specs.Option.{option_copied}
use Rattle.sorted_grammar.specs.Naming.{sorts_in_sentence}
use Rattle.sorted_grammar.specs.Marks.{is_around}
use Rattle.sorted_grammar.proofs.Searches.{first_here, first_later}
use Rattle.sorted_grammar.proofs.subsorts.first_mentioned.Goals as goal

pub loop-sentence-preserved : goal.loop-sentence-preserved
loop-sentence-preserved c =
    first_later (is_around c.args.names.now c.args.row.now) sorts_in_sentence c.args.sentences.now c.loop-sentence.sentence-index c.sentence-item.result _ c.loop-sentence-test.true c.sentence-item.is c.loop-sentence.invariant (option_copied c.first_in_sentence.result)
    c.first_in_sentence.ensures (ap option_copied c.in_default.is)

pub returns-in-loop-sentence : goal.returns-in-loop-sentence
returns-in-loop-sentence c =
    first_here (is_around c.args.names.now c.args.row.now) sorts_in_sentence c.args.sentences.now c.loop-sentence.sentence-index c.sentence-item.result _ c.loop-sentence-test.true c.sentence-item.is c.loop-sentence.invariant c.in-Some.name.now (option_copied c.first_in_sentence.result)
    c.first_in_sentence.ensures (ap option_copied c.in-Some.is)
