use Rattle.std.proofs.Common.{false, get_or, refl}
use Rattle.rule_reader.specs.declared.contents.Content.{Content}
use Rattle.rule_reader.proofs.Phases.{first_unread, read_next}
use Rattle.rule_reader.proofs.readings.read_contents.Goals as goal

abbrev none : Content
none = record { cell = 0; is_new = false; first = 0; past = 0 }

pub returns-in-Err-clause-fault : goal.returns-in-Err-clause-fault
returns-in-Err-clause-fault c =
    first_unread c.args.grammar.now c.args.cells.now c.args.tokens.now c.args.words.now c.args.behind c.args.contents.now c.loop-content.content-index none
    (get_or c.args.contents.now c.loop-content.content-index none) c.loop-content.readings.items c.in-Err.fault c.loop-content-test.true refl c.loop-content.invariant c.in-Err.ensures.fault

pub loop-content-preserved : goal.loop-content-preserved
loop-content-preserved c =
    read_next c.args.grammar.now c.args.cells.now c.args.words.now c.args.contents.now c.loop-content.content-index none (get_or c.args.contents.now c.loop-content.content-index none)
    c.loop-content.readings.items c.push.new.self.items c.in-Ok.reading c.loop-content-test.true refl c.loop-content.invariant c.in-Ok.ensures.ok c.in_ok-push-in-Ok.ensures.items
