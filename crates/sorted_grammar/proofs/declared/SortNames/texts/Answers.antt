use Rattle.sorted_grammar.proofs.NameLists.{text_pushed}
use Rattle.sorted_grammar.proofs.declared.SortNames.texts.Goals as goal

pub loop-number-preserved : goal.loop-number-preserved
loop-number-preserved c = text_pushed c.args.self.now c.loop-number.texts.items c.push.new.self.items c.loop-number.number c.in_ok-text.field-0 c.loop-number.invariant c.in_ok-text.ensures c.in_ok-push.ensures.items
