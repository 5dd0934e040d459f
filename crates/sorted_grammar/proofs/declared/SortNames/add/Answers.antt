use Rattle.sorted_grammar.proofs.NameLists.{word_added}
use Rattle.sorted_grammar.proofs.declared.SortNames.add.Goals as goal

pub returns : goal.returns
returns c = word_added c.self.inside.names.keys c.insert.new.self.keys c.args.self.now c.args.name c.self.view_is c.in_ok-insert.ensures.keys
