use Rattle.std.proofs.Common.{refl}
use Rattle.rule_reader.proofs.Asked.{fault_over}
use Rattle.rule_reader.proofs.grammar.RuleGrammar.read_other.Goals as goal

pub returns-clause-fault : goal.returns-clause-fault
returns-clause-fault c =
    fault_over c.self.inside.rules.now c.args.self.now c.args.kind c.args.kind c.in-Ok.grammar c.self.view_is refl c.in-Ok.ensures c.read_content.result c.args.is_new c.args.words.now
    c.read_content.ensures.fault
