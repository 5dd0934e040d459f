use Rattle.rule_terms.specs.declared.defs.Kind.TheVariants.{Seq, Map, List as Listed}
use Rattle.rule_reader.proofs.Asked.{content_over, fault_over}
use Rattle.rule_reader.proofs.grammar.RuleGrammar.read_content.Goals as goal

pub returns-in-Seq-clause-ok : goal.returns-in-Seq-clause-ok
returns-in-Seq-clause-ok c =
    content_over c.self.inside.rules.now c.args.self.now Seq c.args.kind c.self.inside.sequences c.self.view_is c.in-Seq.is c.self.invariant.2 c.read_content.result c.args.is_new c.args.words.now
    c.read_content.ensures.ok

pub returns-in-Seq-clause-fault : goal.returns-in-Seq-clause-fault
returns-in-Seq-clause-fault c =
    fault_over c.self.inside.rules.now c.args.self.now Seq c.args.kind c.self.inside.sequences c.self.view_is c.in-Seq.is c.self.invariant.2 c.read_content.result c.args.is_new c.args.words.now
    c.read_content.ensures.fault

pub returns-in-Map-clause-ok : goal.returns-in-Map-clause-ok
returns-in-Map-clause-ok c =
    content_over c.self.inside.rules.now c.args.self.now Map c.args.kind c.self.inside.maps c.self.view_is c.in-Map.is c.self.invariant.3 c.read_content-in-Map.result c.args.is_new c.args.words.now
    c.read_content-in-Map.ensures.ok

pub returns-in-Map-clause-fault : goal.returns-in-Map-clause-fault
returns-in-Map-clause-fault c =
    fault_over c.self.inside.rules.now c.args.self.now Map c.args.kind c.self.inside.maps c.self.view_is c.in-Map.is c.self.invariant.3 c.read_content-in-Map.result c.args.is_new c.args.words.now
    c.read_content-in-Map.ensures.fault

pub returns-in-List-clause-ok : goal.returns-in-List-clause-ok
returns-in-List-clause-ok c =
    content_over c.self.inside.rules.now c.args.self.now Listed c.args.kind c.self.inside.lists c.self.view_is c.in-List.is c.self.invariant.4 c.read_content-in-List.result c.args.is_new c.args.words.now
    c.read_content-in-List.ensures.ok

pub returns-in-List-clause-fault : goal.returns-in-List-clause-fault
returns-in-List-clause-fault c =
    fault_over c.self.inside.rules.now c.args.self.now Listed c.args.kind c.self.inside.lists c.self.view_is c.in-List.is c.self.invariant.4 c.read_content-in-List.result c.args.is_new c.args.words.now
    c.read_content-in-List.ensures.fault
