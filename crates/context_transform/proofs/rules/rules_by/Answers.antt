use Rattle.context_transform.proofs.Telling.{few_with, all_of, fault_of}
use Rattle.context_transform.proofs.rules.rules_by.Goals as goal

pub complete_all-requires-clause-few : goal.complete_all-requires-clause-few
complete_all-requires-clause-few c =
    few_with c.args.grammar.now c.args.tree.now c.args.text.now c.args.tokens.now c.args.names.now c.args.sentences.now c.args.drafts.now c.in-Ok.rules.items c.read_rules.new.names
    c.in-Ok.ensures.ok c.requires.few

pub returns-in-Ok-complete_all-clause-ok : goal.returns-in-Ok-complete_all-clause-ok
returns-in-Ok-complete_all-clause-ok c =
    all_of c.args.grammar.now c.args.tree.now c.args.text.now c.args.tokens.now c.args.names.now c.args.sentences.now c.args.drafts.now c.in-Ok.rules.items c.read_rules.new.names
    c.in-Ok.ensures.ok _ c.in-Ok-complete_all.ensures.ok

pub returns-in-Err-complete_all-clause-fault : goal.returns-in-Err-complete_all-clause-fault
returns-in-Err-complete_all-clause-fault c =
    fault_of c.args.grammar.now c.args.tree.now c.args.text.now c.args.tokens.now c.args.names.now c.args.sentences.now c.args.drafts.now c.in-Ok.rules.items c.read_rules.new.names
    c.in-Ok.ensures.ok c.in-Err-complete_all.fault c.in-Err-complete_all.ensures.fault
