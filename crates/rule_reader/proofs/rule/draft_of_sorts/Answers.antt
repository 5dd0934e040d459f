use Rattle.rule_reader.proofs.Phases.{formed_later}
use Rattle.rule_reader.proofs.rule.draft_of_sorts.Goals as goal

pub returns-in-Err-draft_of_form-clause-fault : goal.returns-in-Err-draft_of_form-clause-fault
returns-in-Err-draft_of_form-clause-fault c =
    formed_later c.args.grammar.now c.args.cells.now c.args.names.now c.args.text.now c.args.tokens.now c.args.at c.args.behind c.args.sorts.now c.in-Ok.form c.in-Err-draft_of_form.fault
    c.in-Ok.ensures c.in-Err-draft_of_form.ensures.fault
