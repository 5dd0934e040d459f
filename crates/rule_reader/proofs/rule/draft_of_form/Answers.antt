use Rattle.std.proofs.Common.{ap, ◌∙◌}
use Rattle.rule_parts.specs.Productions.{productions_of}
use Rattle.rule_reader.proofs.Phases.{draft_made, draft_refused}
use Rattle.rule_reader.proofs.rule.draft_of_form.Goals as goal

pub returns-in-Ok-read_draft-clause-ok : goal.returns-in-Ok-read_draft-clause-ok
returns-in-Ok-read_draft-clause-ok c =
    draft_made c.args.grammar.now c.args.cells.now c.args.names.now c.args.text.now c.args.tokens.now c.args.at c.args.behind c.args.sorts.now c.args.form c.as_slice-words.result.now
    c.in_ok-k.k c.grammar.inside.productions c.in-Ok.reading (c.as_slice-words.ensures ∙ c.in_ok-words.ensures) c.in_ok-k.ensures (c.grammar.invariant.1 ∙ ap productions_of c.grammar.view_is)
    c.in-Ok.ensures.ok c.in-Ok-read_draft.draft c.in-Ok-read_draft.ensures.ok

pub returns-clause-fault : goal.returns-clause-fault
returns-clause-fault c =
    draft_refused c.args.grammar.now c.args.cells.now c.args.names.now c.args.text.now c.args.tokens.now c.args.at c.args.behind c.args.sorts.now c.args.form c.as_slice-words.result.now
    c.in_ok-k.k c.grammar.inside.productions c.in-Ok.reading (c.as_slice-words.ensures ∙ c.in_ok-words.ensures) c.in_ok-k.ensures (c.grammar.invariant.1 ∙ ap productions_of c.grammar.view_is)
    c.in-Ok.ensures.ok c.in-Err-read_draft.fault c.draft_fault.result c.in-Err-read_draft.ensures.fault c.draft_fault.ensures
