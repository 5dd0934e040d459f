use Rattle.std.proofs.Common.{◌≡◌, sym, ◌∙◌}
use Rattle.rule_parts.specs.Leaves.{leaves_of}
use Rattle.rule_drafts.proofs.Drafting.{fault_moved, draft_moved}
use Rattle.rule_drafts.proofs.draft.read_draft.Goals as goal

pub returns-in-Ok-clause-ok : goal.returns-in-Ok-clause-ok
returns-in-Ok-clause-ok c =
    let same : c.deref.result.now ≡ leaves_of c.args.tokens.now c.args.words.now = c.deref.ensures.value ∙ c.in_ok-leaves.ensures in
    let again : c.deref-in-Ok.result.now ≡ c.deref.result.now = c.deref-in-Ok.ensures.value ∙ sym c.deref.ensures.value in
    draft_moved c.args.k c.args.grammar.now c.args.cells.now c.args.tokens.now c.args.rule.now c.deref.result.now (leaves_of c.args.tokens.now c.args.words.now)
    c.in-Ok.vars.items c.deref-in-Ok-2.result.now c.in_ok-draft_of-in-Ok.field-0 c.deref-in-Ok.result.now again same c.in-Ok.ensures c.deref-in-Ok-2.ensures.value c.in_ok-draft_of-in-Ok.ensures

pub returns-clause-fault : goal.returns-clause-fault
returns-clause-fault c =
    fault_moved c.args.k c.args.grammar.now c.args.cells.now c.args.tokens.now c.args.rule.now c.deref.result.now (leaves_of c.args.tokens.now c.args.words.now)
    c.in-Err.fault (c.deref.ensures.value ∙ c.in_ok-leaves.ensures) c.in-Err.ensures
