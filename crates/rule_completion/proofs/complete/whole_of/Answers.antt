use Rattle.std.proofs.Common.{◌∙◌, subst}
use Rattle.cell_completion.specs.Completion.{NoneMisplaced}
use Rattle.cell_completion.specs.Faults.{IsCompletionFault}
use Rattle.cell_completion.specs.declared.complete.CompletionFault.TheVariants.{Unclear}
use Rattle.rule_completion.specs.Writing.{written}
use Rattle.rule_completion.proofs.Refused.{moved}
use Rattle.rule_completion.proofs.complete.whole_of.Goals as goal

pub returns-in-Ok-complete_cells-clause-placed : goal.returns-in-Ok-complete_cells-clause-placed
returns-in-Ok-complete_cells-clause-placed c =
    moved NoneMisplaced c.shapes.result.now c.args.tree.now.shapes c.deref.result.now (written c.args.draft.now) c.shapes.ensures (c.deref.ensures.value ∙ c.in-Ok.ensures)
    c.in-Ok-complete_cells.ensures.placed

pub returns-in-Err-Unclear-clause-refused : goal.returns-in-Err-Unclear-clause-refused
returns-in-Err-Unclear-clause-refused c =
    moved (λ s w. IsCompletionFault s w Unclear) c.shapes.result.now c.args.tree.now.shapes c.deref.result.now (written c.args.draft.now)
    c.shapes.ensures (c.deref.ensures.value ∙ c.in-Ok.ensures)
    (subst (λ f. IsCompletionFault c.shapes.result.now c.deref.result.now f) c.in-Err-Unclear.field-0-is c.in-Err-Unclear.ensures.fault)
