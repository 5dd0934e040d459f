use Rattle.std.proofs.Common.{◌≡◌, sym, ◌∙◌}
use Rattle.std.specs.Prelude.{Some, None}
use Rattle.cell_completion.proofs.Completeness.{completed_is}
use Rattle.cell_completion.proofs.Completions.{is_completion}
use Rattle.cell_completion.proofs.complete.complete_cells.Goals as goal

pub returns-in-Ok-Some-clause-ok : goal.returns-in-Ok-Some-clause-ok
returns-in-Ok-Some-clause-ok c =
    is_completion c.args.shapes.now c.args.written.now c.requires.tree c.requires.written c.in-Ok-Some.tree (sym c.in-Ok-Some.ensures ∙ c.in-Ok-Some.field-0-is)

pub returns-in-Ok-None-clause-fault : goal.returns-in-Ok-None-clause-fault
returns-in-Ok-None-clause-fault c = (
  c.in_default.ensures.none,
  (λ t least.
      let is : None ≡ Some t = sym c.in-Ok-None.field-0-is ∙ c.in-Ok-None.ensures ∙ completed_is c.args.shapes.now c.args.written.now c.requires.tree c.requires.written t least in
      cc),
)
