use Rattle.std.proofs.Common.{sym, ap, ◌∙◌}
use Rattle.cell_completion.specs.Building.{inserted}
use Rattle.cell_completion.proofs.Inserting.{all_inserted_more}
use Rattle.cell_completion.proofs.building.insert_all.Goals as goal

pub loop-tree-preserved : goal.loop-tree-preserved
loop-tree-preserved c =
    c.in_ok-insert.ensures ∙ ap (inserted c.in-Some.tree) c.loop-tree.invariant
    ∙ sym (all_inserted_more c.loop-tree.yielded c.args.trees.now.items c.in-Some.tree)
