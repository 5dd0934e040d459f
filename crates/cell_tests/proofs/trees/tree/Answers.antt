use Rattle.std.proofs.Common.{length, ap, ◌∙◌}
use Rattle.cell_trees.specs.Trees.{Tree}
use Rattle.cell_trees.proofs.Sample.{sample_is_tree}
use Rattle.cell_tests.proofs.trees.tree.Goals as goal

pub new-requires : goal.new-requires
new-requires c = sample_is_tree _ (λ i. record { shapes = c.in_ok-shapes.ensures i; held = c.in_ok-held.ensures i; k = 2; sort = 10 })

pub returns : goal.returns
returns c = ap (λ (t : Tree). length t.shapes) c.new.ensures ∙ ap length c.in_ok-shapes.ensures
