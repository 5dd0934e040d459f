use Rattle.std.proofs.Common.{ap, ◌∙◌, arith}
use Rattle.cell_trees.specs.Defaults.{body_of, default_down, is_in}
use Rattle.cell_trees.proofs.Levels.{last_level, one_level, one_made, none_made}
use Rattle.cell_trees.proofs.patterns.+defaults.Goals as goal
use Rattle.cell_trees.proofs.patterns.+defaults.Goals.{defaults_in-then-is_in+in_ok-default_down+in_ok-push, defaults_in-else-is_in}

pub default_down-returns-then-levels-eq0 : goal.default_down-returns-then-levels-eq0
default_down-returns-then-levels-eq0 m c =
    last_level c.args.levels c.args.tree.now c.args.more c.args.cell c.new.result c.if-levels-eq0.true c.new.ensures

pub default_down-returns : goal.default_down-returns
default_down-returns m c =
    one_level c.args.levels c.args.tree.now c.args.more c.args.cell c.in_ok-inside.inside c.in_ok-body_of.field-0 (omega (arith, c.if-levels-eq0.false))
    c.in_ok-inside.ensures (c.in_ok-body_of.ensures ∙ ap (λ h. body_of h c.in_ok-inside.inside) c.held.ensures)

pub defaults_in-loop-cell-preserved : goal.defaults_in-loop-cell-preserved
defaults_in-loop-cell-preserved m c =
    elim c.if-is_in.branch [
      | defaults_in-then-is_in+in_ok-default_down+in_ok-push w ↦
          ap (λ v. v.items) w.patterns-is ∙ w.in_ok-push.ensures.items
          ∙ one_made (default_down c.args.levels c.args.tree.now c.args.more) (is_in c.args.tree.now c.args.parent) c.loop-cell.cell c.loop-cell.patterns.items _
          c.loop-cell.invariant w.if-is_in.ensures w.in_ok-default_down.ensures
      | defaults_in-else-is_in w ↦
          ap (λ v. v.items) w.patterns-is
          ∙ none_made (default_down c.args.levels c.args.tree.now c.args.more) (is_in c.args.tree.now c.args.parent) c.loop-cell.cell c.loop-cell.patterns.items
          c.loop-cell.invariant w.if-is_in.ensures
    ]
