use Rattle.std.proofs.Common.{◌≡◌, length, ap, ◌∙◌, arith}
use Rattle.std.specs.List.{filter, flat_map, range_with_len}
use Rattle.cell_trees.specs.Defaults.{is_in}
use Rattle.rule_completion.specs.Completed.{child_or_default}
use Rattle.rule_completion.proofs.Filled.{one_filled, none_filled}
use Rattle.rule_completion.proofs.filling.with_defaults.Goals as goal
use Rattle.rule_completion.proofs.filling.with_defaults.Goals.{then-is_in+in_ok-add_or_default, else-is_in}

pub returns : goal.returns
returns c =
    let end = c.loop-child.auto.child-end in
    let past = c.loop-child-test.false in
    let same = ap length c.shapes.ensures in
    let all : c.loop-child.child ≡ length c.args.tree.now.shapes = omega (arith, end, past, same) in
    c.from_vec.ensures ∙ c.loop-child.invariant
    ∙ ap (λ n. flat_map (child_or_default c.args.tree.now c.args.more c.args.inside.now) (filter (is_in c.args.tree.now c.args.cell) (range_with_len 0 n))) all

pub loop-child-preserved : goal.loop-child-preserved
loop-child-preserved c =
    elim c.if-is_in.branch [
      | then-is_in+in_ok-add_or_default w ↦
          one_filled (child_or_default c.args.tree.now c.args.more c.args.inside.now) (is_in c.args.tree.now c.args.cell) c.loop-child.child c.loop-child.all.items c.if-is_in.all.items
          c.loop-child.invariant w.if-is_in.ensures (ap (λ v. v.items) w.all-is ∙ w.in_ok-add_or_default.ensures)
      | else-is_in w ↦
          none_filled (child_or_default c.args.tree.now c.args.more c.args.inside.now) (is_in c.args.tree.now c.args.cell) c.loop-child.child c.loop-child.all.items c.if-is_in.all.items
          c.loop-child.invariant w.if-is_in.ensures (ap (λ v. v.items) w.all-is)
    ]
