use Rattle.std.proofs.Common.{ap, ◌∙◌, arith}
use Rattle.rule_completion.specs.Numbering.{is_few, count}
use Rattle.rule_completion.proofs.Numbered.{all_at, counts_go_on}
use Rattle.rule_completion.proofs.Few.{few_own_mark}
use Rattle.rule_completion.proofs.Siding.{few_for, numbers_added, numbers_written, side_added, side_written}
use Rattle.rule_completion.proofs.Sizes.{smaller_inside, smaller_at}
use Rattle.rule_completion.proofs.side.+siding.Goals as goal

pub add_tree-trees_on-requires : goal.add_tree-trees_on-requires
add_tree-trees_on-requires t c =
    let smaller = smaller_inside c.args.tree.now c.as_slice.result.now c.as_slice.ensures in
    let measure = c.decreases in (
      omega (arith, smaller, measure),
      (
        few_for c.args.tree.now c.as_slice.result.now c.as_slice.ensures c.requires.few,
        (
          c.requires.total,
          (numbers_added c.args.tree.now c.as_slice.result.now c.args.number c.args.side.now.total c.in-None.is c.as_slice.ensures c.requires.numbers, c.requires.vars),
        ),
      ),
    )

pub add_tree-trees_on-requires-in-Some : goal.add_tree-trees_on-requires-in-Some
add_tree-trees_on-requires-in-Some t c =
    let smaller = smaller_inside c.args.tree.now c.as_slice-in-Some.result.now c.as_slice-in-Some.ensures in
    let measure = c.decreases in (
      omega (arith, smaller, measure),
      (
        few_for c.args.tree.now c.as_slice-in-Some.result.now c.as_slice-in-Some.ensures c.requires.few,
        (
          c.requires.total,
          (numbers_written c.args.tree.now c.as_slice-in-Some.result.now c.args.number c.args.side.now.total c.in-Some.mark c.in-Some.is c.as_slice-in-Some.ensures c.requires.numbers, c.requires.vars),
        ),
      ),
    )

pub add_tree-add_written-requires-clause-few : goal.add_tree-add_written-requires-clause-few
add_tree-add_written-requires-clause-few t c = few_own_mark c.args.tree.now c.in-Some.mark c.requires.few c.in-Some.is

pub add_tree-returns-in_ok-add_added-in-None : goal.add_tree-returns-in_ok-add_added-in-None
add_tree-returns-in_ok-add_added-in-None t c =
    side_added c.args.side.now.tree.now c.args.side.now.draft.now c.args.side.now.total c.args.side.now.is_left c.args.number c.args.tree.now
    c.as_slice.result.now c.in_ok-inside-in-None.inside c.args.cells.now.items c.add_added.new.cells.items c.in-None.is c.as_slice.ensures
    c.in_ok-inside-in-None.ensures c.in_ok-add_added-in-None.ensures

pub add_tree-returns-in_ok-add_written-in-Some : goal.add_tree-returns-in_ok-add_written-in-Some
add_tree-returns-in_ok-add_written-in-Some t c =
    side_written c.args.side.now.tree.now c.args.side.now.draft.now c.args.side.now.total c.args.side.now.is_left c.args.number c.args.tree.now c.in-Some.mark
    c.as_slice-in-Some.result.now c.in_ok-inside-in-Some.inside c.args.cells.now.items c.add_written.new.cells.items c.in-Some.is c.as_slice-in-Some.ensures
    c.in_ok-inside-in-Some.ensures c.in_ok-add_written-in-Some.ensures

pub trees_on-add_tree-requires : goal.trees_on-add_tree-requires
trees_on-add_tree-requires t c =
    let smaller = smaller_at c.args.trees.now c.loop-tree.tree-index c.tree-item.result c.loop-tree-test.true c.tree-item.is in
    let measure = c.decreases in
    let so_far = c.loop-tree.invariant.0 in
    let more = counts_go_on c.args.trees.now c.loop-tree.tree-index c.tree-item.result c.loop-tree-test.true in
    let one = ap count c.tree-item.is in
    let low = c.requires.numbers in (
      omega (arith, smaller, measure),
      (
        ap is_few c.tree-item.is ∙ all_at c.args.trees.now c.loop-tree.tree-index c.tree-item.result c.requires.few c.loop-tree-test.true,
        (c.requires.total, (omega (arith, so_far, more, one, low), c.requires.vars)),
      ),
    )
