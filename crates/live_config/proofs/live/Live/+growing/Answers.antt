use Rattle.std.proofs.Common.{arith, ap, ◌∙◌, ◌≤◌, map, filter, length}
use Rattle.std.proofs.lemmas.List.{take_all}
use Rattle.rule_terms.specs.Fill.{plain_cell}
use Rattle.live_config.specs.Configuration.{is_child_of, tree}
use Rattle.live_config.proofs.Trees.{tree_zero, tree_none, tree_some, trees_below}
use Rattle.live_config.proofs.live.Live.+growing.Goals as goal

pub tree-returns-then-levels-eq0 : goal.tree-returns-then-levels-eq0
tree-returns-then-levels-eq0 m c = record { ok = c.no_cell.ensures ∙ tree_zero c.args.levels c.args.self.now.now c.args.number c.if-levels-eq0.true }

-- the cell is there
pub tree-returns-in_ok-trees_below-in-Some : goal.tree-returns-in_ok-trees_below-in-Some
tree-returns-in_ok-trees_below-in-Some m c = record {
  ok =
      (λ i. plain_cell c.in-Some.cell.now.kind (c.in_ok-copy_content-in-Some.ensures.ok i) (c.in_ok-trees_below-in-Some.ensures.ok i))
      ∙ tree_some c.args.levels c.args.self.now.now c.args.number c.in-Some.cell.now c.in-Some.ensures (omega (arith, c.if-levels-eq0.false));
}

-- it is not there
pub tree-returns-in-None : goal.tree-returns-in-None
tree-returns-in-None m c = record { ok = c.no_cell-in-None.ensures ∙ tree_none c.args.levels c.args.self.now.now c.args.number c.in-None.ensures }

-- all cells have been gone through
pub trees_below-returns : goal.trees_below-returns
trees_below-returns m c =
    let past : length c.deref-child-items.result.now ≤ c.loop-child.child-index = omega (arith, c.loop-child-test.false) in
    let all = take_all c.loop-child.child-index c.deref-child-items.result.now past ∙ c.deref-child-items.ensures.value ∙ ap (λ s. s.now.cells) c.self.view_is in
    record {
      ok =
          c.from_vec.ensures
          ∙ c.loop-child.invariant
          ∙ ap (λ es. map (λ e. tree c.args.levels c.args.self.now.now e.0) (filter (λ e. is_child_of c.args.number e.1) es)) all
          ∙ trees_below c.args.levels c.args.self.now.now c.args.number;
    }
