use Rattle.std.proofs.Common.{◌++◌, codes, ◌∙◌}
use Rattle.std.proofs.lemmas.Result.{IfOk-weaker}
use Rattle.printed_form.specs.Words.{words_of}
use Rattle.printed_form.specs.Configurations.{child_lines, names_of}
use Rattle.printed_form.proofs.Cells.{inner_at, leaf_at}
use Rattle.printed_form.proofs.Sorting.{children_at}
use Rattle.printed_form.proofs.configurations.+lines.Goals as goal

pub cell_text-returns-in_ok-children-in-Cells : goal.cell_text-returns-in_ok-children-in-Cells
cell_text-returns-in_ok-children-in-Cells t c =
    record {
      ok = IfOk-weaker c.inner_text.result _ _ (λ text is. is ∙ inner_at _ _ _ _ _ _ _ _ c.name_or_nothing-name.ensures c.in-Cells.is c.as_slice.ensures c.in_ok-children-in-Cells.ensures.ok c.deref.ensures.value) c.inner_text.ensures.ok;
    }

pub cell_text-returns-in_default : goal.cell_text-returns-in_default
cell_text-returns-in_default t c =
    record {
      ok = IfOk-weaker c.leaf_text.result _ _ (λ text is. is ∙ leaf_at (words_of c.args.words.now) (names_of c.args.cells.now) c.args.indent.now c.name_or_nothing-name.result.now c.args.plain.now c.name_or_nothing-name.ensures c.in_default.not-Cells) c.leaf_text.ensures.ok;
    }

pub children_lines-returns : goal.children_lines-returns
children_lines-returns t c =
    record {
      ok =
          children_at (child_lines (words_of c.args.words.now) (names_of c.args.cells.now) (c.args.indent.now ++ codes "  ")) c.args.children.now
          c.loop-child.child-index c.loop-child.lines.items c.sort.new.self.items c.loop-child-test.false c.loop-child.invariant
          c.in_ok-sort.ensures.permutation c.in_ok-sort.ensures.sorted;
    }
