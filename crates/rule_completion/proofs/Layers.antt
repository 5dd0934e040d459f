-- A side of a rule, and the number of added cells, one cell after the other.
use Rattle.std.proofs.Common.{◌≡◌, ℕ, suc, ◌+◌, Bool, ◌++◌, Some, None, refl, sym, ap, ◌∙◌, arith}
use denote.Hole.Carrier.{out}
use mathlib.Core.Former.{Count}
use Rattle.rule_terms.specs.declared.rule.Draft.{Draft}
use Rattle.cell_completion.specs.declared.tree.Tree.{Tree, Tree', out-Tree, Row_of-Tree, end_of-Tree, more_of-Tree}
use Rattle.cell_completion.specs.declared.tree.Tree.TheBlock.{items-the_row-Tree, items_shown-the_row-Tree-0}
use Rattle.cell_completion.proofs.Unfolded.{cell_of, mark_of, inside}
use Rattle.cell_trees.specs.Trees.{Tree as Declaration}
use Rattle.rule_completion.specs.Numbering.{own_count, count, row_count, count_all}
use Rattle.rule_completion.specs.Completed.{added_cell, written_cell, on_side, row_on_side, all_on_side}

-- ---- counts

row_count_is : {n : Count} (row : Row_of-Tree n) → row_count row ≡ count_all (items-the_row-Tree n row)
unfolding row_count
row_count_is end_of-Tree = refl
row_count_is (more_of-Tree t ts) = ap (λ k. count t + k) (row_count_is ts)

pub count_added : (t : Tree) → mark_of t ≡ None → count t ≡ suc (count_all (inside t))
unfolding count out-Tree out
count_added (Tree' cell None s row) is = ap suc (row_count_is row ∙ ap count_all (sym (items_shown-the_row-Tree-0 s row)))
count_added (Tree' cell (Some mark) s row) is = absurd (let f : Some mark ≡ None = is in cc)

pub count_written : (t : Tree) (mark : ℕ) → mark_of t ≡ Some mark → count t ≡ count_all (inside t)
unfolding count out-Tree out
count_written (Tree' cell None s row) mark is = absurd (let f : None ≡ Some mark = is in cc)
count_written (Tree' cell (Some m) s row) mark is = row_count_is row ∙ ap count_all (sym (items_shown-the_row-Tree-0 s row))

pub count_is : (t : Tree) → count t ≡ own_count t + count_all (inside t)
count_is t =
    elim (mark_of t) as (λ o. mark_of t ≡ o → count t ≡ elim o [ None ↦ 1 | Some _ ↦ 0 ] + count_all (inside t)) [
      | None ↦ λ is. count_added t is ∙ omega arith
      | Some mark ↦ λ is. count_written t mark is ∙ omega arith
    ] refl

-- ---- sides

module _ (d : Declaration) (draft : Draft) (total : ℕ) (left : Bool) where
  row_is : {n : Count} (number : ℕ) (row : Row_of-Tree n)
      → row_on_side d draft total left number row ≡ all_on_side d draft total left number (items-the_row-Tree n row)
  unfolding row_on_side
  row_is number end_of-Tree = refl
  row_is number (more_of-Tree t ts) = ap (λ cells. on_side d draft total left number t ++ cells) (row_is (number + count t) ts)

  -- an added cell, and a written one, with what those in it are
  pub added_is : (number : ℕ) (t : Tree) → mark_of t ≡ None
      → on_side d draft total left number t ≡ added_cell draft number (cell_of t) (all_on_side d draft total left (suc number) (inside t))
  unfolding on_side out-Tree out
  added_is number (Tree' cell None s row) is =
      ap (added_cell draft number cell) (row_is (suc number) row ∙ ap (all_on_side d draft total left (suc number)) (sym (items_shown-the_row-Tree-0 s row)))
  added_is number (Tree' cell (Some mark) s row) is = absurd (let f : Some mark ≡ None = is in cc)

  pub written_is : (number : ℕ) (t : Tree) (mark : ℕ) → mark_of t ≡ Some mark
      → on_side d draft total left number t ≡ written_cell d draft total left mark (cell_of t) (all_on_side d draft total left number (inside t))
  unfolding on_side out-Tree out
  written_is number (Tree' cell None s row) mark is = absurd (let f : None ≡ Some mark = is in cc)
  written_is number (Tree' cell (Some m) s row) mark is =
      let same : m ≡ mark = (let f : Some m ≡ Some mark = is in cc) in
      ap (written_cell d draft total left m cell) (row_is number row ∙ ap (all_on_side d draft total left number) (sym (items_shown-the_row-Tree-0 s row)))
      ∙ ap (λ k. written_cell d draft total left k cell (all_on_side d draft total left number (inside (Tree' cell (Some m) s row)))) same
