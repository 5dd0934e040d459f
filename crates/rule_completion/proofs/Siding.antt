-- A tree on a side, from what is found of the trees in it.
use Rattle.std.proofs.Common.{◌≡◌, ℕ, suc, ◌+◌, ◌≤◌, Bool, true, List, ◌++◌, Some, None, sym, ap, ◌∙◌, arith}
use Rattle.std.specs.List.{list_all}
use Rattle.rule_terms.specs.declared.pattern.CellPat.{CellPat}
use Rattle.rule_terms.specs.declared.rule.Draft.{Draft}
use Rattle.cell_completion.specs.declared.tree.Tree.{Tree}
use Rattle.cell_completion.proofs.Unfolded.{cell_of, mark_of, inside}
use Rattle.cell_trees.specs.Trees.{Tree as Declaration}
use Rattle.rule_completion.specs.Numbering.{is_few, count, count_all}
use Rattle.rule_completion.specs.Completed.{added_cell, written_cell, on_side, all_on_side}
use Rattle.rule_completion.proofs.Few.{few_inside}
use Rattle.rule_completion.proofs.Layers.{count_added, count_written, added_is, written_is}

pub few_for : (t : Tree) (lent : List Tree) → lent ≡ inside t → is_few t ≡ true → list_all is_few lent ≡ true
few_for t lent same few = ap (list_all is_few) same ∙ few_inside t few

pub numbers_added : (t : Tree) (lent : List Tree) (number total : ℕ) → mark_of t ≡ None → lent ≡ inside t → number + count t ≤ total
    → number + 1 + count_all lent ≤ total
numbers_added t lent number total is same low =
    let counted = count_added t is in
    let all = ap count_all same in
    omega (arith, counted, all, low)

pub numbers_written : (t : Tree) (lent : List Tree) (number total mark : ℕ) → mark_of t ≡ Some mark → lent ≡ inside t → number + count t ≤ total
    → number + count_all lent ≤ total
numbers_written t lent number total mark is same low =
    let counted = count_written t mark is in
    let all = ap count_all same in
    omega (arith, counted, all, low)

module _ (d : Declaration) (draft : Draft) (total : ℕ) (left : Bool) where
  pub side_added : (number : ℕ) (t : Tree) (lent : List Tree) (cells old new : List CellPat) → mark_of t ≡ None → lent ≡ inside t
      → cells ≡ all_on_side d draft total left (number + 1) lent → new ≡ old ++ added_cell draft number (cell_of t) cells
      → new ≡ old ++ on_side d draft total left number t
  side_added number t lent cells old new is same found made =
      let next : number + 1 ≡ suc number = omega arith in
      made
      ∙ ap (λ cs. old ++ added_cell draft number (cell_of t) cs) (found ∙ (λ i. all_on_side d draft total left (next i) (same i)))
      ∙ ap (λ cs. old ++ cs) (sym (added_is d draft total left number t is))

  pub side_written : (number : ℕ) (t : Tree) (mark : ℕ) (lent : List Tree) (cells old new : List CellPat) → mark_of t ≡ Some mark → lent ≡ inside t
      → cells ≡ all_on_side d draft total left number lent → new ≡ old ++ written_cell d draft total left mark (cell_of t) cells
      → new ≡ old ++ on_side d draft total left number t
  side_written number t mark lent cells old new is same found made =
      made
      ∙ ap (λ cs. old ++ written_cell d draft total left mark (cell_of t) cs) (found ∙ ap (all_on_side d draft total left number) same)
      ∙ ap (λ cs. old ++ cs) (sym (written_is d draft total left number t mark is))
