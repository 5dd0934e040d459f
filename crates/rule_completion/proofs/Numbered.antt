-- Trees of a list, one after the other.
use Rattle.std.proofs.Common.{◌≡◌, ℕ, zero, suc, ◌+◌, ◌<◌, ◌≤◌, Bool, true, List, [], ◌∷◌, ◌++◌, length, drop, get_or, refl, ap, arith}
use Rattle.std.proofs.Math.Seq.{drop-cons}
use Rattle.std.specs.List.{list_all}
use Rattle.rule_terms.specs.declared.rule.Draft.{Draft}
use Rattle.rule_terms.proofs.Defined.{both}
use Rattle.cell_completion.specs.declared.tree.Tree.{Tree}
use Rattle.cell_completion.proofs.Unfolded.{inside}
use Rattle.cell_trees.specs.Trees.{Tree as Declaration}
use Rattle.rule_completion.specs.Numbering.{is_few, count, count_all}
use Rattle.rule_completion.specs.Completed.{on_side, all_on_side}
use Rattle.rule_completion.proofs.Few.{few_inside}

pub all_at : (ts : List Tree) (i : ℕ) (d : Tree) → list_all is_few ts ≡ true → i < length ts → is_few (get_or ts i d) ≡ true
all_at [] i d e less = absurd (omega (arith, less))
all_at (t ∷ ts) zero d e less = (both (is_few t) (list_all is_few ts) e).0
all_at (t ∷ ts) (suc i) d e less = all_at ts i d (both (is_few t) (list_all is_few ts) e).1 (omega (arith, less))

-- the numbers of a cell in a tree are low where those of the tree are
pub few_at : (t : Tree) (i : ℕ) (d : Tree) → is_few t ≡ true → i < length (inside t) → is_few (get_or (inside t) i d) ≡ true
few_at t i d e less = all_at (inside t) i d (few_inside t e) less

-- what is counted of a list so far, and what is left
pub counts_go_on : (ts : List Tree) (i : ℕ) (d : Tree) → i < length ts → count_all (drop i ts) ≡ count (get_or ts i d) + count_all (drop (suc i) ts)
counts_go_on ts i d less = ap count_all (drop-cons ts i d less)

module _ (d : Declaration) (draft : Draft) (total : ℕ) (left : Bool) where
  pub sides_go_on : (number : ℕ) (ts : List Tree) (i : ℕ) (e : Tree) → i < length ts
      → all_on_side d draft total left number (drop i ts)
      ≡ on_side d draft total left number (get_or ts i e) ++ all_on_side d draft total left (number + count (get_or ts i e)) (drop (suc i) ts)
  sides_go_on number ts i e less = ap (all_on_side d draft total left number) (drop-cons ts i e less)

  pub none_left : (number : ℕ) (ts : List Tree) (i : ℕ) → length ts ≤ i → all_on_side d draft total left number (drop i ts) ≡ []
  none_left number [] zero past = refl
  none_left number [] (suc i) past = refl
  none_left number (t ∷ ts) zero past = absurd (omega (arith, past))
  none_left number (t ∷ ts) (suc i) past = none_left number ts i (omega (arith, past))
