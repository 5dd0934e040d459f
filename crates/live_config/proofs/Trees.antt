-- The tree of a configuration as it is built: cell by cell, and from the children among the cells.
use Rattle.std.proofs.Common.{arith, ◌≡◌, ℕ, suc, zero, ◌<◌, ◌-◌, List, [], ◌∷◌, map, filter, refl, sym, ap, ◌∙◌, Some, None}
use Rattle.std.specs.Prelude.{is_none}
use Rattle.rule_terms.specs.declared.plain.Plain.{Plain}
use Rattle.rule_terms.specs.Fill.{plain_cell}
use Rattle.live_config.specs.declared.cell.Cell.{Cell}
use Rattle.live_config.specs.Configuration.{Configuration, cell_at, is_child_of, below, first_number, root_of, level_limit, no_cell, tree, plain}
use Rattle.live_config.specs.Live.{has_parent, children_past}
use Rattle.live_config.proofs.Entries.{all_kept}

pub tree_zero : (levels : ℕ) (c : Configuration) (n : ℕ) → levels ≡ 0 → no_cell ≡ tree levels c n
unfolding tree
tree_zero levels c n none = ap (λ k. tree k c n) (sym none)

pub tree_none : (levels : ℕ) (c : Configuration) (n : ℕ) → None ≡ cell_at c n → no_cell ≡ tree levels c n
unfolding tree
tree_none zero c n there = refl
tree_none (suc levels) c n there = ap (λ o. elim o [ None ↦ no_cell | Some cell ↦ plain_cell cell.kind cell.content (map (tree levels c) (below c n)) ]) there

pub tree_some : (levels : ℕ) (c : Configuration) (n : ℕ) (cell : Cell) → Some cell ≡ cell_at c n → 0 < levels → plain_cell cell.kind cell.content (map (tree (levels - 1) c) (below c n)) ≡ tree levels c n
unfolding tree
tree_some zero c n cell there some = absurd (omega (arith, some))
tree_some (suc levels) c n cell there some =
    ap (λ k. plain_cell cell.kind cell.content (map (tree k c) (below c n))) {x = suc levels - 1} {y = levels} (omega arith)
    ∙ ap (λ o. elim o [ None ↦ no_cell | Some cell ↦ plain_cell cell.kind cell.content (map (tree levels c) (below c n)) ]) there

map_numbers : (f : ℕ → Plain) (es : List (ℕ × Cell)) → map (λ e. f e.0) es ≡ map f (map (λ e. e.0) es)
map_numbers f [] = refl
map_numbers f (e ∷ es) = ap (λ rest. f e.0 ∷ rest) (map_numbers f es)

pub trees_below : (levels : ℕ) (c : Configuration) (n : ℕ) → map (λ e. tree levels c e.0) (filter (λ e. is_child_of n e.1) c.cells) ≡ map (tree levels c) (below c n)
trees_below levels c n = map_numbers (tree levels c) (filter (λ e. is_child_of n e.1) c.cells)

root_test : (cell : Cell) → has_parent None cell ≡ is_none cell.parent
root_test cell = elim cell.parent as (λ p. cell.parent ≡ p → has_parent None cell ≡ is_none cell.parent) [ None ↦ λ f. rw f refl | Some m ↦ λ f. rw f refl ] refl

pub root_is : (c : Configuration) → first_number (children_past c None None) ≡ root_of c
root_is c = ap (λ es. first_number (filter (λ e. has_parent None e.1) es)) (all_kept c.cells) ∙ (λ i. first_number (filter (λ e. root_test e.1 i) c.cells))

pub plain_some : (c : Configuration) (n : ℕ) → Some n ≡ root_of c → tree level_limit c n ≡ plain c
plain_some c n e = ap (λ o. elim o [ None ↦ no_cell | Some n ↦ tree level_limit c n ]) e

pub plain_none : (c : Configuration) → None ≡ root_of c → no_cell ≡ plain c
plain_none c e = ap (λ o. elim o [ None ↦ no_cell | Some n ↦ tree level_limit c n ]) e
