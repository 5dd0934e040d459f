-- The numbers in a completion are below their limits.
use Rattle.std.proofs.Common.{inl, inr, ◌≡◌, ℕ, ◌<◌, ◌≤◌, Bool, true, false, ◌&&◌, List, [], ◌∷◌, length, Option, Some, None, refl, sym, ap, ◌∙◌, arith}
use Rattle.std.proofs.lemmas.Bool.{lt-ltb, ltb-true}
use Rattle.std.proofs.lemmas.Option.{slice_get_within}
use Rattle.std.specs.Prelude.{nat_lt, Contains}
use Rattle.std.specs.Option.{option_map_or}
use Rattle.std.specs.List.{list_all}
use denote.Hole.Carrier.{out}
use mathlib.Core.Former.{Count}
use Rattle.rule_terms.specs.Sound.{cell_limit}
use Rattle.rule_terms.specs.declared.defs.CellShape.{CellShape}
use Rattle.rule_terms.proofs.Defined.{both}
use Rattle.live_config.proofs.Members.{Has}
use Rattle.cell_completion.specs.declared.tree.Written.{Written}
use Rattle.cell_completion.specs.declared.tree.Tree.{Tree, Tree', out-Tree, Row_of-Tree, end_of-Tree, more_of-Tree}
use Rattle.cell_completion.specs.declared.tree.Tree.TheBlock.{items-the_row-Tree, items_shown-the_row-Tree-0}
use Rattle.cell_completion.specs.Completion.{is_both, IsAsWritten, IsPlaced, IsCompletion}
use Rattle.cell_completion.proofs.Unfolded.{cell_of, mark_of, inside, placed_cell, placed_inside, tree_induction}
use Rattle.rule_completion.specs.Numbering.{mark_limit, is_few, row_is_few}

joins : (a b : Bool) → a ≡ true → b ≡ true → (a && b) ≡ true
joins true b e f = f
joins false b e f = cc

row_is : {n : Count} (row : Row_of-Tree n) → row_is_few row ≡ list_all is_few (items-the_row-Tree n row)
unfolding row_is_few
row_is end_of-Tree = refl
row_is (more_of-Tree t ts) = ap (λ b. is_few t && b) (row_is ts)

abbrev few_mark : Option ℕ → Bool
few_mark mark = option_map_or (λ m. nat_lt m mark_limit) mark true

few_is : (t : Tree) → is_few t ≡ (nat_lt (cell_of t) cell_limit && few_mark (mark_of t) && list_all is_few (inside t))
unfolding is_few out-Tree out
few_is (Tree' cell mark s row) =
    ap (λ b. nat_lt cell cell_limit && few_mark mark && b) (row_is row ∙ ap (list_all is_few) (sym (items_shown-the_row-Tree-0 s row)))

all_few : (ts : List Tree) → ((u : Tree) → Has ts u → is_few u ≡ true) → list_all is_few ts ≡ true
all_few [] each = refl
all_few (t ∷ ts) each = joins (is_few t) (list_all is_few ts) (each t (inl refl)) (all_few ts (λ u h. each u (inr h)))

-- what it says of a tree
pub few_cell : (t : Tree) → is_few t ≡ true → cell_of t < cell_limit
few_cell t e =
    let all = sym (few_is t) ∙ e in
    ltb-true (cell_of t) cell_limit (both (nat_lt (cell_of t) cell_limit) (few_mark (mark_of t)) (both (nat_lt (cell_of t) cell_limit && few_mark (mark_of t)) (list_all is_few (inside t)) all).0).0

pub few_own_mark : (t : Tree) (m : ℕ) → is_few t ≡ true → mark_of t ≡ Some m → m < mark_limit
few_own_mark t m e is =
    let all = sym (few_is t) ∙ e in
    let own = (both (nat_lt (cell_of t) cell_limit) (few_mark (mark_of t)) (both (nat_lt (cell_of t) cell_limit && few_mark (mark_of t)) (list_all is_few (inside t)) all).0).1 in
    ltb-true m mark_limit (ap few_mark (sym is) ∙ own)

pub few_inside : (t : Tree) → is_few t ≡ true → list_all is_few (inside t) ≡ true
few_inside t e = (both (nat_lt (cell_of t) cell_limit && few_mark (mark_of t)) (list_all is_few (inside t)) (sym (few_is t) ∙ e)).1

module _ (shapes : List CellShape) (ws : List Written) (few : length shapes ≤ cell_limit) (few_marks : (w : Written) → Contains ws w → w.mark < mark_limit) where
  own_few : (around : Option ℕ) (cell : ℕ) (mark : Option ℕ) (ts : List Tree) → IsAsWritten shapes ws around cell mark ts → few_mark mark ≡ true
  own_few around cell None ts w = refl
  own_few around cell (Some m) ts w = lt-ltb m mark_limit (few_marks (record { mark = m; cell = cell; above = around; both = is_both ws (Some m) }) w)

  abbrev IsFewWhere : Tree → Type 0
  IsFewWhere t = (parent around : Option ℕ) (outer : Bool) → IsPlaced shapes ws parent around outer t → is_few t ≡ true

  placed_few : (t : Tree) → IsFewWhere t
  placed_few = tree_induction IsFewWhere (λ t each parent around outer placed.
      let cell = placed_cell shapes ws parent around outer t placed in
      let within = slice_get_within shapes (cell_of t) cell.declared.shape cell.declared.declared in
      let low : nat_lt (cell_of t) cell_limit ≡ true = lt-ltb (cell_of t) cell_limit (omega (arith, within, few)) in
      few_is t
      ∙ joins (nat_lt (cell_of t) cell_limit && few_mark (mark_of t)) (list_all is_few (inside t))
      (joins (nat_lt (cell_of t) cell_limit) (few_mark (mark_of t)) low (own_few around (cell_of t) (mark_of t) (inside t) cell.written))
      (all_few (inside t) (λ u h. each u h _ _ _ (placed_inside shapes ws parent around outer t placed u h))))

  pub completion_few : (t : Tree) → IsCompletion shapes ws t → is_few t ≡ true
  completion_few t is = placed_few t None None true is.placed
