-- Trees one layer at a time, and induction over them.
use Rattle.std.proofs.Common.{◌≡◌, ℕ, Bool, List, [], ◌∷◌, ◌++◌, Option, Some, inl, inr, refl, sym, ap, ◌∙◌, subst}
use Rattle.std.specs.List.{flat_map, AllByRecursion}
use denote.Hole.Carrier.{out}
use mathlib.Core.Former.{Count}
use Rattle.rule_terms.specs.declared.defs.CellShape.{CellShape}
use Rattle.live_config.proofs.Members.{Has}
use Rattle.cell_completion.specs.declared.tree.Written.{Written}
use Rattle.cell_completion.specs.declared.tree.Tree.{Tree, Tree', out-Tree, Row_of-Tree, end_of-Tree, more_of-Tree}
use Rattle.cell_completion.specs.declared.tree.Tree.TheBlock.{items-the_row-Tree, items_shown-the_row-Tree-0}
use Rattle.cell_completion.specs.Trees.{as_marks, marks, row_marks, around_inside, as_added, added_in, row_added}
use Rattle.cell_completion.specs.Completion.{is_both, IsCell, IsPlaced, ArePlaced}

-- ---- parts of a tree

abbrev pub cell_of : Tree → ℕ
cell_of t = (out-Tree t).cell

abbrev pub mark_of : Tree → Option ℕ
mark_of t = (out-Tree t).mark

abbrev pub inside : Tree → List Tree
inside t = (out-Tree t).inside

-- ---- lists by recursion

module _ {X : Type 0} (P : X → Type 0) where
  pub all_has : (xs : List X) (x : X) → AllByRecursion P xs → Has xs x → P x
  all_has [] x all h = absurd h
  all_has (y ∷ ys) x all (inl e) = subst P e all.0
  all_has (y ∷ ys) x all (inr h) = all_has ys x all.1 h

  pub has_all : (xs : List X) → ((x : X) → Has xs x → P x) → AllByRecursion P xs
  has_all [] each = tt
  has_all (y ∷ ys) each = (each y (inl refl), has_all ys (λ x h. each x (inr h)))

-- ---- induction

module _ (P : Tree → Type 0) (step : (t : Tree) → AllByRecursion P (inside t) → P t) where
  mutual
    unfolding out-Tree out

    pub by_trees : (t : Tree) → P t
    by_trees (Tree' cell mark s row) =
        step (Tree' cell mark s row) (subst (AllByRecursion P) (sym (items_shown-the_row-Tree-0 s row)) (by_rows row))

    by_rows : {n : Count} (row : Row_of-Tree n) → AllByRecursion P (items-the_row-Tree n row)
    by_rows end_of-Tree = tt
    by_rows (more_of-Tree t ts) = (by_trees t, by_rows ts)

-- the same with what is known of each cell inside
pub tree_induction : (P : Tree → Type 0) → ((t : Tree) → ((u : Tree) → Has (inside t) u → P u) → P t) → (t : Tree) → P t
tree_induction P step t = by_trees P (λ u all. step u (λ v h. all_has P (inside u) v all h)) t

-- ---- layers

row_marks_are : {n : Count} (row : Row_of-Tree n) → row_marks row ≡ flat_map marks (items-the_row-Tree n row)
unfolding row_marks
row_marks_are end_of-Tree = refl
row_marks_are (more_of-Tree t ts) = ap (λ ms. marks t ++ ms) (row_marks_are ts)

pub marks_are : (t : Tree) → marks t ≡ as_marks (mark_of t) ++ flat_map marks (inside t)
unfolding marks out-Tree out
marks_are (Tree' cell mark s row) =
    ap (λ ms. as_marks mark ++ ms) (row_marks_are row ∙ ap (flat_map marks) (sym (items_shown-the_row-Tree-0 s row)))

row_added_are : {n : Count} (around : Option ℕ) (row : Row_of-Tree n) → row_added around row ≡ flat_map (added_in around) (items-the_row-Tree n row)
unfolding row_added
row_added_are around end_of-Tree = refl
row_added_are around (more_of-Tree t ts) = ap (λ added. added_in around t ++ added) (row_added_are around ts)

pub added_are : (around : Option ℕ) (t : Tree)
    → added_in around t ≡ as_added around (mark_of t) t ++ flat_map (added_in (around_inside around (mark_of t))) (inside t)
unfolding added_in out-Tree out
added_are around (Tree' cell mark s row) =
    ap (λ added. as_added around mark (Tree' cell mark s row) ++ added)
    (row_added_are (around_inside around mark) row ∙ ap (flat_map (added_in (around_inside around mark))) (sym (items_shown-the_row-Tree-0 s row)))

module _ (shapes : List CellShape) (ws : List Written) where
  abbrev pub IsPlacedIn : Tree → Option ℕ → Tree → Type 0
  IsPlacedIn t around u = IsPlaced shapes ws (Some (cell_of t)) (around_inside around (mark_of t)) (is_both ws (mark_of t)) u

  rows_placed : {n : Count} (parent around : Option ℕ) (outer : Bool) (row : Row_of-Tree n)
      → ArePlaced shapes ws parent around outer row → AllByRecursion (IsPlaced shapes ws parent around outer) (items-the_row-Tree n row)
  unfolding ArePlaced
  rows_placed parent around outer end_of-Tree placed = tt
  rows_placed parent around outer (more_of-Tree t ts) placed = (placed.0, rows_placed parent around outer ts placed.1)

  placed_rows : {n : Count} (parent around : Option ℕ) (outer : Bool) (row : Row_of-Tree n)
      → AllByRecursion (IsPlaced shapes ws parent around outer) (items-the_row-Tree n row) → ArePlaced shapes ws parent around outer row
  unfolding ArePlaced
  placed_rows parent around outer end_of-Tree placed = tt
  placed_rows parent around outer (more_of-Tree t ts) placed = (placed.0, placed_rows parent around outer ts placed.1)

  -- a placed cell, and the cells in it
  pub placed_cell : (parent around : Option ℕ) (outer : Bool) (t : Tree) → IsPlaced shapes ws parent around outer t → IsCell shapes ws parent around outer t
  unfolding IsPlaced out-Tree out
  placed_cell parent around outer (Tree' cell mark s row) placed = placed.0

  pub placed_inside : (parent around : Option ℕ) (outer : Bool) (t : Tree) → IsPlaced shapes ws parent around outer t
      → (u : Tree) → Has (inside t) u → IsPlacedIn t around u
  unfolding IsPlaced out-Tree out
  placed_inside parent around outer (Tree' cell mark s row) placed u h =
      let each = rows_placed (Some cell) (around_inside around mark) (is_both ws mark) row placed.1 in
      all_has (IsPlaced shapes ws (Some cell) (around_inside around mark) (is_both ws mark)) (items-the_row-Tree _ row) u each
      (subst (λ us. Has us u) (items_shown-the_row-Tree-0 s row) h)

  pub is_placed : (parent around : Option ℕ) (outer : Bool) (t : Tree) → IsCell shapes ws parent around outer t
      → ((u : Tree) → Has (inside t) u → IsPlacedIn t around u) → IsPlaced shapes ws parent around outer t
  unfolding IsPlaced out-Tree out
  is_placed parent around outer (Tree' cell mark s row) cell_is each =
      let P = IsPlaced shapes ws (Some cell) (around_inside around mark) (is_both ws mark) in (
        cell_is,
        placed_rows (Some cell) (around_inside around mark) (is_both ws mark) row
            (subst (AllByRecursion P) (items_shown-the_row-Tree-0 s row) (has_all P (inside (Tree' cell mark s row)) each)),
      )
