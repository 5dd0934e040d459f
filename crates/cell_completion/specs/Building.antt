-- How the least completion is built, from the leaves up: internal.
use Rattle.std.specs.Prelude.{ℕ, ◌+◌, Bool, true, not, ◌==◌, ◌&&◌, ◌||◌, nat_lt, nat_le, cond, List, [], ◌∷◌, ◌++◌, Option, Some, None, map, filter, slice_get, length, zero, suc, ◌-◌, ◌≤◌, Contains}
use Rattle.std.specs.Option.{option_map, option_and_then, option_eq}
use Rattle.std.specs.List.{list_all}
use Rattle.rule_terms.specs.declared.defs.CellShape.{CellShape}
use Rattle.cell_completion.specs.declared.tree.Written.{Written}
use Rattle.cell_completion.specs.declared.tree.Tree.{Tree, out-Tree, roll-Tree}
use Rattle.cell_completion.specs.declared.completing.Standing.{Standing}
use Rattle.cell_completion.specs.Trees.{first_mark}
use Rattle.cell_completion.specs.Completion.{is_many}

abbrev pub same_number : Option ℕ → Option ℕ → Bool
same_number a b = option_eq (λ m n. m == n) a b

-- the number of the cell that a declared cell stands in
abbrev pub parent_of : List CellShape → ℕ → Option ℕ
parent_of shapes cell = option_and_then (λ (shape : CellShape). shape.parent) (slice_get shapes cell)

abbrev pub stands_in : List CellShape → Option ℕ → Tree → Bool
stands_in shapes parent t = same_number (parent_of shapes (out-Tree t).cell) parent

-- ---- trees in order

-- by declared cells, and those of one by their first written cells
abbrev pub stands_before : Tree → Tree → Bool
stands_before t u =
    nat_lt (out-Tree t).cell (out-Tree u).cell
    || ((out-Tree t).cell == (out-Tree u).cell && nat_lt (first_mark t) (first_mark u))

-- how many of these stand before a tree
abbrev pub place_of : Tree → List Tree → ℕ
place_of t [] = 0
place_of t (u ∷ us) = cond (stands_before u t) (suc (place_of t us)) 0

-- a tree behind those that stand before it
abbrev pub inserted : Tree → List Tree → List Tree
inserted t [] = t ∷ []
inserted t (u ∷ us) = cond (stands_before u t) (u ∷ inserted t us) (t ∷ u ∷ us)

abbrev pub all_inserted : List Tree → List Tree → List Tree
all_inserted [] us = us
all_inserted (t ∷ ts) us = all_inserted ts (inserted t us)

-- ---- the cells of one declared cell

-- the trees in order have room in one cell: none of a cell that is not repeated stands beside another of it
abbrev pub have_room : List CellShape → List Tree → Bool
have_room shapes [] = true
have_room shapes (t ∷ []) = true
have_room shapes (t ∷ u ∷ us) =
    (not ((out-Tree t).cell == (out-Tree u).cell) || is_many shapes (out-Tree t).cell) && have_room shapes (u ∷ us)

-- all are of one cell that is not repeated
abbrev pub are_of : ℕ → List Tree → Bool
are_of cell ts = list_all (λ (t : Tree). (out-Tree t).cell == cell) ts

abbrev pub are_single : List CellShape → List Tree → Bool
are_single shapes [] = true
are_single shapes (t ∷ ts) = not (is_many shapes (out-Tree t).cell) && are_of (out-Tree t).cell (t ∷ ts)

-- an added cell
abbrev pub added_cell : ℕ → List Tree → Tree
added_cell cell inside = roll-Tree (record { cell = cell; mark = None; inside = inside })

abbrev pub each_added : ℕ → List Tree → List Tree
each_added cell ts = map (λ t. added_cell cell (t ∷ [])) ts

-- the added cells of a declared cell around these trees, which stand in such cells
abbrev pub gathered : List CellShape → ℕ → List Tree → Option (List Tree)
gathered shapes cell [] = Some []
gathered shapes cell (t ∷ ts) =
    cond (have_room shapes (t ∷ ts)) (Some (added_cell cell (t ∷ ts) ∷ []))
    (cond (are_single shapes (t ∷ ts)) (Some (each_added cell (t ∷ ts))) None)

-- ---- the cells in a written one

-- the trees with those that stand in a declared cell put into added ones
abbrev pub stage : List CellShape → ℕ → List Tree → Option (List Tree)
stage shapes cell ts =
    option_map (λ new. all_inserted new (filter (λ t. not (stands_in shapes (Some cell) t)) ts))
    (gathered shapes cell (filter (stands_in shapes (Some cell)) ts))

-- the same for so many declared cells from one on, the greatest first
abbrev pub stages : List CellShape → ℕ → ℕ → List Tree → Option (List Tree)
stages shapes first zero ts = Some ts
stages shapes first (suc n) ts = option_and_then (stages shapes first n) (stage shapes (first + n) ts)

-- the declared cells from the one behind a cell on
abbrev pub behind : List CellShape → ℕ → ℕ
behind shapes cell = length shapes - (cell + 1)

-- trees in order that all stand directly in a cell, and have room in it
abbrev pub children_in : List CellShape → Option ℕ → List Tree → Option (List Tree)
children_in shapes cell ts = cond (list_all (stands_in shapes cell) ts && have_room shapes ts) (Some ts) None

-- The cells directly in a written one, from the trees of those that it encloses. No cell is added in one that is on one side
-- alone.
abbrev pub inside_of : List CellShape → Written → List Tree → Option (List Tree)
inside_of shapes w ts =
    option_and_then (children_in shapes (Some w.cell))
    (cond w.both (stages shapes (w.cell + 1) (behind shapes w.cell) (all_inserted ts [])) (Some (all_inserted ts [])))

-- ---- all cells

-- a written cell with the trees of those that it encloses, which stood alone until now
abbrev pub is_enclosed : ℕ → Standing → Bool
is_enclosed mark s = same_number s.above (Some mark)

abbrev pub written_cell : Written → List Tree → Standing
written_cell w inside =
    record { above = w.above; tree = roll-Tree (record { cell = w.cell; mark = Some w.mark; inside = inside }) }

abbrev pub with_cell : List CellShape → Written → List Standing → Option (List Standing)
with_cell shapes w standing =
    option_map (λ inside. filter (λ s. not (is_enclosed w.mark s)) standing ++ written_cell w inside ∷ [])
    (inside_of shapes w (map (λ (s : Standing). s.tree) (filter (is_enclosed w.mark) standing)))

-- the trees of written cells that none of these encloses
abbrev pub built : List CellShape → List Written → Option (List Standing)
built shapes [] = Some []
built shapes (w ∷ ws) = option_and_then (with_cell shapes w) (built shapes ws)

-- one tree, the root
abbrev pub only_root : List CellShape → List Tree → Option Tree
only_root shapes [] = None
only_root shapes (t ∷ []) = cond (stands_in shapes None t) (Some t) None
only_root shapes (t ∷ u ∷ us) = None

abbrev pub completed : List CellShape → List Written → Option Tree
completed shapes ws =
    option_and_then (λ (standing : List Standing). option_and_then (only_root shapes)
    (stages shapes 0 (length shapes) (all_inserted (map (λ (s : Standing). s.tree) standing) [])))
    (built shapes ws)

-- ---- the first one that a test has

abbrev pub earlier_of : Option Written → Written → Written
earlier_of None w = w
earlier_of (Some v) w = cond (nat_le v.mark w.mark) v w

-- the one of the least mark for which something holds, or that there is none
abbrev pub IsFirstIn : (Written → Type 0) → List Written → Option Written → Type 0
IsFirstIn P ws None = (w : Written) → Contains ws w → P w → ⊥
IsFirstIn P ws (Some v) = Contains ws v × P v × ((w : Written) → Contains ws w → P w → v.mark ≤ w.mark)
