-- Completions of the cells that a draft writes: whole trees of cells, and the least of them.
use Rattle.std.specs.Prelude.{◌≡◌, ◌⊎◌, ℕ, ◌<◌, ◌≤◌, Bool, true, false, ◌==◌, ◌&&◌, List, [], ◌∷◌, length, Option, Some, None, IsTrue, Contains, slice_get, filter}
use Rattle.std.specs.Option.{option_map_or, option_eq}
use Rattle.std.specs.List.{list_any, AllByRecursion}
use Rattle.rule_terms.specs.declared.defs.CellShape.{CellShape}
use Rattle.rule_terms.specs.Numbers.{all_different}
use Rattle.cell_completion.specs.declared.tree.Written.{Written}
use Rattle.cell_completion.specs.declared.tree.Tree.{Tree, Tree', out-Tree, Row_of-Tree, end_of-Tree, more_of-Tree}
use Rattle.cell_completion.specs.Trees.{around_inside, marks, first_mark, Added, added_in}

-- ---- the declared cells

-- a declared cell may occur more than once in its parent
abbrev pub is_many : List CellShape → ℕ → Bool
is_many shapes cell = option_map_or (λ (shape : CellShape). shape.many) (slice_get shapes cell) false

-- a cell is declared directly in another, or is the root
pub record IsDeclaredIn (shapes : List CellShape) (parent : Option ℕ) (cell : ℕ) : Type 0 where
  pub shape : CellShape
  pub declared : slice_get shapes cell ≡ Some shape
  pub parent_is : shape.parent ≡ parent

-- a cell is declared in another, directly or in cells of that
pub data IsBelow (shapes : List CellShape) : ℕ → ℕ → Type 0 where
  directly : {outer inner : ℕ} → IsDeclaredIn shapes (Some outer) inner → IsBelow shapes outer inner
  deeper : {outer middle inner : ℕ} → IsBelow shapes outer middle → IsDeclaredIn shapes (Some middle) inner → IsBelow shapes outer inner

-- ---- the written cells

-- a cell stands on both sides; an added one does
abbrev pub is_both : List Written → Option ℕ → Bool
is_both ws None = true
is_both ws (Some mark) = list_any (λ (w : Written). w.mark == mark && w.both) ws

-- ---- completions

-- of two cells that stand directly in one, the first is of a lower declared cell, or both are of one that is repeated and
-- the first is the earlier one of the text
abbrev pub ComesBefore : List CellShape → Tree → Tree → Type 0
ComesBefore shapes t u =
    ((out-Tree t).cell < (out-Tree u).cell)
    ⊎ (((out-Tree t).cell ≡ (out-Tree u).cell) × (is_many shapes (out-Tree t).cell ≡ true) × (first_mark t < first_mark u))

abbrev pub AreInOrder : List CellShape → List Tree → Type 0
AreInOrder shapes [] = Unit {0}
AreInOrder shapes (t ∷ []) = Unit {0}
AreInOrder shapes (t ∷ u ∷ us) = ComesBefore shapes t u × AreInOrder shapes (u ∷ us)

module _ (shapes : List CellShape) (ws : List Written) where
  -- A written cell is there as it is written: the nearest written cell around it is the one that encloses it. An added cell
  -- has cells in it, so that it encloses a written one.
  abbrev pub IsAsWritten : Option ℕ → ℕ → Option ℕ → List Tree → Type 0
  IsAsWritten around cell None inside = (inside ≡ []) → ⊥
  IsAsWritten around cell (Some mark) inside =
      Contains ws (record { mark = mark; cell = cell; above = around; both = is_both ws (Some mark) })

  -- A cell in one of this declared cell, or the root: its nearest written cell around, and whether the one that it stands
  -- in is on both sides. It stands in a cell of its declared parent, and on both sides only where that does. Of a cell that
  -- is not repeated there is one at most in each.
  pub record IsCell (parent around : Option ℕ) (outer : Bool) (t : Tree) : Type 0 where
    pub declared : IsDeclaredIn shapes parent (out-Tree t).cell
    pub written : IsAsWritten around (out-Tree t).cell (out-Tree t).mark (out-Tree t).inside
    pub sides : is_both ws (out-Tree t).mark ≡ true → outer ≡ true
    pub order : AreInOrder shapes (out-Tree t).inside

  -- and so does each cell in it
  unfoldable mutual
    pub IsPlaced : Option ℕ → Option ℕ → Bool → Tree → Type 0
    IsPlaced parent around outer (Tree' cell mark held inside) =
        IsCell parent around outer (Tree' cell mark held inside)
        × ArePlaced (Some cell) (around_inside around mark) (is_both ws mark) inside

    pub ArePlaced : {n : _} → Option ℕ → Option ℕ → Bool → Row_of-Tree n → Type 0
    ArePlaced parent around outer end_of-Tree = Unit {0}
    ArePlaced parent around outer (more_of-Tree t ts) = IsPlaced parent around outer t × ArePlaced parent around outer ts

  -- a completion: a tree under the root, with each written cell once
  pub record IsCompletion (t : Tree) : Type 0 where
    pub placed : IsPlaced None None true t
    pub whole : (w : Written) → Contains ws w → Contains (marks t) w.mark
    pub once : IsTrue (all_different (marks t))

-- ---- the least completion

-- the added cells of a declared cell with this nearest written cell around them, or none
abbrev pub added_at : Option ℕ → ℕ → Tree → List Added
added_at around cell t =
    filter (λ (a : Added). option_eq (λ m n. m == n) a.around around && ((out-Tree a.tree).cell == cell)) (added_in None t)

-- an added cell has one cell in it, of this declared cell
abbrev pub HasOneChild : ℕ → Added → Type 0
HasOneChild child a = (only : Tree) × ((out-Tree a.tree).inside ≡ only ∷ []) × ((out-Tree only).cell ≡ child)

-- there is one of these, or none; or each has one cell in it, and these are of one declared cell that is not repeated
abbrev pub AreLeast : List CellShape → List Added → Type 0
AreLeast shapes added =
    (length added ≤ 1)
    ⊎ ((child : ℕ) × (is_many shapes child ≡ false) × AllByRecursion (HasOneChild child) added)

pub record IsLeastCompletion (shapes : List CellShape) (ws : List Written) (t : Tree) : Type 0 where
  pub is : IsCompletion shapes ws t
  pub least : (around : Option ℕ) (cell : ℕ) → AreLeast shapes (added_at around cell t)

-- ---- misplaced cells

-- the written cell with a mark is on one side alone
abbrev pub IsWithinOneSide : List Written → Option ℕ → Type 0
IsWithinOneSide ws None = ⊥
IsWithinOneSide ws (Some mark) = is_both ws (Some mark) ≡ false

-- A written cell is not declared in the one that encloses it.
pub record IsOutside (shapes : List CellShape) (ws : List Written) (w : Written) : Type 0 where
  pub outer : Written
  pub is : Contains ws outer
  pub encloses : w.above ≡ Some outer.mark
  pub outside : IsBelow shapes outer.cell w.cell → ⊥

-- Or it comes or goes alone: it is on one side alone, not repeated, and not within a cell that is on one side alone.
pub record ComesAlone (shapes : List CellShape) (ws : List Written) (w : Written) : Type 0 where
  pub one_side : w.both ≡ false
  pub single : is_many shapes w.cell ≡ false
  pub alone : IsWithinOneSide ws w.above → ⊥

abbrev pub IsMisplaced : List CellShape → List Written → Written → Type 0
IsMisplaced shapes ws w = IsOutside shapes ws w ⊎ ComesAlone shapes ws w

-- the declared cell of the first one of the text that is misplaced
pub record IsFirstMisplaced (shapes : List CellShape) (ws : List Written) (cell : ℕ) : Type 0 where
  pub written : Written
  pub is : Contains ws written
  pub cell_is : written.cell ≡ cell
  pub misplaced : IsMisplaced shapes ws written
  pub first : (other : Written) → Contains ws other → IsMisplaced shapes ws other → written.mark ≤ other.mark

abbrev pub NoneMisplaced : List CellShape → List Written → Type 0
NoneMisplaced shapes ws = (w : Written) → Contains ws w → IsMisplaced shapes ws w → ⊥
