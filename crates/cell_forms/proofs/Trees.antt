-- The cells of a configuration are a tree.
use Rattle.std.proofs.Common.{◌≡◌, ℕ, ◌+◌, ◌<◌, zero, suc, List, [], ◌∷◌, ◌++◌, length, Option, Some, None, refl, sym, ap, ◌∙◌, subst, arith, append_assoc, append-nil, length-append}
use Rattle.std.specs.Prelude.{slice_get}
use Rattle.cell_forms.specs.declared.form.CellForm.{CellForm}
use Rattle.cell_forms.specs.Written.{Cell, Cells, signs_of, signs_of_cells, count_of, count_of_cells, forms_of, forms_of_cells, cells_of}
use Rattle.cell_forms.specs.Written.Cell.{OfCells, OfContent}
use Rattle.cell_forms.specs.Written.Cells.{One, And}
use Rattle.cell_forms.specs.Laws.{IsInTree, HasTree}
use Rattle.cell_forms.proofs.Running.{size_of_cells}

-- ---- items of lists

item_at : (xs : List CellForm) (one : CellForm) → slice_get (xs ++ one ∷ []) (length xs) ≡ Some one
item_at [] one = refl
item_at (x ∷ xs) one = item_at xs one

item_kept : (xs ys : List CellForm) (n : ℕ) (one : CellForm) → slice_get xs n ≡ Some one → slice_get (xs ++ ys) n ≡ Some one
item_kept [] ys n one is = absurd (cc)
item_kept (x ∷ xs) ys zero one is = is
item_kept (x ∷ xs) ys (suc n) one is = item_kept xs ys n one is

item_within : (xs : List CellForm) (n : ℕ) (one : CellForm) → slice_get xs n ≡ Some one → n < length xs
item_within [] n one is = absurd (cc)
item_within (x ∷ xs) zero one is = omega arith
item_within (x ∷ xs) (suc n) one is = let less = item_within xs n one is in omega (arith, less)

-- ---- parents

-- a parent of the cell behind these
abbrev IsParent : List CellForm → Option ℕ → Type 0
IsParent before None = before ≡ []
IsParent before (Some parent) = (outer : CellForm) × (slice_get before parent ≡ Some outer) × (outer.content ≡ None)

abbrev AreTree : List CellForm → List CellForm → Type 0
AreTree before [] = Unit {0}
AreTree before (cell ∷ cells) = IsParent before cell.parent × AreTree (before ++ cell ∷ []) cells

join_trees : (before xs ys : List CellForm) → AreTree before xs → AreTree (before ++ xs) ys → AreTree before (xs ++ ys)
join_trees before [] ys one other = subst (λ l. AreTree l ys) (append-nil before) other
join_trees before (x ∷ xs) ys one other = (one.0, join_trees (before ++ x ∷ []) xs ys one.1 (subst (λ l. AreTree l ys) (sym (append_assoc before (x ∷ []) xs)) other))

parent_kept : (before more : List CellForm) (parent : ℕ) → IsParent before (Some parent) → IsParent (before ++ more) (Some parent)
parent_kept before more parent is = (is.0, item_kept before more parent is.0 is.1, is.2)

mutual
  unfolding forms_of count_of signs_of

  forms_tree : (cell : Cell) (before : List CellForm) (at number : ℕ) (parent : Option ℕ) → number ≡ length before → IsParent before parent → AreTree before (forms_of at number parent cell)
  forms_tree (OfContent name many more) before at number parent size is = (is, tt)
  forms_tree (OfCells name many cells) before at number parent size is =
      let own : CellForm = record { name = name; many = many; tag = at; parent = parent; content = None } in
      let next : number + 1 ≡ length (before ++ own ∷ []) = omega (arith, size, length-append before (own ∷ [])) in
      let found : slice_get (before ++ own ∷ []) number ≡ Some own = ap (slice_get (before ++ own ∷ [])) size ∙ item_at before own in
      (is, cells_tree cells (before ++ own ∷ []) (at + 1) (number + 1) number next (own, found, refl))

  cells_tree : (cells : Cells) (before : List CellForm) (at number parent : ℕ) → number ≡ length before → IsParent before (Some parent) → AreTree before (forms_of_cells at number (Some parent) cells)
  cells_tree (One cell) before at number parent size is = forms_tree cell before at number (Some parent) size is
  cells_tree (And cells cell) before at number parent size is =
      let first = forms_of_cells at number (Some parent) cells in
      let next : number + count_of_cells cells ≡ length (before ++ first) = omega (arith, size, length-append before first, size_of_cells cells at number (Some parent)) in
      join_trees before first (forms_of (at + length (signs_of_cells cells)) (number + count_of_cells cells) (Some parent) cell)
      (cells_tree cells before at number parent size is)
      (forms_tree cell (before ++ first) (at + length (signs_of_cells cells)) (number + count_of_cells cells) (Some parent) next (parent_kept before first parent is))

-- ---- by number

in_tree : (before cells : List CellForm) (parent : Option ℕ) → IsParent before parent → IsInTree (before ++ cells) (length before) parent
in_tree before cells None is = ap length is
in_tree before cells (Some parent) is = (item_within before parent is.0 is.1, is.0, item_kept before cells parent is.0 is.1, is.2)

by_number : (cells before : List CellForm) (number : ℕ) (one : CellForm) → AreTree before cells → slice_get cells number ≡ Some one → IsInTree (before ++ cells) (length before + number) one.parent
by_number [] before number one all is = absurd (cc)
by_number (cell ∷ cells) before zero one all is =
    let same : cell ≡ one = cc in
    let e : length before ≡ length before + 0 = omega arith in
    subst (λ n. IsInTree (before ++ cell ∷ cells) n one.parent) e (subst (λ (c : CellForm). IsInTree (before ++ cell ∷ cells) (length before) c.parent) same (in_tree before (cell ∷ cells) cell.parent all.0))
by_number (cell ∷ cells) before (suc number) one all is =
    let e : length (before ++ cell ∷ []) + number ≡ length before + suc number = omega (arith, length-append before (cell ∷ [])) in
    subst (λ n. IsInTree (before ++ cell ∷ cells) n one.parent) e
    (subst (λ l. IsInTree l (length (before ++ cell ∷ []) + number) one.parent) (append_assoc before (cell ∷ []) cells) (by_number cells (before ++ cell ∷ []) number one all.1 is))

pub tree : HasTree
tree cell number one is =
    let e : 0 + number ≡ number = omega arith in
    subst (λ n. IsInTree (cells_of cell) n one.parent) e (by_number (cells_of cell) [] number one (forms_tree cell [] 0 0 None refl refl) is)
