-- Trees of cells: the written cells in them, and the added ones with the nearest written cell around each.
use Rattle.std.specs.Prelude.{ℕ, nat_le, cond, List, [], ◌∷◌, ◌++◌, Option, Some, None, unwrap_or}
use Rattle.cell_completion.specs.declared.tree.Tree.{Tree, Tree', Row_of-Tree, end_of-Tree, more_of-Tree}

-- the nearest written cell around what stands in a cell: that cell itself where it is written
abbrev pub around_inside : Option ℕ → Option ℕ → Option ℕ
around_inside around None = around
around_inside around (Some mark) = Some mark

abbrev pub as_marks : Option ℕ → List ℕ
as_marks None = []
as_marks (Some mark) = mark ∷ []

-- the marks of the written cells, in pre-order
unfoldable mutual
  pub marks : Tree → List ℕ
  marks (Tree' cell mark _ inside) = as_marks mark ++ row_marks inside

  pub row_marks : {n : _} → Row_of-Tree n → List ℕ
  row_marks end_of-Tree = []
  row_marks (more_of-Tree t ts) = marks t ++ row_marks ts

-- the least of numbers
abbrev pub lesser : Option ℕ → Option ℕ → Option ℕ
lesser None b = b
lesser (Some m) None = Some m
lesser (Some m) (Some n) = Some (cond (nat_le m n) m n)

abbrev pub least : List ℕ → Option ℕ
least [] = None
least (n ∷ ns) = lesser (Some n) (least ns)

-- the mark of the first written cell of a tree, in the order of the text
abbrev pub first_mark : Tree → ℕ
first_mark t = unwrap_or (least (marks t)) 0

-- an added cell, and the mark of the nearest written cell around it
pub record Added : Type 0 where
  pub around : Option ℕ
  pub tree : Tree

abbrev pub as_added : Option ℕ → Option ℕ → Tree → List Added
as_added around None t = record { around = around; tree = t } ∷ []
as_added around (Some mark) t = []

-- the added cells of a tree that stands in a written cell, or in none
unfoldable mutual
  pub added_in : Option ℕ → Tree → List Added
  added_in around (Tree' cell mark held inside) =
      as_added around mark (Tree' cell mark held inside) ++ row_added (around_inside around mark) inside

  pub row_added : {n : _} → Option ℕ → Row_of-Tree n → List Added
  row_added around end_of-Tree = []
  row_added around (more_of-Tree t ts) = added_in around t ++ row_added around ts
