-- How a configuration is written.
use Rattle.std.specs.Prelude.{◌≡◌, ℕ, ◌+◌, zero, suc, Bool, false, List, [], ◌∷◌, ◌++◌, length, Option, Some, None}
use Rattle.cell_forms.specs.declared.form.Sign.{Sign}
use Rattle.cell_forms.specs.declared.form.Sign.TheVariants.{Open, Close, Other}
use Rattle.cell_forms.specs.declared.form.CellForm.{CellForm}

mutual
  -- A cell by its name, and whether it may occur more than once: of cells, or of a content of one token and of this many more.
  pub data Cell : Type 0 where
    OfCells : List ℕ → Bool → Cells → Cell
    OfContent : List ℕ → Bool → ℕ → Cell

  -- one cell, or cells and one behind them
  pub data Cells : Type 0 where
    One : Cell → Cells
    And : Cells → Cell → Cells

abbrev pub others : ℕ → List Sign
others zero = []
others (suc n) = Other ∷ others n

-- the tokens that they are written as
unfoldable mutual
  pub signs_of : Cell → List Sign
  signs_of (OfCells name many cells) = (Open name many ∷ signs_of_cells cells) ++ Close name ∷ []
  signs_of (OfContent name many more) = (Open name many ∷ others (suc more)) ++ Close name ∷ []

  pub signs_of_cells : Cells → List Sign
  signs_of_cells (One cell) = signs_of cell
  signs_of_cells (And cells cell) = signs_of_cells cells ++ signs_of cell

-- a configuration is a cell that occurs once
abbrev pub is_many : Cell → Bool
is_many (OfCells name many cells) = many
is_many (OfContent name many more) = many

abbrev pub IsConfiguration : Cell → Type 0
IsConfiguration cell = is_many cell ≡ false

-- how many cells they are
unfoldable mutual
  pub count_of : Cell → ℕ
  count_of (OfCells name many cells) = 1 + count_of_cells cells
  count_of (OfContent name many more) = 1

  pub count_of_cells : Cells → ℕ
  count_of_cells (One cell) = count_of cell
  count_of_cells (And cells cell) = count_of_cells cells + count_of cell

-- all cells in the order of their opening tags, where the first token and the first cell have these numbers, and the cell
-- around this one
unfoldable mutual
  pub forms_of : ℕ → ℕ → Option ℕ → Cell → List CellForm
  forms_of at number parent (OfCells name many cells) =
      record { name = name; many = many; tag = at; parent = parent; content = None } ∷ forms_of_cells (at + 1) (number + 1) (Some number) cells
  forms_of at number parent (OfContent name many more) =
      record { name = name; many = many; tag = at; parent = parent; content = Some (at + 1, at + 1 + suc more) } ∷ []

  pub forms_of_cells : ℕ → ℕ → Option ℕ → Cells → List CellForm
  forms_of_cells at number parent (One cell) = forms_of at number parent cell
  forms_of_cells at number parent (And cells cell) =
      forms_of_cells at number parent cells ++ forms_of (at + length (signs_of_cells cells)) (number + count_of_cells cells) parent cell

-- the cells of a configuration
abbrev pub cells_of : Cell → List CellForm
cells_of cell = forms_of 0 0 None cell
