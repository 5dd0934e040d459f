-- What it means that a live configuration fits a definition.
use Rattle.std.specs.Prelude.{◌≡◌, ℕ, Some, None, IsTrue, slice_get}
use Rattle.std.specs.Option.{option_map}
use Rattle.std.specs.Ordering.{nat_cmp}
use Rattle.std.specs.FinMap.{is_sorted}
use Rattle.rule_terms.specs.declared.defs.CellShape.{CellShape}
use Rattle.rule_terms.specs.Language.{Language}
use Rattle.rule_terms.specs.Kinds.{IsOfKind}
use Rattle.live_config.specs.declared.cell.Cell.{Cell}
use Rattle.live_config.specs.Configuration.{Configuration, cell_at, kind_at, parent_number}

-- a cell is declared, lies in a cell of its declared parent, or has none where that has none, and has a content of its kind
pub record IsLawful (d : Language) (c : Configuration) (cell : Cell) : Type 0 where
  pub shape : CellShape
  pub declared : slice_get d.cells cell.kind ≡ Some shape
  pub parent : option_map (kind_at c) (parent_number cell) ≡ option_map Some shape.parent
  pub content : IsOfKind d.sorts shape.kind cell.content

-- going up from this cell comes to a cell without a parent
pub data Rooted (c : Configuration) : ℕ → Type 0 where
  top : (n : ℕ) (cell : Cell) → cell_at c n ≡ Some cell → parent_number cell ≡ None → Rooted c n
  under : (n m : ℕ) (cell : Cell) → cell_at c n ≡ Some cell → parent_number cell ≡ Some m → Rooted c m → Rooted c n

-- There is exactly one cell without a parent, which is the declared root; every other cell's parent is there and is a
-- cell of its declared parent; going up from any cell comes to the root; each content is of its cell's kind.
pub record Fits (d : Language) (c : Configuration) : Type 0 where
  pub rising : IsTrue (is_sorted nat_cmp c.cells)
  pub root : ℕ
  pub root_cell : Cell
  pub root_there : cell_at c root ≡ Some root_cell
  pub root_on_top : parent_number root_cell ≡ None
  pub root_declared : root_cell.kind ≡ 0
  pub one_root : (n : ℕ) (cell : Cell) → cell_at c n ≡ Some cell → parent_number cell ≡ None → n ≡ root
  pub lawful : (n : ℕ) (cell : Cell) → cell_at c n ≡ Some cell → IsLawful d c cell
  pub rooted : (n : ℕ) (cell : Cell) → cell_at c n ≡ Some cell → Rooted c n
