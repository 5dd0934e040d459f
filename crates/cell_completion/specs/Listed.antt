-- Which lists of written cells, and which declared cells, there are.
use Rattle.std.specs.Prelude.{◌≡◌, ℕ, ◌<◌, ◌≤◌, true, List, ◌∷◌, ◌++◌, length, map, Some, IsTrue, Contains, slice_get}
use Rattle.rule_terms.specs.declared.defs.CellShape.{CellShape}
use Rattle.rule_terms.specs.Numbers.{all_different}
use Rattle.rule_terms.specs.Sound.{is_placed_shape, cell_limit}
use Rattle.cell_completion.specs.declared.tree.Written.{Written}

-- the declared cells are a tree
pub record AreDeclared (shapes : List CellShape) : Type 0 where
  pub some_cell : 0 < length shapes
  pub few_cells : length shapes ≤ cell_limit
  pub tree : (n : ℕ) (shape : CellShape) → slice_get shapes n ≡ Some shape → IsTrue (is_placed_shape shapes n shape)

-- Written cells are declared, and their marks differ. One that encloses another stands before it, and is on both sides where
-- the other is.
pub record AreWritten (shapes : List CellShape) (ws : List Written) : Type 0 where
  pub declared : (w : Written) → Contains ws w → w.cell < length shapes
  pub different : IsTrue (all_different (map (λ (w : Written). w.mark) ws))
  pub enclosed : (before after : List Written) (w : Written) (mark : ℕ) → ws ≡ before ++ w ∷ after → w.above ≡ Some mark
      → (outer : Written) × Contains before outer × (outer.mark ≡ mark) × (w.both ≡ true → outer.both ≡ true)
