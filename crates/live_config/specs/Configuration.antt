-- Live configurations: cells by their numbers, the cells below a cell, and the plain configuration without numbers.
use Rattle.std.specs.Prelude.{ℕ, suc, zero, Bool, false, ◌==◌, List, [], ◌∷◌, Option, Some, None, map, filter}
use Rattle.std.specs.Option.{option_map, is_none}
use Rattle.std.specs.Ordering.{nat_cmp}
use Rattle.std.specs.FinMap.{find}
use Rattle.k_terms.specs.declared.value.Content.TheVariants.{Cells}
use Rattle.rule_terms.specs.declared.plain.Plain.{Plain}
use Rattle.rule_terms.specs.Fill.{plain_cell}
use Rattle.live_config.specs.declared.cell.Cell.{Cell}

-- the cells with their numbers, by rising number
pub record Configuration : Type 0 where
  pub cells : List (ℕ × Cell)

abbrev pub cell_at : Configuration → ℕ → Option Cell
cell_at c n = find nat_cmp n c.cells

-- the declared cell of the cell with this number
abbrev pub kind_at : Configuration → ℕ → Option ℕ
kind_at c n = option_map (λ (cell : Cell). cell.kind) (cell_at c n)

abbrev pub parent_number : Cell → Option ℕ
parent_number cell = option_map (λ p. p.0) cell.parent

abbrev pub is_child_of : ℕ → Cell → Bool
is_child_of n cell = elim (parent_number cell) [ None ↦ false | Some m ↦ m == n ]

-- the numbers of the children of a cell, rising
abbrev pub below : Configuration → ℕ → List ℕ
below c n = map (λ e. e.0) (filter (λ e. is_child_of n e.1) c.cells)

abbrev pub first_number : List (ℕ × Cell) → Option ℕ
first_number [] = None
first_number (e ∷ es) = Some e.0

-- the number of the cell without a parent
abbrev pub root_of : Configuration → Option ℕ
root_of c = first_number (filter (λ e. is_none e.1.parent) c.cells)

-- the limit on declared cells: no way up in a fitting configuration is longer
abbrev pub level_limit : ℕ
level_limit = 64

-- stands for a cell that is not there
abbrev pub no_cell : Plain
no_cell = plain_cell 0 Cells []

-- a cell and all below it, without their numbers, down to so many levels
unfoldable pub tree : ℕ → Configuration → ℕ → Plain
tree zero c n = no_cell
tree (suc levels) c n =
    elim (cell_at c n) [ None ↦ no_cell | Some cell ↦ plain_cell cell.kind cell.content (map (tree levels c) (below c n)) ]

abbrev pub plain : Configuration → Plain
plain c = elim (root_of c) [ None ↦ no_cell | Some n ↦ tree level_limit c n ]

-- the numbers of a cell and of those above it, up to the root
unfoldable pub way_up : ℕ → Configuration → ℕ → List ℕ
way_up zero c n = []
way_up (suc levels) c n =
    elim (cell_at c n) [ None ↦ [] | Some cell ↦ n ∷ elim (parent_number cell) [ None ↦ [] | Some m ↦ way_up levels c m ] ]
