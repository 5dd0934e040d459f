-- What contracts see of a live configuration that is kept in memory, and how its cells are put in, taken out and gone
-- through.
use Rattle.std.specs.Prelude.{◌≡◌, ℕ, ◌<◌, ◌≤◌, Bool, true, not, ◌==◌, nat_lt, List, length, Option, Some, None, filter, nat_eq}
use Rattle.std.specs.Option.{option_map, option_eq}
use Rattle.std.specs.Ordering.{nat_cmp}
use Rattle.std.specs.FinMap.{put}
use Rattle.std.specs.List.Sorted.{IsPartitionPoint}
use Rattle.std.specs.List.{HoldsAt}
use Rattle.live_config.specs.declared.cell.CellNo.{CellNo}
use Rattle.live_config.specs.declared.cell.Cell.{Cell}
use Rattle.live_config.specs.Configuration.{Configuration, parent_number}

-- the cells, and for how many more there is room
pub record LiveState : Type 0 where
  pub now : Configuration
  pub spare : ℕ

-- the configuration with this cell at this number
abbrev pub with_cell : Configuration → ℕ → Cell → Configuration
with_cell c n cell = record { cells = put nat_cmp n cell c.cells }

-- the configuration without the cell with this number
abbrev pub without : Configuration → ℕ → Configuration
without c n = record { cells = filter (λ e. not (e.0 == n)) c.cells }

-- the cell at this place of the list has the number
pub record IsPlaceOf (es : List (ℕ × Cell)) (n at : ℕ) : Type 0 where
  pub within : at < length es
  pub number : HoldsAt (λ e. e.0 ≡ n) es at

-- a cell with the number would go at this place: the lower numbers stand before it, the greater ones from it on
pub record IsGapFor (es : List (ℕ × Cell)) (n at : ℕ) : Type 0 where
  pub within : at ≤ length es
  pub parted : IsPartitionPoint (λ e. e.0 < n) (λ e. n < e.0) es at

-- the number is greater than the one before it, where one is given
abbrev pub is_past : Option ℕ → ℕ → Bool
is_past None n = true
is_past (Some m) n = nat_lt m n

-- the cells with greater numbers, by rising number
abbrev pub cells_past : Configuration → Option ℕ → List (ℕ × Cell)
cells_past c after = filter (λ e. is_past after e.0) c.cells

-- the cell has exactly this parent, or none
abbrev pub has_parent : Option ℕ → Cell → Bool
has_parent parent cell = option_eq nat_eq (parent_number cell) parent

-- the children of a cell with greater numbers
abbrev pub children_past : Configuration → Option ℕ → Option ℕ → List (ℕ × Cell)
children_past c parent after = filter (λ e. has_parent parent e.1) (cells_past c after)

abbrev pub number_of_cell : Option CellNo → Option ℕ
number_of_cell id = option_map (λ (n : CellNo). n.0) id
