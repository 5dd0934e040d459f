-- How the cells of a rule are written.
use Rattle.std.specs.Prelude.{◌≡◌, ℕ, ◌+◌, Bool, true, false, List, [], ◌∷◌, ◌++◌, length, Option, Some, None, slice_get}
use Rattle.std.specs.List.{AllByRecursion}
use Rattle.std.specs.Option.{option_map_or}
use Rattle.rule_terms.specs.Sound.{has_cells}
use Rattle.rule_terms.specs.declared.defs.CellShape.{CellShape}
use Rattle.rule_cells.specs.declared.form.Item as code
use Rattle.rule_cells.specs.declared.form.Side as code_side
use Rattle.rule_cells.specs.declared.form.Inside as code_inside
use Rattle.rule_cells.specs.declared.mark.Mark.{Mark}
use Rattle.rule_cells.specs.declared.mark.Mark.TheVariants.{Open, Close, Rewrite, Dots, Bag, Dot, LeftBracket, RightBracket, Other}

mutual
  -- What stands among cells: `.Bag`; `.`; items that are rewritten to others, in brackets; a cell by its number with cells or
  -- with a content, and whether `...` stands at its left and at its right.
  pub data Item : Type 0 where
    EmptyBag : Item
    Point : Item
    Rewritten : Items → Items → Item
    OfCells : ℕ → Bool → Side → Bool → Item
    OfContent : ℕ → Bool → List Mark → Bool → Item

  -- items one after the other
  pub data Items : Type 0 where
    Nothing : Items
    And : Items → Item → Items

  -- items, or items that are rewritten to others
  pub data Side : Type 0 where
    Same : Items → Side
    Changed : Items → Items → Side

abbrev pub dots : Bool → List Mark
dots false = []
dots true = Dots ∷ []

-- the tokens that they are written as
unfoldable mutual
  pub signs_of_item : Item → List Mark
  signs_of_item EmptyBag = Bag ∷ []
  signs_of_item Point = Dot ∷ []
  signs_of_item (Rewritten left right) = (LeftBracket ∷ signs_of_items left ++ Rewrite ∷ signs_of_items right) ++ RightBracket ∷ []
  signs_of_item (OfCells cell left side right) = (Open cell ∷ dots left ++ signs_of_side side ++ dots right) ++ Close cell ∷ []
  signs_of_item (OfContent cell left content right) = (Open cell ∷ dots left ++ content ++ dots right) ++ Close cell ∷ []

  pub signs_of_items : Items → List Mark
  signs_of_items Nothing = []
  signs_of_items (And items item) = signs_of_items items ++ signs_of_item item

  pub signs_of_side : Side → List Mark
  signs_of_side (Same items) = signs_of_items items
  signs_of_side (Changed left right) = signs_of_items left ++ Rewrite ∷ signs_of_items right

-- the cell is declared as one of cells
abbrev pub is_of_cells : List CellShape → ℕ → Bool
is_of_cells cells cell = option_map_or (λ (shape : CellShape). has_cells shape.kind) (slice_get cells cell) false

-- any token but a tag and `...` may stand in a content
abbrev pub is_plain : Mark → Bool
is_plain (Open cell) = false
is_plain (Close cell) = false
is_plain Dots = false
is_plain Rewrite = true
is_plain Bag = true
is_plain Dot = true
is_plain LeftBracket = true
is_plain RightBracket = true
is_plain Other = true

-- a `...` alone between two tags is the one at the right
abbrev pub IsRightAlone : Bool → List Mark → Bool → Type 0
IsRightAlone left inside right = left ≡ true → inside ≡ [] → right ≡ true

-- cells are declared as what they hold
unfoldable mutual
  pub IsItem : List CellShape → Item → Type 0
  IsItem cells EmptyBag = Unit {0}
  IsItem cells Point = Unit {0}
  IsItem cells (Rewritten left right) = AreItems cells left × AreItems cells right
  IsItem cells (OfCells cell left side right) = (is_of_cells cells cell ≡ true) × IsSide cells side × IsRightAlone left (signs_of_side side) right
  IsItem cells (OfContent cell left content right) =
      (is_of_cells cells cell ≡ false) × AllByRecursion (λ mark. is_plain mark ≡ true) content × IsRightAlone left content right

  pub AreItems : List CellShape → Items → Type 0
  AreItems cells Nothing = Unit {0}
  AreItems cells (And items item) = AreItems cells items × IsItem cells item

  pub IsSide : List CellShape → Side → Type 0
  IsSide cells (Same items) = AreItems cells items
  IsSide cells (Changed left right) = AreItems cells left × AreItems cells right

abbrev pub past_dots : Bool → ℕ → ℕ
past_dots false at = at
past_dots true at = at + 1

-- what they are with the numbers of their tokens, where the first token has this number
unfoldable mutual
  pub item_at : ℕ → Item → code.Item
  item_at at EmptyBag = code.Nothing at
  item_at at Point = code.Nothing at
  item_at at (Rewritten left right) = code.Change at (items_at (at + 1) left) (items_at (at + 1 + length (signs_of_items left) + 1) right)
  item_at at (OfCells cell left side right) =
      code.Cell (record { cell = cell; start = at; left_dots = left; right_dots = right; inside = code_inside.Cells (side_at (past_dots left (at + 1)) side) })
  item_at at (OfContent cell left content right) =
      code.Cell (record { cell = cell; start = at; left_dots = left; right_dots = right; inside = code_inside.Content (past_dots left (at + 1)) (past_dots left (at + 1) + length content) })

  pub items_at : ℕ → Items → List code.Item
  items_at at Nothing = []
  items_at at (And items item) = items_at at items ++ item_at (at + length (signs_of_items items)) item ∷ []

  pub side_at : ℕ → Side → code_side.Side
  side_at at (Same items) = code_side.Same (items_at at items)
  side_at at (Changed left right) = code_side.Change (items_at at left) (items_at (at + length (signs_of_items left) + 1) right)
