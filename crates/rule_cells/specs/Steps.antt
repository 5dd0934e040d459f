-- One token after the other: what is open, and what was read behind it. This is how the code keeps what was read.
use Rattle.std.specs.Prelude.{ℕ, ◌+◌, ◌==◌, if◌then◌else◌, Bool, true, false, List, [], ◌∷◌, ◌++◌, Option, Some, None, option_map}
use Rattle.std.specs.Option.{option_and_then}
use Rattle.rule_terms.specs.declared.defs.CellShape.{CellShape}
use Rattle.rule_cells.specs.declared.dots.Dots.{Dots}
use Rattle.rule_cells.specs.declared.dots.Dots.TheVariants.{Fresh, Alone, Inside, After}
use Rattle.rule_cells.specs.declared.form.Item as item
use Rattle.rule_cells.specs.declared.form.Side as side
use Rattle.rule_cells.specs.declared.form.Inside as inside
use Rattle.rule_cells.specs.declared.level.Level.{Level}
use Rattle.rule_cells.specs.declared.level.Opening.{Opening}
use Rattle.rule_cells.specs.declared.level.Opening.TheVariants.{Body, Bracket, Cells, Content}
use Rattle.rule_cells.specs.declared.mark.Mark.{Mark}
use Rattle.rule_cells.specs.declared.mark.Mark.TheVariants as mark
use Rattle.rule_cells.specs.declared.state.State.{State}
use Rattle.rule_cells.specs.Written.{is_of_cells}

-- ---- the `...` of a cell

abbrev pub begun : Dots → Option Dots
begun Fresh = Some (Inside false)
begun Alone = Some (Inside true)
begun (Inside left) = Some (Inside left)
begun (After left) = None

abbrev pub dotted : Dots → Option Dots
dotted Fresh = Some Alone
dotted Alone = Some (After true)
dotted (Inside left) = Some (After left)
dotted (After left) = None

abbrev pub left_of : Dots → Bool
left_of Fresh = false
left_of Alone = false
left_of (Inside left) = left
left_of (After left) = left

abbrev pub right_of : Dots → Bool
right_of Fresh = false
right_of Alone = true
right_of (Inside left) = false
right_of (After left) = true

-- ---- what is open

-- where an item follows, if it can
abbrev pub going_on : Opening → Option Opening
going_on Body = Some Body
going_on (Bracket start) = Some (Bracket start)
going_on (Cells cell start dots) = option_map (λ d. Cells cell start d) (begun dots)
going_on (Content cell start dots first past) = None

-- where a token of a content follows, if it can
abbrev pub content_on : Opening → ℕ → Option Opening
content_on (Content cell start Fresh first past) at = Some (Content cell start (Inside false) at (at + 1))
content_on (Content cell start Alone first past) at = Some (Content cell start (Inside true) at (at + 1))
content_on (Content cell start (Inside left) first past) at = Some (Content cell start (Inside left) first (at + 1))
content_on (Content cell start (After left) first past) at = None
content_on Body at = None
content_on (Bracket start) at = None
content_on (Cells cell start dots) at = None

-- where `...` follows, if it can
abbrev pub dots_on : Opening → ℕ → Option Opening
dots_on Body at = None
dots_on (Bracket start) at = None
dots_on (Cells cell start dots) at = option_map (λ d. Cells cell start d) (dotted dots)
dots_on (Content cell start Fresh first past) at = Some (Content cell start Alone first past)
dots_on (Content cell start Alone first past) at = Some (Content cell start (After true) at at)
dots_on (Content cell start (Inside left) first past) at = Some (Content cell start (After left) first past)
dots_on (Content cell start (After left) first past) at = None

abbrev pub is_content : Opening → Bool
is_content (Content cell start dots first past) = true
is_content Body = false
is_content (Bracket start) = false
is_content (Cells cell start dots) = false

-- a cell is opened
abbrev pub opening_of : List CellShape → ℕ → ℕ → Opening
opening_of cells cell at = if is_of_cells cells cell then Cells cell at Fresh else Content cell at Fresh (at + 1) (at + 1)

-- ---- levels

abbrev pub with_opening : Level → Opening → Level
with_opening level opening = record { opening = opening; before = level.before; items = level.items }

abbrev pub with_item : Level → item.Item → Level
with_item level one = record { opening = level.opening; before = level.before; items = level.items ++ one ∷ [] }

abbrev pub level_on : Level → Option Level
level_on level = option_map (with_opening level) (going_on level.opening)

abbrev pub side_of : Option (List item.Item) → List item.Item → side.Side
side_of None items = side.Same items
side_of (Some left) items = side.Change left items

-- the item that a level is which a bracket closes
abbrev pub bracket_item : Level → Option item.Item
bracket_item level = elim level.opening [
  | Body ↦ None
  | Bracket start ↦ option_map (λ left. item.Change start left level.items) level.before
  | Cells cell start dots ↦ None
  | Content cell start dots first past ↦ None
]

-- a cell as an item, if this is its closing tag
abbrev pub cell_item : ℕ → ℕ → Dots → inside.Inside → ℕ → Option item.Item
cell_item cell start dots held tag =
    if cell == tag then Some (item.Cell (record { cell = cell; start = start; left_dots = left_of dots; right_dots = right_of dots; inside = held })) else None

-- the item that a level is which a tag closes
abbrev pub tag_item : Level → ℕ → Option item.Item
tag_item level tag = elim level.opening [
  | Body ↦ None
  | Bracket start ↦ None
  | Cells cell start dots ↦ cell_item cell start dots (inside.Cells (side_of level.before level.items)) tag
  | Content cell start dots first past ↦ cell_item cell start dots (inside.Content first past) tag
]

-- ---- states: the innermost level, and those around it

abbrev pub nothing : State
nothing = record { level = record { opening = Body; before = None; items = [] }; outer = [] }

abbrev pub with_level : State → Level → State
with_level state level = record { level = level; outer = state.outer }

abbrev pub add_item : State → item.Item → Option State
add_item state one = option_map (λ level. with_level state (with_item level one)) (level_on state.level)

-- behind `=>`
abbrev pub behind_arrow : Level → Option (List item.Item) → Option Level
behind_arrow level None = option_map (λ opening. record { opening = opening; before = Some level.items; items = [] }) (going_on level.opening)
behind_arrow level (Some left) = None

abbrev pub enter : State → Opening → Option State
enter state opening = option_map (λ level. record { level = record { opening = opening; before = None; items = [] }; outer = level ∷ state.outer }) (level_on state.level)

-- the level around takes the innermost one as an item
abbrev pub leave_to : List Level → item.Item → Option State
leave_to [] one = None
leave_to (level ∷ outer) one = Some (record { level = with_item level one; outer = outer })

abbrev pub leave : State → Option item.Item → Option State
leave state one = option_and_then (leave_to state.outer) one

abbrev pub reopen : State → Option Opening → Option State
reopen state opening = option_map (λ o. with_level state (with_opening state.level o)) opening

-- with a token that is no tag and no `...`, among items
abbrev pub item_step : State → ℕ → Mark → Option State
item_step state at mark.Rewrite = option_map (with_level state) (behind_arrow state.level state.level.before)
item_step state at mark.Bag = add_item state (item.Nothing at)
item_step state at mark.Dot = add_item state (item.Nothing at)
item_step state at mark.LeftBracket = enter state (Bracket at)
item_step state at mark.RightBracket = leave state (bracket_item state.level)
item_step state at mark.Other = None
item_step state at mark.Dots = None
item_step state at (mark.Open cell) = None
item_step state at (mark.Close cell) = None

abbrev pub plain_step : State → ℕ → Mark → Option State
plain_step state at sign = if is_content state.level.opening then reopen state (content_on state.level.opening at) else item_step state at sign

-- with one token more, which has this number
abbrev pub step : List CellShape → State → ℕ → Mark → Option State
step cells state at (mark.Open cell) = enter state (opening_of cells cell at)
step cells state at (mark.Close cell) = leave state (tag_item state.level cell)
step cells state at mark.Dots = reopen state (dots_on state.level.opening at)
step cells state at mark.Rewrite = plain_step state at mark.Rewrite
step cells state at mark.Bag = plain_step state at mark.Bag
step cells state at mark.Dot = plain_step state at mark.Dot
step cells state at mark.LeftBracket = plain_step state at mark.LeftBracket
step cells state at mark.RightBracket = plain_step state at mark.RightBracket
step cells state at mark.Other = plain_step state at mark.Other

-- with tokens of which the first has this number
unfoldable pub steps : List CellShape → State → ℕ → List Mark → Option State
steps cells state at [] = Some state
steps cells state at (sign ∷ signs) = option_and_then (λ next. steps cells next (at + 1) signs) (step cells state at sign)

-- what the body is, where nothing is open
abbrev pub side_read : State → Option side.Side
side_read state = elim state.level.opening [
  | Body ↦ Some (side_of state.level.before state.level.items)
  | Bracket start ↦ None
  | Cells cell start dots ↦ None
  | Content cell start dots first past ↦ None
]
