-- The cells of a rule: what was read of each, its variables, and the forests of both sides.
use Rattle.std.specs.Prelude.{ℕ, ◌+◌, ◌-◌, ◌==◌, Bool, true, false, cond, List, [], ◌∷◌, ◌++◌, length, take, drop, filter, Option, Some, None, slice_get}
use Rattle.std.specs.Option.{option_map_or, option_and_then}
use Rattle.std.specs.List.{flat_map, find}
use Rattle.k_terms.specs.Sorts.{sort_bag}
use Rattle.grammar_terms.specs.declared.shape.Shape.{Shape}
use Rattle.rule_tokens.specs.declared.token.RuleKind.{RuleKind}
use Rattle.rule_tokens.specs.declared.token.RuleKind.TheVariants.{Open, Close, Rewrite, Then, MapsTo, Dots, Dot, ListItem, Terminal, Literal, Variable}
use Rattle.rule_tokens.specs.declared.token.RuleToken.{RuleToken}
use Rattle.rule_terms.specs.declared.defs.Kind.{Kind}
use Rattle.rule_terms.specs.declared.defs.Kind.TheVariants.{Cells as CellsKind}
use Rattle.rule_terms.specs.declared.defs.CellShape.{CellShape}
use Rattle.rule_terms.specs.declared.pattern.Body.{Body, Cells as CellsBody}
use Rattle.rule_terms.specs.declared.pattern.CellPat.{CellPat}
use Rattle.rule_cells.specs.declared.form.Item.{Item, Cell', Change', Nothing, Row_of-Item, end_of-Item, more_of-Item}
use Rattle.rule_cells.specs.declared.form.Inside.{Inside, Cells as CellsInside, Content as ContentInside}
use Rattle.rule_cells.specs.declared.form.Side as cells_side
use Rattle.rule_parts.specs.declared.argument_sorts.Productions.{Productions}
use Rattle.rule_parts.specs.declared.leaves.Leaf.{Leaf}
use Rattle.rule_parts.specs.declared.terms.Occurrence.{Occurrence}
use Rattle.rule_parts.specs.declared.parts.Side.{Side}
use Rattle.rule_parts.specs.declared.parts.Side.TheVariants.{Both}
use Rattle.rule_parts.specs.declared.parts.Part.{Part}
use Rattle.rule_parts.specs.Parts.{left_of, right_of, form_parts}
use Rattle.rule_parts.specs.Sides.{is_left, is_right, stands, whole_sort, part_occurrences}
use Rattle.rule_drafts.specs.declared.reading.Tag.{Tag}
use Rattle.rule_drafts.specs.declared.reading.Reading.{Reading}
use Rattle.rule_drafts.specs.declared.events.Event.{Event}
use Rattle.rule_drafts.specs.declared.events.Event.TheVariants.{Begin, End, Content, Inner}
use Rattle.rule_drafts.specs.Bodies.{dots_before, dots_behind, dots_number, body_of, side_faults, nested_faults}

-- ---- contents

-- what a declared cell contains
abbrev pub kind_of : List CellShape → ℕ → Kind
kind_of cells cell = option_map_or (λ (shape : CellShape). shape.kind) (slice_get cells cell) CellsKind

-- the reading of the content at a token
abbrev pub reading_at : List Reading → ℕ → Option Reading
reading_at readings first = find (λ (reading : Reading). reading.first == first) readings

-- the parts of a content that stands on a side
abbrev pub parts_of : Kind → ℕ → Side → Option Reading → List (Part Shape)
parts_of kind count side None = []
parts_of kind count side (Some reading) = form_parts kind count side reading.form reading.shape

-- the content's first token, with a `...` before it, and that of the first term of an operator on its left side
abbrev pub first_token : Tag → ℕ → ℕ
first_token tag first = cond tag.left_dots (first - 1) first

abbrev pub operator_at : Option Reading → Option ℕ
operator_at reading = option_and_then (λ (r : Reading). r.operator) reading

-- ---- what stands in the text

abbrev pub tag_of : ℕ → ℕ → Bool → Bool → Tag
tag_of cell start left right = record { cell = cell; start = start; left_dots = left; right_dots = right }

-- A body that is one content stands at the front of the cell `k` with the rest open. That rest is told by the token behind
-- the content.
abbrev pub front_tag : ℕ → ℕ → Tag
front_tag k past = tag_of k past false true

-- what a change within another is
abbrev pub nested_event : ℕ → Side → List Event
nested_event at side = cond (is_left side) (cond (is_right side) [] (Inner at ∷ [])) (Inner at ∷ [])

-- Cells one after the other, as they stand in the text: a cell of cells begins and ends; a cell that stands in no change is on
-- both sides. A change of all that a cell contains begins behind the cell's tag.
unfoldable mutual
  pub events_in : Side → Item → List Event
  events_in side (Cell' cell start left right inside) = inside_events side (tag_of cell start left right) inside
  events_in side (Change' at _ before _ after) = nested_event at side ++ row_events (left_of side) before ++ row_events (right_of side) after
  events_in side (Nothing at) = []

  pub inside_events : Side → Tag → Inside → List Event
  inside_events side tag (CellsInside cells) = (Begin side tag ∷ all_events side (tag.start + 1) cells) ++ End side tag ∷ []
  inside_events side tag (ContentInside first past) = Content side tag first ∷ []

  -- what a cell or a body contains, by its first token
  pub all_events : Side → ℕ → cells_side.Side → List Event
  all_events side at (cells_side.Same' _ items) = row_events side items
  all_events side at (cells_side.Change' _ before _ after) = nested_event at side ++ row_events (left_of side) before ++ row_events (right_of side) after

  pub row_events : {n : _} → Side → Row_of-Item n → List Event
  row_events side end_of-Item = []
  row_events side (more_of-Item item items) = events_in side item ++ row_events side items

abbrev pub events_of : Side → List Item → List Event
events_of side items = flat_map (events_in side) items

abbrev pub body_events : ℕ → Inside → List Event
body_events k (CellsInside cells) = all_events Both 0 cells
body_events k (ContentInside first past) = Content Both (front_tag k past) first ∷ []

module _ (g : Productions) (leaves : List Leaf) (cells : List CellShape) (readings : List Reading) where
  -- the parts of the content at a token
  abbrev pub parts_at : Side → Tag → ℕ → List (Part Shape)
  parts_at side tag first = parts_of (kind_of cells tag.cell) (length g.arguments) side (reading_at readings first)

  -- the variables of a content, with that of its `...`
  abbrev pub content_occurrences : Side → Tag → ℕ → List Occurrence
  content_occurrences side tag first =
      dots_before tag (whole_sort (kind_of cells tag.cell)) (is_left side)
      ++ flat_map (part_occurrences g (drop first leaves) (kind_of cells tag.cell)) (parts_at side tag first)
      ++ dots_behind tag (whole_sort (kind_of cells tag.cell)) (is_left side)

  abbrev pub event_occurrences : Event → List Occurrence
  event_occurrences (Begin side tag) = dots_before tag sort_bag (is_left side)
  event_occurrences (End side tag) = dots_behind tag sort_bag (is_left side)
  event_occurrences (Content side tag first) = content_occurrences side tag first
  event_occurrences (Inner at) = []

-- ---- the cells of a side

-- the number of opening tags before a token
abbrev pub is_open : RuleKind → Bool
is_open (Open cell) = true
is_open (Close cell) = false
is_open Rewrite = false
is_open Then = false
is_open MapsTo = false
is_open Dots = false
is_open (Dot sort) = false
is_open ListItem = false
is_open (Terminal text) = false
is_open (Literal value) = false
is_open (Variable name sort) = false

abbrev pub mark_of : List RuleToken → ℕ → ℕ
mark_of tokens place = length (filter (λ (token : RuleToken). is_open token.kind) (take place tokens))

-- a cell with what it contains
abbrev pub cell_with : List RuleToken → Tag → Body → CellPat
cell_with tokens tag body = record { cell = tag.cell; mark = mark_of tokens tag.start; body = body }

module _ (g : Productions) (leaves : List Leaf) (cells : List CellShape) (readings : List Reading) (vars : List Occurrence) where
  -- what a cell contains on a side
  abbrev pub content_body : Bool → Side → Tag → ℕ → Body
  content_body left side tag first =
      body_of g (drop first leaves) vars tag left (parts_at g leaves cells readings side tag first) (kind_of cells tag.cell)

  -- where the form of a content is none that a rule has
  abbrev pub side_faults_at : Bool → Side → Tag → ℕ → List ℕ
  side_faults_at left side tag first =
      cond (stands left side)
      (side_faults g (drop first leaves) vars tag left (parts_at g leaves cells readings side tag first) (kind_of cells tag.cell) (first_token tag first)
      (operator_at (reading_at readings first)))
      []

  abbrev pub content_faults : Side → Tag → ℕ → List ℕ
  content_faults side tag first =
      nested_faults (drop first leaves) (first_token tag first) (parts_at g leaves cells readings side tag first)
      ++ side_faults_at true side tag first ++ side_faults_at false side tag first

  abbrev pub event_faults : Event → List ℕ
  event_faults (Begin side tag) = []
  event_faults (End side tag) = []
  event_faults (Content side tag first) = content_faults side tag first
  event_faults (Inner at) = at ∷ []

  module _ (tokens : List RuleToken) (left : Bool) where
    -- The cells of the left side, or of the right one. Marks rise in the order of the text.
    unfoldable mutual
      pub cells_in : Side → Item → List CellPat
      cells_in side (Cell' cell start before behind inside) =
          cond (stands left side) (cell_with tokens (tag_of cell start before behind) (inside_body side (tag_of cell start before behind) inside) ∷ []) []
      cells_in side (Change' at _ before _ after) = row_cells (left_of side) before ++ row_cells (right_of side) after
      cells_in side (Nothing at) = []

      pub inside_body : Side → Tag → Inside → Body
      inside_body side tag (CellsInside inner) = CellsBody (all_cells side inner) (dots_number vars tag)
      inside_body side tag (ContentInside first past) = content_body left side tag first

      pub all_cells : Side → cells_side.Side → List CellPat
      all_cells side (cells_side.Same' _ items) = row_cells side items
      all_cells side (cells_side.Change' _ before _ after) = row_cells (left_of side) before ++ row_cells (right_of side) after

      pub row_cells : {n : _} → Side → Row_of-Item n → List CellPat
      row_cells side end_of-Item = []
      row_cells side (more_of-Item item items) = cells_in side item ++ row_cells side items

    abbrev pub forest_of : Side → List Item → List CellPat
    forest_of side items = flat_map (cells_in side) items

    abbrev pub body_cells : ℕ → Inside → List CellPat
    body_cells k (CellsInside inner) = all_cells Both inner
    body_cells k (ContentInside first past) = cell_with tokens (front_tag k past) (content_body left Both (front_tag k past) first) ∷ []
