-- The cells of a rule, one layer at a time.
use Rattle.std.proofs.Common.{◌≡◌, ℕ, ◌+◌, Bool, true, false, append-nil, List, [], ◌∷◌, ◌++◌, refl, sym, ap, ◌∙◌}
use Rattle.std.specs.Prelude.{cond}
use denote.Hole.Carrier.{out}
use Rattle.rule_tokens.specs.declared.token.RuleToken.{RuleToken}
use Rattle.rule_terms.specs.declared.defs.CellShape.{CellShape}
use Rattle.rule_terms.specs.declared.pattern.CellPat.{CellPat}
use Rattle.rule_terms.specs.declared.pattern.Body.{Cells as CellsBody}
use Rattle.rule_cells.specs.declared.form.Cell.{Cell as CellRecord}
use Rattle.rule_cells.specs.declared.form.Item.{Item, Item-F, Cell, Change, Nothing, Cell', Change', Row_of-Item, end_of-Item, more_of-Item, out-Item, items-the_row-Item, items_shown-the_row-Item-0}
use Rattle.rule_cells.specs.declared.form.Item.TheVariants.{outs-Change}
use Rattle.rule_cells.specs.declared.form.Inside.{Inside, Cells as CellsInside, Content as ContentInside}
use Rattle.rule_cells.specs.declared.form.Inside.TheOpen as layer
use Rattle.rule_cells.specs.declared.form.Side as cells_side
use Rattle.rule_cells.specs.declared.form.Side.TheVariants as side_variants
use Rattle.rule_parts.specs.declared.argument_sorts.Productions.{Productions}
use Rattle.rule_parts.specs.declared.leaves.Leaf.{Leaf as LeafToken}
use Rattle.rule_parts.specs.declared.terms.Occurrence.{Occurrence}
use Rattle.rule_parts.specs.declared.parts.Side.{Side}
use Rattle.rule_parts.specs.Parts.{left_of, right_of}
use Rattle.rule_parts.specs.Sides.{stands}
use Rattle.rule_drafts.specs.declared.reading.Tag.{Tag}
use Rattle.rule_drafts.specs.declared.reading.Reading.{Reading}
use Rattle.rule_drafts.specs.declared.events.Event.{Event}
use Rattle.rule_drafts.specs.declared.events.Event.TheVariants.{Begin, End, Content}
use Rattle.rule_drafts.specs.Bodies.{dots_number}
use Rattle.rule_drafts.specs.Cells.{tag_of, nested_event, events_in, inside_events, all_events, row_events, events_of, content_body, cell_with, cells_in, inside_body, all_cells, row_cells, forest_of}

-- ---- what stands in the text

row_events_is : {n : _} (side : Side) (row : Row_of-Item n) → row_events side row ≡ events_of side (items-the_row-Item n row)
unfolding row_events
row_events_is side end_of-Item = refl
row_events_is side (more_of-Item item items) = ap (λ events. events_in side item ++ events) (row_events_is side items)

pub events-Cell : (side : Side) (cell : CellRecord) → events_in side (Cell cell) ≡ inside_events side (tag_of cell.cell cell.start cell.left_dots cell.right_dots) cell.inside
unfolding events_in
events-Cell side cell = refl

pub events-Nothing : (side : Side) (at : ℕ) → events_in side (Nothing at) ≡ []
unfolding events_in
events-Nothing side at = refl

pub events-Cells : (side : Side) (tag : Tag) (inner : cells_side.Side)
    → inside_events side tag (CellsInside inner) ≡ (Begin side tag ∷ all_events side (tag.start + 1) inner) ++ End side tag ∷ []
unfolding inside_events
events-Cells side tag inner = refl

pub events-Content : (side : Side) (tag : Tag) (first past : ℕ) → inside_events side tag (ContentInside first past) ≡ Content side tag first ∷ []
unfolding inside_events
events-Content side tag first past = refl

level_events : Side → Item-F Inside Item cells_side.Side CellRecord → List Event
level_events side (layer.Cell cell) = inside_events side (tag_of cell.cell cell.start cell.left_dots cell.right_dots) cell.inside
level_events side (layer.Item::Change at before after) = nested_event at side ++ events_of (left_of side) before ++ events_of (right_of side) after
level_events side (layer.Nothing at) = []

event_levels : (side : Side) (item : Item) → events_in side item ≡ level_events side (out-Item item)
unfolding events_in level_events out-Item out
event_levels side (Cell' cell start left right inside) = refl
event_levels side (Nothing at) = refl
event_levels side (Change' at s before t after) =
    λ i. nested_event at side
    ++ (row_events_is (left_of side) before ∙ ap (events_of (left_of side)) (sym (items_shown-the_row-Item-0 s before))) i
    ++ (row_events_is (right_of side) after ∙ ap (events_of (right_of side)) (sym (items_shown-the_row-Item-0 t after))) i

pub events-Change : (side : Side) (at : ℕ) (before after : List Item)
    → events_in side (Change at before after) ≡ nested_event at side ++ events_of (left_of side) before ++ events_of (right_of side) after
unfolding level_events
events-Change side at before after = event_levels side _ ∙ ap (level_events side) (outs-Change at before after)

level_all_events : Side → ℕ → cells_side.Side-F Inside Item cells_side.Side CellRecord → List Event
level_all_events side at (layer.Same items) = events_of side items
level_all_events side at (layer.Side::Change before after) = nested_event at side ++ events_of (left_of side) before ++ events_of (right_of side) after

all_event_levels : (side : Side) (at : ℕ) (inner : cells_side.Side) → all_events side at inner ≡ level_all_events side at (cells_side.out-Side inner)
unfolding all_events level_all_events cells_side.out-Side out
all_event_levels side at (cells_side.Same' s items) = row_events_is side items ∙ ap (events_of side) (sym (items_shown-the_row-Item-0 s items))
all_event_levels side at (cells_side.Change' s before t after) =
    λ i. nested_event at side
    ++ (row_events_is (left_of side) before ∙ ap (events_of (left_of side)) (sym (items_shown-the_row-Item-0 s before))) i
    ++ (row_events_is (right_of side) after ∙ ap (events_of (right_of side)) (sym (items_shown-the_row-Item-0 t after))) i

pub events-Same : (side : Side) (at : ℕ) (items : List Item) → all_events side at (cells_side.Same items) ≡ events_of side items
unfolding level_all_events
events-Same side at items = all_event_levels side at _ ∙ ap (level_all_events side at) (side_variants.outs-Same items)

pub events-Changed : (side : Side) (at : ℕ) (before after : List Item)
    → all_events side at (cells_side.Change before after) ≡ nested_event at side ++ events_of (left_of side) before ++ events_of (right_of side) after
unfolding level_all_events
events-Changed side at before after = all_event_levels side at _ ∙ ap (level_all_events side at) (side_variants.outs-Change before after)

-- ---- the cells of a side

module _ (g : Productions) (leaves : List LeafToken) (cells : List CellShape) (readings : List Reading) (vars : List Occurrence) (tokens : List RuleToken) (left : Bool) where
  row_cells_is : {n : _} (side : Side) (row : Row_of-Item n)
      → row_cells g leaves cells readings vars tokens left side row ≡ forest_of g leaves cells readings vars tokens left side (items-the_row-Item n row)
  unfolding row_cells
  row_cells_is side end_of-Item = refl
  row_cells_is side (more_of-Item item items) = ap (λ found. cells_in g leaves cells readings vars tokens left side item ++ found) (row_cells_is side items)

  abbrev pub cell_made : Side → CellRecord → CellPat
  cell_made side cell =
      cell_with tokens (tag_of cell.cell cell.start cell.left_dots cell.right_dots)
      (inside_body g leaves cells readings vars tokens left side (tag_of cell.cell cell.start cell.left_dots cell.right_dots) cell.inside)

  pub cells-Cell : (side : Side) (cell : CellRecord) → cells_in g leaves cells readings vars tokens left side (Cell cell) ≡ cond (stands left side) (cell_made side cell ∷ []) []
  unfolding cells_in
  cells-Cell side cell = refl

  pub cells-Nothing : (side : Side) (at : ℕ) → cells_in g leaves cells readings vars tokens left side (Nothing at) ≡ []
  unfolding cells_in
  cells-Nothing side at = refl

  pub body-Cells : (side : Side) (tag : Tag) (inner : cells_side.Side)
      → inside_body g leaves cells readings vars tokens left side tag (CellsInside inner) ≡ CellsBody (all_cells g leaves cells readings vars tokens left side inner) (dots_number vars tag)
  unfolding inside_body
  body-Cells side tag inner = refl

  pub body-Content : (side : Side) (tag : Tag) (first past : ℕ)
      → inside_body g leaves cells readings vars tokens left side tag (ContentInside first past) ≡ content_body g leaves cells readings vars left side tag first
  unfolding inside_body
  body-Content side tag first past = refl

  level_cells : Side → Item-F Inside Item cells_side.Side CellRecord → List CellPat
  level_cells side (layer.Cell cell) = cond (stands left side) (cell_made side cell ∷ []) []
  level_cells side (layer.Item::Change at before after) =
      forest_of g leaves cells readings vars tokens left (left_of side) before ++ forest_of g leaves cells readings vars tokens left (right_of side) after
  level_cells side (layer.Nothing at) = []

  cell_levels : (side : Side) (item : Item) → cells_in g leaves cells readings vars tokens left side item ≡ level_cells side (out-Item item)
  unfolding cells_in level_cells out-Item out
  cell_levels side (Cell' cell start before behind inside) = refl
  cell_levels side (Nothing at) = refl
  cell_levels side (Change' at s before t after) =
      λ i. (row_cells_is (left_of side) before ∙ ap (forest_of g leaves cells readings vars tokens left (left_of side)) (sym (items_shown-the_row-Item-0 s before))) i
      ++ (row_cells_is (right_of side) after ∙ ap (forest_of g leaves cells readings vars tokens left (right_of side)) (sym (items_shown-the_row-Item-0 t after))) i

  pub cells-Change : (side : Side) (at : ℕ) (before after : List Item)
      → cells_in g leaves cells readings vars tokens left side (Change at before after)
      ≡ forest_of g leaves cells readings vars tokens left (left_of side) before ++ forest_of g leaves cells readings vars tokens left (right_of side) after
  unfolding level_cells
  cells-Change side at before after = cell_levels side _ ∙ ap (level_cells side) (outs-Change at before after)

  level_all_cells : Side → cells_side.Side-F Inside Item cells_side.Side CellRecord → List CellPat
  level_all_cells side (layer.Same items) = forest_of g leaves cells readings vars tokens left side items
  level_all_cells side (layer.Side::Change before after) =
      forest_of g leaves cells readings vars tokens left (left_of side) before ++ forest_of g leaves cells readings vars tokens left (right_of side) after

  all_cell_levels : (side : Side) (inner : cells_side.Side) → all_cells g leaves cells readings vars tokens left side inner ≡ level_all_cells side (cells_side.out-Side inner)
  unfolding all_cells level_all_cells cells_side.out-Side out
  all_cell_levels side (cells_side.Same' s items) =
      row_cells_is side items ∙ ap (forest_of g leaves cells readings vars tokens left side) (sym (items_shown-the_row-Item-0 s items))
  all_cell_levels side (cells_side.Change' s before t after) =
      λ i. (row_cells_is (left_of side) before ∙ ap (forest_of g leaves cells readings vars tokens left (left_of side)) (sym (items_shown-the_row-Item-0 s before))) i
      ++ (row_cells_is (right_of side) after ∙ ap (forest_of g leaves cells readings vars tokens left (right_of side)) (sym (items_shown-the_row-Item-0 t after))) i

  pub cells-Same : (side : Side) (items : List Item)
      → all_cells g leaves cells readings vars tokens left side (cells_side.Same items) ≡ forest_of g leaves cells readings vars tokens left side items
  unfolding level_all_cells
  cells-Same side items = all_cell_levels side _ ∙ ap (level_all_cells side) (side_variants.outs-Same items)

  pub cells-Changed : (side : Side) (before after : List Item)
      → all_cells g leaves cells readings vars tokens left side (cells_side.Change before after)
      ≡ forest_of g leaves cells readings vars tokens left (left_of side) before ++ forest_of g leaves cells readings vars tokens left (right_of side) after
  unfolding level_all_cells
  cells-Changed side before after = all_cell_levels side _ ∙ ap (level_all_cells side) (side_variants.outs-Change before after)

-- ---- a cell where its side is, and none elsewhere

pub no_cell : (before found : List CellPat) (stays : Bool) (cell : CellPat) → found ≡ cond stays (cell ∷ []) [] → stays ≡ false → before ≡ before ++ found
no_cell before found stays cell is away = sym (append-nil before) ∙ ap (λ xs. before ++ xs) (sym (is ∙ ap (λ b. cond b (cell ∷ []) []) away))

pub one_cell : (before after found : List CellPat) (stays : Bool) (made cell : CellPat) → after ≡ before ++ made ∷ [] → made ≡ cell
    → found ≡ cond stays (cell ∷ []) [] → stays ≡ true → after ≡ before ++ found
one_cell before after found stays made cell adds same is here =
    adds ∙ ap (λ xs. before ++ xs) (ap (λ it. it ∷ []) same ∙ sym (is ∙ ap (λ b. cond b (cell ∷ []) []) here))
