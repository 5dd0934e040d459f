-- The contents of a rule, one layer at a time.
use Rattle.std.proofs.Common.{◌≡◌, ℕ, List, [], ◌∷◌, ◌++◌, refl, ap, ◌∙◌}
use Rattle.std.specs.List.{flat_map}
use Rattle.rule_cells.specs.declared.form.Item.{Item, Cell, Change, Nothing, Row_of-Item, end_of-Item, more_of-Item, items-the_row-Item, items_hidden-the_row-Item-0}
use Rattle.rule_cells.specs.declared.form.Inside.TheBlock.{hidden-the_row-Item-0}
use Rattle.rule_cells.specs.declared.form.Cell.{Cell as CellRecord}
use Rattle.rule_cells.specs.declared.form.Inside.{Cells, Content as ContentOf}
use Rattle.rule_cells.specs.declared.form.Side.{Side, Same, Change as SideChange}
use Rattle.rule_parts.specs.declared.parts.Side.{Side as Stands}
use Rattle.rule_parts.specs.Parts.{left_of, right_of}
use Rattle.rule_reader.specs.Contents.{is_new, contents_in, inside_contents, side_contents, row_contents}

row_is : {n : _} (on : Stands) (row : Row_of-Item n) → row_contents on row ≡ flat_map (contents_in on) (items-the_row-Item n row)
unfolding row_contents
row_is on end_of-Item = refl
row_is on (more_of-Item item items) = ap (λ found. contents_in on item ++ found) (row_is on items)

row_of : (on : Stands) (items : List Item) → row_contents on (hidden-the_row-Item-0 items) ≡ flat_map (contents_in on) items
row_of on items = row_is on (hidden-the_row-Item-0 items) ∙ ap (flat_map (contents_in on)) (items_hidden-the_row-Item-0 items)

pub side-Same : (on : Stands) (items : List Item) → side_contents on (Same items) ≡ flat_map (contents_in on) items
unfolding side_contents
side-Same on items = row_of on items

pub side-Change : (on : Stands) (left right : List Item) → side_contents on (SideChange left right) ≡ flat_map (contents_in (left_of on)) left ++ flat_map (contents_in (right_of on)) right
unfolding side_contents
side-Change on left right = λ i. row_of (left_of on) left i ++ row_of (right_of on) right i

pub inside-Cells : (on : Stands) (cell : ℕ) (side : Side) → inside_contents on cell (Cells side) ≡ side_contents on side
unfolding inside_contents
inside-Cells on cell side = refl

pub inside-Content : (on : Stands) (cell first past : ℕ) → inside_contents on cell (ContentOf first past) ≡ record { cell = cell; is_new = is_new on; first = first; past = past } ∷ []
unfolding inside_contents
inside-Content on cell first past = refl

pub item-Cell : (on : Stands) (cell : CellRecord) → contents_in on (Cell cell) ≡ inside_contents on cell.cell cell.inside
unfolding contents_in
item-Cell on cell = refl

pub item-Change : (on : Stands) (at : ℕ) (left right : List Item) → contents_in on (Change at left right) ≡ flat_map (contents_in (left_of on)) left ++ flat_map (contents_in (right_of on)) right
unfolding contents_in
item-Change on at left right = λ i. row_of (left_of on) left i ++ row_of (right_of on) right i

pub item-Nothing : (on : Stands) (at : ℕ) → contents_in on (Nothing at) ≡ []
unfolding contents_in
item-Nothing on at = refl
