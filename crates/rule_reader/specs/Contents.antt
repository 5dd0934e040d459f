-- The contents of a rule.
use Rattle.std.specs.Prelude.{ℕ, ◌==◌, Bool, true, false, List, [], ◌∷◌, ◌++◌, codes, unwrap_or}
use Rattle.std.specs.List.{position_from}
use Rattle.production_reader.specs.Allowed.{same_text}
use Rattle.rule_terms.specs.declared.defs.CellShape.{CellShape}
use Rattle.rule_cells.specs.declared.form.Item.{Item, Cell', Change', Nothing, Row_of-Item, end_of-Item, more_of-Item}
use Rattle.rule_cells.specs.declared.form.Inside.{Inside, Cells, Content as ContentOf}
use Rattle.rule_cells.specs.declared.form.Side.{Side, Same', Change' as SideChange'}
use Rattle.rule_parts.specs.declared.parts.Side.{Side as Stands}
use Rattle.rule_parts.specs.declared.parts.Side.TheVariants.{Both, Left, Right}
use Rattle.rule_parts.specs.Parts.{left_of, right_of}
use Rattle.rule_reader.specs.declared.contents.Content.{Content}

-- the number of the declared cell `k`
abbrev pub cell_k : List CellShape → ℕ
cell_k cells = unwrap_or (position_from (λ (cell : CellShape). same_text cell.name (codes "k")) 0 cells) 0

-- a cell that stands on the right side alone is new
abbrev pub is_new : Stands → Bool
is_new Both = false
is_new Left = false
is_new Right = true

-- The contents of what stands on a side, in the order of the text: a change has its left part on the left side and its right
-- part on the right one.
unfoldable mutual
  pub contents_in : Stands → Item → List Content
  contents_in on (Cell' cell start left_dots right_dots inside) = inside_contents on cell inside
  contents_in on (Change' start _ left _ right) = row_contents (left_of on) left ++ row_contents (right_of on) right
  contents_in on (Nothing at) = []

  pub inside_contents : Stands → ℕ → Inside → List Content
  inside_contents on cell (Cells side) = side_contents on side
  inside_contents on cell (ContentOf first past) = record { cell = cell; is_new = is_new on; first = first; past = past } ∷ []

  pub side_contents : Stands → Side → List Content
  side_contents on (Same' _ items) = row_contents on items
  side_contents on (SideChange' _ left _ right) = row_contents (left_of on) left ++ row_contents (right_of on) right

  pub row_contents : {n : _} → Stands → Row_of-Item n → List Content
  row_contents on end_of-Item = []
  row_contents on (more_of-Item item items) = contents_in on item ++ row_contents on items

-- the contents of a body; one that is a content is that of the cell `k`
abbrev pub contents_of : List CellShape → Inside → List Content
contents_of cells body = inside_contents Both (cell_k cells) body
