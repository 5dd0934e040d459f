-- Values and contents of cells as they are printed.
use Rattle.std.specs.Prelude.{ℕ, Bool, true, false, cond, List, [], ◌∷◌, ◌++◌, map, codes}
use Rattle.std.specs.Fmt.{signed_decimal}
use Rattle.k_terms.specs.declared.value.Value.{Value, Int, Bool as Truth, Str, Id, Node', Items', Seq', Map', List' as Listed', Freezer', Row_of-Value, end_of-Value, more_of-Value, Row_of-Value-Map-0-2, end_of-Value-Map-0-2, more_of-Value-Map-0-2}
use Rattle.k_terms.specs.declared.value.Content.{Content}
use Rattle.k_terms.specs.declared.value.Content.TheVariants.{Cells as NoContent, Seq as SeqContent, Map as MapContent, List as ListContent, One as OneContent}
use Rattle.printed_form.specs.Words.{Words, label_of, word_of}
use Rattle.printed_form.specs.Pieces.{quoted, joined_or, bool_text, in_parentheses, list_item, map_entry, application_text, freezer_text}

unfoldable pub has_parts : {n : _} → Row_of-Value n → Bool
has_parts end_of-Value = false
has_parts (more_of-Value _ _) = true

unfoldable pub has_entries : {n : _} → Row_of-Value-Map-0-2 n → Bool
has_entries end_of-Value-Map-0-2 = false
has_entries (more_of-Value-Map-0-2 _ _ _) = true

-- a sequence, map or list that is not empty, which as a part of another value stands in parentheses
unfoldable pub is_enclosed : Value → Bool
is_enclosed (Seq' _ items) = has_parts items
is_enclosed (Map' _ entries) = has_entries entries
is_enclosed (Listed' _ items) = has_parts items
is_enclosed _ = false

-- a value's text where it is a part of another value
abbrev pub enclosed_if : Bool → List ℕ → List ℕ
enclosed_if within text = cond within (in_parentheses text) text

-- The printed form of a value.
unfoldable mutual
  pub value_text : Words → Value → List ℕ
  value_text words (Int number) = signed_decimal number
  value_text words (Truth truth) = bool_text truth
  value_text words (Str bytes) = quoted bytes
  value_text words (Id symbol) = word_of words symbol.0
  value_text words (Node' prod _ parts) = application_text (label_of words prod) (codes "(") (row_texts words parts) (codes ")")
  value_text words (Items' prod _ parts) = codes "." ++ application_text (label_of words prod) (codes "[") (row_texts words parts) (codes "]")
  value_text words (Seq' _ parts) = joined_or (codes ".K") (codes " ~> ") (row_texts words parts)
  value_text words (Map' _ entries) = joined_or (codes ".Map") (codes " ") (pair_row_texts words entries)
  value_text words (Listed' _ parts) = joined_or (codes ".List") (codes " ") (map list_item (row_texts words parts))
  value_text words (Freezer' prod place _ parts) = freezer_text (label_of words prod) place (row_texts words parts)

  -- the texts of parts
  pub row_texts : {n : _} → Words → Row_of-Value n → List (List ℕ)
  row_texts words end_of-Value = []
  row_texts words (more_of-Value part parts) = enclosed_if (is_enclosed part) (value_text words part) ∷ row_texts words parts

  -- the texts of entries
  pub pair_row_texts : {n : _} → Words → Row_of-Value-Map-0-2 n → List (List ℕ)
  pair_row_texts words end_of-Value-Map-0-2 = []
  pair_row_texts words (more_of-Value-Map-0-2 key value entries) =
      map_entry (enclosed_if (is_enclosed key) (value_text words key)) (enclosed_if (is_enclosed value) (value_text words value)) ∷ pair_row_texts words entries

-- a value that is a part of another value
abbrev pub part_text : Words → Value → List ℕ
part_text words part = enclosed_if (is_enclosed part) (value_text words part)

abbrev pub part_texts : Words → List Value → List (List ℕ)
part_texts words parts = map (part_text words) parts

abbrev pub entry_text : Words → Value × Value → List ℕ
entry_text words entry = map_entry (part_text words entry.0) (part_text words entry.1)

-- the items of a sequence, the entries of a map, the items of a list
abbrev pub sequence_text : Words → List Value → List ℕ
sequence_text words items = joined_or (codes ".K") (codes " ~> ") (part_texts words items)

abbrev pub map_text : Words → List (Value × Value) → List ℕ
map_text words entries = joined_or (codes ".Map") (codes " ") (map (entry_text words) entries)

abbrev pub list_text : Words → List Value → List ℕ
list_text words items = joined_or (codes ".List") (codes " ") (map list_item (part_texts words items))

-- The printed form of what a cell contains. Cells that are in a cell are printed with it, on lines of their own.
abbrev pub content_text : Words → Content → List ℕ
content_text words NoContent = []
content_text words (SeqContent items) = sequence_text words items
content_text words (MapContent entries) = map_text words entries
content_text words (ListContent items) = list_text words items
content_text words (OneContent value) = value_text words value
