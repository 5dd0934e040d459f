-- Configurations as they are printed.
use Rattle.std.specs.Prelude.{ℕ, cond, List, [], ◌∷◌, ◌++◌, map, codes}
use Rattle.std.specs.List.{flat_map}
use Rattle.std.specs.declared.cmp.Ordering.{Ordering}
use Rattle.std.specs.Ordering.{nat_cmp, ordering_then, is_lt}
use Rattle.std.specs.Cmp.Lexicographic.{slice_cmp}
use Rattle.k_terms.specs.declared.value.Content.{Content}
use Rattle.k_terms.specs.declared.value.Content.TheVariants.{Cells as NoContent, Seq as SeqContent, Map as MapContent, List as ListContent, One as OneContent}
use Rattle.rule_terms.specs.declared.plain.Plain.{Plain, Plain', out-Plain, Row_of-Plain, end_of-Plain, more_of-Plain}
use Rattle.rule_terms.specs.declared.defs.CellShape.{CellShape}
use Rattle.printed_form.specs.Words.{Words, text_at}
use Rattle.printed_form.specs.Printed.{content_text}

-- the names of the declared cells
abbrev pub names_of : List CellShape → List (List ℕ)
names_of cells = map (λ cell. cell.name) cells

-- the order of children: by their declared cells, and those of one declared cell by the bytes of their lines
abbrev pub child_cmp : ℕ × List ℕ → ℕ × List ℕ → Ordering
child_cmp a b = ordering_then (nat_cmp a.0 b.0) (slice_cmp nat_cmp a.1 b.1)

-- a child put before the first that is not below it
abbrev pub put_child : ℕ × List ℕ → List (ℕ × List ℕ) → List (ℕ × List ℕ)
put_child child [] = child ∷ []
put_child child (other ∷ others) = cond (is_lt (child_cmp other child)) (other ∷ put_child child others) (child ∷ other ∷ others)

abbrev pub in_order : List (ℕ × List ℕ) → List (ℕ × List ℕ)
in_order [] = []
in_order (child ∷ children) = put_child child (in_order children)

-- the lines of children, in their order
abbrev pub children_text : List (ℕ × List ℕ) → List ℕ
children_text children = flat_map (λ child. child.1) (in_order children)

abbrev pub opening : List ℕ → List ℕ
opening name = codes "<" ++ name ++ codes ">"

abbrev pub closing : List ℕ → List ℕ
closing name = codes "</" ++ name ++ codes ">"

-- a leaf: one line
abbrev pub leaf_text : List ℕ → List ℕ → List ℕ → List ℕ
leaf_text indent name content = indent ++ opening name ++ codes " " ++ content ++ codes " " ++ closing name ++ (10 ∷ [])

-- a cell of cells: its children's lines between a line for each tag
abbrev pub inner_text : List ℕ → List ℕ → List ℕ → List ℕ
inner_text indent name children = indent ++ opening name ++ (10 ∷ []) ++ children ++ indent ++ closing name ++ (10 ∷ [])

-- a cell with this content and these children
abbrev pub lines_text : Words → List ℕ → List ℕ → Content → List (ℕ × List ℕ) → List ℕ
lines_text words indent name NoContent children = inner_text indent name (children_text children)
lines_text words indent name (SeqContent items) children = leaf_text indent name (content_text words (SeqContent items))
lines_text words indent name (MapContent entries) children = leaf_text indent name (content_text words (MapContent entries))
lines_text words indent name (ListContent items) children = leaf_text indent name (content_text words (ListContent items))
lines_text words indent name (OneContent value) children = leaf_text indent name (content_text words (OneContent value))

-- The lines of a cell after this indentation, where `names` has the names of the declared cells.
unfoldable mutual
  pub cell_text : Words → List (List ℕ) → List ℕ → Plain → List ℕ
  cell_text words names indent (Plain' cell content _ children) =
      lines_text words indent (text_at names cell) content (row_of_lines words names (indent ++ codes "  ") children)

  -- the declared cell and the lines of each child
  pub row_of_lines : {n : _} → Words → List (List ℕ) → List ℕ → Row_of-Plain n → List (ℕ × List ℕ)
  row_of_lines words names indent end_of-Plain = []
  row_of_lines words names indent (more_of-Plain child children) = ((out-Plain child).cell, cell_text words names indent child) ∷ row_of_lines words names indent children

-- a child, in this indentation
abbrev pub child_lines : Words → List (List ℕ) → List ℕ → Plain → ℕ × List ℕ
child_lines words names indent child = ((out-Plain child).cell, cell_text words names indent child)

-- The printed form of a configuration.
abbrev pub configuration_text : Words → List (List ℕ) → Plain → List ℕ
configuration_text words names plain = cell_text words names [] plain
