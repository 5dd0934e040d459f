-- The text of a configuration one layer at a time.
use Rattle.std.proofs.Common.{◌≡◌, ℕ, List, ◌∷◌, ◌++◌, map, refl, sym, ap, ◌∙◌}
use Rattle.std.specs.Prelude.{codes}
use Rattle.std.specs.List.{flat_map}
use denote.Hole.Carrier.{out}
use mathlib.Core.Former.{Count}
use Rattle.k_terms.specs.declared.value.Content.{Content}
use Rattle.k_terms.specs.declared.value.Content.TheVariants.{Cells as NoContent, Seq as SeqContent, Map as MapContent, List as ListContent, One as OneContent}
use Rattle.rule_terms.specs.declared.plain.Plain.{Plain, Plain', out-Plain, Row_of-Plain, end_of-Plain, more_of-Plain}
use Rattle.rule_terms.specs.declared.plain.Plain.TheBlock.{items-the_row-Plain, items_shown-the_row-Plain-0}
use Rattle.printed_form.specs.Words.{Words, text_at}
use Rattle.printed_form.specs.Printed.{content_text}
use Rattle.printed_form.specs.Configurations.{lines_text, inner_text, leaf_text, in_order, cell_text, row_of_lines, child_lines}

row_of_lines_is : {n : Count} (words : Words) (names : List (List ℕ)) (indent : List ℕ) (children : Row_of-Plain n) → row_of_lines words names indent children ≡ map (child_lines words names indent) (items-the_row-Plain n children)
unfolding row_of_lines
row_of_lines_is words names indent end_of-Plain = refl
row_of_lines_is words names indent (more_of-Plain child children) = ap (λ lines. child_lines words names indent child ∷ lines) (row_of_lines_is words names indent children)

-- the cell with these parts, one level above its children
abbrev pub level_lines : Words → List (List ℕ) → List ℕ → ℕ → Content → List Plain → List ℕ
level_lines words names indent cell content children = lines_text words indent (text_at names cell) content (map (child_lines words names (indent ++ codes "  ")) children)

pub cell_text_levels : (words : Words) (names : List (List ℕ)) (indent : List ℕ) (t : Plain) → cell_text words names indent t ≡ level_lines words names indent (out-Plain t).cell (out-Plain t).content (out-Plain t).children
unfolding cell_text out-Plain out
cell_text_levels words names indent (Plain' cell content s children) =
    ap (lines_text words indent (text_at names cell) content) (row_of_lines_is words names (indent ++ codes "  ") children ∙ ap (map (child_lines words names (indent ++ codes "  "))) (sym (items_shown-the_row-Plain-0 s children)))

-- a content that is not of cells is that of a leaf
pub leaf_lines : (words : Words) (indent name : List ℕ) (content : Content) (children : List (ℕ × List ℕ)) → (content ≡ NoContent → ⊥) → lines_text words indent name content children ≡ leaf_text indent name (content_text words content)
leaf_lines words indent name NoContent children h = absurd (h refl)
leaf_lines words indent name (SeqContent items) children h = refl
leaf_lines words indent name (MapContent entries) children h = refl
leaf_lines words indent name (ListContent items) children h = refl
leaf_lines words indent name (OneContent value) children h = refl

-- ---- what the code of a cell gives

pub inner_at : (words : Words) (names : List (List ℕ)) (indent name : List ℕ) (shown lines : List (ℕ × List ℕ)) (t : Plain) (children : List Plain) → name ≡ text_at names (out-Plain t).cell → (out-Plain t).content ≡ NoContent → children ≡ (out-Plain t).children → lines ≡ in_order (map (child_lines words names (indent ++ codes "  ")) children) → shown ≡ lines → inner_text indent name (flat_map (λ child. child.1) shown) ≡ cell_text words names indent t
inner_at words names indent name shown lines t children is_name is_content is_children is_lines is_shown =
    ap (λ text. inner_text indent text (flat_map (λ (child : ℕ × List ℕ). child.1) shown)) is_name
    ∙ ap (λ cs. inner_text indent (text_at names (out-Plain t).cell) (flat_map (λ (child : ℕ × List ℕ). child.1) cs)) (is_shown ∙ is_lines ∙ ap (λ ts. in_order (map (child_lines words names (indent ++ codes "  ")) ts)) is_children)
    ∙ sym (cell_text_levels words names indent t ∙ ap (λ content. level_lines words names indent (out-Plain t).cell content (out-Plain t).children) is_content)

pub leaf_at : (words : Words) (names : List (List ℕ)) (indent name : List ℕ) (t : Plain) → name ≡ text_at names (out-Plain t).cell → ((out-Plain t).content ≡ NoContent → ⊥) → leaf_text indent name (content_text words (out-Plain t).content) ≡ cell_text words names indent t
leaf_at words names indent name t is_name leaf =
    ap (λ text. leaf_text indent text (content_text words (out-Plain t).content)) is_name
    ∙ sym (cell_text_levels words names indent t ∙ leaf_lines words indent (text_at names (out-Plain t).cell) (out-Plain t).content _ leaf)
