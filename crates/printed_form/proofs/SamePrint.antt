-- Configurations that are alike have one printed form.
use Rattle.std.proofs.Common.{◌≡◌, ℕ, List, [], ◌∷◌, ◌++◌, map, refl, sym, ap, ◌∙◌}
use Rattle.std.specs.Prelude.{codes}
use Rattle.std.specs.List.{flat_map}
use Rattle.std.proofs.lemmas.List.{map-append}
use denote.Hole.Carrier.{out}
use Rattle.k_terms.specs.declared.value.Content.{Content}
use Rattle.k_terms.specs.declared.value.Content.TheVariants.{Cells as NoContent, Seq as SeqContent, Map as MapContent, List as ListContent, One as OneContent}
use Rattle.rule_terms.specs.declared.plain.Plain.{Plain, Plain', out-Plain, Row_of-Plain, end_of-Plain, more_of-Plain}
use Rattle.rule_terms.specs.Rewriting.{Alike, AllAlike}
use Rattle.printed_form.specs.Words.{Words, text_at}
use Rattle.printed_form.specs.Configurations.{put_child, in_order, inner_text, lines_text, cell_text, row_of_lines, child_lines}
use Rattle.printed_form.specs.Laws.{OrderOfChildrenIsFree}
use Rattle.printed_form.proofs.Sorting.{Child, in_order-middle}
use Rattle.printed_form.proofs.Cells.{cell_text_levels}

same_cell : (t u : Plain) → Alike t u → (out-Plain t).cell ≡ (out-Plain u).cell
unfolding Alike out-Plain out
same_cell (Plain' cell content s children) u h = h.0

-- a cell's lines depend on the sorted list of its children alone
lines_same : (words : Words) (indent name : List ℕ) (content : Content) (xs ys : List Child) → in_order xs ≡ in_order ys → lines_text words indent name content xs ≡ lines_text words indent name content ys
lines_same words indent name NoContent xs ys h = ap (λ zs. inner_text indent name (flat_map (λ (child : Child). child.1) zs)) h
lines_same words indent name (SeqContent items) xs ys h = refl
lines_same words indent name (MapContent entries) xs ys h = refl
lines_same words indent name (ListContent items) xs ys h = refl
lines_same words indent name (OneContent value) xs ys h = refl

-- a child at any place of the list
middle_at : (f : Plain → Child) (before : List Plain) (u : Plain) (after us : List Plain) → us ≡ before ++ u ∷ after → put_child (f u) (in_order (map f (before ++ after))) ≡ in_order (map f us)
middle_at f before u after us is =
    ap (λ cs. put_child (f u) (in_order cs)) (map-append f before after) ∙ sym (in_order-middle (map f before) (f u) (map f after))
    ∙ ap in_order (sym (map-append f before (u ∷ after))) ∙ ap (λ ts. in_order (map f ts)) (sym is)

same_child : (words : Words) (names : List (List ℕ)) (indent : List ℕ) (t u : Plain) → Alike t u → cell_text words names indent t ≡ cell_text words names indent u → child_lines words names indent t ≡ child_lines words names indent u
same_child words names indent t u h e = λ i. (same_cell t u h i, e i)

mutual
  unfolding Alike AllAlike cell_text row_of_lines

  cell_same : (words : Words) (names : List (List ℕ)) (t u : Plain) → Alike t u → (indent : List ℕ) → cell_text words names indent t ≡ cell_text words names indent u
  cell_same words names (Plain' cell content s children) u h indent =
      let f : Plain → Child = child_lines words names (indent ++ codes "  ") in
      lines_same words indent (text_at names cell) content _ (map f (out-Plain u).children) (row_same words names children (out-Plain u).children h.2 (indent ++ codes "  "))
      ∙ (λ i. lines_text words indent (text_at names (h.0 i)) (h.1 i) (map f (out-Plain u).children))
      ∙ sym (cell_text_levels words names indent u)

  row_same : {n : _} (words : Words) (names : List (List ℕ)) (ts : Row_of-Plain n) (us : List Plain) → AllAlike ts us → (indent : List ℕ) → in_order (row_of_lines words names indent ts) ≡ in_order (map (child_lines words names indent) us)
  row_same words names end_of-Plain us h indent = ap (λ cs. in_order (map (child_lines words names indent) cs)) (sym h)
  row_same words names (more_of-Plain t ts) us (before, u, after, is, like, rest) indent =
      ap (put_child (child_lines words names indent t)) (row_same words names ts (before ++ after) rest indent)
      ∙ ap (λ c. put_child c (in_order (map (child_lines words names indent) (before ++ after)))) (same_child words names indent t u like (cell_same words names t u like indent))
      ∙ middle_at (child_lines words names indent) before u after us is

pub order_of_children_is_free : OrderOfChildrenIsFree
order_of_children_is_free words names t u h = cell_same words names t u h []
