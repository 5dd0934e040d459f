-- The cells of a side of a draft are those of the text that stand on it.
use Rattle.std.proofs.Common.{◌≡◌, ℕ, ◌+◌, Bool, true, false, cond, List, [], ◌∷◌, ◌++◌, map, filter, length, append-nil, Option, Some, None, refl, sym, ap, ◌∙◌}
use Rattle.std.proofs.lemmas.List.{map-append}
use Rattle.std.proofs.lemmas.List.Elements.{filter-append}
use Rattle.std.proofs.lemmas.Grind.{flat_map-append}
use Rattle.std.specs.List.{flat_map}
use Rattle.k_terms.specs.Sorts.{sort_map, sort_list}
use Rattle.grammar_terms.specs.declared.shape.Shape.{Shape}
use Rattle.rule_terms.specs.declared.defs.CellShape.{CellShape}
use Rattle.rule_terms.specs.declared.defs.Kind.{Kind}
use Rattle.rule_terms.specs.declared.defs.Kind.TheVariants.{Cells as CellsKind, Seq as SeqKind, Map as MapKind, List as ListKind, One as OneKind}
use Rattle.rule_terms.specs.declared.pattern.Pattern.{Pattern}
use Rattle.rule_terms.specs.declared.pattern.CellPat.{CellPat}
use Rattle.rule_terms.specs.declared.pattern.Body.{Map as MapBody, List as ListBody, Made as MadeBody}
use Rattle.rule_terms.specs.Spots.{Spot, spots_in}
use Rattle.rule_terms.proofs.SpotCounts.{spots_in-Cells, spots_of_cells}
use Rattle.rule_tokens.specs.declared.token.RuleToken.{RuleToken}
use Rattle.rule_cells.specs.declared.form.Cell.{Cell as CellRecord}
use Rattle.rule_cells.specs.declared.form.Inside.{Content as ContentInside}
use Rattle.rule_cells.specs.Written.{Item, Items, Side, past_dots, signs_of_items, item_at, items_at, side_at}
use Rattle.rule_cells.specs.Written.Item.{EmptyBag, Point, Rewritten, OfCells, OfContent}
use Rattle.rule_cells.specs.Written.Items.{Nothing, And}
use Rattle.rule_cells.specs.Written.Side.{Same, Changed}
use Rattle.rule_parts.specs.declared.argument_sorts.Productions.{Productions}
use Rattle.rule_parts.specs.declared.leaves.Leaf.{Leaf}
use Rattle.rule_parts.specs.declared.parts.Part.{Part}
use Rattle.rule_parts.specs.declared.parts.Side.{Side as Stands}
use Rattle.rule_parts.specs.declared.parts.Side.TheVariants.{Both, Left, Right}
use Rattle.rule_parts.specs.declared.terms.Occurrence.{Occurrence}
use Rattle.rule_parts.specs.Parts.{left_of, right_of}
use Rattle.rule_parts.specs.Sides.{stands, of_side, what_made, what_entries, what_rests, items_before}
use Rattle.rule_drafts.specs.declared.reading.Reading.{Reading}
use Rattle.rule_drafts.specs.Bodies.{seq_by, variable_in, made_map, made_list, map_by, list_by, list_items, one_by, rest_by, rest_place, dots_number, body_of}
use Rattle.rule_drafts.specs.Cells.{mark_of, tag_of, front_tag, content_body, cells_in, inside_body, all_cells, forest_of, body_cells}
use Rattle.rule_drafts.proofs.ItemLayers.{cells-Cell, cells-Nothing, cells-Change, cells-Same, cells-Changed, body-Cells, body-Content, cell_made}
use Rattle.cell_completion.specs.declared.tree.Written.{Written}
use Rattle.rule_completion.specs.Writing.{spots_at, as_written, cells_at}
use Rattle.draft_laws.proofs.WrittenCells.{TextCell, cell_at, of_cells_at, of_content_at, item_cells, items_cells, side_cells}

abbrev pub is_on : Bool → TextCell → Bool
is_on left one = stands left one.on

-- a cell as one that is written, as if it stood on one side alone
abbrev pub lone : TextCell → Written
lone one = record { mark = one.mark; cell = one.held.cell; above = one.above; both = false }

-- a body that is one content, as a cell
abbrev pub front_held : ℕ → ℕ → ℕ → CellRecord
front_held k first past = record { cell = k; start = past; left_dots = false; right_dots = true; inside = ContentInside first past }

-- those of a side
abbrev pub image : Bool → List TextCell → List Written
image left cells = map lone (filter (is_on left) cells)

-- ---- what stands in a cell that is not on a side is not on it either

left_off : (on : Stands) (left : Bool) → stands left on ≡ false → stands left (left_of on) ≡ false
left_off Both true e = absurd (let f : true ≡ false = e in cc)
left_off Both false e = absurd (let f : true ≡ false = e in cc)
left_off Left left e = e
left_off Right left e = e

right_off : (on : Stands) (left : Bool) → stands left on ≡ false → stands left (right_of on) ≡ false
right_off Both true e = absurd (let f : true ≡ false = e in cc)
right_off Both false e = absurd (let f : true ≡ false = e in cc)
right_off Left left e = e
right_off Right left e = e

none_joined : (left : Bool) (xs ys : List TextCell) → filter (is_on left) xs ≡ [] → filter (is_on left) ys ≡ [] → filter (is_on left) (xs ++ ys) ≡ []
none_joined left xs ys one other = filter-append (is_on left) xs ys ∙ (λ i. one i ++ other i)

none_begun : (left : Bool) (on : Stands) (above : Option ℕ) (mark : ℕ) (held : CellRecord) (xs : List TextCell) → stands left on ≡ false → filter (is_on left) xs ≡ []
    → filter (is_on left) (cell_at on above mark held ∷ xs) ≡ []
none_begun left on above mark held xs off none = ap (λ b. cond b (cell_at on above mark held ∷ filter (is_on left) xs) (filter (is_on left) xs)) off ∙ none

module _ (f : ℕ → ℕ) (left : Bool) where
  mutual
    unfolding item_cells items_cells side_cells

    item_off : (on : Stands) (above : Option ℕ) (at : ℕ) (item : Item) → stands left on ≡ false → filter (is_on left) (item_cells f on above at item) ≡ []
    item_off on above at EmptyBag off = refl
    item_off on above at Point off = refl
    item_off on above at (Rewritten before after) off =
        none_joined left _ _ (items_off (left_of on) above (at + 1) before (left_off on left off))
        (items_off (right_of on) above (at + 1 + length (signs_of_items before) + 1) after (right_off on left off))
    item_off on above at (OfCells cell dots_left side dots_right) off =
        none_begun left on above (f at) (of_cells_at at cell dots_left side dots_right) _ off (side_off on (Some (f at)) (past_dots dots_left (at + 1)) side off)
    item_off on above at (OfContent cell dots_left content dots_right) off = none_begun left on above (f at) (of_content_at at cell dots_left (length content) dots_right) [] off refl

    items_off : (on : Stands) (above : Option ℕ) (at : ℕ) (items : Items) → stands left on ≡ false → filter (is_on left) (items_cells f on above at items) ≡ []
    items_off on above at Nothing off = refl
    items_off on above at (And items item) off =
        none_joined left _ _ (items_off on above at items off) (item_off on above (at + length (signs_of_items items)) item off)

    side_off : (on : Stands) (above : Option ℕ) (at : ℕ) (side : Side) → stands left on ≡ false → filter (is_on left) (side_cells f on above at side) ≡ []
    side_off on above at (Same items) off = items_off on above at items off
    side_off on above at (Changed before after) off =
        none_joined left _ _ (items_off (left_of on) above at before (left_off on left off))
        (items_off (right_of on) above (at + length (signs_of_items before) + 1) after (right_off on left off))

-- ---- a body that is no body of cells has no cells in it

seq_bare : (m : ℕ) (vars : List Occurrence) (o : Option ℕ) (parts : List Pattern) → spots_in m (seq_by vars o parts) ≡ []
unfolding spots_in
seq_bare m vars None parts = refl
seq_bare m vars (Some x) parts = refl

made_map_bare : (m : ℕ) (part : Pattern) → spots_in m (made_map part) ≡ []
unfolding spots_in
made_map_bare m part = elim (variable_in part) as (λ o. spots_in m (elim o [ Some x ↦ MapBody [] (Some x) | None ↦ MadeBody part ]) ≡ []) [ Some x ↦ refl | None ↦ refl ]

made_list_bare : (m : ℕ) (part : Pattern) → spots_in m (made_list part) ≡ []
unfolding spots_in
made_list_bare m part = elim (variable_in part) as (λ o. spots_in m (elim o [ Some x ↦ ListBody [] (Some x) [] | None ↦ MadeBody part ]) ≡ []) [ Some x ↦ refl | None ↦ refl ]

map_bare : (m : ℕ) (made : List Pattern) (entries : List (Pattern × Pattern)) (rest : Option ℕ) → spots_in m (map_by made entries rest) ≡ []
unfolding spots_in
map_bare m [] entries rest = refl
map_bare m (part ∷ parts) entries rest = made_map_bare m part

list_bare : (m : ℕ) (made items : List Pattern) (rest : Option ℕ) (place : ℕ) → spots_in m (list_by made items rest place) ≡ []
unfolding spots_in
list_bare m [] items None place = refl
list_bare m [] items (Some x) place = refl
list_bare m (part ∷ parts) items rest place = made_list_bare m part

one_bare : (m : ℕ) (parts : List Pattern) → spots_in m (one_by parts) ≡ []
unfolding spots_in
one_bare m [] = refl
one_bare m (part ∷ parts) = refl

module _ (g : Productions) (leaves : List Leaf) (vars : List Occurrence) where
  body_bare : (m : ℕ) (tag : _) (left : Bool) (parts : List (Part Shape)) (kind : Kind) → spots_in m (body_of g leaves vars tag left parts kind) ≡ []
  body_bare m tag left parts CellsKind = spots_in-Cells m [] None
  body_bare m tag left parts SeqKind = seq_bare m vars (dots_number vars tag) _
  body_bare m tag left parts MapKind =
      map_bare m (of_side left (what_made g leaves vars sort_map) parts) (of_side left (what_entries g leaves vars) parts) (rest_by (dots_number vars tag) (of_side left (what_rests leaves vars) parts))
  body_bare m tag left parts ListKind =
      list_bare m (of_side left (what_made g leaves vars sort_list) parts) (list_items g leaves vars tag left parts) (rest_by (dots_number vars tag) (of_side left (what_rests leaves vars) parts))
      (rest_place tag (items_before left parts) (length (list_items g leaves vars tag left parts)))
  body_bare m tag left parts (OneKind sort) = one_bare m _

-- ---- the cells of a forest as written ones

of_many : (cells : List CellPat) → map (as_written false) (flat_map (spots_at None) cells) ≡ flat_map (cells_at None) cells
of_many [] = refl
of_many (c ∷ cells) =
    map-append (as_written false) (spots_at None c) (flat_map (spots_at None) cells) ∙ ap (λ ws. cells_at None c ++ ws) (of_many cells)

-- ---- the forests

module _ (g : Productions) (leaves : List Leaf) (shapes : List CellShape) (readings : List Reading) (vars : List Occurrence) (tokens : List RuleToken) (left : Bool) where
  pub content_bare : (m : ℕ) (on : Stands) (tag : _) (first : ℕ) → spots_in m (content_body g leaves shapes readings vars left on tag first) ≡ []
  content_bare m on tag first = body_bare g _ vars m tag left _ _

  -- a cell of the text as it stands on a side
  abbrev pub spot_of : TextCell → Spot
  spot_of one = record {
    cell = one.held.cell;
    mark = one.mark;
    above = one.above;
    body = inside_body g leaves shapes readings vars tokens left one.on (tag_of one.held.cell one.held.start one.held.left_dots one.held.right_dots) one.held.inside;
  }

  abbrev pub pictures : List TextCell → List Spot
  pictures some = map spot_of (filter (is_on left) some)

  pictures-append : (xs ys : List TextCell) → pictures (xs ++ ys) ≡ pictures xs ++ pictures ys
  pictures-append xs ys = ap (map spot_of) (filter-append (is_on left) xs ys) ∙ map-append spot_of (filter (is_on left) xs) (filter (is_on left) ys)

  abbrev pub shown : Option ℕ → List CellPat → List Spot
  shown above cells = flat_map (spots_at above) cells

  two_shown : (above : Option ℕ) (ps qs : List CellPat) (xs ys : List TextCell) → shown above ps ≡ pictures xs → shown above qs ≡ pictures ys
      → shown above (ps ++ qs) ≡ pictures (xs ++ ys)
  two_shown above ps qs xs ys one other = flat_map-append (spots_at above) ps qs ∙ (λ i. one i ++ other i) ∙ sym (pictures-append xs ys)

  one_shown : (on : Stands) (above : Option ℕ) (mark : ℕ) (held : CellRecord) (made : CellPat) (inner : List TextCell) → (stands left on ≡ false → filter (is_on left) inner ≡ [])
      → spots_at above made ≡ spot_of (cell_at on above mark held) ∷ pictures inner
      → shown above (cond (stands left on) (made ∷ []) []) ≡ pictures (cell_at on above mark held ∷ inner)
  one_shown on above mark held made inner off whole =
      elim (stands left on) as (λ b. stands left on ≡ b → shown above (cond b (made ∷ []) [])
      ≡ map spot_of (cond b (cell_at on above mark held ∷ filter (is_on left) inner) (filter (is_on left) inner))) [
        | true ↦ λ _. append-nil (spots_at above made) ∙ whole
        | false ↦ λ e. ap (map spot_of) (sym (off e))
      ] refl

  mutual
    unfolding item_cells items_cells side_cells item_at items_at side_at

    item_shown : (on : Stands) (above : Option ℕ) (at : ℕ) (item : Item)
        → shown above (cells_in g leaves shapes readings vars tokens left on (item_at at item)) ≡ pictures (item_cells (mark_of tokens) on above at item)
    item_shown on above at EmptyBag = ap (shown above) (cells-Nothing g leaves shapes readings vars tokens left on at)
    item_shown on above at Point = ap (shown above) (cells-Nothing g leaves shapes readings vars tokens left on at)
    item_shown on above at (Rewritten before after) =
        ap (shown above) (cells-Change g leaves shapes readings vars tokens left on at (items_at (at + 1) before) (items_at (at + 1 + length (signs_of_items before) + 1) after))
        ∙ two_shown above _ _ _ _ (items_shown (left_of on) above (at + 1) before) (items_shown (right_of on) above (at + 1 + length (signs_of_items before) + 1) after)
    item_shown on above at (OfCells cell dots_left side dots_right) =
        let inner = side_at (past_dots dots_left (at + 1)) side in
        let held : CellRecord = of_cells_at at cell dots_left side dots_right in
        let tag = tag_of cell at dots_left dots_right in
        let made = cell_made g leaves shapes readings vars tokens left on held in
        let cells = all_cells g leaves shapes readings vars tokens left on inner in
        let rest = side_shown on (Some (mark_of tokens at)) (past_dots dots_left (at + 1)) side in
        ap (shown above) (cells-Cell g leaves shapes readings vars tokens left on held)
        ∙ one_shown on above (mark_of tokens at) held made (side_cells (mark_of tokens) on (Some (mark_of tokens at)) (past_dots dots_left (at + 1)) side)
        (λ e. side_off (mark_of tokens) left on (Some (mark_of tokens at)) (past_dots dots_left (at + 1)) side e)
        (ap (λ ps. spot_of (cell_at on above (mark_of tokens at) held) ∷ ps)
        (spots_of_cells (mark_of tokens at) made.body cells cells (dots_number vars tag) (body-Cells g leaves shapes readings vars tokens left on tag inner) refl ∙ rest))
    item_shown on above at (OfContent cell dots_left content dots_right) =
        let first = past_dots dots_left (at + 1) in
        let held : CellRecord = of_content_at at cell dots_left (length content) dots_right in
        let tag = tag_of cell at dots_left dots_right in
        let made = cell_made g leaves shapes readings vars tokens left on held in
        ap (shown above) (cells-Cell g leaves shapes readings vars tokens left on held)
        ∙ one_shown on above (mark_of tokens at) held made [] (λ e. refl)
        (ap (λ ps. spot_of (cell_at on above (mark_of tokens at) held) ∷ ps)
        (ap (spots_in (mark_of tokens at)) (body-Content g leaves shapes readings vars tokens left on tag first (first + length content))
        ∙ content_bare (mark_of tokens at) on tag first))

    items_shown : (on : Stands) (above : Option ℕ) (at : ℕ) (items : Items)
        → shown above (forest_of g leaves shapes readings vars tokens left on (items_at at items)) ≡ pictures (items_cells (mark_of tokens) on above at items)
    items_shown on above at Nothing = refl
    items_shown on above at (And items item) =
        ap (shown above) (flat_map-append (cells_in g leaves shapes readings vars tokens left on) (items_at at items) (item_at (at + length (signs_of_items items)) item ∷ [])
        ∙ ap (λ cs. forest_of g leaves shapes readings vars tokens left on (items_at at items) ++ cs)
        (append-nil (cells_in g leaves shapes readings vars tokens left on (item_at (at + length (signs_of_items items)) item))))
        ∙ two_shown above _ _ _ _ (items_shown on above at items) (item_shown on above (at + length (signs_of_items items)) item)

    pub side_shown : (on : Stands) (above : Option ℕ) (at : ℕ) (side : Side)
        → shown above (all_cells g leaves shapes readings vars tokens left on (side_at at side)) ≡ pictures (side_cells (mark_of tokens) on above at side)
    side_shown on above at (Same items) = ap (shown above) (cells-Same g leaves shapes readings vars tokens left on (items_at at items)) ∙ items_shown on above at items
    side_shown on above at (Changed before after) =
        ap (shown above) (cells-Changed g leaves shapes readings vars tokens left on (items_at at before) (items_at (at + length (signs_of_items before) + 1) after))
        ∙ two_shown above _ _ _ _ (items_shown (left_of on) above at before) (items_shown (right_of on) above (at + length (signs_of_items before) + 1) after)

  -- ---- a body that is one content

  pub front_shown : (k first past : ℕ)
      → shown None (body_cells g leaves shapes readings vars tokens left k (ContentInside first past)) ≡ spot_of (cell_at Both None (mark_of tokens past) (front_held k first past)) ∷ []
  front_shown k first past =
      append-nil (spots_at None _)
      ∙ (λ i. record { cell = k; mark = mark_of tokens past; above = None; body = sym (body-Content g leaves shapes readings vars tokens left Both (front_tag k past) first past) i }
      ∷ content_bare (mark_of tokens past) Both (front_tag k past) first i)

  -- ---- as cells that are written

  lone_spot : (one : TextCell) → as_written false (spot_of one) ≡ lone one
  lone_spot one = refl

  lone_spots : (some : List TextCell) → map (as_written false) (map spot_of some) ≡ map lone some
  lone_spots [] = refl
  lone_spots (one ∷ some) = ap (λ ws. lone one ∷ ws) (lone_spots some)

  pub as_listed : (cells : List CellPat) (some : List TextCell) → shown None cells ≡ pictures some → flat_map (cells_at None) cells ≡ image left some
  as_listed cells some same = sym (of_many cells) ∙ ap (map (as_written false)) same ∙ lone_spots (filter (is_on left) some)
