-- What holds of the variables in the cells of a text, and of their `...`, holds of all variables that are told in the text.
use Rattle.std.proofs.Common.{ℕ, ◌+◌, Bool, true, false, cond, List, [], ◌∷◌, ◌++◌, length, drop, append-nil, Option, Some, sym, subst, ◌∙◌}
use Rattle.std.proofs.lemmas.Grind.{flat_map-append}
use Rattle.std.specs.Prelude.{◌&&◌, not}
use Rattle.std.specs.List.{AllByRecursion, flat_map}
use Rattle.k_terms.specs.Sorts.{sort_bag}
use Rattle.rule_terms.specs.declared.defs.CellShape.{CellShape}
use Rattle.rule_cells.specs.declared.form.Cell.{Cell as CellRecord}
use Rattle.rule_cells.specs.declared.form.Inside.{Inside, Cells as CellsInside, Content as ContentInside}
use Rattle.rule_cells.specs.Written.{Item, Items, Side, past_dots, signs_of_items, item_at, items_at, side_at}
use Rattle.rule_cells.specs.Written.Item.{EmptyBag, Point, Rewritten, OfCells, OfContent}
use Rattle.rule_cells.specs.Written.Items.{Nothing, And}
use Rattle.rule_cells.specs.Written.Side.{Same, Changed}
use Rattle.rule_parts.specs.declared.argument_sorts.Productions.{Productions}
use Rattle.rule_parts.specs.declared.leaves.Leaf.{Leaf}
use Rattle.rule_parts.specs.declared.parts.Side.{Side as Stands}
use Rattle.rule_parts.specs.declared.parts.Side.TheVariants.{Both, Left, Right}
use Rattle.rule_parts.specs.declared.terms.Occurrence.{Occurrence}
use Rattle.rule_parts.specs.Parts.{left_of, right_of}
use Rattle.rule_parts.specs.Sides.{is_left, whole_sort, part_occurrences}
use Rattle.rule_drafts.specs.declared.reading.Reading.{Reading}
use Rattle.rule_drafts.specs.Bodies.{dots_occurrence}
use Rattle.rule_drafts.specs.Cells.{kind_of, tag_of, nested_event, events_in, all_events, events_of, parts_at, content_occurrences, event_occurrences}
use Rattle.rule_drafts.proofs.ItemLayers.{events-Cell, events-Nothing, events-Cells, events-Content, events-Change, events-Same, events-Changed}
use Rattle.draft_laws.proofs.WrittenCells.{TextCell, cell_at, of_cells_at, of_content_at, item_cells, items_cells, side_cells}
use Rattle.sound_sequences.proofs.Terms.{left_of_all, right_of_all}
use Rattle.sound_sequences.proofs.Whats.{all_joined}

module _ (g : Productions) (leaves : List Leaf) (shapes : List CellShape) (readings : List Reading) where
  -- the variables in what a cell has for its content
  abbrev pub found_by : Stands → ℕ → ℕ → Bool → Bool → Inside → List Occurrence
  found_by on cell start left right (CellsInside side) = []
  found_by on cell start left right (ContentInside first past) =
      flat_map (part_occurrences g (drop first leaves) (kind_of shapes cell)) (parts_at g leaves shapes readings on (tag_of cell start left right) first)

  abbrev pub found_in : TextCell → List Occurrence
  found_in one = found_by one.on one.held.cell one.held.start one.held.left_dots one.held.right_dots one.held.inside

module _ (g : Productions) (leaves : List Leaf) (shapes : List CellShape) (readings : List Reading) (P : Occurrence → Type 0) where
  -- it holds of the variables in the content of a cell, and of what is told by its `...`
  pub record CellHolds (one : TextCell) : Type 0 where
    pub content : AllByRecursion P (found_in g leaves shapes readings one)
    pub dots : (sort : ℕ) → P (record { at = one.held.start; home = one.held.start; sort = sort; is_left = is_left one.on; is_stray = false })

  -- of all that is told
  pub record Told (events : _) : Type 0 where
    pub told : AllByRecursion P (flat_map (event_occurrences g leaves shapes readings) events)

  told_append : (xs ys : _) → Told xs → Told ys → Told (xs ++ ys)
  told_append xs ys one other = record { told = subst (AllByRecursion P) (sym (flat_map-append (event_occurrences g leaves shapes readings) xs ys)) (all_joined P _ _ one.told other.told) }

  told_around : (first last xs : _) → AllByRecursion P (event_occurrences g leaves shapes readings first) → Told xs
      → AllByRecursion P (event_occurrences g leaves shapes readings last)
      → Told ((first ∷ xs) ++ last ∷ [])
  told_around first last xs one inner other = record {
    told = subst (AllByRecursion P) (sym (flat_map-append (event_occurrences g leaves shapes readings) (first ∷ xs) (last ∷ [])))
        (all_joined P _ _ (all_joined P _ _ one inner.told) (all_joined P (event_occurrences g leaves shapes readings last) [] other tt));
  }

  nested_told : (at : ℕ) (on : Stands) → Told (nested_event at on)
  nested_told at Both = record { told = tt }
  nested_told at Left = record { told = tt }
  nested_told at Right = record { told = tt }

  dots_told : (b : Bool) (one : TextCell) (sort : ℕ) → CellHolds one
      → AllByRecursion P (cond b (dots_occurrence (tag_of one.held.cell one.held.start one.held.left_dots one.held.right_dots) sort (is_left one.on)) [])
  dots_told true one sort holds = (holds.dots sort, tt)
  dots_told false one sort holds = tt

  pub content_told : (on : Stands) (above : Option ℕ) (mark cell start first past : ℕ) (left right : Bool)
      → CellHolds (cell_at on above mark (record { cell = cell; start = start; left_dots = left; right_dots = right; inside = ContentInside first past }))
      → AllByRecursion P (content_occurrences g leaves shapes readings on (tag_of cell start left right) first)
  content_told on above mark cell start first past left right holds =
      let one = cell_at on above mark (record { cell = cell; start = start; left_dots = left; right_dots = right; inside = ContentInside first past }) in
      all_joined P _ _ (all_joined P _ _ (dots_told left one (whole_sort (kind_of shapes cell)) holds) holds.content) (dots_told _ one (whole_sort (kind_of shapes cell)) holds)

  module _ (f : ℕ → ℕ) where
    abbrev AllHold : List TextCell → Type 0
    AllHold cells = AllByRecursion CellHolds cells

    mutual
      unfolding item_cells items_cells side_cells item_at items_at side_at

      item_told : (on : Stands) (above : Option ℕ) (at : ℕ) (item : Item) → AllHold (item_cells f on above at item) → Told (events_in on (item_at at item))
      item_told on above at EmptyBag all = subst Told (sym (events-Nothing on at)) (record { told = tt })
      item_told on above at Point all = subst Told (sym (events-Nothing on at)) (record { told = tt })
      item_told on above at (Rewritten before after) all =
          let one = items_cells f (left_of on) above (at + 1) before in
          let other = items_cells f (right_of on) above (at + 1 + length (signs_of_items before) + 1) after in
          subst Told (sym (events-Change on at (items_at (at + 1) before) (items_at (at + 1 + length (signs_of_items before) + 1) after)))
          (told_append _ _ (told_append _ _ (nested_told at on) (items_told (left_of on) above (at + 1) before (left_of_all CellHolds one other all)))
          (items_told (right_of on) above (at + 1 + length (signs_of_items before) + 1) after (right_of_all CellHolds one other all)))
      item_told on above at (OfCells cell dots_left side dots_right) all =
          let held : CellRecord = of_cells_at at cell dots_left side dots_right in
          let one = cell_at on above (f at) held in
          subst Told (sym (events-Cell on held ∙ events-Cells on (tag_of cell at dots_left dots_right) (side_at (past_dots dots_left (at + 1)) side)))
          (told_around _ _ (all_events on (at + 1) (side_at (past_dots dots_left (at + 1)) side)) (dots_told dots_left one sort_bag all.0)
          (side_told on (Some (f at)) (past_dots dots_left (at + 1)) (at + 1) side all.1) (dots_told (dots_right && not dots_left) one sort_bag all.0))
      item_told on above at (OfContent cell dots_left content dots_right) all =
          let held : CellRecord = of_content_at at cell dots_left (length content) dots_right in
          let tag = tag_of cell at dots_left dots_right in
          let first = past_dots dots_left (at + 1) in
          subst Told (sym (events-Cell on held ∙ events-Content on tag first (first + length content)))
          (record { told = all_joined P (content_occurrences g leaves shapes readings on tag first) [] (content_told on above (f at) cell at first (first + length content) dots_left dots_right all.0) tt })

      items_told : (on : Stands) (above : Option ℕ) (at : ℕ) (items : Items) → AllHold (items_cells f on above at items) → Told (events_of on (items_at at items))
      items_told on above at Nothing all = record { told = tt }
      items_told on above at (And items item) all =
          let one = items_cells f on above at items in
          let other = item_cells f on above (at + length (signs_of_items items)) item in
          subst Told (sym (flat_map-append (events_in on) (items_at at items) (item_at (at + length (signs_of_items items)) item ∷ [])))
          (told_append _ _ (items_told on above at items (left_of_all CellHolds one other all))
          (subst Told (sym (append-nil (events_in on (item_at (at + length (signs_of_items items)) item))))
          (item_told on above (at + length (signs_of_items items)) item (right_of_all CellHolds one other all))))

      pub side_told : (on : Stands) (above : Option ℕ) (at start : ℕ) (side : Side) → AllHold (side_cells f on above at side)
          → Told (all_events on start (side_at at side))
      side_told on above at start (Same items) all = subst Told (sym (events-Same on start (items_at at items))) (items_told on above at items all)
      side_told on above at start (Changed before after) all =
          let one = items_cells f (left_of on) above at before in
          let other = items_cells f (right_of on) above (at + length (signs_of_items before) + 1) after in
          subst Told (sym (events-Changed on start (items_at at before) (items_at (at + length (signs_of_items before) + 1) after)))
          (told_append _ _ (told_append _ _ (nested_told start on) (items_told (left_of on) above at before (left_of_all CellHolds one other all)))
          (items_told (right_of on) above (at + length (signs_of_items before) + 1) after (right_of_all CellHolds one other all)))
