-- What stands in the text of a rule tells variables at its tokens, and by the `...` of its cells: rests of cells by those of a
-- cell of cells.
use Rattle.std.proofs.Common.{◌≡◌, ◌⊎◌, inl, inr, ℕ, ◌+◌, Bool, true, false, cond, List, [], ◌∷◌, ◌++◌, drop, length, append-nil, Option, Some, refl, sym, subst, ◌∙◌}
use Rattle.std.proofs.lemmas.Grind.{flat_map-append}
use Rattle.std.specs.Prelude.{◌&&◌, not}
use Rattle.std.specs.List.{AllByRecursion, flat_map}
use Rattle.k_terms.specs.Sorts.{sort_bag}
use Rattle.live_config.proofs.Members.{Has, has_left, has_right}
use Rattle.rule_terms.specs.declared.defs.CellShape.{CellShape}
use Rattle.rule_tokens.specs.declared.token.RuleToken.{RuleToken}
use Rattle.rule_cells.specs.declared.form.Cell.{Cell as CellRecord}
use Rattle.rule_cells.specs.Written.{Item, Items, Side, past_dots, signs_of_items, item_at, items_at, side_at}
use Rattle.rule_cells.specs.Written.Item.{EmptyBag, Point, Rewritten, OfCells, OfContent}
use Rattle.rule_cells.specs.Written.Items.{Nothing, And}
use Rattle.rule_cells.specs.Written.Side.{Same, Changed}
use Rattle.rule_parts.specs.declared.argument_sorts.Productions.{Productions}
use Rattle.rule_parts.specs.declared.leaves.Leaf.{Leaf}
use Rattle.rule_parts.specs.declared.parts.Side.{Side as Stands}
use Rattle.rule_parts.specs.declared.parts.Side.TheVariants.{Both, Left, Right}
use Rattle.rule_parts.specs.declared.terms.Occurrence.{Occurrence}
use Rattle.rule_parts.specs.Parts.{left_of, right_of}
use Rattle.rule_parts.specs.Sides.{is_left, whole_sort}
use Rattle.rule_drafts.specs.declared.reading.Reading.{Reading}
use Rattle.rule_drafts.specs.Bodies.{dots_occurrence}
use Rattle.rule_drafts.specs.Cells.{kind_of, tag_of, nested_event, events_in, all_events, events_of, parts_at, content_occurrences, event_occurrences}
use Rattle.rule_drafts.proofs.ItemLayers.{events-Cell, events-Nothing, events-Cells, events-Content, events-Change, events-Same, events-Changed}
use Rattle.draft_laws.proofs.WrittenCells.{TextCell, cell_at, of_cells_at, of_content_at, item_cells, items_cells, side_cells, has_cells_in}
use Rattle.draft_laws.proofs.Sides.{is_on}
use Rattle.draft_laws.proofs.Occurring.{IsNoTag, AreGood, parts_good, dropped_good}

-- by the `...` of one of these cells, on its side; that of a cell of cells has the sort of rests of cells
pub record IsDotsOf (cells : List TextCell) (o : Occurrence) : Type 0 where
  pub one : TextCell
  pub has : Has cells one
  pub home : o.home ≡ one.held.start
  pub left : o.is_left ≡ is_on true one
  pub sort : has_cells_in one.held.inside ≡ true → o.sort ≡ sort_bag

abbrev pub IsTold : List RuleToken → List TextCell → Occurrence → Type 0
IsTold tokens cells o = IsNoTag tokens o.home ⊎ IsDotsOf cells o

all_joined : {X : Type 0} (P : X → Type 0) (xs ys : List X) → AllByRecursion P xs → AllByRecursion P ys → AllByRecursion P (xs ++ ys)
all_joined P [] ys one other = other
all_joined P (x ∷ xs) ys one other = (one.0, all_joined P xs ys one.1 other)

all_weaker : {X : Type 0} (P Q : X → Type 0) → ((x : X) → P x → Q x) → (xs : List X) → AllByRecursion P xs → AllByRecursion Q xs
all_weaker P Q to [] all = tt
all_weaker P Q to (x ∷ xs) all = (to x all.0, all_weaker P Q to xs all.1)

module _ (g : Productions) (leaves : List Leaf) (shapes : List CellShape) (readings : List Reading) (tokens : List RuleToken) (good : AreGood tokens leaves) where
  abbrev All : List TextCell → List Occurrence → Type 0
  All whole occurrences = AllByRecursion (IsTold tokens whole) occurrences

  -- the variables of what stands in the text
  pub record Told (whole : List TextCell) (events : _) : Type 0 where
    pub told : All whole (flat_map (event_occurrences g leaves shapes readings) events)

  told_append : (whole : List TextCell) (xs ys : _) → Told whole xs → Told whole ys
      → Told whole (xs ++ ys)
  told_append whole xs ys one other =
      record { told = subst (All whole) (sym (flat_map-append (event_occurrences g leaves shapes readings) xs ys)) (all_joined (IsTold tokens whole) _ _ one.told other.told) }

  told_around : (whole : List TextCell) (first last xs : _) → All whole (event_occurrences g leaves shapes readings first) → Told whole xs → All whole (event_occurrences g leaves shapes readings last)
      → Told whole ((first ∷ xs) ++ last ∷ [])
  told_around whole first last xs one inner other =
      record {
        told = subst (All whole) (sym (flat_map-append (event_occurrences g leaves shapes readings) (first ∷ xs) (last ∷ [])))
            (all_joined (IsTold tokens whole) _ _ (all_joined (IsTold tokens whole) _ _ one inner.told) (all_joined (IsTold tokens whole) (event_occurrences g leaves shapes readings last) [] other tt));
      }

  nested_told : (whole : List TextCell) (at : ℕ) (on : Stands) → Told whole (nested_event at on)
  nested_told whole at Both = record { told = tt }
  nested_told whole at Left = record { told = tt }
  nested_told whole at Right = record { told = tt }

  dots_told : (whole : List TextCell) (b : Bool) (one : TextCell) (sort : ℕ) → Has whole one → (has_cells_in one.held.inside ≡ true → sort ≡ sort_bag)
      → All whole (cond b (dots_occurrence (tag_of one.held.cell one.held.start one.held.left_dots one.held.right_dots) sort (is_left one.on)) [])
  dots_told whole true one sort has of_bag = (inr (record { one = one; has = has; home = refl; left = refl; sort = of_bag }), tt)
  dots_told whole false one sort has of_bag = tt

  content_told : (whole : List TextCell) (one : TextCell) (first : ℕ) → Has whole one → (has_cells_in one.held.inside ≡ true → ⊥)
      → All whole (content_occurrences g leaves shapes readings one.on (tag_of one.held.cell one.held.start one.held.left_dots one.held.right_dots) first)
  content_told whole one first has bare =
      let tag = tag_of one.held.cell one.held.start one.held.left_dots one.held.right_dots in
      all_joined (IsTold tokens whole) _ _
      (all_joined (IsTold tokens whole) _ _ (dots_told whole one.held.left_dots one (whole_sort (kind_of shapes one.held.cell)) has (λ cells. absurd (bare cells)))
      (all_weaker (λ (o : Occurrence). IsNoTag tokens o.home) (IsTold tokens whole) (λ o h. inl h) _
      (parts_good tokens g (drop first leaves) (dropped_good tokens first leaves good) (kind_of shapes one.held.cell) (parts_at g leaves shapes readings one.on tag first))))
      (dots_told whole (one.held.right_dots && not one.held.left_dots) one (whole_sort (kind_of shapes one.held.cell)) has (λ cells. absurd (bare cells)))

  module _ (f : ℕ → ℕ) (whole : List TextCell) where
    abbrev Within : List TextCell → Type 0
    Within cells = (some : TextCell) → Has cells some → Has whole some

    left_part : (xs ys : List TextCell) → Within (xs ++ ys) → Within xs
    left_part xs ys within some h = within some (has_left xs ys some h)

    right_part : (xs ys : List TextCell) → Within (xs ++ ys) → Within ys
    right_part xs ys within some h = within some (has_right xs ys some h)

    mutual
      unfolding item_cells items_cells side_cells item_at items_at side_at

      item_told : (on : Stands) (above : Option ℕ) (at : ℕ) (item : Item) → Within (item_cells f on above at item)
          → Told whole (events_in on (item_at at item))
      item_told on above at EmptyBag within = subst (Told whole) (sym (events-Nothing on at)) (record { told = tt })
      item_told on above at Point within = subst (Told whole) (sym (events-Nothing on at)) (record { told = tt })
      item_told on above at (Rewritten before after) within =
          let one = items_cells f (left_of on) above (at + 1) before in
          let other = items_cells f (right_of on) above (at + 1 + length (signs_of_items before) + 1) after in
          subst (Told whole)
          (sym (events-Change on at (items_at (at + 1) before) (items_at (at + 1 + length (signs_of_items before) + 1) after)))
          (told_append whole _ _ (told_append whole _ _ (nested_told whole at on) (items_told (left_of on) above (at + 1) before (left_part one other within)))
          (items_told (right_of on) above (at + 1 + length (signs_of_items before) + 1) after (right_part one other within)))
      item_told on above at (OfCells cell dots_left side dots_right) within =
          let held : CellRecord = of_cells_at at cell dots_left side dots_right in
          let one = cell_at on above (f at) held in
          let tag = tag_of cell at dots_left dots_right in
          let has : Has whole one = within one (inl refl) in
          subst (Told whole)
          (sym (events-Cell on held ∙ events-Cells on tag (side_at (past_dots dots_left (at + 1)) side)))
          (told_around whole _ _ (all_events on (at + 1) (side_at (past_dots dots_left (at + 1)) side)) (dots_told whole dots_left one sort_bag has (λ _. refl))
          (side_told on (Some (f at)) (past_dots dots_left (at + 1)) (at + 1) side (λ some h. within some (inr h))) (dots_told whole (dots_right && not dots_left) one sort_bag has (λ _. refl)))
      item_told on above at (OfContent cell dots_left content dots_right) within =
          let held : CellRecord = of_content_at at cell dots_left (length content) dots_right in
          let one = cell_at on above (f at) held in
          let tag = tag_of cell at dots_left dots_right in
          let first = past_dots dots_left (at + 1) in
          subst (Told whole) (sym (events-Cell on held ∙ events-Content on tag first (first + length content)))
          (record { told = all_joined (IsTold tokens whole) (content_occurrences g leaves shapes readings on tag first) [] (content_told whole one first (within one (inl refl)) (λ e. absurd (let f : false ≡ true = e in cc))) tt })

      items_told : (on : Stands) (above : Option ℕ) (at : ℕ) (items : Items) → Within (items_cells f on above at items)
          → Told whole (events_of on (items_at at items))
      items_told on above at Nothing within = record { told = tt }
      items_told on above at (And items item) within =
          let one = items_cells f on above at items in
          let other = item_cells f on above (at + length (signs_of_items items)) item in
          subst (Told whole)
          (sym (flat_map-append (events_in on) (items_at at items) (item_at (at + length (signs_of_items items)) item ∷ [])))
          (told_append whole _ _ (items_told on above at items (left_part one other within))
          (subst (Told whole) (sym (append-nil (events_in on (item_at (at + length (signs_of_items items)) item))))
          (item_told on above (at + length (signs_of_items items)) item (right_part one other within))))

      pub side_told : (on : Stands) (above : Option ℕ) (at start : ℕ) (side : Side) → Within (side_cells f on above at side)
          → Told whole (all_events on start (side_at at side))
      side_told on above at start (Same items) within =
          subst (Told whole) (sym (events-Same on start (items_at at items))) (items_told on above at items within)
      side_told on above at start (Changed before after) within =
          let one = items_cells f (left_of on) above at before in
          let other = items_cells f (right_of on) above (at + length (signs_of_items before) + 1) after in
          subst (Told whole)
          (sym (events-Changed on start (items_at at before) (items_at (at + length (signs_of_items before) + 1) after)))
          (told_append whole _ _ (told_append whole _ _ (nested_told whole start on) (items_told (left_of on) above at before (left_part one other within)))
          (items_told (right_of on) above (at + length (signs_of_items before) + 1) after (right_part one other within)))
