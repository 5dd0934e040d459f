-- The variables that are told in the text of a rule are those of its cells: by the `...` of a cell of cells, and in the content of any other.
use Rattle.std.proofs.Common.{◌≡◌, ◌⊎◌, inl, inr, ℕ, ◌+◌, Bool, true, false, cond, ◌||◌, List, [], ◌∷◌, ◌++◌, length, append-nil, Option, Some, refl, sym, subst, ◌∙◌}
use Rattle.std.proofs.lemmas.Grind.{flat_map-append}
use Rattle.std.specs.Prelude.{◌&&◌, not}
use Rattle.std.specs.List.{AllByRecursion, flat_map}
use Rattle.k_terms.specs.Sorts.{sort_bag}
use Rattle.live_config.proofs.Members.{Has, has_left, has_right}
use Rattle.rule_terms.specs.declared.defs.CellShape.{CellShape}
use Rattle.rule_cells.specs.declared.form.Cell.{Cell as CellRecord}
use Rattle.rule_cells.specs.declared.form.Inside.{Content as ContentInside}
use Rattle.rule_cells.specs.Written.{Item, Items, Side, past_dots, signs_of_items, item_at, items_at, side_at}
use Rattle.rule_cells.specs.Written.Item.{EmptyBag, Point, Rewritten, OfCells, OfContent}
use Rattle.rule_cells.specs.Written.Items.{Nothing, And}
use Rattle.rule_cells.specs.Written.Side.{Same, Changed}
use Rattle.rule_parts.specs.declared.argument_sorts.Productions.{Productions}
use Rattle.rule_parts.specs.declared.leaves.Leaf.{Leaf}
use Rattle.rule_parts.specs.declared.parts.Side.{Side as Stands}
use Rattle.rule_parts.specs.declared.parts.Side.TheVariants.{Both, Left, Right}
use Rattle.rule_parts.specs.declared.terms.Occurrence.{Occurrence}
use Rattle.rule_parts.specs.Parts.{left_of, right_of}
use Rattle.rule_parts.specs.Sides.{is_left}
use Rattle.rule_drafts.specs.declared.reading.Reading.{Reading}
use Rattle.rule_drafts.specs.Bodies.{dots_occurrence}
use Rattle.rule_drafts.specs.Cells.{tag_of, nested_event, events_in, all_events, events_of, content_occurrences, event_occurrences}
use Rattle.rule_drafts.proofs.ItemLayers.{events-Cell, events-Nothing, events-Cells, events-Content, events-Change, events-Same, events-Changed}
use Rattle.draft_laws.proofs.WrittenCells.{TextCell, cell_at, of_cells_at, of_content_at, item_cells, items_cells, side_cells, has_cells_in}
use Rattle.draft_laws.proofs.Sides.{is_on}

-- by the `...` of one of these cells, which is of cells
pub record IsDotsOf (cells : List TextCell) (o : Occurrence) : Type 0 where
  pub one : TextCell
  pub has : Has cells one
  pub holds : has_cells_in one.held.inside ≡ true
  pub dots : (one.held.left_dots || one.held.right_dots) ≡ true
  pub home : o.home ≡ one.held.start
  pub left : o.is_left ≡ is_on true one

all_joined : {X : Type 0} (P : X → Type 0) (xs ys : List X) → AllByRecursion P xs → AllByRecursion P ys → AllByRecursion P (xs ++ ys)
all_joined P [] ys one other = other
all_joined P (x ∷ xs) ys one other = (one.0, all_joined P xs ys one.1 other)

all_of : {X : Type 0} (P : X → Type 0) (xs : List X) → ((x : X) → Has xs x → P x) → AllByRecursion P xs
all_of P [] each = tt
all_of P (x ∷ xs) each = (each x (inl refl), all_of P xs (λ y h. each y (inr h)))

behind_dots : (left right : Bool) → (right && not left) ≡ true → (left || right) ≡ true
behind_dots true right e = refl
behind_dots false true e = refl
behind_dots false false e = absurd (let f : false ≡ true = e in cc)

before_dots : (left right : Bool) → left ≡ true → (left || right) ≡ true
before_dots true right e = refl
before_dots false right e = absurd (let f : false ≡ true = e in cc)

module _ (g : Productions) (leaves : List Leaf) (shapes : List CellShape) (readings : List Reading) where
  -- the variables of the content of a cell that begins at a token
  abbrev pub told_in : TextCell → ℕ → List Occurrence
  told_in one first = content_occurrences g leaves shapes readings one.on (tag_of one.held.cell one.held.start one.held.left_dots one.held.right_dots) first

  -- in the content of one of these cells
  pub record IsInContentOf (cells : List TextCell) (o : Occurrence) : Type 0 where
    pub one : TextCell
    pub has : Has cells one
    pub first : ℕ
    pub past : ℕ
    pub inside_is : one.held.inside ≡ ContentInside first past
    pub there : Has (told_in one first) o

  abbrev pub IsOfCells : List TextCell → Occurrence → Type 0
  IsOfCells cells o = IsDotsOf cells o ⊎ IsInContentOf cells o

  -- the variables of what stands in the text are those of these cells
  pub record AreOf (whole : List TextCell) (events : _) : Type 0 where
    pub each : AllByRecursion (IsOfCells whole) (flat_map (event_occurrences g leaves shapes readings) events)

  abbrev All : List TextCell → List Occurrence → Type 0
  All whole found = AllByRecursion (IsOfCells whole) found

  of_append : (whole : List TextCell) (xs ys : _) → AreOf whole xs → AreOf whole ys → AreOf whole (xs ++ ys)
  of_append whole xs ys one other =
      record { each = subst (All whole) (sym (flat_map-append (event_occurrences g leaves shapes readings) xs ys)) (all_joined (IsOfCells whole) _ _ one.each other.each) }

  of_around : (whole : List TextCell) (first last xs : _) → All whole (event_occurrences g leaves shapes readings first) → AreOf whole xs → All whole (event_occurrences g leaves shapes readings last)
      → AreOf whole ((first ∷ xs) ++ last ∷ [])
  of_around whole first last xs one inner other =
      record {
        each = subst (All whole) (sym (flat_map-append (event_occurrences g leaves shapes readings) (first ∷ xs) (last ∷ [])))
            (all_joined (IsOfCells whole) _ _ (all_joined (IsOfCells whole) _ _ one inner.each) (all_joined (IsOfCells whole) (event_occurrences g leaves shapes readings last) [] other tt));
      }

  nested_of : (whole : List TextCell) (at : ℕ) (on : Stands) → AreOf whole (nested_event at on)
  nested_of whole at Both = record { each = tt }
  nested_of whole at Left = record { each = tt }
  nested_of whole at Right = record { each = tt }

  dots_of : (whole : List TextCell) (b : Bool) (one : TextCell) → Has whole one → has_cells_in one.held.inside ≡ true → (b ≡ true → (one.held.left_dots || one.held.right_dots) ≡ true)
      → All whole (cond b (dots_occurrence (tag_of one.held.cell one.held.start one.held.left_dots one.held.right_dots) sort_bag (is_left one.on)) [])
  dots_of whole true one has holds dots = (inl (record { one = one; has = has; holds = holds; dots = dots refl; home = refl; left = refl }), tt)
  dots_of whole false one has holds dots = tt

  content_of : (whole : List TextCell) (one : TextCell) (first past : ℕ) → Has whole one → one.held.inside ≡ ContentInside first past → All whole (told_in one first)
  content_of whole one first past has is =
      all_of (IsOfCells whole) (told_in one first) (λ o there. inr (record { one = one; has = has; first = first; past = past; inside_is = is; there = there }))

  module _ (f : ℕ → ℕ) (whole : List TextCell) where
    abbrev Within : List TextCell → Type 0
    Within cells = (some : TextCell) → Has cells some → Has whole some

    left_part : (xs ys : List TextCell) → Within (xs ++ ys) → Within xs
    left_part xs ys within some h = within some (has_left xs ys some h)

    right_part : (xs ys : List TextCell) → Within (xs ++ ys) → Within ys
    right_part xs ys within some h = within some (has_right xs ys some h)

    mutual
      unfolding item_cells items_cells side_cells item_at items_at side_at

      item_of : (on : Stands) (above : Option ℕ) (at : ℕ) (item : Item) → Within (item_cells f on above at item) → AreOf whole (events_in on (item_at at item))
      item_of on above at EmptyBag within = subst (AreOf whole) (sym (events-Nothing on at)) (record { each = tt })
      item_of on above at Point within = subst (AreOf whole) (sym (events-Nothing on at)) (record { each = tt })
      item_of on above at (Rewritten before after) within =
          let one = items_cells f (left_of on) above (at + 1) before in
          let other = items_cells f (right_of on) above (at + 1 + length (signs_of_items before) + 1) after in
          subst (AreOf whole) (sym (events-Change on at (items_at (at + 1) before) (items_at (at + 1 + length (signs_of_items before) + 1) after)))
          (of_append whole _ _ (of_append whole _ _ (nested_of whole at on) (items_of (left_of on) above (at + 1) before (left_part one other within)))
          (items_of (right_of on) above (at + 1 + length (signs_of_items before) + 1) after (right_part one other within)))
      item_of on above at (OfCells cell dots_left side dots_right) within =
          let held : CellRecord = of_cells_at at cell dots_left side dots_right in
          let one = cell_at on above (f at) held in
          let tag = tag_of cell at dots_left dots_right in
          let has : Has whole one = within one (inl refl) in
          subst (AreOf whole) (sym (events-Cell on held ∙ events-Cells on tag (side_at (past_dots dots_left (at + 1)) side)))
          (of_around whole _ _ (all_events on (at + 1) (side_at (past_dots dots_left (at + 1)) side)) (dots_of whole dots_left one has refl (before_dots dots_left dots_right))
          (side_of on (Some (f at)) (past_dots dots_left (at + 1)) (at + 1) side (λ some h. within some (inr h)))
          (dots_of whole (dots_right && not dots_left) one has refl (behind_dots dots_left dots_right)))
      item_of on above at (OfContent cell dots_left content dots_right) within =
          let held : CellRecord = of_content_at at cell dots_left (length content) dots_right in
          let one = cell_at on above (f at) held in
          let tag = tag_of cell at dots_left dots_right in
          let first = past_dots dots_left (at + 1) in
          subst (AreOf whole) (sym (events-Cell on held ∙ events-Content on tag first (first + length content)))
          (record { each = all_joined (IsOfCells whole) (content_occurrences g leaves shapes readings on tag first) [] (content_of whole one first (first + length content) (within one (inl refl)) refl) tt })

      items_of : (on : Stands) (above : Option ℕ) (at : ℕ) (items : Items) → Within (items_cells f on above at items) → AreOf whole (events_of on (items_at at items))
      items_of on above at Nothing within = record { each = tt }
      items_of on above at (And items item) within =
          let one = items_cells f on above at items in
          let other = item_cells f on above (at + length (signs_of_items items)) item in
          subst (AreOf whole) (sym (flat_map-append (events_in on) (items_at at items) (item_at (at + length (signs_of_items items)) item ∷ [])))
          (of_append whole _ _ (items_of on above at items (left_part one other within))
          (subst (AreOf whole) (sym (append-nil (events_in on (item_at (at + length (signs_of_items items)) item))))
          (item_of on above (at + length (signs_of_items items)) item (right_part one other within))))

      pub side_of : (on : Stands) (above : Option ℕ) (at start : ℕ) (side : Side) → Within (side_cells f on above at side) → AreOf whole (all_events on start (side_at at side))
      side_of on above at start (Same items) within = subst (AreOf whole) (sym (events-Same on start (items_at at items))) (items_of on above at items within)
      side_of on above at start (Changed before after) within =
          let one = items_cells f (left_of on) above at before in
          let other = items_cells f (right_of on) above (at + length (signs_of_items before) + 1) after in
          subst (AreOf whole) (sym (events-Changed on start (items_at at before) (items_at (at + length (signs_of_items before) + 1) after)))
          (of_append whole _ _ (of_append whole _ _ (nested_of whole start on) (items_of (left_of on) above at before (left_part one other within)))
          (items_of (right_of on) above (at + length (signs_of_items before) + 1) after (right_part one other within)))
