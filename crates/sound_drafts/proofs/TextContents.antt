-- The variables in the content of a cell are among those that are told in the text of a rule, and so are its faults among those of the text.
use Rattle.std.proofs.Common.{◌≡◌, ⊎_elim, ℕ, ◌+◌, true, false, List, [], ◌∷◌, ◌++◌, length, append-nil, Option, Some, sym, ap, subst, ◌∙◌}
use Rattle.std.proofs.lemmas.Grind.{flat_map-append}
use Rattle.std.specs.List.{flat_map}
use Rattle.live_config.proofs.Members.{Has, has_left, has_right, has_either}
use Rattle.rule_terms.specs.declared.defs.CellShape.{CellShape}
use Rattle.rule_cells.specs.declared.form.Cell.{Cell as CellRecord}
use Rattle.rule_cells.specs.declared.form.Inside.{Content as ContentInside}
use Rattle.rule_cells.specs.Written.{Item, Items, Side, past_dots, signs_of_items, item_at, items_at, side_at}
use Rattle.rule_cells.specs.Written.Item.{EmptyBag, Point, Rewritten, OfCells, OfContent}
use Rattle.rule_cells.specs.Written.Items.{Nothing, And}
use Rattle.rule_cells.specs.Written.Side.{Same, Changed}
use Rattle.rule_parts.specs.declared.argument_sorts.Productions.{Productions}
use Rattle.rule_parts.specs.declared.leaves.Leaf.{Leaf}
use Rattle.rule_parts.specs.declared.parts.Side.{Side as Stands}
use Rattle.rule_parts.specs.declared.terms.Occurrence.{Occurrence}
use Rattle.rule_parts.specs.Parts.{left_of, right_of}
use Rattle.rule_drafts.specs.declared.reading.Reading.{Reading}
use Rattle.rule_drafts.specs.Cells.{tag_of, nested_event, events_in, all_events, events_of, content_occurrences, event_occurrences, content_faults, event_faults}
use Rattle.rule_drafts.proofs.ItemLayers.{events-Cell, events-Cells, events-Content, events-Change, events-Same, events-Changed}
use Rattle.draft_laws.proofs.WrittenCells.{TextCell, cell_at, of_cells_at, of_content_at, item_cells, items_cells, side_cells, has_cells_in}
use Rattle.sound_drafts.proofs.TextEvents.{told_in}

module _ (g : Productions) (leaves : List Leaf) (shapes : List CellShape) (readings : List Reading) (vars : List Occurrence) where
  -- what is told in the content of a cell is among what is told by what stands in the text
  abbrev pub IsToldAmong : List Occurrence → TextCell → Type 0
  IsToldAmong found one = (first past : ℕ) → one.held.inside ≡ ContentInside first past → (o : Occurrence) → Has (told_in g leaves shapes readings one first) o → Has found o

  -- what has no form of a rule in the content of a cell has none in the text
  abbrev pub IsFaultyAmong : List ℕ → TextCell → Type 0
  IsFaultyAmong faults one =
      (first past : ℕ) → one.held.inside ≡ ContentInside first past → (token : ℕ)
      → Has (content_faults g leaves shapes readings vars one.on (tag_of one.held.cell one.held.start one.held.left_dots one.held.right_dots) first) token → Has faults token

  pub record IsAmong (events : _) (one : TextCell) : Type 0 where
    pub told : IsToldAmong (flat_map (event_occurrences g leaves shapes readings) events) one
    pub faulty : IsFaultyAmong (flat_map (event_faults g leaves shapes readings vars) events) one

  among_left : (xs ys : _) (one : TextCell) → IsAmong xs one → IsAmong (xs ++ ys) one
  among_left xs ys one t = record {
    told = subst (λ found. IsToldAmong found one) (sym (flat_map-append (event_occurrences g leaves shapes readings) xs ys)) (λ first past is o h. has_left _ _ o (t.told first past is o h));
    faulty = subst (λ found. IsFaultyAmong found one) (sym (flat_map-append (event_faults g leaves shapes readings vars) xs ys)) (λ first past is o h. has_left _ _ o (t.faulty first past is o h));
  }

  among_right : (xs ys : _) (one : TextCell) → IsAmong ys one → IsAmong (xs ++ ys) one
  among_right xs ys one t = record {
    told = subst (λ found. IsToldAmong found one) (sym (flat_map-append (event_occurrences g leaves shapes readings) xs ys)) (λ first past is o h. has_right _ _ o (t.told first past is o h));
    faulty = subst (λ found. IsFaultyAmong found one) (sym (flat_map-append (event_faults g leaves shapes readings vars) xs ys)) (λ first past is o h. has_right _ _ o (t.faulty first past is o h));
  }

  among_inner : (first last xs : _) (one : TextCell) → IsAmong xs one → IsAmong ((first ∷ xs) ++ last ∷ []) one
  among_inner first last xs one t = among_left (first ∷ xs) (last ∷ []) one (among_right (first ∷ []) xs one t)

  module _ (f : ℕ → ℕ) where
    mutual
      unfolding item_cells items_cells side_cells item_at items_at side_at

      item_there : (on : Stands) (above : Option ℕ) (at : ℕ) (item : Item) (one : TextCell) → Has (item_cells f on above at item) one → IsAmong (events_in on (item_at at item)) one
      item_there on above at EmptyBag one h = absurd h
      item_there on above at Point one h = absurd h
      item_there on above at (Rewritten before after) one h =
          let ls = items_cells f (left_of on) above (at + 1) before in
          let rs = items_cells f (right_of on) above (at + 1 + length (signs_of_items before) + 1) after in
          let front = items_at (at + 1) before in
          let back = items_at (at + 1 + length (signs_of_items before) + 1) after in
          subst (λ es. IsAmong es one) (sym (events-Change on at front back))
          (⊎_elim
          (λ (l : Has ls one). among_left (nested_event at on ++ events_of (left_of on) front) (events_of (right_of on) back) one
          (among_right (nested_event at on) (events_of (left_of on) front) one (items_there (left_of on) above (at + 1) before one l)))
          (λ (r : Has rs one). among_right (nested_event at on ++ events_of (left_of on) front) (events_of (right_of on) back) one
          (items_there (right_of on) above (at + 1 + length (signs_of_items before) + 1) after one r))
          (has_either ls rs one h))
      item_there on above at (OfCells cell dots_left side dots_right) one h =
          let held : CellRecord = of_cells_at at cell dots_left side dots_right in
          let here = cell_at on above (f at) held in
          let tag = tag_of cell at dots_left dots_right in
          let inner = side_cells f on (Some (f at)) (past_dots dots_left (at + 1)) side in
          let inside = side_at (past_dots dots_left (at + 1)) side in
          subst (λ es. IsAmong es one) (sym (events-Cell on held ∙ events-Cells on tag inside))
          (⊎_elim
          (λ (e : here ≡ one).
          let other : (first past : ℕ) → one.held.inside ≡ ContentInside first past → ⊥ =
          λ first past is. absurd (let b : true ≡ false = ap (λ (c : TextCell). has_cells_in c.held.inside) e ∙ ap has_cells_in is in cc) in
          record { told = λ first past is. absurd (other first past is); faulty = λ first past is. absurd (other first past is) })
          (λ (i : Has inner one). among_inner _ _ (all_events on (at + 1) inside) one (side_there on (Some (f at)) (past_dots dots_left (at + 1)) (at + 1) side one i))
          h)
      item_there on above at (OfContent cell dots_left content dots_right) one h =
          let held : CellRecord = of_content_at at cell dots_left (length content) dots_right in
          let here = cell_at on above (f at) held in
          let tag = tag_of cell at dots_left dots_right in
          let start = past_dots dots_left (at + 1) in
          subst (λ es. IsAmong es one) (sym (events-Cell on held ∙ events-Content on tag start (start + length content)))
          (⊎_elim
          (λ (e : here ≡ one).
          record {
            told = subst (IsToldAmong (content_occurrences g leaves shapes readings on tag start ++ [])) e
                (λ first past is o h.
                let same : start ≡ first = cc in
                has_left (content_occurrences g leaves shapes readings on tag start) [] o (subst (λ n. Has (told_in g leaves shapes readings here n) o) (sym same) h));
            faulty = subst (IsFaultyAmong (content_faults g leaves shapes readings vars on tag start ++ [])) e
                (λ first past is o h.
                let same : start ≡ first = cc in
                has_left (content_faults g leaves shapes readings vars on tag start) [] o (subst (λ n. Has (content_faults g leaves shapes readings vars on tag n) o) (sym same) h));
          })
          (λ (none : ⊥). absurd none) h)

      items_there : (on : Stands) (above : Option ℕ) (at : ℕ) (items : Items) (one : TextCell) → Has (items_cells f on above at items) one → IsAmong (events_of on (items_at at items)) one
      items_there on above at Nothing one h = absurd h
      items_there on above at (And items item) one h =
          let ls = items_cells f on above at items in
          let rs = item_cells f on above (at + length (signs_of_items items)) item in
          let last = item_at (at + length (signs_of_items items)) item in
          subst (λ es. IsAmong es one) (sym (flat_map-append (events_in on) (items_at at items) (last ∷ [])))
          (⊎_elim (λ (l : Has ls one). among_left (events_of on (items_at at items)) (events_of on (last ∷ [])) one (items_there on above at items one l))
          (λ (r : Has rs one). among_right (events_of on (items_at at items)) (events_of on (last ∷ [])) one
          (subst (λ es. IsAmong es one) (sym (append-nil (events_in on last))) (item_there on above (at + length (signs_of_items items)) item one r)))
          (has_either ls rs one h))

      pub side_there : (on : Stands) (above : Option ℕ) (at start : ℕ) (side : Side) (one : TextCell) → Has (side_cells f on above at side) one
          → IsAmong (all_events on start (side_at at side)) one
      side_there on above at start (Same items) one h = subst (λ es. IsAmong es one) (sym (events-Same on start (items_at at items))) (items_there on above at items one h)
      side_there on above at start (Changed before after) one h =
          let ls = items_cells f (left_of on) above at before in
          let rs = items_cells f (right_of on) above (at + length (signs_of_items before) + 1) after in
          let front = items_at at before in
          let back = items_at (at + length (signs_of_items before) + 1) after in
          subst (λ es. IsAmong es one) (sym (events-Changed on start front back))
          (⊎_elim
          (λ (l : Has ls one). among_left (nested_event start on ++ events_of (left_of on) front) (events_of (right_of on) back) one
          (among_right (nested_event start on) (events_of (left_of on) front) one (items_there (left_of on) above at before one l)))
          (λ (r : Has rs one). among_right (nested_event start on ++ events_of (left_of on) front) (events_of (right_of on) back) one
          (items_there (right_of on) above (at + length (signs_of_items before) + 1) after one r))
          (has_either ls rs one h))
