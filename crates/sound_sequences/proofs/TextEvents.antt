-- What is told in the text of a rule is told by its cells.
use Rattle.std.proofs.Common.{◌≡◌, ⊎_elim, ℕ, ◌+◌, List, [], ◌∷◌, ◌++◌, length, append-nil, Option, Some, sym, ap, subst, ◌∙◌, append_assoc}
use Rattle.std.proofs.lemmas.Grind.{flat_map-append}
use Rattle.std.specs.List.{AllByRecursion, flat_map}
use Rattle.live_config.proofs.Members.{Has, has_either}
use Rattle.rule_cells.specs.declared.form.Cell.{Cell as CellRecord}
use Rattle.rule_cells.specs.Written.{Item, Items, Side, past_dots, signs_of_items, item_at, items_at, side_at}
use Rattle.rule_cells.specs.Written.Item.{EmptyBag, Point, Rewritten, OfCells, OfContent}
use Rattle.rule_cells.specs.Written.Items.{Nothing, And}
use Rattle.rule_cells.specs.Written.Side.{Same, Changed}
use Rattle.rule_parts.specs.declared.parts.Side.{Side as Stands}
use Rattle.rule_parts.specs.Parts.{left_of, right_of}
use Rattle.rule_drafts.specs.Cells.{tag_of, nested_event, events_in, inside_events, all_events, events_of}
use Rattle.rule_drafts.proofs.ItemLayers.{events-Cell, events-Cells, events-Change, events-Same, events-Changed}
use Rattle.draft_laws.proofs.WrittenCells.{TextCell, cell_at, of_cells_at, of_content_at, item_cells, items_cells, side_cells}
use Rattle.sound_sequences.proofs.Terms.{left_of_all, right_of_all}

-- ---- a part of a list

pub record IsPartOf {M : Type 0} (xs ys : List M) : Type 0 where
  pub before : List M
  pub after : List M
  pub is : ys ≡ before ++ (xs ++ after)

pub part_itself : {M : Type 0} (xs : List M) → IsPartOf xs xs
part_itself xs = record { before = []; after = []; is = sym (append-nil xs) }

part_then : {M : Type 0} (y : M) (xs ys : List M) → IsPartOf xs ys → IsPartOf xs (y ∷ ys)
part_then y xs ys p = record { before = y ∷ p.before; after = p.after; is = ap (λ zs. y ∷ zs) p.is }

part_right : {M : Type 0} (xs ys zs : List M) → IsPartOf xs zs → IsPartOf xs (ys ++ zs)
part_right xs ys zs p = record { before = ys ++ p.before; after = p.after; is = ap (λ us. ys ++ us) p.is ∙ sym (append_assoc ys p.before (xs ++ p.after)) }

part_left : {M : Type 0} (xs ys zs : List M) → IsPartOf xs ys → IsPartOf xs (ys ++ zs)
part_left xs ys zs p = record {
  before = p.before;
  after = p.after ++ zs;
  is = ap (λ us. us ++ zs) p.is ∙ append_assoc p.before (xs ++ p.after) zs ∙ ap (λ us. p.before ++ us) (append_assoc xs p.after zs);
}

-- what holds of all that a function makes holds of a part of it
pub part_all : {M X : Type 0} (P : X → Type 0) (F : M → List X) (xs ys : List M) → IsPartOf xs ys → AllByRecursion P (flat_map F ys)
    → AllByRecursion P (flat_map F xs)
part_all P F xs ys p all =
    let whole : flat_map F ys ≡ flat_map F p.before ++ (flat_map F xs ++ flat_map F p.after) =
    ap (flat_map F) p.is ∙ flat_map-append F p.before (xs ++ p.after) ∙ ap (λ us. flat_map F p.before ++ us) (flat_map-append F xs p.after) in
    left_of_all P (flat_map F xs) (flat_map F p.after) (right_of_all P (flat_map F p.before) (flat_map F xs ++ flat_map F p.after) (subst (AllByRecursion P) whole all))

-- ---- what is told in a cell

-- the text of a cell is a part of what stands in the text
pub record Lies (one : TextCell) (events : _) : Type 0 where
  pub is : IsPartOf (inside_events one.on (tag_of one.held.cell one.held.start one.held.left_dots one.held.right_dots) one.held.inside) events

lies_left : (one : TextCell) (xs ys : _) → Lies one xs → Lies one (xs ++ ys)
lies_left one xs ys l = record { is = part_left _ xs ys l.is }

lies_right : (one : TextCell) (xs ys : _) → Lies one ys → Lies one (xs ++ ys)
lies_right one xs ys l = record { is = part_right _ xs ys l.is }

lies_around : (one : TextCell) (first last xs : _) → Lies one xs → Lies one ((first ∷ xs) ++ last ∷ [])
lies_around one first last xs l = record { is = part_left _ (first ∷ xs) (last ∷ []) (part_then first _ xs l.is) }

pub lies_itself : (one : TextCell) → Lies one (inside_events one.on (tag_of one.held.cell one.held.start one.held.left_dots one.held.right_dots) one.held.inside)
lies_itself one = record { is = part_itself _ }

module _ (f : ℕ → ℕ) where
  own_lies : (on : Stands) (above : Option ℕ) (at : ℕ) (held : CellRecord) (one : TextCell) → cell_at on above (f at) held ≡ one
      → Lies one (inside_events on (tag_of held.cell held.start held.left_dots held.right_dots) held.inside)
  own_lies on above at held one e =
      subst (λ (c : TextCell). Lies c (inside_events on (tag_of held.cell held.start held.left_dots held.right_dots) held.inside)) e (lies_itself (cell_at on above (f at) held))

  mutual
    unfolding item_cells items_cells side_cells item_at items_at side_at

    item_lies : (on : Stands) (above : Option ℕ) (at : ℕ) (item : Item) (one : TextCell) → Has (item_cells f on above at item) one
        → Lies one (events_in on (item_at at item))
    item_lies on above at EmptyBag one h = absurd h
    item_lies on above at Point one h = absurd h
    item_lies on above at (Rewritten before after) one h =
        let ls = items_cells f (left_of on) above (at + 1) before in
        let rs = items_cells f (right_of on) above (at + 1 + length (signs_of_items before) + 1) after in
        subst (Lies one) (sym (events-Change on at (items_at (at + 1) before) (items_at (at + 1 + length (signs_of_items before) + 1) after)))
        (⊎_elim
        (λ (l : Has ls one). lies_left one _ _ (lies_right one (nested_event at on) _ (items_lie (left_of on) above (at + 1) before one l)))
        (λ (r : Has rs one). lies_right one _ _ (items_lie (right_of on) above (at + 1 + length (signs_of_items before) + 1) after one r))
        (has_either ls rs one h))
    item_lies on above at (OfCells cell dots_left side dots_right) one h =
        let held : CellRecord = of_cells_at at cell dots_left side dots_right in
        let inner = side_cells f on (Some (f at)) (past_dots dots_left (at + 1)) side in
        let inside = side_at (past_dots dots_left (at + 1)) side in
        subst (Lies one) (sym (events-Cell on held))
        (⊎_elim
        (λ (e : cell_at on above (f at) held ≡ one). own_lies on above at held one e)
        (λ (i : Has inner one).
        subst (Lies one) (sym (events-Cells on (tag_of cell at dots_left dots_right) inside))
        (lies_around one _ _ (all_events on (at + 1) inside) (side_lies on (Some (f at)) (past_dots dots_left (at + 1)) (at + 1) side one i)))
        h)
    item_lies on above at (OfContent cell dots_left content dots_right) one h =
        let held : CellRecord = of_content_at at cell dots_left (length content) dots_right in
        subst (Lies one) (sym (events-Cell on held))
        (⊎_elim (λ (e : cell_at on above (f at) held ≡ one). own_lies on above at held one e) (λ (n : ⊥). absurd n) h)

    items_lie : (on : Stands) (above : Option ℕ) (at : ℕ) (items : Items) (one : TextCell) → Has (items_cells f on above at items) one
        → Lies one (events_of on (items_at at items))
    items_lie on above at Nothing one h = absurd h
    items_lie on above at (And items item) one h =
        let ls = items_cells f on above at items in
        let rs = item_cells f on above (at + length (signs_of_items items)) item in
        subst (Lies one) (sym (flat_map-append (events_in on) (items_at at items) (item_at (at + length (signs_of_items items)) item ∷ [])))
        (⊎_elim (λ (l : Has ls one). lies_left one _ _ (items_lie on above at items one l))
        (λ (r : Has rs one). lies_right one _ _
        (subst (Lies one) (sym (append-nil (events_in on (item_at (at + length (signs_of_items items)) item))))
        (item_lies on above (at + length (signs_of_items items)) item one r)))
        (has_either ls rs one h))

    pub side_lies : (on : Stands) (above : Option ℕ) (at start : ℕ) (side : Side) (one : TextCell) → Has (side_cells f on above at side) one
        → Lies one (all_events on start (side_at at side))
    side_lies on above at start (Same items) one h = subst (Lies one) (sym (events-Same on start (items_at at items))) (items_lie on above at items one h)
    side_lies on above at start (Changed before after) one h =
        let ls = items_cells f (left_of on) above at before in
        let rs = items_cells f (right_of on) above (at + length (signs_of_items before) + 1) after in
        subst (Lies one) (sym (events-Changed on start (items_at at before) (items_at (at + length (signs_of_items before) + 1) after)))
        (⊎_elim
        (λ (l : Has ls one). lies_left one _ _ (lies_right one (nested_event start on) _ (items_lie (left_of on) above at before one l)))
        (λ (r : Has rs one). lies_right one _ _ (items_lie (right_of on) above (at + length (signs_of_items before) + 1) after one r))
        (has_either ls rs one h))
