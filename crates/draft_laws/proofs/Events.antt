-- What stands in the text of a rule tells variables at its tokens, and by the `...` of its cells.
use Rattle.std.proofs.Common.{◌≡◌, ◌⊎◌, inl, inr, ⊎_elim, ℕ, zero, suc, ◌+◌, Bool, true, false, cond, ◌||◌, List, [], ◌∷◌, ◌++◌, take, drop, length, append-nil, Option, Some, None, refl, sym, ap, subst, ◌∙◌, arith}
use Rattle.std.proofs.lemmas.Grind.{flat_map-append}
use Rattle.std.specs.Prelude.{slice_get, ◌&&◌, not}
use Rattle.std.specs.List.{AllByRecursion, flat_map}
use Rattle.k_terms.specs.Sorts.{sort_bag}
use Rattle.live_config.proofs.Members.{Has, has_left, has_right, has_either}
use Rattle.rule_terms.specs.declared.defs.CellShape.{CellShape}
use Rattle.rule_tokens.specs.declared.token.RuleKind.{RuleKind}
use Rattle.rule_tokens.specs.declared.token.RuleKind.TheVariants as kind
use Rattle.rule_tokens.specs.declared.token.RuleToken.{RuleToken}
use Rattle.rule_cells.specs.declared.form.Cell.{Cell as CellRecord}
use Rattle.rule_cells.specs.declared.form.Inside.{Cells as CellsInside}
use Rattle.rule_cells.specs.Written.{Item, Items, Side, past_dots, signs_of_items, item_at, items_at, side_at}
use Rattle.rule_cells.specs.Written.Item.{EmptyBag, Point, Rewritten, OfCells, OfContent}
use Rattle.rule_cells.specs.Written.Items.{Nothing, And}
use Rattle.rule_cells.specs.Written.Side.{Same, Changed}
use Rattle.rule_parts.specs.declared.argument_sorts.Productions.{Productions}
use Rattle.rule_parts.specs.declared.leaves.Leaf.{Leaf}
use Rattle.rule_parts.specs.declared.parts.Side.{Side as Stands}
use Rattle.rule_parts.specs.declared.parts.Side.TheVariants.{Both, Left, Right}
use Rattle.rule_parts.specs.declared.terms.Occurrence.{Occurrence}
use Rattle.rule_parts.specs.Parts.{left_of, right_of}
use Rattle.rule_parts.specs.Sides.{is_left, whole_sort}
use Rattle.rule_drafts.specs.declared.reading.Reading.{Reading}
use Rattle.rule_drafts.specs.Bodies.{dots_occurrence, dots_before, dots_behind}
use Rattle.rule_drafts.specs.Cells.{kind_of, is_open, tag_of, nested_event, events_in, inside_events, all_events, events_of, parts_at, content_occurrences, event_occurrences}
use Rattle.rule_drafts.proofs.ItemLayers.{events-Cell, events-Nothing, events-Cells, events-Content, events-Change, events-Same, events-Changed}
use Rattle.draft_laws.proofs.Tags.{opens_with, opens}
use Rattle.draft_laws.proofs.WrittenCells.{TextCell, cell_at, of_cells_at, of_content_at, item_cells, items_cells, side_cells, has_cells_in}
use Rattle.draft_laws.proofs.Sides.{is_on}
use Rattle.draft_laws.proofs.Occurring.{IsNoTag, AreGood, parts_good, dropped_good}

-- ---- opening tags among tokens

pub record IsTag (tokens : List RuleToken) (at : ℕ) : Type 0 where
  pub token : RuleToken
  pub is : slice_get tokens at ≡ Some token
  pub opening : is_open token.kind ≡ true

record IsTagFrom (at : ℕ) (tokens : List RuleToken) (place : ℕ) : Type 0 where
  number : ℕ
  place_is : place ≡ at + number
  tag : IsTag tokens number

tag_first : (k : RuleKind) (at : ℕ) (tag : ℕ × ℕ) → Has (opens_with at k) tag → (is_open k ≡ true) × (tag.1 ≡ at)
tag_first (kind.Open cell) at tag (inl e) = (refl, sym (ap (λ (t : ℕ × ℕ). t.1) e))
tag_first (kind.Open cell) at tag (inr h) = absurd h
tag_first (kind.Close cell) at tag h = absurd h
tag_first kind.Rewrite at tag h = absurd h
tag_first kind.Then at tag h = absurd h
tag_first kind.MapsTo at tag h = absurd h
tag_first kind.Dots at tag h = absurd h
tag_first (kind.Dot sort) at tag h = absurd h
tag_first kind.ListItem at tag h = absurd h
tag_first (kind.Terminal text) at tag h = absurd h
tag_first (kind.Literal value) at tag h = absurd h
tag_first (kind.Variable name sort) at tag h = absurd h

tag_from : (at : ℕ) (tokens : List RuleToken) (tag : ℕ × ℕ) → Has (opens at tokens) tag → IsTagFrom at tokens tag.1
tag_from at [] tag h = absurd h
tag_from at (token ∷ tokens) tag h =
    ⊎_elim
    (λ (here : Has (opens_with at token.kind) tag). let t = tag_first token.kind at tag here in let place : tag.1 ≡ at = t.1 in
    record { number = 0; place_is = (let e : tag.1 ≡ at + 0 = omega (arith, place) in e); tag = record { token = token; is = refl; opening = t.0 } })
    (λ (later : Has (opens (at + 1) tokens) tag). let r = tag_from (at + 1) tokens tag later in let place : tag.1 ≡ at + 1 + r.number = r.place_is in
    record { number = suc r.number; place_is = (let e : tag.1 ≡ at + suc r.number = omega (arith, place) in e); tag = record { token = r.tag.token; is = r.tag.is; opening = r.tag.opening } })
    (has_either (opens_with at token.kind) (opens (at + 1) tokens) tag h)

in_front : (m : ℕ) (tokens : List RuleToken) (i : ℕ) (token : RuleToken) → slice_get (take m tokens) i ≡ Some token → slice_get tokens i ≡ Some token
in_front zero tokens i token e = absurd (let f : None ≡ Some token = e in cc)
in_front (suc m) [] i token e = e
in_front (suc m) (t ∷ tokens) zero token e = e
in_front (suc m) (t ∷ tokens) (suc i) token e = in_front m tokens i token e

pub tag_there : (m : ℕ) (tokens : List RuleToken) (tag : ℕ × ℕ) → Has (opens 0 (take m tokens)) tag → IsTag tokens tag.1
tag_there m tokens tag h =
    let t = tag_from 0 (take m tokens) tag h in
    let place : t.number ≡ tag.1 = (let f : tag.1 ≡ 0 + t.number = t.place_is in omega (arith, f)) in
    record { token = t.tag.token; is = subst (λ n. slice_get tokens n ≡ Some t.tag.token) place (in_front m tokens t.number t.tag.token t.tag.is); opening = t.tag.opening }

-- ---- what is told

-- by the `...` of one of these cells, on its side
pub record IsDotsOf (cells : List TextCell) (o : Occurrence) : Type 0 where
  pub one : TextCell
  pub has : Has cells one
  pub home : o.home ≡ one.held.start
  pub left : o.is_left ≡ is_on true one

abbrev pub IsTold : List RuleToken → List TextCell → Occurrence → Type 0
IsTold tokens cells o = IsNoTag tokens o.home ⊎ IsDotsOf cells o

-- the `...` of a cell is told
pub record TellsDots (occurrences : List Occurrence) (one : TextCell) : Type 0 where
  pub told : Occurrence
  pub has : Has occurrences told
  pub home : told.home ≡ one.held.start

dots_more : (xs ys : List Occurrence) (one : TextCell) → TellsDots xs one → TellsDots (xs ++ ys) one
dots_more xs ys one t = record { told = t.told; has = has_left xs ys t.told t.has; home = t.home }

dots_later : (xs ys : List Occurrence) (one : TextCell) → TellsDots ys one → TellsDots (xs ++ ys) one
dots_later xs ys one t = record { told = t.told; has = has_right xs ys t.told t.has; home = t.home }

all_joined : {X : Type 0} (P : X → Type 0) (xs ys : List X) → AllByRecursion P xs → AllByRecursion P ys → AllByRecursion P (xs ++ ys)
all_joined P [] ys one other = other
all_joined P (x ∷ xs) ys one other = (one.0, all_joined P xs ys one.1 other)

all_weaker : {X : Type 0} (P Q : X → Type 0) → ((x : X) → P x → Q x) → (xs : List X) → AllByRecursion P xs → AllByRecursion Q xs
all_weaker P Q to [] all = tt
all_weaker P Q to (x ∷ xs) all = (to x all.0, all_weaker P Q to xs all.1)

module _ (g : Productions) (leaves : List Leaf) (shapes : List CellShape) (readings : List Reading) (tokens : List RuleToken) (good : AreGood tokens leaves) where
  abbrev All : List TextCell → List Occurrence → Type 0
  All whole occurrences = AllByRecursion (IsTold tokens whole) occurrences

  -- the variables of what stands in the text
  pub record Told (whole : List TextCell) (events : _) : Type 0 where
    pub told : All whole (flat_map (event_occurrences g leaves shapes readings) events)

  told_append : (whole : List TextCell) (xs ys : _) → Told whole xs → Told whole ys
      → Told whole (xs ++ ys)
  told_append whole xs ys one other =
      record { told = subst (All whole) (sym (flat_map-append (event_occurrences g leaves shapes readings) xs ys)) (all_joined (IsTold tokens whole) _ _ one.told other.told) }

  told_around : (whole : List TextCell) (first last xs : _) → All whole (event_occurrences g leaves shapes readings first) → Told whole xs → All whole (event_occurrences g leaves shapes readings last)
      → Told whole ((first ∷ xs) ++ last ∷ [])
  told_around whole first last xs one inner other =
      record {
        told = subst (All whole) (sym (flat_map-append (event_occurrences g leaves shapes readings) (first ∷ xs) (last ∷ [])))
            (all_joined (IsTold tokens whole) _ _ (all_joined (IsTold tokens whole) _ _ one inner.told) (all_joined (IsTold tokens whole) (event_occurrences g leaves shapes readings last) [] other tt));
      }

  nested_told : (whole : List TextCell) (at : ℕ) (on : Stands) → Told whole (nested_event at on)
  nested_told whole at Both = record { told = tt }
  nested_told whole at Left = record { told = tt }
  nested_told whole at Right = record { told = tt }

  dots_told : (whole : List TextCell) (b : Bool) (one : TextCell) (sort : ℕ) → Has whole one
      → All whole (cond b (dots_occurrence (tag_of one.held.cell one.held.start one.held.left_dots one.held.right_dots) sort (is_left one.on)) [])
  dots_told whole true one sort has = (inr (record { one = one; has = has; home = refl; left = refl }), tt)
  dots_told whole false one sort has = tt

  content_told : (whole : List TextCell) (one : TextCell) (first : ℕ) → Has whole one
      → All whole (content_occurrences g leaves shapes readings one.on (tag_of one.held.cell one.held.start one.held.left_dots one.held.right_dots) first)
  content_told whole one first has =
      let tag = tag_of one.held.cell one.held.start one.held.left_dots one.held.right_dots in
      all_joined (IsTold tokens whole) _ _
      (all_joined (IsTold tokens whole) _ _ (dots_told whole one.held.left_dots one (whole_sort (kind_of shapes one.held.cell)) has)
      (all_weaker (λ (o : Occurrence). IsNoTag tokens o.home) (IsTold tokens whole) (λ o h. inl h) _
      (parts_good tokens g (drop first leaves) (dropped_good tokens first leaves good) (kind_of shapes one.held.cell) (parts_at g leaves shapes readings one.on tag first))))
      (dots_told whole _ one (whole_sort (kind_of shapes one.held.cell)) has)

  module _ (f : ℕ → ℕ) (whole : List TextCell) where
    abbrev Within : List TextCell → Type 0
    Within cells = (some : TextCell) → Has cells some → Has whole some

    left_part : (xs ys : List TextCell) → Within (xs ++ ys) → Within xs
    left_part xs ys within some h = within some (has_left xs ys some h)

    right_part : (xs ys : List TextCell) → Within (xs ++ ys) → Within ys
    right_part xs ys within some h = within some (has_right xs ys some h)

    mutual
      unfolding item_cells items_cells side_cells item_at items_at side_at

      item_told : (on : Stands) (above : Option ℕ) (at : ℕ) (item : Item) → Within (item_cells f on above at item)
          → Told whole (events_in on (item_at at item))
      item_told on above at EmptyBag within = subst (Told whole) (sym (events-Nothing on at)) (record { told = tt })
      item_told on above at Point within = subst (Told whole) (sym (events-Nothing on at)) (record { told = tt })
      item_told on above at (Rewritten before after) within =
          let one = items_cells f (left_of on) above (at + 1) before in
          let other = items_cells f (right_of on) above (at + 1 + length (signs_of_items before) + 1) after in
          subst (Told whole)
          (sym (events-Change on at (items_at (at + 1) before) (items_at (at + 1 + length (signs_of_items before) + 1) after)))
          (told_append whole _ _ (told_append whole _ _ (nested_told whole at on) (items_told (left_of on) above (at + 1) before (left_part one other within)))
          (items_told (right_of on) above (at + 1 + length (signs_of_items before) + 1) after (right_part one other within)))
      item_told on above at (OfCells cell dots_left side dots_right) within =
          let held : CellRecord = of_cells_at at cell dots_left side dots_right in
          let one = cell_at on above (f at) held in
          let tag = tag_of cell at dots_left dots_right in
          let has : Has whole one = within one (inl refl) in
          subst (Told whole)
          (sym (events-Cell on held ∙ events-Cells on tag (side_at (past_dots dots_left (at + 1)) side)))
          (told_around whole _ _ (all_events on (at + 1) (side_at (past_dots dots_left (at + 1)) side)) (dots_told whole dots_left one sort_bag has)
          (side_told on (Some (f at)) (past_dots dots_left (at + 1)) (at + 1) side (λ some h. within some (inr h))) (dots_told whole (dots_right && not dots_left) one sort_bag has))
      item_told on above at (OfContent cell dots_left content dots_right) within =
          let held : CellRecord = of_content_at at cell dots_left (length content) dots_right in
          let one = cell_at on above (f at) held in
          let tag = tag_of cell at dots_left dots_right in
          let first = past_dots dots_left (at + 1) in
          subst (Told whole) (sym (events-Cell on held ∙ events-Content on tag first (first + length content)))
          (record { told = all_joined (IsTold tokens whole) (content_occurrences g leaves shapes readings on tag first) [] (content_told whole one first (within one (inl refl))) tt })

      items_told : (on : Stands) (above : Option ℕ) (at : ℕ) (items : Items) → Within (items_cells f on above at items)
          → Told whole (events_of on (items_at at items))
      items_told on above at Nothing within = record { told = tt }
      items_told on above at (And items item) within =
          let one = items_cells f on above at items in
          let other = item_cells f on above (at + length (signs_of_items items)) item in
          subst (Told whole)
          (sym (flat_map-append (events_in on) (items_at at items) (item_at (at + length (signs_of_items items)) item ∷ [])))
          (told_append whole _ _ (items_told on above at items (left_part one other within))
          (subst (Told whole) (sym (append-nil (events_in on (item_at (at + length (signs_of_items items)) item))))
          (item_told on above (at + length (signs_of_items items)) item (right_part one other within))))

      pub side_told : (on : Stands) (above : Option ℕ) (at start : ℕ) (side : Side) → Within (side_cells f on above at side)
          → Told whole (all_events on start (side_at at side))
      side_told on above at start (Same items) within =
          subst (Told whole) (sym (events-Same on start (items_at at items))) (items_told on above at items within)
      side_told on above at start (Changed before after) within =
          let one = items_cells f (left_of on) above at before in
          let other = items_cells f (right_of on) above (at + length (signs_of_items before) + 1) after in
          subst (Told whole)
          (sym (events-Changed on start (items_at at before) (items_at (at + length (signs_of_items before) + 1) after)))
          (told_append whole _ _ (told_append whole _ _ (nested_told whole start on) (items_told (left_of on) above at before (left_part one other within)))
          (items_told (right_of on) above (at + length (signs_of_items before) + 1) after (right_part one other within)))

-- ---- the `...` of a cell of cells is told

module _ (g : Productions) (leaves : List Leaf) (shapes : List CellShape) (readings : List Reading) (f : ℕ → ℕ) where
  abbrev HasDots : TextCell → Type 0
  HasDots one = (has_cells_in one.held.inside ≡ true) × ((one.held.left_dots || one.held.right_dots) ≡ true)

  pub record TellsIn (events : _) (one : TextCell) : Type 0 where
    pub tells : TellsDots (flat_map (event_occurrences g leaves shapes readings) events) one

  split_dots : (xs ys : _) (one : TextCell) → TellsIn xs one ⊎ TellsIn ys one
      → TellsIn (xs ++ ys) one
  split_dots xs ys one (inl t) = record { tells = subst (λ os. TellsDots os one) (sym (flat_map-append (event_occurrences g leaves shapes readings) xs ys)) (dots_more _ _ one t.tells) }
  split_dots xs ys one (inr t) = record { tells = subst (λ os. TellsDots os one) (sym (flat_map-append (event_occurrences g leaves shapes readings) xs ys)) (dots_later _ _ one t.tells) }

  own_dots : (left right : Bool) (one : TextCell) (cell at : ℕ) (on : Stands) (between : List Occurrence) → at ≡ one.held.start → (left || right) ≡ true
      → TellsDots ((dots_before (tag_of cell at left right) sort_bag (is_left on) ++ between) ++ (dots_behind (tag_of cell at left right) sort_bag (is_left on) ++ [])) one
  own_dots true right one cell at on between same e = record { told = _; has = inl refl; home = same }
  own_dots false true one cell at on between same e = dots_later between _ one (record { told = _; has = inl refl; home = same })
  own_dots false false one cell at on between same e = absurd (let h : false ≡ true = e in cc)

  tells_around : (first last xs : _) (one : TextCell)
      → TellsDots ((event_occurrences g leaves shapes readings first ++ flat_map (event_occurrences g leaves shapes readings) xs) ++ (event_occurrences g leaves shapes readings last ++ [])) one
      → TellsIn ((first ∷ xs) ++ last ∷ []) one
  tells_around first last xs one t =
      record { tells = subst (λ os. TellsDots os one) (sym (flat_map-append (event_occurrences g leaves shapes readings) (first ∷ xs) (last ∷ []))) t }

  own_tells : (left right : Bool) (one : TextCell) (cell at : ℕ) (on : Stands) (inside : _) → at ≡ one.held.start → (left || right) ≡ true
      → TellsIn (inside_events on (tag_of cell at left right) (CellsInside inside)) one
  own_tells left right one cell at on inside same e =
      subst (λ es. TellsIn es one) (sym (events-Cells on (tag_of cell at left right) inside))
      (tells_around _ _ (all_events on (at + 1) inside) one
      (own_dots left right one cell at on (flat_map (event_occurrences g leaves shapes readings) (all_events on (at + 1) inside)) same e))

  inner_tells : (left right : Bool) (one : TextCell) (cell at : ℕ) (on : Stands) (inside : _) → TellsIn (all_events on (at + 1) inside) one
      → TellsIn (inside_events on (tag_of cell at left right) (CellsInside inside)) one
  inner_tells left right one cell at on inside t =
      subst (λ es. TellsIn es one) (sym (events-Cells on (tag_of cell at left right) inside))
      (tells_around _ _ (all_events on (at + 1) inside) one
      (dots_more (dots_before (tag_of cell at left right) sort_bag (is_left on) ++ flat_map (event_occurrences g leaves shapes readings) (all_events on (at + 1) inside))
      (dots_behind (tag_of cell at left right) sort_bag (is_left on) ++ []) one
      (dots_later (dots_before (tag_of cell at left right) sort_bag (is_left on)) (flat_map (event_occurrences g leaves shapes readings) (all_events on (at + 1) inside)) one t.tells)))

  mutual
    unfolding item_cells items_cells side_cells item_at items_at side_at

    item_dots : (on : Stands) (above : Option ℕ) (at : ℕ) (item : Item) (one : TextCell) → Has (item_cells f on above at item) one → HasDots one
        → TellsIn (events_in on (item_at at item)) one
    item_dots on above at EmptyBag one h dots = absurd h
    item_dots on above at Point one h dots = absurd h
    item_dots on above at (Rewritten before after) one h dots =
        let ls = items_cells f (left_of on) above (at + 1) before in
        let rs = items_cells f (right_of on) above (at + 1 + length (signs_of_items before) + 1) after in
        subst (λ es. TellsIn es one)
        (sym (events-Change on at (items_at (at + 1) before) (items_at (at + 1 + length (signs_of_items before) + 1) after)))
        (⊎_elim
        (λ (l : Has ls one). split_dots _ _ one (inl (split_dots (nested_event at on) _ one (inr (items_dots (left_of on) above (at + 1) before one l dots)))))
        (λ (r : Has rs one). split_dots _ _ one (inr (items_dots (right_of on) above (at + 1 + length (signs_of_items before) + 1) after one r dots)))
        (has_either ls rs one h))
    item_dots on above at (OfCells cell dots_left side dots_right) one h dots =
        let held : CellRecord = of_cells_at at cell dots_left side dots_right in
        let here = cell_at on above (f at) held in
        let tag = tag_of cell at dots_left dots_right in
        let inner = side_cells f on (Some (f at)) (past_dots dots_left (at + 1)) side in
        let inside = side_at (past_dots dots_left (at + 1)) side in
        subst (λ es. TellsIn es one) (sym (events-Cell on held))
        (⊎_elim
        (λ (e : here ≡ one).
        own_tells dots_left dots_right one cell at on inside (ap (λ (c : TextCell). c.held.start) e) (ap (λ (c : TextCell). c.held.left_dots || c.held.right_dots) e ∙ dots.1))
        (λ (i : Has inner one).
        inner_tells dots_left dots_right one cell at on inside (side_dots on (Some (f at)) (past_dots dots_left (at + 1)) (at + 1) side one i dots))
        h)
    item_dots on above at (OfContent cell dots_left content dots_right) one h dots =
        ⊎_elim
        (λ (e : cell_at on above (f at) (of_content_at at cell dots_left (length content) dots_right) ≡ one).
        absurd (let b : false ≡ true = ap (λ (c : TextCell). has_cells_in c.held.inside) e ∙ dots.0 in cc))
        (λ (n : ⊥). absurd n) h

    items_dots : (on : Stands) (above : Option ℕ) (at : ℕ) (items : Items) (one : TextCell) → Has (items_cells f on above at items) one → HasDots one
        → TellsIn (events_of on (items_at at items)) one
    items_dots on above at Nothing one h dots = absurd h
    items_dots on above at (And items item) one h dots =
        let ls = items_cells f on above at items in
        let rs = item_cells f on above (at + length (signs_of_items items)) item in
        subst (λ es. TellsIn es one)
        (sym (flat_map-append (events_in on) (items_at at items) (item_at (at + length (signs_of_items items)) item ∷ [])))
        (⊎_elim (λ (l : Has ls one). split_dots _ _ one (inl (items_dots on above at items one l dots)))
        (λ (r : Has rs one). split_dots _ _ one (inr
        (subst (λ es. TellsIn es one) (sym (append-nil (events_in on (item_at (at + length (signs_of_items items)) item))))
        (item_dots on above (at + length (signs_of_items items)) item one r dots))))
        (has_either ls rs one h))

    pub side_dots : (on : Stands) (above : Option ℕ) (at start : ℕ) (side : Side) (one : TextCell) → Has (side_cells f on above at side) one → HasDots one
        → TellsIn (all_events on start (side_at at side)) one
    side_dots on above at start (Same items) one h dots =
        subst (λ es. TellsIn es one) (sym (events-Same on start (items_at at items))) (items_dots on above at items one h dots)
    side_dots on above at start (Changed before after) one h dots =
        let ls = items_cells f (left_of on) above at before in
        let rs = items_cells f (right_of on) above (at + length (signs_of_items before) + 1) after in
        subst (λ es. TellsIn es one)
        (sym (events-Changed on start (items_at at before) (items_at (at + length (signs_of_items before) + 1) after)))
        (⊎_elim
        (λ (l : Has ls one). split_dots _ _ one (inl (split_dots (nested_event start on) _ one (inr (items_dots (left_of on) above at before one l dots)))))
        (λ (r : Has rs one). split_dots _ _ one (inr (items_dots (right_of on) above (at + length (signs_of_items before) + 1) after one r dots)))
        (has_either ls rs one h))
