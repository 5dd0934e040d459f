-- With a token more what was read goes on to what the code has then.
use Rattle.std.proofs.Common.{◌≡◌, ℕ, ◌+◌, ◌==◌, Bool, true, false, if◌then◌else◌, List, [], ◌∷◌, ◌++◌, length, Option, Some, None, option_map, refl, sym, ap, ◌∙◌, subst, arith, append_assoc, append-nil, length-append}
use Rattle.std.proofs.lemmas.Bool.{eqb-true}
use Rattle.std.specs.Option.{option_and_then}
use Rattle.std.specs.List.{AllByRecursion}
use Rattle.rule_terms.specs.declared.defs.CellShape.{CellShape}
use Rattle.rule_cells.specs.declared.dots.Dots.{Dots}
use Rattle.rule_cells.specs.declared.dots.Dots.TheVariants.{Fresh, Alone, Inside, After}
use Rattle.rule_cells.specs.declared.form.Item as item
use Rattle.rule_cells.specs.declared.form.Inside as inside
use Rattle.rule_cells.specs.declared.level.Level.{Level}
use Rattle.rule_cells.specs.declared.level.Opening.{Opening}
use Rattle.rule_cells.specs.declared.level.Opening.TheVariants.{Body, Bracket, Cells, Content}
use Rattle.rule_cells.specs.declared.mark.Mark.{Mark}
use Rattle.rule_cells.specs.declared.mark.Mark.TheVariants as mark
use Rattle.rule_cells.specs.declared.state.State.{State}
use Rattle.rule_cells.specs.Written.{Item, Items, Side, signs_of_item, signs_of_items, signs_of_side, dots, IsItem, AreItems, IsSide, IsRightAlone, is_of_cells, is_plain, item_at, items_at, side_at, past_dots}
use Rattle.rule_cells.specs.Written.Item.{EmptyBag, Point, Rewritten, OfCells, OfContent}
use Rattle.rule_cells.specs.Written.Items.{Nothing, And}
use Rattle.rule_cells.specs.Written.Side.{Same, Changed}
use Rattle.rule_cells.specs.Steps.{begun, dotted, side_of, left_of, right_of, going_on, is_content, with_item, with_opening, with_level, leave_to, level_on, add_item, enter, item_step, step, steps, nothing}
use Rattle.rule_cells.proofs.Running.{at_level, before_at, last_at, side_is}
use Rattle.rule_cells.proofs.Fronts.{Around, Front, signs_around, signs_in, ending, signs_read, opening_in, level_in, outer_of, state_of, IsOn, IsAround, Fits, IsFront, add, added_is, added_signs, added_state, no_ending, no_end, bracket_left, tag_left}
use Rattle.rule_cells.proofs.Fronts.Around.{Outside, InBracket, InCells}
use Rattle.rule_cells.proofs.Fronts.Front.{Among, Within}

-- what was read with a token more
pub record Next (cells : List CellShape) (before : List Mark) (sign : Mark) (state : State) : Type 0 where
  pub front : Front
  pub is : IsFront cells front
  pub state_is : state_of front ≡ state
  pub signs_are : signs_read front ≡ before ++ sign ∷ []

-- the place of an item behind these: where this is open then
record Place (cells : List CellShape) (before : Around) (one : Side) (o : Opening) : Type 0 where
  around : Around
  is : IsAround cells around
  on : IsOn around
  level_is : level_in around one ≡ with_opening (level_in before one) o
  outer_is : outer_of around ≡ outer_of before
  signs_are : signs_in around one ≡ signs_read (Among before one)

-- ---- options

record Through {A B : Type 0} (f : A → B) (o : Option A) (b : B) : Type 0 where
  value : A
  was : o ≡ Some value
  is : f value ≡ b

through : {A B : Type 0} (f : A → B) (o : Option A) (b : B) → option_map f o ≡ Some b → Through f o b
through f None b is = absurd (cc)
through f (Some a) b is = record { value = a; was = refl; is = cc }

not_content_in : (around : Around) → is_content (opening_in around) ≡ false
not_content_in Outside = refl
not_content_in (InBracket around before) = refl
not_content_in (InCells around before cell d) = refl

among_step : (cells : List CellShape) (around : Around) (one : Side) (at : ℕ) (sign : Mark) → is_plain sign ≡ true
    → step cells (state_of (Among around one)) at sign ≡ item_step (state_of (Among around one)) at sign
among_step cells around one at (mark.Open c) plain = absurd (cc)
among_step cells around one at (mark.Close c) plain = absurd (cc)
among_step cells around one at mark.Dots plain = absurd (cc)
among_step cells around one at mark.Rewrite plain = rw (not_content_in around) refl
among_step cells around one at mark.Bag plain = rw (not_content_in around) refl
among_step cells around one at mark.Dot plain = rw (not_content_in around) refl
among_step cells around one at mark.LeftBracket plain = rw (not_content_in around) refl
among_step cells around one at mark.RightBracket plain = rw (not_content_in around) refl
among_step cells around one at mark.Other plain = rw (not_content_in around) refl

module _ (cells : List CellShape) where
  -- ---- the place of an item

  alone_place : (around : Around) (before : Side) (cell : ℕ) (o : Opening) → IsAround cells (InCells around before cell (Inside true))
      → going_on (opening_in (InCells around before cell Alone)) ≡ Some o → Place cells (InCells around before cell Alone) (Same Nothing) o
  unfolding signs_of_item item_at
  alone_place around before cell o is on =
      let same : Cells cell (length (signs_in around before)) (Inside true) ≡ o = cc in
      record {
        around = InCells around before cell (Inside true);
        is = is;
        on = refl;
        level_is = (λ i. record { opening = same i; before = None; items = [] });
        outer_is = refl;
        signs_are = (simp append_assoc refl);
      }

  place : (around : Around) (one : Side) (o : Opening) → IsFront cells (Among around one) → going_on (opening_in around) ≡ Some o → Place cells around one o
  place Outside one o is on =
      let same : Body ≡ o = cc in
      record { around = Outside; is = tt; on = tt; level_is = ap (with_opening (level_in Outside one)) same; outer_is = refl; signs_are = sym (append-nil (signs_in Outside one)) }
  place (InBracket around before) one o is on =
      let same : Bracket (length (signs_in around before)) ≡ o = cc in
      record {
        around = InBracket around before;
        is = is.0;
        on = tt;
        level_is = ap (with_opening (level_in (InBracket around before) one)) same;
        outer_is = refl;
        signs_are = sym (append-nil (signs_in (InBracket around before) one));
      }
  place (InCells around before cell Fresh) one o is on =
      let same : Cells cell (length (signs_in around before)) (Inside false) ≡ o = cc in
      record {
        around = InCells around before cell (Inside false);
        is = is.0;
        on = refl;
        level_is = ap (with_opening (level_in (InCells around before cell (Inside false)) one)) same;
        outer_is = refl;
        signs_are = sym (append-nil (signs_in (InCells around before cell (Inside false)) one));
      }
  place (InCells around before cell Alone) one o is on =
      subst (λ t. Place cells (InCells around before cell Alone) t o) (sym is.2.1) (alone_place around before cell o is.0 on)
  place (InCells around before cell (Inside left)) one o is on =
      let same : Cells cell (length (signs_in around before)) (Inside left) ≡ o = cc in
      record {
        around = InCells around before cell (Inside left);
        is = is.0;
        on = refl;
        level_is = ap (with_opening (level_in (InCells around before cell (Inside left)) one)) same;
        outer_is = refl;
        signs_are = sym (append-nil (signs_in (InCells around before cell (Inside left)) one));
      }
  place (InCells around before cell (After left)) one o is on = absurd (cc)

  -- ---- an item

  module _ (around : Around) (one : Side) (is : IsFront cells (Among around one)) (state : State) where
    abbrev at : ℕ
    at = length (signs_read (Among around one))

    -- an item of one token
    next_item : (more : Item) (sign : Mark) → IsItem cells more → signs_of_item more ≡ sign ∷ [] → add_item (state_of (Among around one)) (item_at at more) ≡ Some state
        → Next cells (signs_read (Among around one)) sign state
    next_item more sign allowed signs read =
        let t = through (λ level. with_level (state_of (Among around one)) (with_item level (item_at at more))) (level_on (level_in around one)) state read in
        let u = through (with_opening (level_in around one)) (going_on (opening_in around)) t.value t.was in
        let p = place around one u.value is u.was in
        record {
          front = Among p.around (add one more);
          is = added_is cells p.around one more p.is is.1 p.on allowed;
          state_is = added_state cells p.around one more
              ∙ (λ i. record { level = with_item ((p.level_is ∙ u.is) i) (item_at (length (p.signs_are i)) more); outer = p.outer_is i })
              ∙ t.is;
          signs_are = added_signs cells p.around one more p.on ∙ (λ i. p.signs_are i ++ signs i);
        }

    next_bag : step cells (state_of (Among around one)) at mark.Bag ≡ Some state → Next cells (signs_read (Among around one)) mark.Bag state
    unfolding signs_of_item item_at IsItem
    next_bag read = next_item EmptyBag mark.Bag tt refl (sym (among_step cells around one at mark.Bag refl) ∙ read)

    next_point : step cells (state_of (Among around one)) at mark.Dot ≡ Some state → Next cells (signs_read (Among around one)) mark.Dot state
    unfolding signs_of_item item_at IsItem
    next_point read = next_item Point mark.Dot tt refl (sym (among_step cells around one at mark.Dot refl) ∙ read)

    -- a level is opened
    record Entered (o : Opening) : Type 0 where
      opening : Opening
      p : Place cells around one opening
      is_state : record { level = record { opening = o; before = None; items = [] }; outer = level_in p.around one ∷ outer_of p.around } ≡ state

    entered : (o : Opening) → enter (state_of (Among around one)) o ≡ Some state → Entered o
    entered o read =
        let t = through (λ level. record { level = record { opening = o; before = None; items = [] }; outer = level ∷ outer_of around }) (level_on (level_in around one)) state read in
        let u = through (with_opening (level_in around one)) (going_on (opening_in around)) t.value t.was in
        let p = place around one u.value is u.was in
        record {
          opening = u.value;
          p = p;
          is_state = (λ i. record { level = record { opening = o; before = None; items = [] }; outer = (p.level_is ∙ u.is) i ∷ p.outer_is i }) ∙ t.is;
        }

    next_bracket : step cells (state_of (Among around one)) at mark.LeftBracket ≡ Some state → Next cells (signs_read (Among around one)) mark.LeftBracket state
    unfolding signs_of_item item_at IsItem
    next_bracket read =
        let e = entered (Bracket at) (sym (among_step cells around one at mark.LeftBracket refl) ∙ read) in
        record {
          front = Among (InBracket e.p.around one) (Same Nothing);
          is = ((e.p.is, is.1, e.p.on), tt, tt);
          state_is = (λ i. at_level (Bracket (length (e.p.signs_are i))) None [] (level_in e.p.around one ∷ outer_of e.p.around)) ∙ e.is_state;
          signs_are = append-nil ((signs_in e.p.around one ++ mark.LeftBracket ∷ []) ++ []) ∙ append-nil (signs_in e.p.around one ++ mark.LeftBracket ∷ [])
              ∙ ap (λ l. l ++ mark.LeftBracket ∷ []) e.p.signs_are;
        }

    next_cells : (cell : ℕ) → is_of_cells cells cell ≡ true → enter (state_of (Among around one)) (Cells cell at Fresh) ≡ Some state
        → Next cells (signs_read (Among around one)) (mark.Open cell) state
    unfolding signs_of_item item_at IsItem
    next_cells cell of_cells read =
        let e = entered (Cells cell at Fresh) read in
        record {
          front = Among (InCells e.p.around one cell Fresh) (Same Nothing);
          is = ((e.p.is, is.1, e.p.on, of_cells), tt, ((λ left. absurd (cc)), refl));
          state_is = (λ i. at_level (Cells cell (length (e.p.signs_are i)) Fresh) None [] (level_in e.p.around one ∷ outer_of e.p.around)) ∙ e.is_state;
          signs_are = append-nil ((signs_in e.p.around one ++ mark.Open cell ∷ []) ++ []) ∙ append-nil (signs_in e.p.around one ++ mark.Open cell ∷ [])
              ∙ ap (λ l. l ++ mark.Open cell ∷ []) e.p.signs_are;
        }

    next_content : (cell : ℕ) → is_of_cells cells cell ≡ false → enter (state_of (Among around one)) (Content cell at Fresh (at + 1) (at + 1)) ≡ Some state
        → Next cells (signs_read (Among around one)) (mark.Open cell) state
    next_content cell of_content read =
        let e = entered (Content cell at Fresh (at + 1) (at + 1)) read in
        let n = length (signs_in e.p.around one) in
        let z : n + 1 + 0 ≡ n + 1 = omega arith in
        record {
          front = Within e.p.around one cell Fresh [];
          is = (e.p.is, is.1, e.p.on, of_content, tt, (λ left. absurd (cc)), refl);
          state_is = (λ i. at_level (Content cell n Fresh (n + 1) (z i)) None [] (level_in e.p.around one ∷ outer_of e.p.around))
              ∙ (λ i. at_level (Content cell (length (e.p.signs_are i)) Fresh (length (e.p.signs_are i) + 1) (length (e.p.signs_are i) + 1)) None [] (level_in e.p.around one ∷ outer_of e.p.around))
              ∙ e.is_state;
          signs_are = ap (λ l. l ++ mark.Open cell ∷ []) e.p.signs_are;
        }

    open_by : (cell : ℕ) (b : Bool) → is_of_cells cells cell ≡ b → enter (state_of (Among around one)) (if b then Cells cell at Fresh else Content cell at Fresh (at + 1) (at + 1)) ≡ Some state
        → Next cells (signs_read (Among around one)) (mark.Open cell) state
    open_by cell true kind read = next_cells cell kind read
    open_by cell false kind read = next_content cell kind read

    next_open : (cell : ℕ) → step cells (state_of (Among around one)) at (mark.Open cell) ≡ Some state → Next cells (signs_read (Among around one)) (mark.Open cell) state
    next_open cell read = open_by cell (is_of_cells cells cell) refl read

  -- ---- `=>`

  some_changed : (left : Items) → signs_of_side (Changed left Nothing) ≡ [] → ⊥
  unfolding signs_of_item
  some_changed left none = let no : mark.Rewrite ∷ [] ≡ [] = no_end (signs_of_items left) (mark.Rewrite ∷ []) none in cc

  fits_changed : (around : Around) (left : Items) → IsOn around → Fits around (Changed left Nothing)
  fits_changed Outside left on = tt
  fits_changed (InBracket around before) left on = tt
  fits_changed (InCells around before cell Fresh) left on = absurd (cc)
  fits_changed (InCells around before cell Alone) left on = absurd (cc)
  fits_changed (InCells around before cell (Inside d)) left on = ((λ is none. absurd (some_changed left none)), tt)
  fits_changed (InCells around before cell (After d)) left on = absurd (cc)

  next_arrow : (around : Around) (one : Side) → IsFront cells (Among around one) → (state : State)
      → step cells (state_of (Among around one)) (length (signs_read (Among around one))) mark.Rewrite ≡ Some state → Next cells (signs_read (Among around one)) mark.Rewrite state
  unfolding signs_of_item item_at IsItem
  next_arrow around (Changed left right) is state read =
      let no = sym (among_step cells around (Changed left right) (length (signs_read (Among around (Changed left right)))) mark.Rewrite refl) ∙ read in absurd (cc)
  next_arrow around (Same items) is state read =
      let at = length (signs_read (Among around (Same items))) in
      let moved = sym (among_step cells around (Same items) at mark.Rewrite refl) ∙ read in
      let size = length (signs_around around) in
      let t = through (with_level (state_of (Among around (Same items)))) (option_map (λ o. record { opening = o; before = Some (items_at size items); items = [] }) (going_on (opening_in around))) state moved in
      let u = through (λ o. record { opening = o; before = Some (items_at size items); items = [] }) (going_on (opening_in around)) t.value t.was in
      let p = place around (Same items) u.value is u.was in
      record {
        front = Among p.around (Changed items Nothing);
        is = (p.is, (is.1, tt), fits_changed p.around items p.on);
        state_is = (λ i. at_level ((p.level_is i).opening) (Some ((p.level_is i).items)) [] (p.outer_is i))
            ∙ (λ i. record { level = u.is i; outer = outer_of around }) ∙ t.is;
        signs_are = (λ i. (signs_around p.around ++ (signs_of_items items ++ mark.Rewrite ∷ [])) ++ no_ending cells p.around p.on i)
            ∙ append-nil (signs_around p.around ++ (signs_of_items items ++ mark.Rewrite ∷ []))
            ∙ sym (append_assoc (signs_around p.around) (signs_of_items items) (mark.Rewrite ∷ []))
            ∙ ap (λ l. l ++ mark.Rewrite ∷ []) p.signs_are;
      }

  -- ---- a bracket closes

  next_closed : (around : Around) (one : Side) → IsFront cells (Among around one) → (state : State)
      → step cells (state_of (Among around one)) (length (signs_read (Among around one))) mark.RightBracket ≡ Some state → Next cells (signs_read (Among around one)) mark.RightBracket state
  unfolding signs_of_item item_at IsItem
  next_closed Outside one is state read = absurd (cc)
  next_closed (InCells around before cell d) one is state read = absurd (cc)
  next_closed (InBracket around before) (Same items) is state read = absurd (cc)
  next_closed (InBracket around before) (Changed left right) is state read =
      let more = Rewritten left right in
      let n = length (signs_in around before) in
      let size = length (signs_around (InBracket around before)) in
      let e : n + 1 ≡ size = omega (arith, length-append (signs_in around before) (mark.LeftBracket ∷ [])) in
      let same : record { level = with_item (level_in around before) (item.Change n (items_at size left) (items_at (size + length (signs_of_items left) + 1) right)); outer = outer_of around } ≡ state = cc in
      record {
        front = Among around (add before more);
        is = added_is cells around before more is.0.0 is.0.1 is.0.2 (is.1.0, is.1.1);
        state_is = added_state cells around before more
            ∙ (λ i. record { level = with_item (level_in around before) (item.Change n (items_at (e i) left) (items_at (e i + length (signs_of_items left) + 1) right)); outer = outer_of around })
            ∙ same;
        signs_are = added_signs cells around before more is.0.2 ∙ bracket_left (signs_in around before) (signs_of_items left ++ mark.Rewrite ∷ signs_of_items right);
      }

  -- ---- a tag closes

  past_size : (left : Bool) (p : List Mark) (cell : ℕ) → past_dots left (length p + 1) ≡ length (p ++ mark.Open cell ∷ dots left)
  past_size false p cell = omega (arith, length-append p (mark.Open cell ∷ []))
  past_size true p cell = omega (arith, length-append p (mark.Open cell ∷ mark.Dots ∷ []))

  tag_closes : (around : Around) (before : Side) (cell : ℕ) (d : Dots) (one : Side) → IsFront cells (Among (InCells around before cell d) one) → (state : State)
      → record {
        level = with_item (level_in around before) (item.Cell (record {
          cell = cell;
          start = length (signs_in around before);
          left_dots = left_of d;
          right_dots = right_of d;
          inside = inside.Cells (side_of (before_at (length (signs_around (InCells around before cell d))) one) (last_at (length (signs_around (InCells around before cell d))) one));
        }));
        outer = outer_of around;
      } ≡ state
      → Next cells (signs_read (Among (InCells around before cell d) one)) (mark.Close cell) state
  unfolding signs_of_item item_at IsItem
  tag_closes around before cell d one is state same =
      let more = OfCells cell (left_of d) one (right_of d) in
      let n = length (signs_in around before) in
      let e = past_size (left_of d) (signs_in around before) cell in
      let f = side_is (length (signs_around (InCells around before cell d))) one in
      record {
        front = Among around (add before more);
        is = added_is cells around before more is.0.0 is.0.1 is.0.2 (is.0.3, is.1, is.2.0);
        state_is = added_state cells around before more
            ∙ (λ i. record {
              level = with_item (level_in around before) (item.Cell (record { cell = cell; start = n; left_dots = left_of d; right_dots = right_of d; inside = inside.Cells ((ap (λ k. side_at k one) e ∙ sym f) i) }));
              outer = outer_of around;
            })
            ∙ same;
        signs_are = added_signs cells around before more is.0.2 ∙ tag_left (signs_in around before) (dots (left_of d)) (signs_of_side one) (dots (right_of d)) cell;
      }

  close_by : (around : Around) (before : Side) (c : ℕ) (d : Dots) (one : Side) → IsFront cells (Among (InCells around before c d) one) → (state : State) (cell : ℕ) (b : Bool) → (c == cell) ≡ b
      → option_and_then (leave_to (level_in around before ∷ outer_of around)) (if b then Some (item.Cell (record {
        cell = c;
        start = length (signs_in around before);
        left_dots = left_of d;
        right_dots = right_of d;
        inside = inside.Cells (side_of (before_at (length (signs_around (InCells around before c d))) one) (last_at (length (signs_around (InCells around before c d))) one));
      })) else None) ≡ Some state
      → Next cells (signs_read (Among (InCells around before c d) one)) (mark.Close cell) state
  close_by around before c d one is state cell true same read =
      subst (λ k. Next cells (signs_read (Among (InCells around before c d) one)) (mark.Close k) state) (eqb-true c cell same) (tag_closes around before c d one is state (cc))
  close_by around before c d one is state cell false same read = absurd (cc)

  next_close : (around : Around) (one : Side) → IsFront cells (Among around one) → (state : State) (cell : ℕ)
      → step cells (state_of (Among around one)) (length (signs_read (Among around one))) (mark.Close cell) ≡ Some state → Next cells (signs_read (Among around one)) (mark.Close cell) state
  next_close Outside one is state cell read = absurd (cc)
  next_close (InBracket around before) one is state cell read = absurd (cc)
  next_close (InCells around before c d) one is state cell read = close_by around before c d one is state cell (c == cell) refl read

  -- ---- `...`

  after_alone : (around : Around) (before : Side) (cell : ℕ) (state : State) → IsAround cells (InCells around before cell Alone)
      → at_level (Cells cell (length (signs_in around before)) (After true)) None [] (outer_of (InCells around before cell Alone)) ≡ state
      → Next cells (signs_read (Among (InCells around before cell Alone) (Same Nothing))) mark.Dots state
  unfolding signs_of_item item_at IsItem
  after_alone around before cell state is same = record {
    front = Among (InCells around before cell (After true)) (Same Nothing);
    is = (is, tt, ((λ left none. refl), tt));
    state_is = same;
    signs_are = (simp append_assoc refl);
  }

  alone_state : (around : Around) (before : Side) (cell : ℕ) (one : Side) → one ≡ Same Nothing
      → state_of (Among (InCells around before cell Alone) one) ≡ at_level (Cells cell (length (signs_in around before)) Alone) None [] (outer_of (InCells around before cell Alone))
  unfolding signs_of_item item_at
  alone_state around before cell one none = ap (λ t. state_of (Among (InCells around before cell Alone) t)) none

  next_dots : (around : Around) (one : Side) → IsFront cells (Among around one) → (state : State)
      → step cells (state_of (Among around one)) (length (signs_read (Among around one))) mark.Dots ≡ Some state → Next cells (signs_read (Among around one)) mark.Dots state
  next_dots Outside one is state read = absurd (cc)
  next_dots (InBracket around before) one is state read = absurd (cc)
  next_dots (InCells around before cell Fresh) one is state read = record {
    front = Among (InCells around before cell Alone) one;
    is = (is.0, is.1, ((λ left. absurd (cc)), is.2.1));
    state_is = (cc);
    signs_are = ap (λ l. l ++ mark.Dots ∷ []) (sym (append-nil (signs_in (InCells around before cell Fresh) one)));
  }
  next_dots (InCells around before cell Alone) one is state read =
      let moved : with_level (state_of (Among (InCells around before cell Alone) one)) (with_opening (level_in (InCells around before cell Alone) one) (Cells cell (length (signs_in around before)) (After true))) ≡ state = cc in
      subst (λ t. Next cells (signs_read (Among (InCells around before cell Alone) t)) mark.Dots state) (sym is.2.1)
      (after_alone around before cell state is.0
      (sym (ap (λ (s : State). with_level s (with_opening s.level (Cells cell (length (signs_in around before)) (After true)))) (alone_state around before cell one is.2.1)) ∙ moved))
  next_dots (InCells around before cell (Inside left)) one is state read = record {
    front = Among (InCells around before cell (After left)) one;
    is = (is.0, is.1, ((λ left none. refl), tt));
    state_is = (cc);
    signs_are = ap (λ l. l ++ mark.Dots ∷ []) (sym (append-nil (signs_in (InCells around before cell (Inside left)) one)));
  }
  next_dots (InCells around before cell (After left)) one is state read = absurd (cc)

  -- ---- any token among items

  pub next_among : (around : Around) (one : Side) → IsFront cells (Among around one) → (state : State) (sign : Mark)
      → step cells (state_of (Among around one)) (length (signs_read (Among around one))) sign ≡ Some state → Next cells (signs_read (Among around one)) sign state
  next_among around one is state (mark.Open cell) read = next_open around one is state cell read
  next_among around one is state (mark.Close cell) read = next_close around one is state cell read
  next_among around one is state mark.Rewrite read = next_arrow around one is state read
  next_among around one is state mark.Dots read = next_dots around one is state read
  next_among around one is state mark.Bag read = next_bag around one is state read
  next_among around one is state mark.Dot read = next_point around one is state read
  next_among around one is state mark.LeftBracket read = next_bracket around one is state read
  next_among around one is state mark.RightBracket read = next_closed around one is state read
  next_among around one is state mark.Other read =
      let no = sym (among_step cells around one (length (signs_read (Among around one))) mark.Other refl) ∙ read in absurd (cc)
