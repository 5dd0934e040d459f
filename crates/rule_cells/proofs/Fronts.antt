-- What was read of a body up to a place, as trees: the items that are read, in what is open around them.
use Rattle.std.proofs.Common.{◌≡◌, ℕ, ◌+◌, ◌==◌, Bool, true, false, if◌then◌else◌, List, [], ◌∷◌, ◌++◌, length, Option, Some, None, option_map, refl, sym, ap, ◌∙◌, subst, arith, append_assoc, append-nil, length-append}
use Rattle.std.specs.Option.{option_and_then}
use Rattle.std.specs.List.{AllByRecursion}
use Rattle.rule_terms.specs.declared.defs.CellShape.{CellShape}
use Rattle.rule_cells.specs.declared.dots.Dots.{Dots}
use Rattle.rule_cells.specs.declared.dots.Dots.TheVariants.{Fresh, Alone, Inside, After}
use Rattle.rule_cells.specs.declared.form.Item as item
use Rattle.rule_cells.specs.declared.form.Side as side
use Rattle.rule_cells.specs.declared.level.Level.{Level}
use Rattle.rule_cells.specs.declared.level.Opening.{Opening}
use Rattle.rule_cells.specs.declared.level.Opening.TheVariants.{Body, Bracket, Cells, Content}
use Rattle.rule_cells.specs.declared.mark.Mark.{Mark}
use Rattle.rule_cells.specs.declared.mark.Mark.TheVariants as mark
use Rattle.rule_cells.specs.declared.state.State.{State}
use Rattle.rule_cells.specs.Written.{Item, Items, Side, signs_of_item, signs_of_items, signs_of_side, dots, IsItem, AreItems, IsSide, IsRightAlone, is_of_cells, is_plain, item_at, items_at, side_at, past_dots}
use Rattle.rule_cells.specs.Written.Item.{EmptyBag, Point, Rewritten, OfCells, OfContent}
use Rattle.rule_cells.specs.Written.Items.{Nothing, And}
use Rattle.rule_cells.specs.Written.Side.{Same, Changed}
use Rattle.rule_cells.specs.Forms.{Begins, IsWritten}
use Rattle.rule_cells.specs.Steps.{begun, left_of, right_of, going_on, with_item, side_of, side_read}
use Rattle.rule_cells.proofs.Running.{at_level, before_at, last_at, side_is}

-- what is open around items, with what was read before it: nothing; a bracket; a cell of cells
pub data Around : Type 0 where
  Outside : Around
  InBracket : Around → Side → Around
  InCells : Around → Side → ℕ → Dots → Around

-- items that are read, or a content
pub data Front : Type 0 where
  Among : Around → Side → Front
  Within : Around → Side → ℕ → Dots → List Mark → Front

-- ---- the tokens that were read

abbrev pub signs_around : Around → List Mark
signs_around Outside = []
signs_around (InBracket around before) = (signs_around around ++ signs_of_side before) ++ mark.LeftBracket ∷ []
signs_around (InCells around before cell d) = (signs_around around ++ signs_of_side before) ++ mark.Open cell ∷ dots (left_of d)

abbrev pub signs_in : Around → Side → List Mark
signs_in around one = signs_around around ++ signs_of_side one

abbrev pub ending : Around → List Mark
ending Outside = []
ending (InBracket around before) = []
ending (InCells around before cell d) = dots (right_of d)

abbrev pub signs_read : Front → List Mark
signs_read (Among around one) = signs_in around one ++ ending around
signs_read (Within around before cell d content) = signs_in around before ++ (mark.Open cell ∷ (dots (left_of d) ++ content) ++ dots (right_of d))

-- ---- what the code has of it

abbrev pub opening_in : Around → Opening
opening_in Outside = Body
opening_in (InBracket around before) = Bracket (length (signs_in around before))
opening_in (InCells around before cell d) = Cells cell (length (signs_in around before)) d

abbrev pub level_in : Around → Side → Level
level_in around one = record { opening = opening_in around; before = before_at (length (signs_around around)) one; items = last_at (length (signs_around around)) one }

abbrev pub outer_of : Around → List Level
outer_of Outside = []
outer_of (InBracket around before) = level_in around before ∷ outer_of around
outer_of (InCells around before cell d) = level_in around before ∷ outer_of around

abbrev pub content_in : Around → Side → ℕ → Dots → List Mark → Opening
content_in around before cell d content =
    let start = length (signs_in around before) in
    Content cell start d (past_dots (left_of d) (start + 1)) (past_dots (left_of d) (start + 1) + length content)

abbrev pub state_of : Front → State
state_of (Among around one) = record { level = level_in around one; outer = outer_of around }
state_of (Within around before cell d content) = at_level (content_in around before cell d content) None [] (level_in around before ∷ outer_of around)

-- ---- which of them there are

-- items stand behind it
abbrev pub IsOn : Around → Type 0
IsOn Outside = Unit {0}
IsOn (InBracket around before) = Unit {0}
IsOn (InCells around before cell d) = begun d ≡ Some d

abbrev pub IsAround : List CellShape → Around → Type 0
IsAround cells Outside = Unit {0}
IsAround cells (InBracket around before) = IsAround cells around × IsSide cells before × IsOn around
IsAround cells (InCells around before cell d) = IsAround cells around × IsSide cells before × IsOn around × (is_of_cells cells cell ≡ true)

-- before anything but a `...` stands behind the opening tag of a cell, it holds nothing
abbrev pub IsEmptyBy : {X : Type 0} → Dots → X → X → Type 0
IsEmptyBy Fresh x none = x ≡ none
IsEmptyBy Alone x none = x ≡ none
IsEmptyBy (Inside left) x none = Unit {0}
IsEmptyBy (After left) x none = Unit {0}

abbrev pub Fits : Around → Side → Type 0
Fits Outside one = Unit {0}
Fits (InBracket around before) one = Unit {0}
Fits (InCells around before cell d) one = IsRightAlone (left_of d) (signs_of_side one) (right_of d) × IsEmptyBy d one (Same Nothing)

abbrev pub IsFront : List CellShape → Front → Type 0
IsFront cells (Among around one) = IsAround cells around × IsSide cells one × Fits around one
IsFront cells (Within around before cell d content) =
    IsAround cells around × IsSide cells before × IsOn around × (is_of_cells cells cell ≡ false) × AllByRecursion (λ sign. is_plain sign ≡ true) content
    × IsRightAlone (left_of d) content (right_of d) × IsEmptyBy d content []

-- ---- an item more

abbrev pub add : Side → Item → Side
add (Same items) one = Same (And items one)
add (Changed left right) one = Changed left (And right one)

signs_add : (all : Side) (one : Item) → signs_of_side (add all one) ≡ signs_of_side all ++ signs_of_item one
unfolding signs_of_item
signs_add (Same items) one = refl
signs_add (Changed left right) one = sym (append_assoc (signs_of_items left) (mark.Rewrite ∷ signs_of_items right) (signs_of_item one))

before_add : (at : ℕ) (all : Side) (one : Item) → before_at at (add all one) ≡ before_at at all
before_add at (Same items) one = refl
before_add at (Changed left right) one = refl

last_add : (at : ℕ) (all : Side) (one : Item) → last_at at (add all one) ≡ last_at at all ++ item_at (at + length (signs_of_side all)) one ∷ []
unfolding signs_of_item item_at
last_add at (Same items) one = refl
last_add at (Changed left right) one =
    let e : at + length (signs_of_items left) + 1 + length (signs_of_items right) ≡ at + length (signs_of_items left ++ mark.Rewrite ∷ signs_of_items right) =
    omega (arith, length-append (signs_of_items left) (mark.Rewrite ∷ signs_of_items right)) in
    ap (λ n. items_at (at + length (signs_of_items left) + 1) right ++ item_at n one ∷ []) e

some_signs : (one : Item) → signs_of_item one ≡ [] → ⊥
unfolding signs_of_item
some_signs EmptyBag none = cc
some_signs Point none = cc
some_signs (Rewritten left right) none = cc
some_signs (OfCells cell left one right) none = cc
some_signs (OfContent cell left content right) none = cc

pub no_end : (xs ys : List Mark) → xs ++ ys ≡ [] → ys ≡ []
no_end [] ys none = none
no_end (x ∷ xs) ys none = absurd (cc)

some_added : (all : Side) (one : Item) → signs_of_side (add all one) ≡ [] → ⊥
some_added all one none = some_signs one (no_end (signs_of_side all) (signs_of_item one) (sym (signs_add all one) ∙ none))

-- ---- lists

arrow_left : (p s : List Mark) → p ++ (mark.LeftBracket ∷ ((s ++ mark.Rewrite ∷ []) ++ mark.RightBracket ∷ [])) ≡ (((p ++ mark.LeftBracket ∷ []) ++ s) ++ []) ++ (mark.Rewrite ∷ mark.RightBracket ∷ [])
arrow_left p s = simp append_assoc refl

pub bracket_left : (p s : List Mark) → p ++ (mark.LeftBracket ∷ (s ++ mark.RightBracket ∷ [])) ≡ (((p ++ mark.LeftBracket ∷ []) ++ s) ++ []) ++ (mark.RightBracket ∷ [])
bracket_left p s = simp append_assoc refl

pub tag_left : (p a s b : List Mark) (cell : ℕ) → p ++ (mark.Open cell ∷ (((a ++ s) ++ b) ++ mark.Close cell ∷ [])) ≡ (((p ++ (mark.Open cell ∷ a)) ++ s) ++ b) ++ (mark.Close cell ∷ [])
tag_left p a s b cell = simp append_assoc refl

module _ (cells : List CellShape) where
  add_allowed : (all : Side) (one : Item) → IsSide cells all → IsItem cells one → IsSide cells (add all one)
  unfolding IsItem
  add_allowed (Same items) one allowed is = (allowed, is)
  add_allowed (Changed left right) one allowed is = (allowed.0, (allowed.1, is))

  fits_added : (around : Around) (all : Side) (one : Item) → IsOn around → Fits around (add all one)
  fits_added Outside all one on = tt
  fits_added (InBracket around before) all one on = tt
  fits_added (InCells around before cell Fresh) all one on = absurd (cc)
  fits_added (InCells around before cell Alone) all one on = absurd (cc)
  fits_added (InCells around before cell (Inside left)) all one on = ((λ is none. absurd (some_added all one none)), tt)
  fits_added (InCells around before cell (After left)) all one on = absurd (cc)

  pub no_ending : (around : Around) → IsOn around → ending around ≡ []
  no_ending Outside on = refl
  no_ending (InBracket around before) on = refl
  no_ending (InCells around before cell Fresh) on = absurd (cc)
  no_ending (InCells around before cell Alone) on = absurd (cc)
  no_ending (InCells around before cell (Inside left)) on = refl
  no_ending (InCells around before cell (After left)) on = absurd (cc)

  -- the front with an item more
  pub added_is : (around : Around) (all : Side) (one : Item) → IsAround cells around → IsSide cells all → IsOn around → IsItem cells one → IsFront cells (Among around (add all one))
  added_is around all one is allowed on this = (is, add_allowed all one allowed this, fits_added around all one on)

  pub added_signs : (around : Around) (all : Side) (one : Item) → IsOn around → signs_read (Among around (add all one)) ≡ signs_in around all ++ signs_of_item one
  added_signs around all one on =
      (λ i. (signs_around around ++ signs_add all one i) ++ no_ending around on i) ∙ append-nil (signs_around around ++ (signs_of_side all ++ signs_of_item one))
      ∙ sym (append_assoc (signs_around around) (signs_of_side all) (signs_of_item one))

  pub added_state : (around : Around) (all : Side) (one : Item)
      → state_of (Among around (add all one)) ≡ record { level = with_item (level_in around all) (item_at (length (signs_in around all)) one); outer = outer_of around }
  added_state around all one =
      let size = length (signs_around around) in
      let e : size + length (signs_of_side all) ≡ length (signs_in around all) = omega (arith, length-append (signs_around around) (signs_of_side all)) in
      let f = last_add size all one ∙ ap (λ n. last_at size all ++ item_at n one ∷ []) e in
      (λ i. at_level (opening_in around) (before_add size all one i) (f i) (outer_of around))

  -- ---- each front goes on to a whole body

  complete_by : (signs : List Mark) (further : List Mark) (whole : List Mark) → whole ≡ signs ++ further → Begins cells whole → Begins cells signs
  complete_by signs further whole is b = record {
    side = b.side;
    more = further ++ b.more;
    written = record { allowed = b.written.allowed; signs_are = b.written.signs_are ∙ ap (λ w. w ++ b.more) is ∙ append_assoc signs further b.more };
  }

  -- what closes what is open, as an item of the level around
  pub closing_signs : (around : Around) (all : Side) (one : Item) → IsOn around → (signs further : List Mark) → signs_in around all ++ signs_of_item one ≡ signs ++ further
      → Begins cells (signs_read (Among around (add all one))) → Begins cells signs
  closing_signs around all one on signs further is whole = complete_by signs further (signs_read (Among around (add all one))) (added_signs around all one on ∙ is) whole

  among_begins : (around : Around) (one : Side) → IsFront cells (Among around one) → Begins cells (signs_read (Among around one))
  unfolding signs_of_item IsItem
  among_begins Outside one is = record {
    side = one;
    more = [];
    written = record { allowed = is.1; signs_are = sym (append-nil (signs_of_side one)) ∙ sym (append-nil (signs_of_side one ++ [])) };
  }
  among_begins (InBracket around before) (Same items) is =
      let whole = among_begins around (add before (Rewritten items Nothing))
      (added_is around before (Rewritten items Nothing) is.0.0 is.0.1 is.0.2 (is.1, tt)) in
      closing_signs around before (Rewritten items Nothing) is.0.2 (signs_read (Among (InBracket around before) (Same items))) (mark.Rewrite ∷ mark.RightBracket ∷ [])
      (arrow_left (signs_in around before) (signs_of_items items)) whole
  among_begins (InBracket around before) (Changed left right) is =
      let whole = among_begins around (add before (Rewritten left right)) (added_is around before (Rewritten left right) is.0.0 is.0.1 is.0.2 (is.1.0, is.1.1)) in
      closing_signs around before (Rewritten left right) is.0.2 (signs_read (Among (InBracket around before) (Changed left right))) (mark.RightBracket ∷ [])
      (bracket_left (signs_in around before) (signs_of_items left ++ mark.Rewrite ∷ signs_of_items right)) whole
  among_begins (InCells around before cell d) one is =
      let this : IsItem cells (OfCells cell (left_of d) one (right_of d)) = (is.0.3, is.1, is.2.0) in
      let whole = among_begins around (add before (OfCells cell (left_of d) one (right_of d))) (added_is around before (OfCells cell (left_of d) one (right_of d)) is.0.0 is.0.1 is.0.2 this) in
      closing_signs around before (OfCells cell (left_of d) one (right_of d)) is.0.2 (signs_read (Among (InCells around before cell d) one)) (mark.Close cell ∷ [])
      (tag_left (signs_in around before) (dots (left_of d)) (signs_of_side one) (dots (right_of d)) cell) whole

  content_left : (p a s b : List Mark) (cell : ℕ) → p ++ (mark.Open cell ∷ (((a ++ s) ++ b) ++ mark.Close cell ∷ [])) ≡ (p ++ (mark.Open cell ∷ (a ++ s) ++ b)) ++ (mark.Close cell ∷ [])
  content_left p a s b cell = simp append_assoc refl

  pub front_begins : (front : Front) → IsFront cells front → Begins cells (signs_read front)
  unfolding signs_of_item IsItem
  front_begins (Among around one) is = among_begins around one is
  front_begins (Within around before cell d content) is =
      let this : IsItem cells (OfContent cell (left_of d) content (right_of d)) = (is.3, is.4, is.5) in
      let whole = among_begins around (add before (OfContent cell (left_of d) content (right_of d))) (added_is around before (OfContent cell (left_of d) content (right_of d)) is.0 is.1 is.2 this) in
      closing_signs around before (OfContent cell (left_of d) content (right_of d)) is.2 (signs_read (Within around before cell d content)) (mark.Close cell ∷ [])
      (content_left (signs_in around before) (dots (left_of d)) content (dots (right_of d)) cell) whole

  -- where nothing is open the body is whole
  pub whole_side : (around : Around) (one : Side) (found : side.Side) → IsFront cells (Among around one) → side_read (state_of (Among around one)) ≡ Some found
      → IsWritten cells (signs_read (Among around one)) one × (found ≡ side_at 0 one)
  whole_side Outside one found is read =
      let same : side_of (before_at 0 one) (last_at 0 one) ≡ found = cc in
      (record { allowed = is.1; signs_are = sym (append-nil (signs_of_side one)) }, sym same ∙ side_is 0 one)
  whole_side (InBracket around before) one found is read = absurd (cc)
  whole_side (InCells around before cell d) one found is read = absurd (cc)
