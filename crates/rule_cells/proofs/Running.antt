-- What is read of a body that is written as a tree.
use Rattle.std.proofs.Common.{◌≡◌, ℕ, ◌+◌, ◌==◌, Bool, true, false, if◌then◌else◌, List, [], ◌∷◌, ◌++◌, length, Option, Some, None, option_map, refl, sym, ap, ◌∙◌, subst, arith, rules, append_assoc, append-nil, length-append}
use Rattle.std.specs.Option.{option_and_then}
use Rattle.std.specs.List.{AllByRecursion}
use Rattle.rule_terms.specs.declared.defs.CellShape.{CellShape}
use Rattle.rule_cells.specs.declared.dots.Dots.{Dots}
use Rattle.rule_cells.specs.declared.dots.Dots.TheVariants.{Fresh, Alone, Inside, After}
use Rattle.rule_cells.specs.declared.form.Item as item
use Rattle.rule_cells.specs.declared.form.Side as side
use Rattle.rule_cells.specs.declared.form.Inside as inside
use Rattle.rule_cells.specs.declared.level.Level.{Level}
use Rattle.rule_cells.specs.declared.level.Opening.{Opening}
use Rattle.rule_cells.specs.declared.level.Opening.TheVariants.{Body, Bracket, Cells, Content}
use Rattle.rule_cells.specs.declared.mark.Mark.{Mark}
use Rattle.rule_cells.specs.declared.mark.Mark.TheVariants as mark
use Rattle.rule_cells.specs.declared.state.State.{State}
use Rattle.rule_cells.specs.Written.{Item, Items, Side, signs_of_item, signs_of_items, signs_of_side, dots, IsItem, AreItems, IsSide, IsRightAlone, is_of_cells, is_plain, item_at, items_at, side_at, past_dots}
use Rattle.rule_cells.specs.Written.Item.{EmptyBag, Point, Rewritten, OfCells, OfContent}
use Rattle.rule_cells.specs.Written.Items.{Nothing, And}
use Rattle.rule_cells.specs.Written.Side.{Same, Changed}
use Rattle.rule_cells.specs.Steps.{begun, dotted, left_of, right_of, going_on, content_on, is_content, opening_of, side_of, with_item, level_on, step, steps, nothing, side_read}

-- a state by its parts
abbrev pub at_level : Opening → Option (List item.Item) → List item.Item → List Level → State
at_level opening before items outer = record { level = record { opening = opening; before = before; items = items }; outer = outer }

not_content : (o next : Opening) → going_on o ≡ Some next → is_content o ≡ false
not_content Body next on = refl
not_content (Bracket start) next on = refl
not_content (Cells cell start d) next on = refl
not_content (Content cell start d first past) next on = absurd (cc)

-- ---- items

-- what is open behind items where this was open before and that is behind an item
abbrev pub reopened : Items → Opening → Opening → Opening
reopened Nothing o next = o
reopened (And items one) o next = next

reopened_on : (items : Items) (o next : Opening) → going_on o ≡ Some next → going_on next ≡ Some next → going_on (reopened items o next) ≡ Some next
reopened_on Nothing o next on on_next = on
reopened_on (And items one) o next on on_next = on_next

same_reopened : (items : Items) (o : Opening) → reopened items o o ≡ o
same_reopened Nothing o = refl
same_reopened (And items one) o = refl

-- what was read of a side whose first token has this number
abbrev pub before_at : ℕ → Side → Option (List item.Item)
before_at at (Same items) = None
before_at at (Changed left right) = Some (items_at at left)

abbrev pub last_at : ℕ → Side → List item.Item
last_at at (Same items) = items_at at items
last_at at (Changed left right) = items_at (at + length (signs_of_items left) + 1) right

pub side_is : (at : ℕ) (one : Side) → side_of (before_at at one) (last_at at one) ≡ side_at at one
unfolding item_at
side_is at (Same items) = refl
side_is at (Changed left right) = refl

abbrev behind : Side → Opening → Opening → Opening
behind (Same items) o next = reopened items o next
behind (Changed left right) o next = next

-- ---- the `...` of a cell

abbrev first_dots : Bool → Dots
first_dots false = Fresh
first_dots true = Alone

abbrev settled : Side → Dots → Dots → Dots
settled (Same Nothing) d next = d
settled (Same (And items one)) d next = next
settled (Changed left right) d next = next

settled_behind : (one : Side) (cell start : ℕ) (d next : Dots) → behind one (Cells cell start d) (Cells cell start next) ≡ Cells cell start (settled one d next)
settled_behind (Same Nothing) cell start d next = refl
settled_behind (Same (And items one)) cell start d next = refl
settled_behind (Changed left right) cell start d next = refl

abbrev ended : Bool → Dots → Option Dots
ended false d = Some d
ended true d = dotted d

-- what is known of the `...` of a cell where its closing tag stands
record Ends (left right : Bool) (before : Dots) : Type 0 where
  now : Dots
  ends : ended right before ≡ Some now
  at_left : left_of now ≡ left
  at_right : right_of now ≡ right

ends_inside : (left right : Bool) → Ends left right (Inside left)
ends_inside left false = record { now = Inside left; ends = refl; at_left = refl; at_right = refl }
ends_inside left true = record { now = After left; ends = refl; at_left = refl; at_right = refl }

ends_alone : (left right : Bool) → (left ≡ true → right ≡ true) → Ends left right (first_dots left)
ends_alone false false alone = record { now = Fresh; ends = refl; at_left = refl; at_right = refl }
ends_alone false true alone = record { now = Alone; ends = refl; at_left = refl; at_right = refl }
ends_alone true true alone = record { now = After true; ends = refl; at_left = refl; at_right = refl }
ends_alone true false alone = let no : false ≡ true = alone refl in absurd (cc)

ends_side : (left right : Bool) (one : Side) → IsRightAlone left (signs_of_side one) right → Ends left right (settled one (first_dots left) (Inside left))
unfolding signs_of_item
ends_side left right (Same Nothing) alone = ends_alone left right (λ is. alone is refl)
ends_side left right (Same (And items one)) alone = ends_inside left right
ends_side left right (Changed before after) alone = ends_inside left right

first_begun : (left : Bool) → begun (first_dots left) ≡ Some (Inside left)
first_begun false = refl
first_begun true = refl

-- ---- lists

pub regroup : (a b c d e : List Mark) → (((a ++ b) ++ c) ++ d) ++ e ≡ a ++ (b ++ (c ++ (d ++ e)))
regroup a b c d e = append_assoc ((a ++ b) ++ c) d e ∙ append_assoc (a ++ b) c (d ++ e) ∙ append_assoc a b (c ++ (d ++ e))

past_is : (left : Bool) (n : ℕ) → past_dots left n ≡ n + length (dots left)
past_is false n = omega arith
past_is true n = refl

pub eq_self : (n : ℕ) → (n == n) ≡ true
eq_self n = search rules

module _ (cells : List CellShape) where
  abbrev ItemRuns : Item → Type 0
  ItemRuns one = (o next : Opening) (before : Option (List item.Item)) (items : List item.Item) (outer : List Level) (at : ℕ) (rest : List Mark) → going_on o ≡ Some next
      → steps cells (at_level o before items outer) at (signs_of_item one ++ rest)
      ≡ steps cells (at_level next before (items ++ item_at at one ∷ []) outer) (at + length (signs_of_item one)) rest

  abbrev ItemsRun : Items → Type 0
  ItemsRun more = (o next : Opening) (before : Option (List item.Item)) (items : List item.Item) (outer : List Level) (at : ℕ) (rest : List Mark) → going_on o ≡ Some next → going_on next ≡ Some next
      → steps cells (at_level o before items outer) at (signs_of_items more ++ rest)
      ≡ steps cells (at_level (reopened more o next) before (items ++ items_at at more) outer) (at + length (signs_of_items more)) rest

  abbrev SideRuns : Side → Type 0
  SideRuns one = (o next : Opening) (outer : List Level) (at : ℕ) (rest : List Mark) → going_on o ≡ Some next → going_on next ≡ Some next
      → steps cells (at_level o None [] outer) at (signs_of_side one ++ rest)
      ≡ steps cells (at_level (behind one o next) (before_at at one) (last_at at one) outer) (at + length (signs_of_side one)) rest

  nothing_runs : ItemsRun Nothing
  unfolding signs_of_item item_at
  nothing_runs o next before items outer at rest on on_next =
      let e : at ≡ at + 0 = omega arith in
      let f : items ≡ items ++ [] = sym (append-nil items) in
      (λ i. steps cells (at_level o before (f i) outer) (e i) rest)

  more_run : (more : Items) (one : Item) → ItemsRun more → ItemRuns one → ItemsRun (And more one)
  unfolding signs_of_item item_at
  more_run more one run runs o next before items outer at rest on on_next =
      let e : at + length (signs_of_items more) + length (signs_of_item one) ≡ at + length (signs_of_items more ++ signs_of_item one) =
      omega (arith, length-append (signs_of_items more) (signs_of_item one)) in
      let f = append_assoc items (items_at at more) (item_at (at + length (signs_of_items more)) one ∷ []) in
      ap (λ l. steps cells (at_level o before items outer) at l) (append_assoc (signs_of_items more) (signs_of_item one) rest)
      ∙ run o next before items outer at (signs_of_item one ++ rest) on on_next
      ∙ runs (reopened more o next) next before (items ++ items_at at more) outer (at + length (signs_of_items more)) rest (reopened_on more o next on on_next)
      ∙ (λ i. steps cells (at_level next before (f i) outer) (e i) rest)

  bag_runs : ItemRuns EmptyBag
  unfolding signs_of_item item_at steps
  bag_runs o next before items outer at rest on = rw (not_content o next on, on) refl

  point_runs : ItemRuns Point
  unfolding signs_of_item item_at steps
  point_runs o next before items outer at rest on = rw (not_content o next on, on) refl

  -- ---- sides

  arrow_runs : (o next : Opening) (items : List item.Item) (outer : List Level) (at : ℕ) (rest : List Mark) → going_on o ≡ Some next
      → steps cells (at_level o None items outer) at (mark.Rewrite ∷ rest) ≡ steps cells (at_level next (Some items) [] outer) (at + 1) rest
  unfolding steps
  arrow_runs o next items outer at rest on = rw (not_content o next on, on) refl

  same_runs : (items : Items) → ItemsRun items → SideRuns (Same items)
  unfolding signs_of_item item_at
  same_runs items run o next outer at rest on on_next = run o next None [] outer at rest on on_next

  changed_runs : (left right : Items) → ItemsRun left → ItemsRun right → SideRuns (Changed left right)
  unfolding signs_of_item item_at
  changed_runs left right one other o next outer at rest on on_next =
      let past = at + length (signs_of_items left) + 1 in
      let e : past + length (signs_of_items right) ≡ at + length (signs_of_items left ++ mark.Rewrite ∷ signs_of_items right) =
      omega (arith, length-append (signs_of_items left) (mark.Rewrite ∷ signs_of_items right)) in
      let f = same_reopened right next in
      ap (λ l. steps cells (at_level o None [] outer) at l) (append_assoc (signs_of_items left) (mark.Rewrite ∷ signs_of_items right) rest)
      ∙ one o next None [] outer at (mark.Rewrite ∷ signs_of_items right ++ rest) on on_next
      ∙ arrow_runs (reopened left o next) next (items_at at left) outer (at + length (signs_of_items left)) (signs_of_items right ++ rest) (reopened_on left o next on on_next)
      ∙ other next next (Some (items_at at left)) [] outer past rest on_next on_next
      ∙ (λ i. steps cells (at_level (f i) (Some (items_at at left)) (items_at past right) outer) (e i) rest)

  -- ---- brackets

  bracket_opens : (o next : Opening) (before : Option (List item.Item)) (items : List item.Item) (outer : List Level) (at : ℕ) (rest : List Mark) → going_on o ≡ Some next
      → steps cells (at_level o before items outer) at (mark.LeftBracket ∷ rest)
      ≡ steps cells (at_level (Bracket at) None [] (record { opening = next; before = before; items = items } ∷ outer)) (at + 1) rest
  unfolding steps
  bracket_opens o next before items outer at rest on = rw (not_content o next on, on) refl

  bracket_closes : (start : ℕ) (left right : List item.Item) (level : Level) (outer : List Level) (at : ℕ) (rest : List Mark)
      → steps cells (at_level (Bracket start) (Some left) right (level ∷ outer)) at (mark.RightBracket ∷ rest)
      ≡ steps cells (record { level = with_item level (item.Change start left right); outer = outer }) (at + 1) rest
  unfolding steps
  bracket_closes start left right level outer at rest = refl

  rewritten_runs : (left right : Items) → SideRuns (Changed left right) → ItemRuns (Rewritten left right)
  unfolding signs_of_item item_at
  rewritten_runs left right run o next before items outer at rest on =
      let signs = signs_of_items left ++ mark.Rewrite ∷ signs_of_items right in
      let level : Level = record { opening = next; before = before; items = items } in
      let e : at + 1 + length signs + 1 ≡ at + length ((mark.LeftBracket ∷ signs) ++ mark.RightBracket ∷ []) =
      omega (arith, length-append signs (mark.RightBracket ∷ [])) in
      bracket_opens o next before items outer at ((signs ++ mark.RightBracket ∷ []) ++ rest) on
      ∙ ap (λ l. steps cells (at_level (Bracket at) None [] (level ∷ outer)) (at + 1) l) (append_assoc signs (mark.RightBracket ∷ []) rest)
      ∙ run (Bracket at) (Bracket at) (level ∷ outer) (at + 1) (mark.RightBracket ∷ rest) refl refl
      ∙ bracket_closes at (items_at (at + 1) left) (items_at (at + 1 + length (signs_of_items left) + 1) right) level outer (at + 1 + length signs) rest
      ∙ (λ i. steps cells (record { level = with_item level (item_at at (Rewritten left right)); outer = outer }) (e i) rest)

  -- ---- cells of cells

  cells_open : (cell : ℕ) (o next : Opening) (before : Option (List item.Item)) (items : List item.Item) (outer : List Level) (at : ℕ) (rest : List Mark)
      → going_on o ≡ Some next → is_of_cells cells cell ≡ true
      → steps cells (at_level o before items outer) at (mark.Open cell ∷ rest)
      ≡ steps cells (at_level (Cells cell at Fresh) None [] (record { opening = next; before = before; items = items } ∷ outer)) (at + 1) rest
  unfolding steps
  cells_open cell o next before items outer at rest on of_cells = rw (on, of_cells) refl

  left_dots : (left : Bool) (cell start : ℕ) (outer : List Level) (at : ℕ) (rest : List Mark)
      → steps cells (at_level (Cells cell start Fresh) None [] outer) at (dots left ++ rest)
      ≡ steps cells (at_level (Cells cell start (first_dots left)) None [] outer) (past_dots left at) rest
  unfolding steps
  left_dots false cell start outer at rest = refl
  left_dots true cell start outer at rest = refl

  right_dots : (right : Bool) (cell start : ℕ) (d now : Dots) (before : Option (List item.Item)) (items : List item.Item) (outer : List Level) (at : ℕ) (rest : List Mark)
      → ended right d ≡ Some now
      → steps cells (at_level (Cells cell start d) before items outer) at (dots right ++ rest)
      ≡ steps cells (at_level (Cells cell start now) before items outer) (past_dots right at) rest
  unfolding steps
  right_dots false cell start d now before items outer at rest ends =
      let same : d ≡ now = cc in (λ i. steps cells (at_level (Cells cell start (same i)) before items outer) at rest)
  right_dots true cell start d now before items outer at rest ends = rw ends refl

  cells_close : (cell start : ℕ) (d : Dots) (before : Option (List item.Item)) (items : List item.Item) (level : Level) (outer : List Level) (at : ℕ) (rest : List Mark)
      → steps cells (at_level (Cells cell start d) before items (level ∷ outer)) at (mark.Close cell ∷ rest)
      ≡ steps cells (record {
        level = with_item level (item.Cell (record { cell = cell; start = start; left_dots = left_of d; right_dots = right_of d; inside = inside.Cells (side_of before items) }));
        outer = outer;
      }) (at + 1) rest
  unfolding steps
  cells_close cell start d before items level outer at rest = rw (eq_self cell) refl

  cell_size : (first last : Mark) (left right : Bool) (content : List Mark) (at : ℕ)
      → past_dots right (past_dots left (at + 1) + length content) + 1 ≡ at + length ((first ∷ (dots left ++ content) ++ dots right) ++ last ∷ [])
  cell_size first last left right content at =
      let one = past_is left (at + 1) in
      let two = past_is right (past_dots left (at + 1) + length content) in
      omega (arith, length-append ((dots left ++ content) ++ dots right) (last ∷ []), length-append (dots left ++ content) (dots right), length-append (dots left) content)

  cells_run : (cell : ℕ) (left : Bool) (one : Side) (right : Bool) → is_of_cells cells cell ≡ true → IsRightAlone left (signs_of_side one) right → SideRuns one → ItemRuns (OfCells cell left one right)
  unfolding signs_of_item item_at
  cells_run cell left one right of_cells alone run o next before items outer at rest on =
      let signs = signs_of_side one in
      let level : Level = record { opening = next; before = before; items = items } in
      let from = past_dots left (at + 1) in
      let begun_d : going_on (Cells cell at (first_dots left)) ≡ Some (Cells cell at (Inside left)) = ap (option_map (λ d. Cells cell at d)) (first_begun left) in
      let s = settled_behind one cell at (first_dots left) (Inside left) in
      let d = ends_side left right one alone in
      let last = settled one (first_dots left) (Inside left) in
      let content = side_is from one in
      cells_open cell o next before items outer at ((((dots left ++ signs) ++ dots right) ++ mark.Close cell ∷ []) ++ rest) on of_cells
      ∙ ap (λ l. steps cells (at_level (Cells cell at Fresh) None [] (level ∷ outer)) (at + 1) l) (regroup (dots left) signs (dots right) (mark.Close cell ∷ []) rest)
      ∙ left_dots left cell at (level ∷ outer) (at + 1) (signs ++ (dots right ++ mark.Close cell ∷ rest))
      ∙ run (Cells cell at (first_dots left)) (Cells cell at (Inside left)) (level ∷ outer) from (dots right ++ mark.Close cell ∷ rest) begun_d refl
      ∙ ap (λ q. steps cells (at_level q (before_at from one) (last_at from one) (level ∷ outer)) (from + length signs) (dots right ++ mark.Close cell ∷ rest)) s
      ∙ right_dots right cell at last d.now (before_at from one) (last_at from one) (level ∷ outer) (from + length signs) (mark.Close cell ∷ rest) d.ends
      ∙ cells_close cell at d.now (before_at from one) (last_at from one) level outer (past_dots right (from + length signs)) rest
      ∙ (λ i. steps cells (record {
        level = with_item level (item.Cell (record { cell = cell; start = at; left_dots = d.at_left i; right_dots = d.at_right i; inside = inside.Cells (content i) }));
        outer = outer;
      }) (cell_size (mark.Open cell) (mark.Close cell) left right signs at i) rest)

  -- ---- cells with a content

  content_opens : (cell : ℕ) (o next : Opening) (before : Option (List item.Item)) (items : List item.Item) (outer : List Level) (at : ℕ) (rest : List Mark)
      → going_on o ≡ Some next → is_of_cells cells cell ≡ false
      → steps cells (at_level o before items outer) at (mark.Open cell ∷ rest)
      ≡ steps cells (at_level (Content cell at Fresh (at + 1) (at + 1)) None [] (record { opening = next; before = before; items = items } ∷ outer)) (at + 1) rest
  unfolding steps
  content_opens cell o next before items outer at rest on of_content = rw (on, of_content) refl

  content_left : (left : Bool) (cell start first past : ℕ) (outer : List Level) (at : ℕ) (rest : List Mark)
      → steps cells (at_level (Content cell start Fresh first past) None [] outer) at (dots left ++ rest)
      ≡ steps cells (at_level (Content cell start (first_dots left) first past) None [] outer) (past_dots left at) rest
  unfolding steps
  content_left false cell start first past outer at rest = refl
  content_left true cell start first past outer at rest = refl

  pub plain_step_is : (sign : Mark) (cell start : ℕ) (d : Dots) (first past : ℕ) (outer : List Level) (at : ℕ) → is_plain sign ≡ true
      → step cells (at_level (Content cell start d first past) None [] outer) at sign
      ≡ option_map (λ o. at_level o None [] outer) (content_on (Content cell start d first past) at)
  plain_step_is (mark.Open c) cell start d first past outer at plain = absurd (cc)
  plain_step_is (mark.Close c) cell start d first past outer at plain = absurd (cc)
  plain_step_is mark.Dots cell start d first past outer at plain = absurd (cc)
  plain_step_is mark.Rewrite cell start d first past outer at plain = refl
  plain_step_is mark.Bag cell start d first past outer at plain = refl
  plain_step_is mark.Dot cell start d first past outer at plain = refl
  plain_step_is mark.LeftBracket cell start d first past outer at plain = refl
  plain_step_is mark.RightBracket cell start d first past outer at plain = refl
  plain_step_is mark.Other cell start d first past outer at plain = refl

  further_content : (content : List Mark) → AllByRecursion (λ sign. is_plain sign ≡ true) content → (left : Bool) (cell start first : ℕ) (outer : List Level) (at : ℕ) (rest : List Mark)
      → steps cells (at_level (Content cell start (Inside left) first at) None [] outer) at (content ++ rest)
      ≡ steps cells (at_level (Content cell start (Inside left) first (at + length content)) None [] outer) (at + length content) rest
  unfolding steps
  further_content [] plain left cell start first outer at rest =
      let e : at ≡ at + 0 = omega arith in
      (λ i. steps cells (at_level (Content cell start (Inside left) first (e i)) None [] outer) (e i) rest)
  further_content (sign ∷ content) plain left cell start first outer at rest =
      let e : at + 1 + length content ≡ at + length (sign ∷ content) = omega arith in
      ap (λ t. option_and_then (λ n. steps cells n (at + 1) (content ++ rest)) t) (plain_step_is sign cell start (Inside left) first at outer at plain.0)
      ∙ further_content content plain.1 left cell start first outer (at + 1) rest
      ∙ (λ i. steps cells (at_level (Content cell start (Inside left) first (e i)) None [] outer) (e i) rest)

  first_content : (left : Bool) (cell start first past : ℕ) (at : ℕ) → content_on (Content cell start (first_dots left) first past) at ≡ Some (Content cell start (Inside left) at (at + 1))
  first_content false cell start first past at = refl
  first_content true cell start first past at = refl

  some_content : (sign : Mark) (content : List Mark) → AllByRecursion (λ sign. is_plain sign ≡ true) (sign ∷ content) → (left : Bool) (cell start first past : ℕ) (outer : List Level) (at : ℕ) (rest : List Mark)
      → steps cells (at_level (Content cell start (first_dots left) first past) None [] outer) at ((sign ∷ content) ++ rest)
      ≡ steps cells (at_level (Content cell start (Inside left) at (at + length (sign ∷ content))) None [] outer) (at + length (sign ∷ content)) rest
  unfolding steps
  some_content sign content plain left cell start first past outer at rest =
      let e : at + 1 + length content ≡ at + length (sign ∷ content) = omega arith in
      ap (λ t. option_and_then (λ n. steps cells n (at + 1) (content ++ rest)) t) (plain_step_is sign cell start (first_dots left) first past outer at plain.0)
      ∙ ap (λ t. option_and_then (λ n. steps cells n (at + 1) (content ++ rest)) (option_map (λ o. at_level o None [] outer) t)) (first_content left cell start first past at)
      ∙ further_content content plain.1 left cell start at outer (at + 1) rest
      ∙ (λ i. steps cells (at_level (Content cell start (Inside left) at (e i)) None [] outer) (e i) rest)

  content_close : (cell start : ℕ) (d : Dots) (first past : ℕ) (level : Level) (outer : List Level) (at : ℕ) (rest : List Mark)
      → steps cells (at_level (Content cell start d first past) None [] (level ∷ outer)) at (mark.Close cell ∷ rest)
      ≡ steps cells (record {
        level = with_item level (item.Cell (record { cell = cell; start = start; left_dots = left_of d; right_dots = right_of d; inside = inside.Content first past }));
        outer = outer;
      }) (at + 1) rest
  unfolding steps
  content_close cell start d first past level outer at rest = rw (eq_self cell) refl

  -- from behind the left `...`, where the content begins at the place that is read next
  abbrev Closes : Bool → List Mark → Bool → Type 0
  Closes left content right = (cell start : ℕ) (level : Level) (outer : List Level) (rest : List Mark)
      → steps cells (at_level (Content cell start (first_dots left) (start + 1) (start + 1)) None [] (level ∷ outer)) (past_dots left (start + 1)) (content ++ (dots right ++ mark.Close cell ∷ rest))
      ≡ steps cells (record {
        level = with_item level (item.Cell (record {
          cell = cell;
          start = start;
          left_dots = left;
          right_dots = right;
          inside = inside.Content (past_dots left (start + 1)) (past_dots left (start + 1) + length content);
        }));
        outer = outer;
      }) (past_dots right (past_dots left (start + 1) + length content) + 1) rest

  none_closes : (left right : Bool) → (left ≡ true → right ≡ true) → Closes left [] right
  unfolding steps
  none_closes false false alone cell start level outer rest =
      let e : start + 1 ≡ start + 1 + 0 = omega arith in
      content_close cell start Fresh (start + 1) (start + 1) level outer (start + 1) rest
      ∙ (λ i. steps cells (record {
        level = with_item level (item.Cell (record { cell = cell; start = start; left_dots = false; right_dots = false; inside = inside.Content (start + 1) (e i) }));
        outer = outer;
      }) (e i + 1) rest)
  none_closes false true alone cell start level outer rest =
      let e : start + 1 ≡ start + 1 + 0 = omega arith in
      content_close cell start Alone (start + 1) (start + 1) level outer (start + 1 + 1) rest
      ∙ (λ i. steps cells (record {
        level = with_item level (item.Cell (record { cell = cell; start = start; left_dots = false; right_dots = true; inside = inside.Content (start + 1) (e i) }));
        outer = outer;
      }) (e i + 1 + 1) rest)
  none_closes true true alone cell start level outer rest =
      let e : start + 1 + 1 ≡ start + 1 + 1 + 0 = omega arith in
      content_close cell start (After true) (start + 1 + 1) (start + 1 + 1) level outer (start + 1 + 1 + 1) rest
      ∙ (λ i. steps cells (record {
        level = with_item level (item.Cell (record { cell = cell; start = start; left_dots = true; right_dots = true; inside = inside.Content (start + 1 + 1) (e i) }));
        outer = outer;
      }) (e i + 1 + 1) rest)
  none_closes true false alone cell start level outer rest = let no : false ≡ true = alone refl in absurd (cc)

  some_ends : (left right : Bool) (cell start first past : ℕ) (level : Level) (outer : List Level) (at : ℕ) (rest : List Mark)
      → steps cells (at_level (Content cell start (Inside left) first past) None [] (level ∷ outer)) at (dots right ++ mark.Close cell ∷ rest)
      ≡ steps cells (record {
        level = with_item level (item.Cell (record { cell = cell; start = start; left_dots = left; right_dots = right; inside = inside.Content first past }));
        outer = outer;
      }) (past_dots right at + 1) rest
  unfolding steps
  some_ends left false cell start first past level outer at rest = content_close cell start (Inside left) first past level outer at rest
  some_ends left true cell start first past level outer at rest = content_close cell start (After left) first past level outer (at + 1) rest

  content_closes : (left : Bool) (content : List Mark) (right : Bool) → AllByRecursion (λ sign. is_plain sign ≡ true) content → IsRightAlone left content right → Closes left content right
  content_closes left [] right plain alone cell start level outer rest = none_closes left right (λ is. alone is refl) cell start level outer rest
  content_closes left (sign ∷ content) right plain alone cell start level outer rest =
      let from = past_dots left (start + 1) in
      let past = from + length (sign ∷ content) in
      some_content sign content plain left cell start (start + 1) (start + 1) (level ∷ outer) from (dots right ++ mark.Close cell ∷ rest)
      ∙ some_ends left right cell start from past level outer past rest

  content_runs : (cell : ℕ) (left : Bool) (content : List Mark) (right : Bool) → is_of_cells cells cell ≡ false → AllByRecursion (λ sign. is_plain sign ≡ true) content
      → IsRightAlone left content right → ItemRuns (OfContent cell left content right)
  unfolding signs_of_item item_at
  content_runs cell left content right of_content plain alone o next before items outer at rest on =
      let level : Level = record { opening = next; before = before; items = items } in
      content_opens cell o next before items outer at ((((dots left ++ content) ++ dots right) ++ mark.Close cell ∷ []) ++ rest) on of_content
      ∙ ap (λ l. steps cells (at_level (Content cell at Fresh (at + 1) (at + 1)) None [] (level ∷ outer)) (at + 1) l) (regroup (dots left) content (dots right) (mark.Close cell ∷ []) rest)
      ∙ content_left left cell at (at + 1) (at + 1) (level ∷ outer) (at + 1) (content ++ (dots right ++ mark.Close cell ∷ rest))
      ∙ content_closes left content right plain alone cell at level outer rest
      ∙ ap (λ n. steps cells (record { level = with_item level (item_at at (OfContent cell left content right)); outer = outer }) n rest)
      (cell_size (mark.Open cell) (mark.Close cell) left right content at)

  -- ---- all of them

  mutual
    unfolding IsItem

    item_runs : (one : Item) → IsItem cells one → ItemRuns one
    item_runs EmptyBag allowed = bag_runs
    item_runs Point allowed = point_runs
    item_runs (Rewritten left right) allowed = rewritten_runs left right (changed_runs left right (items_run left allowed.0) (items_run right allowed.1))
    item_runs (OfCells cell left one right) allowed = cells_run cell left one right allowed.0 allowed.2 (side_runs one allowed.1)
    item_runs (OfContent cell left content right) allowed = content_runs cell left content right allowed.0 allowed.1 allowed.2

    items_run : (items : Items) → AreItems cells items → ItemsRun items
    items_run Nothing allowed = nothing_runs
    items_run (And items one) allowed = more_run items one (items_run items allowed.0) (item_runs one allowed.1)

    side_runs : (one : Side) → IsSide cells one → SideRuns one
    side_runs (Same items) allowed = same_runs items (items_run items allowed)
    side_runs (Changed left right) allowed = changed_runs left right (items_run left allowed.0) (items_run right allowed.1)

  -- ---- bodies

  behind_body : (one : Side) → behind one Body Body ≡ Body
  behind_body (Same items) = same_reopened items Body
  behind_body (Changed left right) = refl

  -- what is read of a body of cells
  pub body_runs : (one : Side) → IsSide cells one → steps cells nothing 0 (signs_of_side one) ≡ Some (at_level Body (before_at 0 one) (last_at 0 one) [])
  unfolding steps
  body_runs one allowed =
      ap (steps cells nothing 0) (sym (append-nil (signs_of_side one)))
      ∙ side_runs one allowed Body Body [] 0 [] refl refl
      ∙ (λ i. Some (at_level (behind_body one i) (before_at 0 one) (last_at 0 one) []))

  pub body_side : (one : Side) → side_read (at_level Body (before_at 0 one) (last_at 0 one) []) ≡ Some (side_at 0 one)
  body_side one = ap Some (side_is 0 one)

  no_more : (o : Option State) (at : ℕ) (xs ys : List Mark) → ((n : State) → steps cells n at xs ≡ None → steps cells n at (xs ++ ys) ≡ None)
      → option_and_then (λ n. steps cells n at xs) o ≡ None → option_and_then (λ n. steps cells n at (xs ++ ys)) o ≡ None
  no_more None at xs ys later none = refl
  no_more (Some n) at xs ys later none = later n none

  -- where no tokens can be read, no more can
  pub stops_before : (xs ys : List Mark) (state : State) (at : ℕ) → steps cells state at xs ≡ None → steps cells state at (xs ++ ys) ≡ None
  unfolding steps
  stops_before [] ys state at none = absurd (cc)
  stops_before (x ∷ xs) ys state at none = no_more (step cells state at x) (at + 1) xs ys (λ n. stops_before xs ys n (at + 1)) none

  join_by : (o : Option State) (at next : ℕ) (xs ys : List Mark) → at + 1 + length xs ≡ next
      → ((n : State) → steps cells n (at + 1) (xs ++ ys) ≡ option_and_then (λ m. steps cells m (at + 1 + length xs) ys) (steps cells n (at + 1) xs))
      → option_and_then (λ n. steps cells n (at + 1) (xs ++ ys)) o ≡ option_and_then (λ n. steps cells n next ys) (option_and_then (λ n. steps cells n (at + 1) xs) o)
  join_by None at next xs ys e later = refl
  join_by (Some n) at next xs ys e later = later n ∙ ap (λ k. option_and_then (λ m. steps cells m k ys) (steps cells n (at + 1) xs)) e

  pub steps_join : (xs ys : List Mark) (state : State) (at : ℕ) → steps cells state at (xs ++ ys) ≡ option_and_then (λ n. steps cells n (at + length xs) ys) (steps cells state at xs)
  unfolding steps
  steps_join [] ys state at = let e : at ≡ at + 0 = omega arith in ap (λ n. steps cells state n ys) e
  steps_join (x ∷ xs) ys state at =
      let e : at + 1 + length xs ≡ at + length (x ∷ xs) = omega arith in
      join_by (step cells state at x) at (at + length (x ∷ xs)) xs ys e (λ n. steps_join xs ys n (at + 1))
