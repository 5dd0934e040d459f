-- With a token more what was read of a content goes on, and with all tokens of a text.
use Rattle.std.proofs.Common.{◌≡◌, ℕ, ◌+◌, ◌==◌, Bool, true, false, if◌then◌else◌, List, [], ◌∷◌, ◌++◌, length, Option, Some, None, option_map, refl, sym, ap, ◌∙◌, subst, arith, append_assoc, append-nil, length-append}
use Rattle.std.proofs.lemmas.Bool.{eqb-true}
use Rattle.std.specs.Option.{option_and_then}
use Rattle.std.specs.List.{AllByRecursion}
use Rattle.rule_terms.specs.declared.defs.CellShape.{CellShape}
use Rattle.rule_cells.specs.declared.dots.Dots.{Dots}
use Rattle.rule_cells.specs.declared.dots.Dots.TheVariants.{Fresh, Alone, Inside, After}
use Rattle.rule_cells.specs.declared.form.Item as item
use Rattle.rule_cells.specs.declared.form.Inside as inside
use Rattle.rule_cells.specs.declared.level.Level.{Level}
use Rattle.rule_cells.specs.declared.level.Opening.{Opening}
use Rattle.rule_cells.specs.declared.level.Opening.TheVariants.{Body, Bracket, Cells, Content}
use Rattle.rule_cells.specs.declared.mark.Mark.{Mark}
use Rattle.rule_cells.specs.declared.mark.Mark.TheVariants as mark
use Rattle.rule_cells.specs.declared.state.State.{State}
use Rattle.rule_cells.specs.Written.{Item, Items, Side, signs_of_item, dots, IsItem, IsSide, is_plain, item_at, past_dots}
use Rattle.rule_cells.specs.Written.Item.{OfContent}
use Rattle.rule_cells.specs.Written.Items.{Nothing}
use Rattle.rule_cells.specs.Written.Side.{Same}
use Rattle.rule_cells.specs.Steps.{left_of, right_of, with_item, leave_to, step, steps, nothing}
use Rattle.rule_cells.proofs.Running.{at_level, plain_step_is}
use Rattle.rule_cells.proofs.Fronts.{Around, Front, signs_in, signs_read, level_in, outer_of, content_in, state_of, IsOn, IsAround, IsFront, add, added_is, added_signs, added_state, no_end}
use Rattle.rule_cells.proofs.Fronts.Around.{Outside}
use Rattle.rule_cells.proofs.Fronts.Front.{Among, Within}
use Rattle.rule_cells.proofs.Reaching.{Next, next_among}

-- ---- sizes

within_size : (p a c b : List Mark) (cell : ℕ) → length (p ++ (mark.Open cell ∷ (a ++ c) ++ b)) ≡ length p + 1 + length a + length c + length b
within_size p a c b cell = omega (arith, length-append p (mark.Open cell ∷ (a ++ c) ++ b), length-append (a ++ c) b, length-append a c)

past_is : (left : Bool) (n : ℕ) → past_dots left n ≡ n + length (dots left)
past_is false n = omega arith
past_is true n = refl

-- where a content is read that no `...` ends, the next token stands behind it
pub end_size : (p : List Mark) (left : Bool) (content : List Mark) (cell : ℕ) → length (p ++ (mark.Open cell ∷ (dots left ++ content) ++ [])) ≡ past_dots left (length p + 1) + length content
end_size p left content cell = let one = past_is left (length p + 1) in omega (arith, within_size p (dots left) content [] cell)

added_sign : (content : List Mark) (sign : Mark) → content ++ sign ∷ [] ≡ [] → ⊥
added_sign content sign none = let no : sign ∷ [] ≡ [] = no_end content (sign ∷ []) none in cc

more_plain : (content : List Mark) (sign : Mark) → AllByRecursion (λ s. is_plain s ≡ true) content → is_plain sign ≡ true → AllByRecursion (λ s. is_plain s ≡ true) (content ++ sign ∷ [])
more_plain [] sign plain is = (is, tt)
more_plain (s ∷ content) sign plain is = (plain.0, more_plain content sign plain.1 is)

more_signs : (p a c : List Mark) (cell : ℕ) (sign : Mark) → p ++ (mark.Open cell ∷ (a ++ (c ++ sign ∷ [])) ++ []) ≡ (p ++ (mark.Open cell ∷ (a ++ c) ++ [])) ++ sign ∷ []
more_signs p a c cell sign = simp append_assoc refl

close_signs : (p a s b : List Mark) (cell : ℕ) → p ++ (mark.Open cell ∷ (((a ++ s) ++ b) ++ mark.Close cell ∷ [])) ≡ (p ++ (mark.Open cell ∷ (a ++ s) ++ b)) ++ (mark.Close cell ∷ [])
close_signs p a s b cell = simp append_assoc refl

module _ (cells : List CellShape) (around : Around) (before : Side) (cell : ℕ) where
  abbrev Reads : Dots → List Mark → Mark → State → Type 0
  Reads d content sign state = step cells (state_of (Within around before cell d content)) (length (signs_read (Within around before cell d content))) sign ≡ Some state

  abbrev Goes : Dots → List Mark → Mark → State → Type 0
  Goes d content sign state = Next cells (signs_read (Within around before cell d content)) sign state

  -- ---- a token of the content

  more_content : (left : Bool) (content : List Mark) → IsFront cells (Within around before cell (Inside left) content) → (state : State) (sign : Mark) → is_plain sign ≡ true
      → Reads (Inside left) content sign state → Goes (Inside left) content sign state
  more_content left content is state sign plain read =
      let at = length (signs_read (Within around before cell (Inside left) content)) in
      let start = length (signs_in around before) in
      let first = past_dots left (start + 1) in
      let e = end_size (signs_in around before) left content cell in
      let f : first + length (content ++ sign ∷ []) ≡ at + 1 = omega (arith, length-append content (sign ∷ []), e) in
      let moved = sym (plain_step_is cells sign cell start (Inside left) first (first + length content) (level_in around before ∷ outer_of around) at plain) ∙ read in
      let same : at_level (Content cell start (Inside left) first (at + 1)) None [] (level_in around before ∷ outer_of around) ≡ state = cc in
      record {
        front = Within around before cell (Inside left) (content ++ sign ∷ []);
        is = (is.0, is.1, is.2, is.3, more_plain content sign is.4 plain, (λ l none. absurd (added_sign content sign none)), tt);
        state_is = (λ i. at_level (Content cell start (Inside left) first (f i)) None [] (level_in around before ∷ outer_of around)) ∙ same;
        signs_are = more_signs (signs_in around before) (dots left) content cell sign;
      }

  -- the first one, behind the tag or a `...`
  fresh_content : (state : State) (sign : Mark) → IsFront cells (Within around before cell Fresh []) → is_plain sign ≡ true → Reads Fresh [] sign state → Goes Fresh [] sign state
  fresh_content state sign is plain read =
      let at = length (signs_read (Within around before cell Fresh [])) in
      let start = length (signs_in around before) in
      let e = end_size (signs_in around before) false [] cell in
      let f : start + 1 ≡ at = omega (arith, e) in
      let moved = sym (plain_step_is cells sign cell start Fresh (start + 1) (start + 1 + 0) (level_in around before ∷ outer_of around) at plain) ∙ read in
      let same : at_level (Content cell start (Inside false) at (at + 1)) None [] (level_in around before ∷ outer_of around) ≡ state = cc in
      record {
        front = Within around before cell (Inside false) (sign ∷ []);
        is = (is.0, is.1, is.2, is.3, (plain, tt), (λ l none. absurd (cc)), tt);
        state_is = (λ i. at_level (Content cell start (Inside false) (f i) (f i + 1)) None [] (level_in around before ∷ outer_of around)) ∙ same;
        signs_are = more_signs (signs_in around before) [] [] cell sign;
      }

  alone_content : (state : State) (sign : Mark) → IsFront cells (Within around before cell Alone []) → is_plain sign ≡ true → Reads Alone [] sign state → Goes Alone [] sign state
  alone_content state sign is plain read =
      let at = length (signs_read (Within around before cell Alone [])) in
      let start = length (signs_in around before) in
      let e = within_size (signs_in around before) [] [] (mark.Dots ∷ []) cell in
      let f : start + 1 + 1 ≡ at = omega (arith, e) in
      let moved = sym (plain_step_is cells sign cell start Alone (start + 1) (start + 1 + 0) (level_in around before ∷ outer_of around) at plain) ∙ read in
      let same : at_level (Content cell start (Inside true) at (at + 1)) None [] (level_in around before ∷ outer_of around) ≡ state = cc in
      record {
        front = Within around before cell (Inside true) (sign ∷ []);
        is = (is.0, is.1, is.2, is.3, (plain, tt), (λ l none. absurd (cc)), tt);
        state_is = (λ i. at_level (Content cell start (Inside true) (f i) (f i + 1)) None [] (level_in around before ∷ outer_of around)) ∙ same;
        signs_are = (simp append_assoc refl);
      }

  next_plain : (d : Dots) (content : List Mark) → IsFront cells (Within around before cell d content) → (state : State) (sign : Mark) → is_plain sign ≡ true → Reads d content sign state → Goes d content sign state
  next_plain Fresh [] is state sign plain read = fresh_content state sign is plain read
  next_plain Fresh (c ∷ content) is state sign plain read = absurd (let no : c ∷ content ≡ [] = is.6 in cc)
  next_plain Alone [] is state sign plain read = alone_content state sign is plain read
  next_plain Alone (c ∷ content) is state sign plain read = absurd (let no : c ∷ content ≡ [] = is.6 in cc)
  next_plain (Inside left) content is state sign plain read = more_content left content is state sign plain read
  next_plain (After left) content is state sign plain read =
      let start = length (signs_in around before) in
      let first = past_dots left (start + 1) in
      let moved = sym (plain_step_is cells sign cell start (After left) first (first + length content) (level_in around before ∷ outer_of around) (length (signs_read (Within around before cell (After left) content))) plain) ∙ read in
      absurd (cc)

  -- ---- `...`

  next_ellipsis : (d : Dots) (content : List Mark) → IsFront cells (Within around before cell d content) → (state : State) → Reads d content mark.Dots state → Goes d content mark.Dots state
  next_ellipsis Fresh [] is state read = record {
    front = Within around before cell Alone [];
    is = (is.0, is.1, is.2, is.3, tt, (λ l. absurd (cc)), refl);
    state_is = (cc);
    signs_are = (simp append_assoc refl);
  }
  next_ellipsis Fresh (c ∷ content) is state read = absurd (let no : c ∷ content ≡ [] = is.6 in cc)
  next_ellipsis Alone [] is state read =
      let at = length (signs_read (Within around before cell Alone [])) in
      let start = length (signs_in around before) in
      let e = within_size (signs_in around before) [] [] (mark.Dots ∷ []) cell in
      let f : start + 1 + 1 ≡ at = omega (arith, e) in
      let g : start + 1 + 1 + 0 ≡ at = omega (arith, e) in
      let same : at_level (Content cell start (After true) at at) None [] (level_in around before ∷ outer_of around) ≡ state = cc in
      record {
        front = Within around before cell (After true) [];
        is = (is.0, is.1, is.2, is.3, tt, (λ l none. refl), tt);
        state_is = (λ i. at_level (Content cell start (After true) (f i) (g i)) None [] (level_in around before ∷ outer_of around)) ∙ same;
        signs_are = (simp append_assoc refl);
      }
  next_ellipsis Alone (c ∷ content) is state read = absurd (let no : c ∷ content ≡ [] = is.6 in cc)
  next_ellipsis (Inside left) content is state read = record {
    front = Within around before cell (After left) content;
    is = (is.0, is.1, is.2, is.3, is.4, (λ l none. refl), tt);
    state_is = (cc);
    signs_are = (simp append_assoc refl);
  }
  next_ellipsis (After left) content is state read = absurd (cc)

  -- ---- a tag

  content_closed : (d : Dots) (content : List Mark) → IsFront cells (Within around before cell d content) → (state : State)
      → record {
        level = with_item (level_in around before) (item.Cell (record {
          cell = cell;
          start = length (signs_in around before);
          left_dots = left_of d;
          right_dots = right_of d;
          inside = inside.Content (past_dots (left_of d) (length (signs_in around before) + 1)) (past_dots (left_of d) (length (signs_in around before) + 1) + length content);
        }));
        outer = outer_of around;
      } ≡ state
      → Goes d content (mark.Close cell) state
  unfolding signs_of_item item_at IsItem
  content_closed d content is state same =
      let more = OfContent cell (left_of d) content (right_of d) in
      record {
        front = Among around (add before more);
        is = added_is cells around before more is.0 is.1 is.2 (is.3, is.4, is.5);
        state_is = added_state cells around before more ∙ same;
        signs_are = added_signs cells around before more is.2 ∙ close_signs (signs_in around before) (dots (left_of d)) content (dots (right_of d)) cell;
      }

  close_by : (d : Dots) (content : List Mark) → IsFront cells (Within around before cell d content) → (state : State) (tag : ℕ) (b : Bool) → (cell == tag) ≡ b
      → option_and_then (leave_to (level_in around before ∷ outer_of around)) (if b then Some (item.Cell (record {
        cell = cell;
        start = length (signs_in around before);
        left_dots = left_of d;
        right_dots = right_of d;
        inside = inside.Content (past_dots (left_of d) (length (signs_in around before) + 1)) (past_dots (left_of d) (length (signs_in around before) + 1) + length content);
      })) else None) ≡ Some state
      → Goes d content (mark.Close tag) state
  close_by d content is state tag true same read =
      subst (λ k. Next cells (signs_read (Within around before cell d content)) (mark.Close k) state) (eqb-true cell tag same) (content_closed d content is state (cc))
  close_by d content is state tag false same read = absurd (cc)

  next_within : (d : Dots) (content : List Mark) → IsFront cells (Within around before cell d content) → (state : State) (sign : Mark) → Reads d content sign state → Goes d content sign state
  next_within d content is state (mark.Open c) read = absurd (cc)
  next_within d content is state (mark.Close c) read = close_by d content is state c (cell == c) refl read
  next_within d content is state mark.Dots read = next_ellipsis d content is state read
  next_within d content is state mark.Rewrite read = next_plain d content is state mark.Rewrite refl read
  next_within d content is state mark.Bag read = next_plain d content is state mark.Bag refl read
  next_within d content is state mark.Dot read = next_plain d content is state mark.Dot refl read
  next_within d content is state mark.LeftBracket read = next_plain d content is state mark.LeftBracket refl read
  next_within d content is state mark.RightBracket read = next_plain d content is state mark.RightBracket refl read
  next_within d content is state mark.Other read = next_plain d content is state mark.Other refl read

-- ---- all tokens

-- what was read is this, and the code has it
pub record Reached (cells : List CellShape) (signs : List Mark) (state : State) : Type 0 where
  pub front : Front
  pub is : IsFront cells front
  pub state_is : state_of front ≡ state
  pub signs_are : signs_read front ≡ signs

module _ (cells : List CellShape) where
  next : (front : Front) → IsFront cells front → (state : State) (sign : Mark) → step cells (state_of front) (length (signs_read front)) sign ≡ Some state → Next cells (signs_read front) sign state
  next (Among around one) is state sign read = next_among cells around one is state sign read
  next (Within around before cell d content) is state sign read = next_within cells around before cell d content is state sign read

  reach_by : (front : Front) → IsFront cells front → (sign : Mark) (signs : List Mark) (state : State) (o : Option State) → step cells (state_of front) (length (signs_read front)) sign ≡ o
      → ((f : Front) → IsFront cells f → steps cells (state_of f) (length (signs_read f)) signs ≡ Some state → Reached cells (signs_read f ++ signs) state)
      → option_and_then (λ n. steps cells n (length (signs_read front) + 1) signs) o ≡ Some state → Reached cells (signs_read front ++ sign ∷ signs) state
  reach_by front is sign signs state None read later steps_read = absurd (cc)
  reach_by front is sign signs state (Some middle) read later steps_read =
      let n = next front is middle sign read in
      let e : length (signs_read front) + 1 ≡ length (signs_read n.front) = omega (arith, ap length n.signs_are, length-append (signs_read front) (sign ∷ [])) in
      let r = later n.front n.is (sym (λ i. steps cells ((sym n.state_is) i) (e i) signs) ∙ steps_read) in
      record { front = r.front; is = r.is; state_is = r.state_is; signs_are = r.signs_are ∙ ap (λ l. l ++ signs) n.signs_are ∙ append_assoc (signs_read front) (sign ∷ []) signs }

  reach : (signs : List Mark) (front : Front) → IsFront cells front → (state : State) → steps cells (state_of front) (length (signs_read front)) signs ≡ Some state
      → Reached cells (signs_read front ++ signs) state
  unfolding steps
  reach [] front is state read = record { front = front; is = is; state_is = (cc); signs_are = sym (append-nil (signs_read front)) }
  reach (sign ∷ signs) front is state read =
      reach_by front is sign signs state (step cells (state_of front) (length (signs_read front)) sign) refl (λ f there more. reach signs f there state more) read

  pub reached : (signs : List Mark) (state : State) → steps cells nothing 0 signs ≡ Some state → Reached cells signs state
  unfolding signs_of_item item_at IsItem
  reached signs state read = reach signs (Among Outside (Same Nothing)) (tt, tt, tt) state read
