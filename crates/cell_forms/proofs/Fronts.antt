-- What was read of a configuration up to a place, as trees: a cell, or cells, in what is open around.
use Rattle.std.proofs.Common.{◌≡◌, ℕ, ◌+◌, zero, suc, Bool, true, false, if◌then◌else◌, List, [], ◌∷◌, ◌++◌, Option, Some, None, refl, sym, ap, ◌∙◌, subst, append_assoc, append-nil}
use Rattle.std.proofs.lemmas.Slice.Eq.{bytes_eq-Decides}
use Rattle.std.specs.Option.{option_and_then}
use Rattle.std.specs.Str.{bytes_eq}
use Rattle.cell_forms.specs.declared.form.Sign.{Sign}
use Rattle.cell_forms.specs.declared.form.Sign.TheVariants as sign
use Rattle.cell_forms.specs.declared.form.CellForm.{CellForm}
use Rattle.cell_forms.specs.declared.stack.Opening.{Opening}
use Rattle.cell_forms.specs.declared.state.Tag.{Tag}
use Rattle.cell_forms.specs.declared.state.Level.{Level}
use Rattle.cell_forms.specs.declared.state.Level.TheVariants.{Start, Opened, Among, End}
use Rattle.cell_forms.specs.declared.state.State.{State}
use Rattle.cell_forms.specs.Written.{Cell, Cells, signs_of, signs_of_cells, others, is_many, IsConfiguration}
use Rattle.cell_forms.specs.Written.Cell.{OfCells, OfContent}
use Rattle.cell_forms.specs.Written.Cells.{One, And}
use Rattle.cell_forms.specs.Forms.{Begins}
use Rattle.cell_forms.specs.Steps.{nothing, form_of, opened, entered, closed, left, step, steps}
use Rattle.cell_forms.proofs.Running.{at_level}

-- an open cell, with the cells that are read in it before
pub record Outer : Type 0 where
  pub name : List ℕ
  pub many : Bool
  pub before : Option Cells

abbrev pub signs_before : Option Cells → List Sign
signs_before None = []
signs_before (Some cells) = signs_of_cells cells

abbrev pub signs_around : List Outer → List Sign
signs_around [] = []
signs_around (one ∷ outer) = signs_around outer ++ sign.Open one.name one.many ∷ signs_before one.before

-- the outermost cell occurs once
abbrev pub IsSingle : List Outer → Bool → Type 0
IsSingle [] many = many ≡ false
IsSingle (one ∷ outer) many = IsSingle outer one.many

abbrev pub AreNames : List Opening → List Outer → Type 0
AreNames [] [] = Unit {0}
AreNames [] (one ∷ outer) = ⊥
AreNames (cell ∷ around) [] = ⊥
AreNames (cell ∷ around) (one ∷ outer) = (cell.name ≡ one.name) × AreNames around outer

abbrev pub is_some_number : ℕ → Bool
is_some_number zero = false
is_some_number (suc n) = true

pub record IsStart (around : List Opening) (signs : List Sign) : Type 0 where
  pub nothing_around : around ≡ []
  pub no_signs : signs ≡ []

-- behind a tag, and so many tokens of a content
pub record IsWithin (tag : Tag) (content : Bool) (around : List Opening) (signs : List Sign) : Type 0 where
  pub outer : List Outer
  pub number : ℕ
  pub content_is : content ≡ is_some_number number
  pub names : AreNames around outer
  pub single : IsSingle outer tag.many
  pub signs_are : signs ≡ signs_around outer ++ sign.Open tag.name tag.many ∷ others number

-- behind cells in another
pub record IsAmong (around : List Opening) (signs : List Sign) : Type 0 where
  pub outer : List Outer
  pub name : List ℕ
  pub many : Bool
  pub cells : Cells
  pub names : AreNames around (record { name = name; many = many; before = Some cells } ∷ outer)
  pub single : IsSingle outer many
  pub signs_are : signs ≡ signs_around outer ++ sign.Open name many ∷ signs_of_cells cells

pub record IsEnd (around : List Opening) (signs : List Sign) : Type 0 where
  pub cell : Cell
  pub nothing_around : around ≡ []
  pub single : IsConfiguration cell
  pub signs_are : signs ≡ signs_of cell

abbrev pub IsFrontAt : Level → List Opening → List Sign → Type 0
IsFrontAt Start around signs = IsStart around signs
IsFrontAt (Opened tag content) around signs = IsWithin tag content around signs
IsFrontAt Among around signs = IsAmong around signs
IsFrontAt End around signs = IsEnd around signs

abbrev pub IsFront : State → List Sign → Type 0
IsFront state signs = IsFrontAt state.level state.around signs

-- ---- a cell more

abbrev add : Option Cells → Cell → Cells
add None cell = One cell
add (Some cells) cell = And cells cell

signs_add : (before : Option Cells) (cell : Cell) → signs_of_cells (add before cell) ≡ signs_before before ++ signs_of cell
unfolding signs_of
signs_add None cell = refl
signs_add (Some cells) cell = refl

signs_added : (outer : List Outer) (one : Outer) (cell : Cell)
    → signs_around (one ∷ outer) ++ signs_of cell ≡ signs_around outer ++ sign.Open one.name one.many ∷ signs_of_cells (add one.before cell)
signs_added outer one cell =
    append_assoc (signs_around outer) (sign.Open one.name one.many ∷ signs_before one.before) (signs_of cell)
    ∙ ap (λ l. signs_around outer ++ sign.Open one.name one.many ∷ l) (sym (signs_add one.before cell))

-- behind a whole cell
whole_cell : (around : List Opening) (outer : List Outer) (cell : Cell) (signs : List Sign) → AreNames around outer → IsSingle outer (is_many cell)
    → signs ≡ signs_around outer ++ signs_of cell → IsFrontAt (closed around) around signs
whole_cell [] [] cell signs names single are = record { cell = cell; nothing_around = refl; single = single; signs_are = are }
whole_cell [] (one ∷ outer) cell signs names single are = absurd names
whole_cell (other ∷ around) [] cell signs names single are = absurd names
whole_cell (other ∷ around) (one ∷ outer) cell signs names single are = record {
  outer = outer;
  name = one.name;
  many = one.many;
  cells = add one.before cell;
  names = (names.0, names.1);
  single = single;
  signs_are = are ∙ signs_added outer one cell;
}

-- ---- a token more

pub record Chosen (b : Bool) (one state : State) : Type 0 where
  pub holds : b ≡ true
  pub same : one ≡ state

pub chosen : (b : Bool) (one state : State) → (if b then Some one else None) ≡ Some state → Chosen b one state
chosen true one state is = record { holds = refl; same = cc }
chosen false one state is = absurd (cc)

abbrev Goes : State → Sign → State → List Sign → Type 0
Goes state sign next signs = IsFront state signs → (at : ℕ) → step state at sign ≡ Some next → IsFront next (signs ++ sign ∷ [])

moved : (one next : State) (signs : List Sign) → one ≡ next → IsFront one signs → IsFront next signs
moved one next signs same front = subst (λ s. IsFront s signs) same front

module _ (cells : List CellForm) (around : List Opening) (signs : List Sign) (next : State) where
  open_start : (name : List ℕ) (many : Bool) → Goes (at_level cells Start around) (sign.Open name many) next signs
  open_start name true front at read = absurd (cc)
  open_start name false front at read =
      let same : opened cells around name false at ≡ next = cc in
      moved (opened cells around name false at) next (signs ++ sign.Open name false ∷ []) same (record {
        outer = [];
        number = 0;
        content_is = refl;
        names = subst (λ a. AreNames a []) (sym front.nothing_around) tt;
        single = refl;
        signs_are = ap (λ l. l ++ sign.Open name false ∷ []) front.no_signs;
      })

  no_number : (number : ℕ) → false ≡ is_some_number number → number ≡ 0
  no_number zero is = refl
  no_number (suc n) is = absurd (cc)

  open_opened : (tag : Tag) (content : Bool) (name : List ℕ) (many : Bool) → Goes (at_level cells (Opened tag content) around) (sign.Open name many) next signs
  open_opened tag true name many front at read = absurd (cc)
  open_opened tag false name many front at read =
      let one = opened (cells ++ form_of tag None ∷ []) (entered cells around tag) name many at in
      let same : one ≡ next = cc in
      let none = no_number front.number front.content_is in
      moved one next (signs ++ sign.Open name many ∷ []) same (record {
        outer = record { name = tag.name; many = tag.many; before = None } ∷ front.outer;
        number = 0;
        content_is = refl;
        names = (refl, front.names);
        single = front.single;
        signs_are = ap (λ l. l ++ sign.Open name many ∷ []) (front.signs_are ∙ ap (λ n. signs_around front.outer ++ sign.Open tag.name tag.many ∷ others n) none);
      })

  open_among : (name : List ℕ) (many : Bool) → Goes (at_level cells Among around) (sign.Open name many) next signs
  open_among name many front at read =
      let one = opened cells around name many at in
      let same : one ≡ next = cc in
      moved one next (signs ++ sign.Open name many ∷ []) same (record {
        outer = record { name = front.name; many = front.many; before = Some front.cells } ∷ front.outer;
        number = 0;
        content_is = refl;
        names = front.names;
        single = front.single;
        signs_are = ap (λ l. l ++ sign.Open name many ∷ []) front.signs_are;
      })

  others_more : (n : ℕ) → others n ++ sign.Other ∷ [] ≡ others (suc n)
  others_more zero = refl
  others_more (suc n) = ap (λ l. sign.Other ∷ l) (others_more n)

  other_opened : (tag : Tag) (content : Bool) → Goes (at_level cells (Opened tag content) around) sign.Other next signs
  other_opened tag content front at read =
      let one = at_level cells (Opened tag true) around in
      let same : one ≡ next = cc in
      moved one next (signs ++ sign.Other ∷ []) same (record {
        outer = front.outer;
        number = suc front.number;
        content_is = refl;
        names = front.names;
        single = front.single;
        signs_are = ap (λ l. l ++ sign.Other ∷ []) front.signs_are
            ∙ append_assoc (signs_around front.outer) (sign.Open tag.name tag.many ∷ others front.number) (sign.Other ∷ [])
            ∙ ap (λ l. signs_around front.outer ++ sign.Open tag.name tag.many ∷ l) (others_more front.number);
      })

  signs_content : (outer : List Outer) (tag : Tag) (name : List ℕ) (n : ℕ) → tag.name ≡ name
      → (signs_around outer ++ sign.Open tag.name tag.many ∷ others (suc n)) ++ sign.Close name ∷ [] ≡ signs_around outer ++ signs_of (OfContent tag.name tag.many n)
  unfolding signs_of
  signs_content outer tag name n same =
      append_assoc (signs_around outer) (sign.Open tag.name tag.many ∷ others (suc n)) (sign.Close name ∷ [])
      ∙ (λ i. signs_around outer ++ ((sign.Open tag.name tag.many ∷ others (suc n)) ++ sign.Close ((sym same) i) ∷ []))

  end_content : (tag : Tag) (name : List ℕ) (at number : ℕ) (outer : List Outer) → true ≡ is_some_number number → AreNames around outer → IsSingle outer tag.many
      → signs ≡ signs_around outer ++ sign.Open tag.name tag.many ∷ others number → tag.name ≡ name
      → IsFront (left (cells ++ form_of tag (Some (tag.at + 1, at)) ∷ []) around) (signs ++ sign.Close name ∷ [])
  end_content tag name at zero outer some names single are same = absurd (cc)
  end_content tag name at (suc n) outer some names single are same =
      whole_cell around outer (OfContent tag.name tag.many n) (signs ++ sign.Close name ∷ []) names single
      (ap (λ l. l ++ sign.Close name ∷ []) are ∙ signs_content outer tag name n same)

  close_opened : (tag : Tag) (content : Bool) (name : List ℕ) → Goes (at_level cells (Opened tag content) around) (sign.Close name) next signs
  close_opened tag false name front at read = absurd (cc)
  close_opened tag true name front at read =
      let one = left (cells ++ form_of tag (Some (tag.at + 1, at)) ∷ []) around in
      let c = chosen (bytes_eq tag.name name) one next read in
      moved one next (signs ++ sign.Close name ∷ []) c.same
      (end_content tag name at front.number front.outer front.content_is front.names front.single front.signs_are ((bytes_eq-Decides tag.name name).0 c.holds))

  signs_cells : (outer : List Outer) (one name : List ℕ) (many : Bool) (inner : Cells) → one ≡ name
      → (signs_around outer ++ sign.Open one many ∷ signs_of_cells inner) ++ sign.Close name ∷ [] ≡ signs_around outer ++ signs_of (OfCells one many inner)
  unfolding signs_of
  signs_cells outer one name many inner same =
      append_assoc (signs_around outer) (sign.Open one many ∷ signs_of_cells inner) (sign.Close name ∷ [])
      ∙ (λ i. signs_around outer ++ ((sign.Open one many ∷ signs_of_cells inner) ++ sign.Close ((sym same) i) ∷ []))

module _ (cells : List CellForm) (signs : List Sign) (next : State) where
  close_among : (around : List Opening) (name : List ℕ) → Goes (at_level cells Among around) (sign.Close name) next signs
  close_among [] name front at read = absurd (cc)
  close_among (cell ∷ around) name front at read =
      let one = left cells around in
      let c = chosen (bytes_eq cell.name name) one next read in
      let same = sym front.names.0 ∙ (bytes_eq-Decides cell.name name).0 c.holds in
      moved one next (signs ++ sign.Close name ∷ []) c.same
      (whole_cell around front.outer (OfCells front.name front.many front.cells) (signs ++ sign.Close name ∷ []) front.names.1 front.single
      (ap (λ l. l ++ sign.Close name ∷ []) front.signs_are ∙ signs_cells cells around signs next front.outer front.name name front.many front.cells same))

module _ (cells : List CellForm) (around : List Opening) (signs : List Sign) (next : State) where
  goes_at : (level : Level) (sign : Sign) → Goes (at_level cells level around) sign next signs
  goes_at Start (sign.Open name many) = open_start cells around signs next name many
  goes_at Start (sign.Close name) = λ front at read. absurd (cc)
  goes_at Start sign.Other = λ front at read. absurd (cc)
  goes_at (Opened tag content) (sign.Open name many) = open_opened cells around signs next tag content name many
  goes_at (Opened tag content) (sign.Close name) = close_opened cells around signs next tag content name
  goes_at (Opened tag content) sign.Other = other_opened cells around signs next tag content
  goes_at Among (sign.Open name many) = open_among cells around signs next name many
  goes_at Among (sign.Close name) = close_among cells signs next around name
  goes_at Among sign.Other = λ front at read. absurd (cc)
  goes_at End (sign.Open name many) = λ front at read. absurd (cc)
  goes_at End (sign.Close name) = λ front at read. absurd (cc)
  goes_at End sign.Other = λ front at read. absurd (cc)

pub goes : (state : State) (sign : Sign) (next : State) (signs : List Sign) → Goes state sign next signs
goes state sign next signs = goes_at state.cells state.around signs next state.level sign

reached_by : (o : Option State) (state : State) (at : ℕ) (before signs all : List Sign) → ((n : State) → o ≡ Some n → IsFront n before)
    → ((n : State) → IsFront n before → steps n at signs ≡ Some state → IsFront state all) → option_and_then (λ n. steps n at signs) o ≡ Some state → IsFront state all
reached_by None state at before signs all first later read = absurd (cc)
reached_by (Some n) state at before signs all first later read = later n (first n refl) read

reached_from : (signs before : List Sign) (from state : State) (at : ℕ) → IsFront from before → steps from at signs ≡ Some state → IsFront state (before ++ signs)
unfolding steps
reached_from [] before from state at front read = let same : from ≡ state = cc in moved from state (before ++ []) same (subst (IsFront from) (sym (append-nil before)) front)
reached_from (one ∷ signs) before from state at front read =
    reached_by (step from at one) state (at + 1) (before ++ one ∷ []) signs (before ++ one ∷ signs) (λ n is. goes from one n before front at is)
    (λ n is more. subst (IsFront state) (append_assoc before (one ∷ []) signs) (reached_from signs (before ++ one ∷ []) n state (at + 1) is more)) read

-- what is read is a front
pub reached : (signs : List Sign) (state : State) → steps nothing 0 signs ≡ Some state → IsFront state signs
reached signs state read = reached_from signs [] nothing state 0 (record { nothing_around = refl; no_signs = refl }) read

-- ---- a front can be closed

pub record Closed (outer : List Outer) (cell : Cell) : Type 0 where
  pub whole : Cell
  pub more : List Sign
  pub single : IsConfiguration whole
  pub signs_are : signs_of whole ≡ (signs_around outer ++ signs_of cell) ++ more

closed_signs : (outer : List Outer) (one : Outer) (cell : Cell) (more : List Sign)
    → (signs_around outer ++ signs_of (OfCells one.name one.many (add one.before cell))) ++ more ≡ (signs_around (one ∷ outer) ++ signs_of cell) ++ (sign.Close one.name ∷ more)
unfolding signs_of
closed_signs outer one cell more =
    ap (λ l. l ++ more) (sym (append_assoc (signs_around outer) (sign.Open one.name one.many ∷ signs_of_cells (add one.before cell)) (sign.Close one.name ∷ [])))
    ∙ append_assoc (signs_around outer ++ sign.Open one.name one.many ∷ signs_of_cells (add one.before cell)) (sign.Close one.name ∷ []) more
    ∙ ap (λ l. l ++ sign.Close one.name ∷ more) (sym (signs_added outer one cell))

close_all : (outer : List Outer) (cell : Cell) → IsSingle outer (is_many cell) → Closed outer cell
close_all [] cell single = record { whole = cell; more = []; single = single; signs_are = sym (append-nil (signs_of cell)) }
close_all (one ∷ outer) cell single =
    let all = close_all outer (OfCells one.name one.many (add one.before cell)) single in
    record { whole = all.whole; more = sign.Close one.name ∷ all.more; single = all.single; signs_are = all.signs_are ∙ closed_signs outer one cell all.more }

begins_by : (outer : List Outer) (cell : Cell) (signs more : List Sign) → IsSingle outer (is_many cell) → signs_around outer ++ signs_of cell ≡ signs ++ more → Begins signs
begins_by outer cell signs more single are =
    let all = close_all outer cell single in
    record {
      cell = all.whole;
      more = more ++ all.more;
      written = record { single = all.single; signs_are = all.signs_are ∙ ap (λ l. l ++ all.more) are ∙ append_assoc signs more all.more };
    }

others_last : (n : ℕ) → others n ++ sign.Other ∷ [] ≡ sign.Other ∷ others n
others_last zero = refl
others_last (suc n) = ap (λ l. sign.Other ∷ l) (others_last n)

regrouped : (p : List Sign) (o : Sign) (c : List Sign) (x y : Sign) → p ++ ((o ∷ (c ++ x ∷ [])) ++ y ∷ []) ≡ (p ++ o ∷ c) ++ (x ∷ y ∷ [])
regrouped p o c x y = simp append_assoc refl

within_signs : (outer : List Outer) (tag : Tag) (n : ℕ) (signs : List Sign) → signs ≡ signs_around outer ++ sign.Open tag.name tag.many ∷ others n
    → signs_around outer ++ signs_of (OfContent tag.name tag.many n) ≡ signs ++ (sign.Other ∷ sign.Close tag.name ∷ [])
unfolding signs_of
within_signs outer tag n signs are =
    ap (λ l. signs_around outer ++ ((sign.Open tag.name tag.many ∷ l) ++ sign.Close tag.name ∷ [])) (sym (others_last n))
    ∙ regrouped (signs_around outer) (sign.Open tag.name tag.many) (others n) sign.Other (sign.Close tag.name)
    ∙ ap (λ l. l ++ (sign.Other ∷ sign.Close tag.name ∷ [])) (sym are)

among_signs : (outer : List Outer) (name : List ℕ) (many : Bool) (inner : Cells) (signs : List Sign) → signs ≡ signs_around outer ++ sign.Open name many ∷ signs_of_cells inner
    → signs_around outer ++ signs_of (OfCells name many inner) ≡ signs ++ sign.Close name ∷ []
unfolding signs_of
among_signs outer name many inner signs are =
    sym (append_assoc (signs_around outer) (sign.Open name many ∷ signs_of_cells inner) (sign.Close name ∷ [])) ∙ ap (λ l. l ++ sign.Close name ∷ []) (sym are)

begins_at : (level : Level) (around : List Opening) (signs : List Sign) → IsFrontAt level around signs → Begins signs
begins_at Start around signs front = record {
  cell = OfContent [] false 0;
  more = signs_of (OfContent [] false 0);
  written = record { single = refl; signs_are = ap (λ l. l ++ signs_of (OfContent [] false 0)) (sym front.no_signs) };
}
begins_at (Opened tag content) around signs front =
    begins_by front.outer (OfContent tag.name tag.many front.number) signs (sign.Other ∷ sign.Close tag.name ∷ []) front.single
    (within_signs front.outer tag front.number signs front.signs_are)
begins_at Among around signs front =
    begins_by front.outer (OfCells front.name front.many front.cells) signs (sign.Close front.name ∷ []) front.single
    (among_signs front.outer front.name front.many front.cells signs front.signs_are)
begins_at End around signs front = record {
  cell = front.cell;
  more = [];
  written = record { single = front.single; signs_are = sym front.signs_are ∙ sym (append-nil signs) };
}

-- what is read begins a configuration
pub front_begins : (state : State) (signs : List Sign) → IsFront state signs → Begins signs
front_begins state signs front = begins_at state.level state.around signs front
