-- The cells that are read up to a place stay as they are, whatever follows.
use Rattle.std.proofs.Common.{◌≡◌, ℕ, ◌+◌, ◌<◌, ◌≤◌, Bool, true, false, if◌then◌else◌, List, [], ◌∷◌, ◌++◌, length, map, filter, Option, Some, None, refl, sym, ap, ◌∙◌, subst, arith, append-nil}
use Rattle.std.proofs.lemmas.Bool.Decides.{nat_tests}
use Rattle.std.specs.Prelude.{nat_lt}
use Rattle.std.specs.Option.{option_and_then}
use Rattle.std.specs.List.{AllByRecursion}
use Rattle.std.specs.Str.{bytes_eq}
use Rattle.std.proofs.lemmas.List.{map-append}
use Rattle.std.proofs.lemmas.List.Elements.{filter-append}
use Rattle.cell_forms.specs.declared.form.Sign.{Sign}
use Rattle.cell_forms.specs.declared.form.Sign.TheVariants as sign
use Rattle.cell_forms.specs.declared.form.CellForm.{CellForm}
use Rattle.cell_forms.specs.declared.stack.Opening.{Opening}
use Rattle.cell_forms.specs.declared.state.Tag.{Tag}
use Rattle.cell_forms.specs.declared.state.Level.{Level}
use Rattle.cell_forms.specs.declared.state.Level.TheVariants.{Start, Opened, Among, End}
use Rattle.cell_forms.specs.declared.state.State.{State}
use Rattle.cell_forms.specs.Forms.{content_before, form_before, cells_before}
use Rattle.cell_forms.specs.Steps.{nothing, form_of, tag_in, opened, entered, left, step, steps, shown}
use Rattle.cell_forms.proofs.Running.{at_level}
use Rattle.cell_forms.proofs.Fronts.{chosen}

abbrev stands_before : ℕ → CellForm → Bool
stands_before place cell = nat_lt cell.tag place

cells_join : (place : ℕ) (xs ys : List CellForm) → cells_before place (xs ++ ys) ≡ cells_before place xs ++ cells_before place ys
cells_join place xs ys = ap (map (form_before place)) (filter-append (stands_before place) xs ys) ∙ map-append (form_before place) (filter (stands_before place) xs) (filter (stands_before place) ys)

not_lower : (place at : ℕ) → place ≤ at → nat_lt at place ≡ false
not_lower place at less = grind (arith, nat_tests)

lower : (place at : ℕ) → at < place → nat_lt at place ≡ true
lower place at less = grind (arith, nat_tests)

later_cell : (place : ℕ) (xs : List CellForm) (one : CellForm) → place ≤ one.tag → cells_before place (xs ++ one ∷ []) ≡ cells_before place xs
later_cell place xs one less =
    cells_join place xs (one ∷ [])
    ∙ ap (λ b. cells_before place xs ++ map (form_before place) (if b then one ∷ [] else [])) (not_lower place one.tag less)
    ∙ append-nil (cells_before place xs)

module _ (place : ℕ) (tag : Tag) (first at : ℕ) (less : place ≤ at) where
  cut : form_before place (form_of tag None) ≡ form_before place (form_of tag (Some (first, at)))
  cut = sym (ap (λ b. form_of tag (if b then Some (first, at) else None)) (not_lower place at less))

  same : (b : Bool) → map (form_before place) (if b then form_of tag None ∷ [] else []) ≡ map (form_before place) (if b then form_of tag (Some (first, at)) ∷ [] else [])
  same true = ap (λ (c : CellForm). c ∷ []) cut
  same false = refl

later_content : (place : ℕ) (xs : List CellForm) (tag : Tag) (first at : ℕ) → place ≤ at
    → cells_before place (xs ++ form_of tag None ∷ []) ≡ cells_before place (xs ++ form_of tag (Some (first, at)) ∷ [])
later_content place xs tag first at less =
    cells_join place xs (form_of tag None ∷ [])
    ∙ ap (λ l. cells_before place xs ++ l) (same place tag first at less (stands_before place (form_of tag None)))
    ∙ sym (cells_join place xs (form_of tag (Some (first, at)) ∷ []))

shown_left : (cells : List CellForm) (around : List Opening) → shown (left cells around) ≡ cells
shown_left cells [] = refl
shown_left cells (cell ∷ around) = refl

-- ---- what stands before a place, behind it

abbrev Keeps : ℕ → State → Sign → State → Type 0
Keeps place state sign next = (at : ℕ) → place ≤ at → step state at sign ≡ Some next → cells_before place (shown state) ≡ cells_before place (shown next)

moved_cells : (place : ℕ) (one next : State) (cells : List CellForm) → one ≡ next → cells ≡ cells_before place (shown one) → cells ≡ cells_before place (shown next)
moved_cells place one next cells same is = is ∙ ap (λ s. cells_before place (shown s)) same

module _ (place : ℕ) (cells : List CellForm) (next : State) where
  keeps_at : (level : Level) (around : List Opening) (sign : Sign) → Keeps place (at_level cells level around) sign next
  keeps_at Start around (sign.Open name true) = λ at less read. absurd (cc)
  keeps_at Start around (sign.Open name false) = λ at less read.
      moved_cells place (opened cells around name false at) next (cells_before place cells) (cc) (sym (later_cell place cells (form_of (tag_in around name false at) None) less))
  keeps_at Start around (sign.Close name) = λ at less read. absurd (cc)
  keeps_at Start around sign.Other = λ at less read. absurd (cc)
  keeps_at (Opened tag true) around (sign.Open name many) = λ at less read. absurd (cc)
  keeps_at (Opened tag false) around (sign.Open name many) = λ at less read.
      let own = cells ++ form_of tag None ∷ [] in
      moved_cells place (opened own (entered cells around tag) name many at) next (cells_before place own) (cc)
      (sym (later_cell place own (form_of (tag_in (entered cells around tag) name many at) None) less))
  keeps_at (Opened tag false) around (sign.Close name) = λ at less read. absurd (cc)
  keeps_at (Opened tag true) around (sign.Close name) = λ at less read.
      let whole = cells ++ form_of tag (Some (tag.at + 1, at)) ∷ [] in
      moved_cells place (left whole around) next (cells_before place (cells ++ form_of tag None ∷ [])) (chosen (bytes_eq tag.name name) (left whole around) next read).same
      (later_content place cells tag (tag.at + 1) at less ∙ ap (cells_before place) (sym (shown_left whole around)))
  keeps_at (Opened tag content) around sign.Other = λ at less read. moved_cells place (at_level cells (Opened tag true) around) next (cells_before place (cells ++ form_of tag None ∷ [])) (cc) refl
  keeps_at Among around (sign.Open name many) = λ at less read.
      moved_cells place (opened cells around name many at) next (cells_before place cells) (cc) (sym (later_cell place cells (form_of (tag_in around name many at) None) less))
  keeps_at Among [] (sign.Close name) = λ at less read. absurd (cc)
  keeps_at Among (cell ∷ around) (sign.Close name) = λ at less read.
      moved_cells place (left cells around) next (cells_before place cells) (chosen (bytes_eq cell.name name) (left cells around) next read).same (ap (cells_before place) (sym (shown_left cells around)))
  keeps_at Among around sign.Other = λ at less read. absurd (cc)
  keeps_at End around (sign.Open name many) = λ at less read. absurd (cc)
  keeps_at End around (sign.Close name) = λ at less read. absurd (cc)
  keeps_at End around sign.Other = λ at less read. absurd (cc)

keeps : (place : ℕ) (state : State) (sign : Sign) (next : State) → Keeps place state sign next
keeps place state sign next = keeps_at place state.cells next state.level state.around sign

keeps_by : (place : ℕ) (o : Option State) (state : State) (at : ℕ) (signs : List Sign) (all : List CellForm) → ((n : State) → o ≡ Some n → all ≡ cells_before place (shown n))
    → ((n : State) → steps n at signs ≡ Some state → cells_before place (shown n) ≡ cells_before place (shown state)) → option_and_then (λ n. steps n at signs) o ≡ Some state
    → all ≡ cells_before place (shown state)
keeps_by place None state at signs all first later read = absurd (cc)
keeps_by place (Some n) state at signs all first later read = first n refl ∙ later n read

pub keeps_all : (place : ℕ) (signs : List Sign) (from state : State) (at : ℕ) → place ≤ at → steps from at signs ≡ Some state → cells_before place (shown from) ≡ cells_before place (shown state)
unfolding steps
keeps_all place [] from state at less read = let same : from ≡ state = cc in ap (λ s. cells_before place (shown s)) same
keeps_all place (one ∷ signs) from state at less read =
    keeps_by place (step from at one) state (at + 1) signs (cells_before place (shown from)) (λ n is. keeps place from one n at less is)
    (λ n more. keeps_all place signs n state (at + 1) (omega (arith, less)) more) read

-- ---- all that is read stands before the place

abbrev pub EndsBefore : ℕ → Option (ℕ × ℕ) → Type 0
EndsBefore place None = Unit {0}
EndsBefore place (Some content) = content.1 < place

abbrev pub IsBefore : ℕ → CellForm → Type 0
IsBefore place cell = (cell.tag < place) × EndsBefore place cell.content

abbrev pub AllBefore : ℕ → List CellForm → Type 0
AllBefore place cells = AllByRecursion (IsBefore place) cells

content_kept : (place : ℕ) (content : Option (ℕ × ℕ)) → EndsBefore place content → option_and_then (content_before place) content ≡ content
content_kept place None ends = refl
content_kept place (Some content) ends = ap (λ b. if b then Some content else None) (lower place content.1 ends)

form_kept : (place : ℕ) (cell : CellForm) → EndsBefore place cell.content → form_before place cell ≡ cell
form_kept place cell ends = (λ i. record { name = cell.name; many = cell.many; tag = cell.tag; parent = cell.parent; content = content_kept place cell.content ends i })

all_kept : (place : ℕ) (cells : List CellForm) → AllBefore place cells → cells_before place cells ≡ cells
all_kept place [] all = refl
all_kept place (cell ∷ cells) all =
    ap (λ b. map (form_before place) (if b then cell ∷ filter (stands_before place) cells else filter (stands_before place) cells)) (lower place cell.tag all.0.0)
    ∙ (λ i. form_kept place cell all.0.1 i ∷ all_kept place cells all.1 i)

ends_later : (place next : ℕ) (content : Option (ℕ × ℕ)) → place ≤ next → EndsBefore place content → EndsBefore next content
ends_later place next None less ends = tt
ends_later place next (Some content) less ends = omega (arith, less, ends)

all_later : (place next : ℕ) (cells : List CellForm) → place ≤ next → AllBefore place cells → AllBefore next cells
all_later place next [] less all = tt
all_later place next (cell ∷ cells) less all =
    ((omega (arith, less, all.0.0), ends_later place next cell.content less all.0.1), all_later place next cells less all.1)

all_more : (place : ℕ) (cells : List CellForm) (one : CellForm) → AllBefore place cells → IsBefore place one → AllBefore place (cells ++ one ∷ [])
all_more place [] one all is = (is, tt)
all_more place (cell ∷ cells) one all is = (all.0, all_more place cells one all.1 is)

pub all_but : (place : ℕ) (cells : List CellForm) (one : CellForm) → AllBefore place (cells ++ one ∷ []) → AllBefore place cells × IsBefore place one
all_but place [] one all = (tt, all.0)
all_but place (cell ∷ cells) one all = let rest = all_but place cells one all.1 in ((all.0, rest.0), rest.1)

abbrev Stays : State → Sign → State → Type 0
Stays state sign next = (at : ℕ) → step state at sign ≡ Some next → AllBefore at (shown state) → AllBefore (at + 1) (shown next)

moved_all : (place : ℕ) (one next : State) → one ≡ next → AllBefore place (shown one) → AllBefore place (shown next)
moved_all place one next same all = subst (λ s. AllBefore place (shown s)) same all

module _ (cells : List CellForm) (next : State) where
  tag_stays : (around : List Opening) (own : List CellForm) (at : ℕ) (name : List ℕ) (many : Bool) → AllBefore at own → AllBefore (at + 1) (own ++ form_of (tag_in around name many at) None ∷ [])
  tag_stays around own at name many all = all_more (at + 1) own (form_of (tag_in around name many at) None) (all_later at (at + 1) own (omega arith) all) (omega arith, tt)

  content_stays : (tag : Tag) (at : ℕ) → AllBefore at (cells ++ form_of tag None ∷ []) → AllBefore (at + 1) (cells ++ form_of tag (Some (tag.at + 1, at)) ∷ [])
  content_stays tag at all =
      let parts = all_but at cells (form_of tag None) all in
      let less = parts.1.0 in
      all_more (at + 1) cells (form_of tag (Some (tag.at + 1, at))) (all_later at (at + 1) cells (omega arith) parts.0) (omega (arith, less), omega arith)

  stays_at : (level : Level) (around : List Opening) (sign : Sign) → Stays (at_level cells level around) sign next
  stays_at Start around (sign.Open name true) = λ at read all. absurd (cc)
  stays_at Start around (sign.Open name false) = λ at read all. moved_all (at + 1) (opened cells around name false at) next (cc) (tag_stays around cells at name false all)
  stays_at Start around (sign.Close name) = λ at read all. absurd (cc)
  stays_at Start around sign.Other = λ at read all. absurd (cc)
  stays_at (Opened tag true) around (sign.Open name many) = λ at read all. absurd (cc)
  stays_at (Opened tag false) around (sign.Open name many) = λ at read all.
      let own = cells ++ form_of tag None ∷ [] in
      moved_all (at + 1) (opened own (entered cells around tag) name many at) next (cc) (tag_stays (entered cells around tag) own at name many all)
  stays_at (Opened tag false) around (sign.Close name) = λ at read all. absurd (cc)
  stays_at (Opened tag true) around (sign.Close name) = λ at read all.
      let whole = cells ++ form_of tag (Some (tag.at + 1, at)) ∷ [] in
      moved_all (at + 1) (left whole around) next (chosen (bytes_eq tag.name name) (left whole around) next read).same
      (subst (AllBefore (at + 1)) (sym (shown_left whole around)) (content_stays tag at all))
  stays_at (Opened tag content) around sign.Other = λ at read all.
      moved_all (at + 1) (at_level cells (Opened tag true) around) next (cc) (all_later at (at + 1) (cells ++ form_of tag None ∷ []) (omega arith) all)
  stays_at Among around (sign.Open name many) = λ at read all. moved_all (at + 1) (opened cells around name many at) next (cc) (tag_stays around cells at name many all)
  stays_at Among [] (sign.Close name) = λ at read all. absurd (cc)
  stays_at Among (cell ∷ around) (sign.Close name) = λ at read all.
      moved_all (at + 1) (left cells around) next (chosen (bytes_eq cell.name name) (left cells around) next read).same
      (subst (AllBefore (at + 1)) (sym (shown_left cells around)) (all_later at (at + 1) cells (omega arith) all))
  stays_at Among around sign.Other = λ at read all. absurd (cc)
  stays_at End around (sign.Open name many) = λ at read all. absurd (cc)
  stays_at End around (sign.Close name) = λ at read all. absurd (cc)
  stays_at End around sign.Other = λ at read all. absurd (cc)

stays : (state : State) (sign : Sign) (next : State) → Stays state sign next
stays state sign next = stays_at state.cells next state.level state.around sign

stays_by : (o : Option State) (state : State) (at place : ℕ) (signs : List Sign) → ((n : State) → o ≡ Some n → AllBefore at (shown n))
    → ((n : State) → AllBefore at (shown n) → steps n at signs ≡ Some state → AllBefore place (shown state)) → option_and_then (λ n. steps n at signs) o ≡ Some state
    → AllBefore place (shown state)
stays_by None state at place signs first later read = absurd (cc)
stays_by (Some n) state at place signs first later read = later n (first n refl) read

stays_all : (signs : List Sign) (from state : State) (at : ℕ) → AllBefore at (shown from) → steps from at signs ≡ Some state → AllBefore (at + length signs) (shown state)
unfolding steps
stays_all [] from state at all read =
    let same : from ≡ state = cc in
    moved_all (at + 0) from state same (all_later at (at + 0) (shown from) (omega arith) all)
stays_all (one ∷ signs) from state at all read =
    let e : at + 1 + length signs ≡ at + length (one ∷ signs) = omega arith in
    stays_by (step from at one) state (at + 1) (at + length (one ∷ signs)) signs (λ n is. stays from one n at is all)
    (λ n before more. subst (λ k. AllBefore k (shown state)) e (stays_all signs n state (at + 1) before more)) read

pub all_of : (signs : List Sign) (state : State) → steps nothing 0 signs ≡ Some state → AllBefore (length signs) (shown state)
all_of signs state read =
    let e : 0 + length signs ≡ length signs = omega arith in
    subst (λ n. AllBefore n (shown state)) e (stays_all signs nothing state 0 tt read)

-- what is read of some tokens is all before the place behind them
pub all_before : (signs : List Sign) (state : State) → steps nothing 0 signs ≡ Some state → cells_before (length signs) (shown state) ≡ shown state
all_before signs state read = all_kept (length signs) (shown state) (all_of signs state read)
