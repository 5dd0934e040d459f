-- What is known where the reader of a configuration goes on, stops or ends.
use Rattle.std.proofs.Common.{◌≡◌, ℕ, ◌+◌, ◌<◌, ◌≤◌, ◌^◌, Bool, true, false, List, [], ◌∷◌, ◌++◌, length, take, drop, get_or, Option, Some, None, is_some, refl, sym, ap, ◌∙◌, subst, arith, inl, inr, eq-or-lt_of_le}
use Rattle.std.specs.Prelude.{◌⊎◌}
use Rattle.std.specs.Option.{option_and_then}
use Rattle.std.proofs.lemmas.List.{take_more, take_all, take-append-drop, length-take-le}
use Rattle.cell_forms.specs.declared.form.Sign.{Sign}
use Rattle.cell_forms.specs.declared.form.Sign.TheVariants as sign
use Rattle.cell_forms.specs.declared.form.CellForm.{CellForm}
use Rattle.cell_forms.specs.declared.form.Stop.{Stop}
use Rattle.cell_forms.specs.declared.form.FormFault.{FormFault}
use Rattle.cell_forms.specs.declared.form.FormFault.TheVariants.{Stop as Stopped, Memory}
use Rattle.cell_forms.specs.declared.stack.Opening.{Opening}
use Rattle.cell_forms.specs.declared.state.Level.{Level}
use Rattle.cell_forms.specs.declared.state.Level.TheVariants.{Start, Opened, Among, End}
use Rattle.cell_forms.specs.declared.state.State.{State}
use Rattle.cell_forms.specs.Written.{Cell, cells_of}
use Rattle.cell_forms.specs.Forms.{IsWritten, Begins, IsForm, IsFormFault, cells_before, TakesCell, IsStop}
use Rattle.cell_forms.specs.Steps.{nothing, form_of, step, steps, shown, inside_of, takes_cell, is_whole, IsInRange}
use Rattle.cell_forms.specs.Reading.{IsReadUpTo, stop_at, IsToldAt}
use Rattle.cell_forms.proofs.Running.{at_level, configuration_runs, stops_before, steps_join}
use Rattle.cell_forms.proofs.Fronts.{IsFrontAt, IsEnd, reached, front_begins}
use Rattle.cell_forms.proofs.Insides.{inside_is}
use Rattle.cell_forms.proofs.Kept.{AllBefore, all_but, all_of, all_before, keeps_all}

-- ---- a token more

take_size : (signs : List Sign) (at : ℕ) → at ≤ length signs → length (take at signs) ≡ at
take_size signs at within = length-take-le at signs within

once_more : (o : Option State) → option_and_then (λ n. Some n) o ≡ o
once_more None = refl
once_more (Some n) = refl

one_step : (state : State) (at : ℕ) (one : Sign) → steps state at (one ∷ []) ≡ step state at one
unfolding steps
one_step state at one = once_more (step state at one)

-- with one token behind others
pub step_behind : (signs : List Sign) (at : ℕ) (one : Sign) (state : State) → length signs ≡ at → steps nothing 0 signs ≡ Some state → steps nothing 0 (signs ++ one ∷ []) ≡ step state at one
step_behind signs at one state size read =
    let place : 0 + length signs ≡ at = omega (arith, size) in
    steps_join signs (one ∷ []) nothing 0
    ∙ ap (option_and_then (λ n. steps n (0 + length signs) (one ∷ []))) read
    ∙ (λ i. steps state (place i) (one ∷ []))
    ∙ one_step state at one

pub read_more : (signs : List Sign) (at : ℕ) (one : Sign) (state : State) (o : Option State) → at < length signs → one ≡ get_or signs at one
    → steps nothing 0 (take at signs) ≡ Some state → o ≡ step state at one → steps nothing 0 (take (at + 1) signs) ≡ o
read_more signs at one state o within is read next =
    ap (steps nothing 0) (take_more signs at one within ∙ ap (λ t. take at signs ++ t ∷ []) (sym is))
    ∙ step_behind (take at signs) at one state (take_size signs at (omega (arith, within))) read
    ∙ sym next

none_step : (o : Option State) → is_some o ≡ false → None ≡ o
none_step None is = refl
none_step (Some state) is = absurd (cc)

pub stopped : (signs : List Sign) (at : ℕ) (one : Sign) (state : State) (follows : Bool) → at < length signs → one ≡ get_or signs at one
    → steps nothing 0 (take at signs) ≡ Some state → ((place : ℕ) → follows ≡ is_some (step state place one)) → follows ≡ false → IsReadUpTo signs at state
stopped signs at one state follows within is read tells none = record {
  within = (omega (arith, within));
  read = read;
  none = λ less. read_more signs at one state None within is read (none_step (step state at one) (sym (tells at) ∙ none));
}

pub all_read : (signs : List Sign) (at size : ℕ) (state : State) → at ≡ length signs → size ≡ length signs → steps nothing 0 (take at signs) ≡ Some state → IsReadUpTo signs size state
all_read signs at size state end is read = record {
  within = (omega (arith, is));
  read = ap (λ n. steps nothing 0 (take n signs)) (is ∙ sym end) ∙ read;
  none = λ less. absurd (omega (arith, less, is));
}

-- the number of the tag at which the reader stands
range_at : (level : Level) (cells : List CellForm) (around : List Opening) (place : ℕ) → AllBefore place (shown (at_level cells level around)) → place < 2 ^ 64 → IsInRange (at_level cells level around)
range_at Start cells around place all within = tt
range_at (Opened tag content) cells around place all within = let less = (all_but place cells (form_of tag None) all).1.0 in omega (arith, less, within)
range_at Among cells around place all within = tt
range_at End cells around place all within = tt

pub range_of : (signs : List Sign) (at : ℕ) (state : State) → at < length signs → length signs < 2 ^ 64 → steps nothing 0 (take at signs) ≡ Some state → IsInRange state
range_of signs at state within size read =
    let place = take_size signs at (omega (arith, within)) in
    range_at state.level state.cells state.around (length (take at signs)) (all_of (take at signs) state read) (omega (arith, place, within, size))

-- ---- what begins

pub begins_of : (signs : List Sign) (state : State) → steps nothing 0 signs ≡ Some state → Begins signs
begins_of signs state read = front_begins state signs (reached signs state read)

-- all that a configuration is written as is read
pub runs_of : (signs : List Sign) (cell : Cell) → IsWritten signs cell → steps nothing 0 signs ≡ Some (at_level (cells_of cell) End [])
runs_of signs cell written = ap (steps nothing 0) (sym written.signs_are) ∙ configuration_runs cell written.single

pub none_of : (signs : List Sign) → steps nothing 0 signs ≡ None → Begins signs → ⊥
none_of signs none b =
    let no : Some (at_level (cells_of b.cell) End []) ≡ None = sym (runs_of (signs ++ b.more) b.cell b.written) ∙ stops_before signs b.more nothing 0 none in
    cc

pub whole_state : (signs : List Sign) (cell : Cell) (state : State) → IsWritten signs cell → steps nothing 0 signs ≡ Some state → at_level (cells_of cell) End [] ≡ state
whole_state signs cell state written read = let both : Some (at_level (cells_of cell) End []) ≡ Some state = sym (runs_of signs cell written) ∙ read in cc

-- the cells of every configuration that begins so
pub cells_shown : (signs : List Sign) (at : ℕ) (state : State) → length signs ≡ at → steps nothing 0 signs ≡ Some state → (b : Begins signs) → shown state ≡ cells_before at (cells_of b.cell)
cells_shown signs at state size read b =
    let whole = runs_of (signs ++ b.more) b.cell b.written in
    let place : 0 + length signs ≡ at = omega (arith, size) in
    let later : steps state at b.more ≡ Some (at_level (cells_of b.cell) End []) =
    sym ((λ i. steps state (place i) b.more)) ∙ sym (ap (option_and_then (λ n. steps n (0 + length signs) b.more)) read) ∙ sym (steps_join signs b.more nothing 0) ∙ whole in
    sym (subst (λ n. cells_before n (shown state) ≡ shown state) size (all_before signs state read)) ∙ keeps_all at b.more state (at_level (cells_of b.cell) End []) at (omega arith) later

-- ---- a whole configuration

end_at : (level : Level) (cells : List CellForm) (around : List Opening) (signs : List Sign) → IsFrontAt level around signs → is_whole (at_level cells level around) ≡ true → IsEnd around signs
end_at Start cells around signs front whole = absurd (cc)
end_at (Opened tag content) cells around signs front whole = absurd (cc)
end_at Among cells around signs front whole = absurd (cc)
end_at End cells around signs front whole = front

pub form_is : (signs : List Sign) (state : State) → steps nothing 0 signs ≡ Some state → is_whole state ≡ true → IsForm signs state.cells
form_is signs state read whole =
    let end = end_at state.level state.cells state.around signs (reached signs state read) whole in
    let written : IsWritten signs end.cell = record { single = end.single; signs_are = sym end.signs_are } in
    (end.cell, written, ap (λ (s : State). s.cells) (sym (whole_state signs end.cell state written read)))

pub whole_of : (signs : List Sign) (at : ℕ) (state : State) → IsReadUpTo signs at state → at ≡ length signs → is_whole state ≡ true → IsForm signs state.cells
whole_of signs at state up end whole =
    let all : take at signs ≡ signs = take_all at signs (omega (arith, end)) in
    form_is signs state (ap (steps nothing 0) (sym all) ∙ up.read) whole

-- ---- a stop

record Follows (state : State) (at : ℕ) (one : Sign) : Type 0 where
  next : State
  read : step state at one ≡ Some next

some_step : (state : State) (at : ℕ) (one : Sign) → is_some (step state at one) ≡ true → Follows state at one
some_step state at one is = elim (step state at one) as (λ o. step state at one ≡ o → is_some o ≡ true → Follows state at one) [
  | None ↦ λ e no. absurd (cc)
  | Some next ↦ λ e yes. record { next = next; read = e }
] refl is

opens_at : (level : Level) (cells : List CellForm) (around : List Opening) (name : List ℕ) (at : ℕ)
    → is_some (step (at_level cells level around) at (sign.Open name false)) ≡ takes_cell (at_level cells level around)
opens_at Start cells around name at = refl
opens_at (Opened tag true) cells around name at = refl
opens_at (Opened tag false) cells around name at = refl
opens_at Among cells around name at = refl
opens_at End cells around name at = refl

takes_yes : (signs : List Sign) (at : ℕ) (state : State) → length signs ≡ at → steps nothing 0 signs ≡ Some state → takes_cell state ≡ true → TakesCell signs true
takes_yes signs at state size read takes name =
    let f = some_step state at (sign.Open name false) (opens_at state.level state.cells state.around name at ∙ takes) in
    begins_of (signs ++ sign.Open name false ∷ []) f.next (step_behind signs at (sign.Open name false) state size read ∙ f.read)

takes_no : (signs : List Sign) (at : ℕ) (state : State) → length signs ≡ at → steps nothing 0 signs ≡ Some state → takes_cell state ≡ false → TakesCell signs false
takes_no signs at state size read takes name begins =
    let none = none_step (step state at (sign.Open name false)) (opens_at state.level state.cells state.around name at ∙ takes) in
    none_of (signs ++ sign.Open name false ∷ []) (step_behind signs at (sign.Open name false) state size read ∙ sym none) begins

takes_by : (b : Bool) (signs : List Sign) (at : ℕ) (state : State) → length signs ≡ at → steps nothing 0 signs ≡ Some state → takes_cell state ≡ b → TakesCell signs b
takes_by true signs at state size read takes = takes_yes signs at state size read takes
takes_by false signs at state size read takes = takes_no signs at state size read takes

begins_take : (signs : List Sign) (cell : Cell) (at : ℕ) → IsWritten signs cell → Begins (take at signs)
begins_take signs cell at written = record {
  cell = cell;
  more = drop at signs;
  written = record { single = written.single; signs_are = written.signs_are ∙ sym (take-append-drop at signs) };
}

no_form : (signs : List Sign) (at : ℕ) (state : State) → IsReadUpTo signs at state → (at ≡ length signs → is_whole state ≡ true → ⊥) → (cell : Cell) → IsWritten signs cell
    → (at ≡ length signs) ⊎ (at < length signs) → ⊥
no_form signs at state up unwhole cell written (inl end) =
    let all : take at signs ≡ signs = take_all at signs (omega (arith, end)) in
    let same = whole_state signs cell state written (ap (steps nothing 0) (sym all) ∙ up.read) in
    unwhole end (ap is_whole (sym same))
no_form signs at state up unwhole cell written (inr less) = none_of (take (at + 1) signs) (up.none less) (begins_take signs cell (at + 1) written)

at_most : (n m : ℕ) → n ≤ m → (n ≡ m) ⊎ (n < m)
at_most n m less = eq-or-lt_of_le less

pub stop_is : (signs : List Sign) (at : ℕ) (state : State) → IsReadUpTo signs at state → (at ≡ length signs → is_whole state ≡ true → ⊥)
    → IsStop signs (record { at = at; cells = shown state; inside = inside_of state; takes_cell = takes_cell state })
stop_is signs at state up unwhole =
    let size = take_size signs at up.within in
    let begins = begins_of (take at signs) state up.read in
    record {
      within = up.within;
      begins = begins;
      none = λ less. none_of (take (at + 1) signs) (up.none less);
      unfinished = λ cell written. no_form signs at state up unwhole cell written (at_most at (length signs) up.within);
      cells = cells_shown (take at signs) at state size up.read begins;
      inside = inside_is (take at signs) state up.read;
      takes_cell = takes_by (takes_cell state) (take at signs) at state size up.read refl;
    }

-- ---- what is answered

stop_told : (signs : List Sign) (at : ℕ) (state : State) (stop : Stop) → stop ≡ stop_at at state → IsStop signs (stop_at at state) → IsStop signs stop
stop_told signs at state stop told is = subst (IsStop signs) (sym told) is

pub fault_told : (signs : List Sign) (at : ℕ) (state : State) (fault : FormFault) → IsToldAt at state fault → IsStop signs (stop_at at state) → IsFormFault signs fault
fault_told signs at state (Stopped stop) told is = stop_told signs at state stop told is
fault_told signs at state Memory told is = tt

pub before_end : (signs : List Sign) (at : ℕ) (state : State) (fault : FormFault) → IsReadUpTo signs at state → at < length signs → IsToldAt at state fault → IsFormFault signs fault
before_end signs at state fault up less told = fault_told signs at state fault told (stop_is signs at state up (λ end. absurd (omega (arith, less, end))))

pub at_end : (signs : List Sign) (at : ℕ) (state : State) (fault : FormFault) → IsReadUpTo signs at state → is_whole state ≡ false → IsToldAt at state fault → IsFormFault signs fault
at_end signs at state fault up unwhole told = fault_told signs at state fault told (stop_is signs at state up (λ end whole. let no = sym unwhole ∙ whole in cc))

pub whole_form : (signs : List Sign) (at : ℕ) (state : State) → IsReadUpTo signs at state → length signs ≤ at → is_whole state ≡ true → IsForm signs state.cells
whole_form signs at state up not_less whole = let within = up.within in whole_of signs at state up (omega (arith, within, not_less)) whole
