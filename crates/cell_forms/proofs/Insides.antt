-- Which cells are open behind what is read.
use Rattle.std.proofs.Common.{◌≡◌, ℕ, ◌+◌, true, false, List, [], ◌∷◌, ◌++◌, length, map, Option, Some, None, refl, sym, ap, ◌∙◌, length-append}
use Rattle.std.specs.Option.{option_and_then}
use Rattle.std.specs.Str.{bytes_eq}
use Rattle.cell_forms.specs.declared.form.Sign.{Sign}
use Rattle.cell_forms.specs.declared.form.Sign.TheVariants as sign
use Rattle.cell_forms.specs.declared.form.CellForm.{CellForm}
use Rattle.cell_forms.specs.declared.stack.Opening.{Opening}
use Rattle.cell_forms.specs.declared.state.Level.{Level}
use Rattle.cell_forms.specs.declared.state.Level.TheVariants.{Start, Opened, Among, End}
use Rattle.cell_forms.specs.declared.state.State.{State}
use Rattle.cell_forms.specs.Forms.{open_from, open_behind, first_of}
use Rattle.cell_forms.specs.Steps.{innermost, nothing, form_of, opened, entered, left, step, steps, shown, inside_of}
use Rattle.cell_forms.proofs.Running.{at_level}
use Rattle.cell_forms.proofs.Fronts.{chosen}

abbrev numbers : List Opening → List ℕ
numbers around = map (λ (cell : Opening). cell.number) around

abbrev open_in : State → List ℕ
open_in state = elim state.level [
  | Start ↦ numbers state.around
  | Opened tag content ↦ length state.cells ∷ numbers state.around
  | Among ↦ numbers state.around
  | End ↦ numbers state.around
]

-- with these tokens behind a state
abbrev open_by : State → List Sign → List ℕ
open_by state signs = open_from (length (shown state)) (open_in state) signs

left_open : (cells : List CellForm) (around : List Opening) (signs : List Sign) → open_by (left cells around) signs ≡ open_from (length cells) (numbers around) signs
left_open cells [] signs = refl
left_open cells (cell ∷ around) signs = refl

abbrev Keeps : State → Sign → State → Type 0
Keeps state sign next = (at : ℕ) (rest : List Sign) → step state at sign ≡ Some next → open_by state (sign ∷ rest) ≡ open_by next rest

one_more : (cells : List CellForm) (one : CellForm) (inner : List ℕ) (rest : List Sign) → open_from (length cells + 1) inner rest ≡ open_from (length (cells ++ one ∷ [])) inner rest
one_more cells one inner rest = ap (λ n. open_from n inner rest) (sym (length-append cells (one ∷ [])))

same_size : (cells : List CellForm) (one other : CellForm) → length (cells ++ one ∷ []) ≡ length (cells ++ other ∷ [])
same_size cells one other = length-append cells (one ∷ []) ∙ sym (length-append cells (other ∷ []))

moved_open : (one next : State) (rest : List Sign) (all : List ℕ) → one ≡ next → all ≡ open_by one rest → all ≡ open_by next rest
moved_open one next rest all same is = is ∙ ap (λ s. open_by s rest) same

among_keeps : (cells : List CellForm) (next : State) (around : List Opening) (name : List ℕ) → Keeps (at_level cells Among around) (sign.Close name) next
among_keeps cells next [] name at rest read = absurd (cc)
among_keeps cells next (cell ∷ around) name at rest read =
    moved_open (left cells around) next rest _ (chosen (bytes_eq cell.name name) (left cells around) next read).same (sym (left_open cells around rest))

module _ (cells : List CellForm) (around : List Opening) (next : State) where
  keeps_at : (level : Level) (sign : Sign) → Keeps (at_level cells level around) sign next
  keeps_at Start (sign.Open name true) = λ at rest read. absurd (cc)
  keeps_at Start (sign.Open name false) = λ at rest read.
      moved_open (opened cells around name false at) next rest _ (cc) (one_more cells _ (length cells ∷ numbers around) rest)
  keeps_at Start (sign.Close name) = λ at rest read. absurd (cc)
  keeps_at Start sign.Other = λ at rest read. absurd (cc)
  keeps_at (Opened tag true) (sign.Open name many) = λ at rest read. absurd (cc)
  keeps_at (Opened tag false) (sign.Open name many) = λ at rest read.
      moved_open (opened (cells ++ form_of tag None ∷ []) (entered cells around tag) name many at) next rest _ (cc)
      (one_more (cells ++ form_of tag None ∷ []) _ (length (cells ++ form_of tag None ∷ []) ∷ length cells ∷ numbers around) rest)
  keeps_at (Opened tag false) (sign.Close name) = λ at rest read. absurd (cc)
  keeps_at (Opened tag true) (sign.Close name) = λ at rest read.
      let one = left (cells ++ form_of tag (Some (tag.at + 1, at)) ∷ []) around in
      moved_open one next rest _ (chosen (bytes_eq tag.name name) one next read).same
      (ap (λ n. open_from n (numbers around) rest) (same_size cells (form_of tag None) (form_of tag (Some (tag.at + 1, at))))
      ∙ sym (left_open (cells ++ form_of tag (Some (tag.at + 1, at)) ∷ []) around rest))
  keeps_at (Opened tag content) sign.Other = λ at rest read. moved_open (at_level cells (Opened tag true) around) next rest _ (cc) refl
  keeps_at Among (sign.Open name many) = λ at rest read.
      moved_open (opened cells around name many at) next rest _ (cc) (one_more cells _ (length cells ∷ numbers around) rest)
  keeps_at Among (sign.Close name) = among_keeps cells next around name
  keeps_at Among sign.Other = λ at rest read. absurd (cc)
  keeps_at End (sign.Open name many) = λ at rest read. absurd (cc)
  keeps_at End (sign.Close name) = λ at rest read. absurd (cc)
  keeps_at End sign.Other = λ at rest read. absurd (cc)

keeps : (state : State) (sign : Sign) (next : State) → Keeps state sign next
keeps state sign next = keeps_at state.cells state.around next state.level sign

keeps_by : (o : Option State) (state : State) (at : ℕ) (signs : List Sign) (all : List ℕ) → ((n : State) → o ≡ Some n → all ≡ open_by n signs)
    → ((n : State) → steps n at signs ≡ Some state → open_by n signs ≡ open_in state) → option_and_then (λ n. steps n at signs) o ≡ Some state → all ≡ open_in state
keeps_by None state at signs all first later read = absurd (cc)
keeps_by (Some n) state at signs all first later read = first n refl ∙ later n read

keeps_all : (signs : List Sign) (from state : State) (at : ℕ) → steps from at signs ≡ Some state → open_by from signs ≡ open_in state
unfolding steps
keeps_all [] from state at read = let same : from ≡ state = cc in ap open_in same
keeps_all (one ∷ signs) from state at read =
    keeps_by (step from at one) state (at + 1) signs (open_by from (one ∷ signs)) (λ n is. keeps from one n at signs is) (λ n more. keeps_all signs n state (at + 1) more) read

first_number : (around : List Opening) → innermost around ≡ first_of (numbers around)
first_number [] = refl
first_number (cell ∷ around) = refl

inside_at : (cells : List CellForm) (around : List Opening) (level : Level) → inside_of (at_level cells level around) ≡ first_of (open_in (at_level cells level around))
inside_at cells around Start = first_number around
inside_at cells around (Opened tag content) = refl
inside_at cells around Among = first_number around
inside_at cells around End = first_number around

-- the innermost open cell of what is read
pub inside_is : (signs : List Sign) (state : State) → steps nothing 0 signs ≡ Some state → inside_of state ≡ first_of (open_behind signs)
inside_is signs state read = inside_at state.cells state.around state.level ∙ ap first_of (sym (keeps_all signs nothing state 0 read))
