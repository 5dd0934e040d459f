-- Tokens have one form, or stop at one place, but never both.
use Rattle.std.proofs.Common.{◌≡◌, ℕ, ◌+◌, ◌<◌, ◌≤◌, Bool, true, false, List, [], ◌++◌, length, take, drop, Option, Some, None, refl, sym, ap, ◌∙◌, subst, arith, append_assoc}
use Rattle.std.proofs.lemmas.List.{take-take, take-append-drop, length-take-le}
use Rattle.cell_forms.specs.declared.form.Sign.{Sign}
use Rattle.cell_forms.specs.declared.form.CellForm.{CellForm}
use Rattle.cell_forms.specs.declared.form.Stop.{Stop}
use Rattle.cell_forms.specs.declared.state.Level.TheVariants.{End}
use Rattle.cell_forms.specs.declared.state.State.{State}
use Rattle.cell_forms.specs.Written.{cells_of}
use Rattle.cell_forms.specs.Forms.{Begins, cells_before, TakesCell, IsStop}
use Rattle.cell_forms.specs.Steps.{nothing, steps}
use Rattle.cell_forms.specs.Laws.{HasOneForm, HasOneStop, HasFormOrStop}
use Rattle.cell_forms.proofs.Running.{at_level}
use Rattle.cell_forms.proofs.Deciding.{runs_of, none_of, cells_shown}

pub one_form : HasOneForm
one_form signs one other first second =
    let both : Some (at_level (cells_of first.0) End []) ≡ Some (at_level (cells_of second.0) End []) = sym (runs_of signs first.0 first.1) ∙ runs_of signs second.0 second.1 in
    let same : at_level (cells_of first.0) End [] ≡ at_level (cells_of second.0) End [] = cc in
    first.2 ∙ ap (λ (s : State). s.cells) same ∙ sym second.2

pub form_or_stop : HasFormOrStop
form_or_stop signs cells stop form is = is.unfinished form.0 form.1

-- ---- one place

begins_front : (xs ys : List Sign) → Begins (xs ++ ys) → Begins xs
begins_front xs ys b = record { cell = b.cell; more = ys ++ b.more; written = record { single = b.written.single; signs_are = b.written.signs_are ∙ append_assoc xs ys b.more } }

begins_less : (signs : List Sign) (n m : ℕ) → n ≤ m → Begins (take m signs) → Begins (take n signs)
begins_less signs n m less b =
    subst Begins (take-take n m signs less) (begins_front (take n (take m signs)) (drop n (take m signs)) (subst Begins (sym (take-append-drop n (take m signs))) b))

before : (signs : List Sign) (one other : Stop) → IsStop signs one → IsStop signs other → one.at < other.at → ⊥
before signs one other first second less =
    let most = second.within in
    first.none (omega (arith, less, most)) (begins_less signs (one.at + 1) other.at (omega (arith, less)) second.begins)

same_place : (n m : ℕ) → (n < m → ⊥) → (m < n → ⊥) → n ≡ m
same_place n m less more = omega (arith, less, more)

-- ---- the same is told there

same_shown : (signs : List Sign) (at : ℕ) (o : Option State) → length signs ≡ at → steps nothing 0 signs ≡ o → (one other : Begins signs) → cells_before at (cells_of one.cell) ≡ cells_before at (cells_of other.cell)
same_shown signs at None size read one other = absurd (none_of signs read one)
same_shown signs at (Some state) size read one other = sym (cells_shown signs at state size read one) ∙ cells_shown signs at state size read other

same_takes : (signs : List Sign) (one other : Bool) → TakesCell signs one → TakesCell signs other → one ≡ other
same_takes signs true true first second = refl
same_takes signs false false first second = refl
same_takes signs true false first second = absurd (second [] (first []))
same_takes signs false true first second = absurd (first [] (second []))

same_stops : (signs : List Sign) (at : ℕ) (one : Stop) (other_cells : List CellForm) (other_inside : Option ℕ) (other_takes : Bool) → IsStop signs one → one.at ≡ at
    → IsStop signs (record { at = at; cells = other_cells; inside = other_inside; takes_cell = other_takes })
    → one ≡ record { at = at; cells = other_cells; inside = other_inside; takes_cell = other_takes }
same_stops signs at one other_cells other_inside other_takes first same second =
    let moved : IsStop signs (record { at = at; cells = one.cells; inside = one.inside; takes_cell = one.takes_cell }) =
    subst (λ n. IsStop signs (record { at = n; cells = one.cells; inside = one.inside; takes_cell = one.takes_cell })) same first in
    let size = length-take-le at signs second.within in
    let cells = moved.cells ∙ same_shown (take at signs) at (steps nothing 0 (take at signs)) size refl moved.begins second.begins ∙ sym second.cells in
    let inside = moved.inside ∙ sym second.inside in
    let takes = same_takes (take at signs) one.takes_cell other_takes moved.takes_cell second.takes_cell in
    (λ i. record { at = same i; cells = cells i; inside = inside i; takes_cell = takes i })

pub one_stop : HasOneStop
one_stop signs one other first second =
    let same = same_place one.at other.at (before signs one other first second) (before signs other one second first) in
    same_stops signs other.at one other.cells other.inside other.takes_cell first same second
