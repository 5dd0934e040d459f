-- A text has one form, or one place without a reading, but never both.
use Rattle.std.proofs.Common.{◌≡◌, ℕ, ◌+◌, ◌<◌, ◌≤◌, Bool, true, false, List, [], ◌∷◌, ◌++◌, length, take, drop, append-nil, Option, Some, None, refl, sym, ap, ◌∙◌, subst, arith, inl, inr, append_assoc}
use Rattle.std.specs.Prelude.{◌⊎◌}
use Rattle.std.specs.List.{list_any}
use Rattle.std.proofs.lemmas.List.{take-take, take-append-drop, length-map, take_all}
use Rattle.rule_terms.specs.declared.defs.CellShape.{CellShape}
use Rattle.rule_tokens.specs.declared.token.RuleToken.{RuleToken}
use Rattle.rule_cells.specs.declared.form.Inside.{Inside}
use Rattle.rule_cells.specs.declared.form.Inside as inside
use Rattle.rule_cells.specs.declared.form.RuleForm.{RuleForm}
use Rattle.rule_cells.specs.declared.form.Side as side
use Rattle.rule_cells.specs.declared.form.FormFault.TheVariants.{NoReading}
use Rattle.rule_cells.specs.declared.mark.Mark.{Mark}
use Rattle.rule_cells.specs.Marks.{marks}
use Rattle.rule_cells.specs.Written.{Side, side_at, signs_of_side}
use Rattle.rule_cells.specs.Forms.{IsWritten, Begins, is_of_bag, body_of, start_of, StopsAt, StaysOpen, IsBodyBy, IsBody, IsForm, IsNoReading, IsFormFault}
use Rattle.rule_cells.specs.Steps.{nothing, steps}
use Rattle.rule_cells.specs.Laws.{HasOneForm, HasOnePlace, HasFormOrPlace}
use Rattle.rule_cells.proofs.Running.{body_runs}
use Rattle.rule_cells.proofs.Deciding.{side_of_written}

module _ (cells : List CellShape) where
  begins_front : (xs ys : List Mark) → Begins cells (xs ++ ys) → Begins cells xs
  begins_front xs ys b = record {
    side = b.side;
    more = ys ++ b.more;
    written = record { allowed = b.written.allowed; signs_are = b.written.signs_are ∙ append_assoc xs ys b.more };
  }

  begins_take : (xs : List Mark) (n : ℕ) → Begins cells xs → Begins cells (take n xs)
  begins_take xs n b = begins_front (take n xs) (drop n xs) (subst (Begins cells) (sym (take-append-drop n xs)) b)

  begins_less : (xs : List Mark) (n m : ℕ) → n ≤ m → Begins cells (take m xs) → Begins cells (take n xs)
  begins_less xs n m less b = subst (Begins cells) (take-take n m xs less) (begins_take (take m xs) n b)

  -- ---- one form

  same_sides : (signs : List Mark) (one other : Side) → IsWritten cells signs one → IsWritten cells signs other → side_at 0 one ≡ side_at 0 other
  same_sides signs one other first second =
      let runs = body_runs cells one first.allowed in
      let read = ap (steps cells nothing 0) (sym first.signs_are) ∙ runs in
      let a = side_of_written cells signs one _ first read in
      let b = side_of_written cells signs other _ second read in
      let both : Some (side_at 0 one) ≡ Some (side_at 0 other) = sym a ∙ b in
      cc

  same_bodies : (signs : List Mark) (b : Bool) (one other : Inside) → IsBodyBy cells signs b one → IsBodyBy cells signs b other → one ≡ other
  same_bodies signs true one other first second = first.2 ∙ ap inside.Cells (same_sides signs first.0 second.0 first.1 second.1) ∙ sym second.2
  same_bodies signs false one other first second = first ∙ sym second

  -- ---- one place

  before : (tokens : List RuleToken) (n m at place : ℕ) → n < m → StopsAt cells tokens at n → StopsAt cells tokens place m → ⊥
  before tokens n m at place less one other = one.none (begins_less (marks tokens) (n + 1) m (omega (arith, less)) other.begins)

  by_order : (tokens : List RuleToken) (n m at place : ℕ) → StopsAt cells tokens at n → StopsAt cells tokens place m → (n < m → ⊥) → (m < n → ⊥) → at ≡ place
  by_order tokens n m at place one other less more =
      let same : n ≡ m = omega (arith, less, more) in
      one.place ∙ ap (start_of tokens) same ∙ sym other.place

  open_stop : (tokens : List RuleToken) (n at place : ℕ) → StopsAt cells tokens at n → StaysOpen cells tokens place → ⊥
  open_stop tokens n at place one other = one.none (begins_take (marks tokens) (n + 1) other.begins)

  same_places : (tokens : List RuleToken) (at place : ℕ) → ((n : ℕ) × StopsAt cells tokens at n) ⊎ StaysOpen cells tokens at → ((n : ℕ) × StopsAt cells tokens place n) ⊎ StaysOpen cells tokens place → at ≡ place
  same_places tokens at place (inl one) (inl other) =
      by_order tokens one.0 other.0 at place one.1 other.1 (λ less. before tokens one.0 other.0 at place less one.1 other.1) (λ less. before tokens other.0 one.0 place at less other.1 one.1)
  same_places tokens at place (inl one) (inr other) = absurd (open_stop tokens one.0 at place one.1 other)
  same_places tokens at place (inr one) (inl other) = absurd (open_stop tokens other.0 place at other.1 one)
  same_places tokens at place (inr one) (inr other) = one.place ∙ sym other.place

  -- ---- never both

  whole_begins : (signs : List Mark) (one : Side) → IsWritten cells signs one → Begins cells (signs ++ [])
  whole_begins signs one written = record {
    side = one;
    more = [];
    written = record { allowed = written.allowed; signs_are = written.signs_are ∙ sym (append-nil signs) ∙ sym (append-nil (signs ++ [])) };
  }

  no_both : (tokens : List RuleToken) (one : Side) (at : ℕ) → IsWritten cells (marks tokens) one → ((n : ℕ) × StopsAt cells tokens at n) ⊎ StaysOpen cells tokens at → ⊥
  no_both tokens one at written (inl stop) = stop.1.none (begins_take (marks tokens) (stop.0 + 1) (begins_front (marks tokens) [] (whole_begins (marks tokens) one written)))
  no_both tokens one at written (inr open_still) = open_still.none one written

pub one_form : HasOneForm
one_form cells text tokens one other first second =
    let signs = marks (body_of text tokens) in
    let e = same_bodies cells signs (list_any is_of_bag signs) one.body other.body first.0 second.0 in
    let f = first.1 ∙ sym second.1 in
    (λ i. record { body = e i; condition = f i })

pub one_place : HasOnePlace
one_place cells text tokens one other first second = same_places cells (body_of text tokens) one other first.1 second.1

pub form_or_place : HasFormOrPlace
form_or_place cells text tokens form at is fault =
    let signs = marks (body_of text tokens) in
    let whole = subst (λ b. IsBodyBy cells signs b form.body) fault.0 is.0 in
    no_both cells (body_of text tokens) whole.0 at whole.1 fault.1
