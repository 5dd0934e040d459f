-- What is known where the reader of a body goes on, stops or ends.
use Rattle.std.proofs.Common.{◌≡◌, ℕ, ◌+◌, ◌<◌, Bool, true, false, List, [], ◌∷◌, ◌++◌, length, take, map, get_or, Option, Some, None, refl, sym, ap, ◌∙◌, subst, arith, rules, inl, inr}
use Rattle.std.specs.List.{list_any}
use Rattle.std.specs.Option.{option_and_then, option_map_or}
use Rattle.std.proofs.lemmas.List.{take-map, take_more, map-append, length-map, length-take-le}
use Rattle.std.proofs.lemmas.Option.{slice_get_read}
use Rattle.rule_terms.specs.declared.defs.CellShape.{CellShape}
use Rattle.rule_tokens.specs.declared.token.RuleToken.{RuleToken}
use Rattle.rule_cells.specs.declared.form.FormFault.{FormFault}
use Rattle.rule_cells.specs.declared.form.FormFault.TheVariants.{NoReading, Memory}
use Rattle.rule_cells.specs.declared.form.Side as side
use Rattle.rule_cells.specs.declared.level.Opening.TheVariants.{Body}
use Rattle.rule_cells.specs.declared.mark.Mark.{Mark}
use Rattle.rule_cells.specs.declared.state.State.{State}
use Rattle.rule_cells.specs.Marks.{marks, kind_mark}
use Rattle.rule_cells.specs.Written.{Side, signs_of_side, IsSide, side_at}
use Rattle.rule_cells.specs.Forms.{IsWritten, Begins, is_of_bag, start_of, end_of, StopsAt, StaysOpen, IsNoReading, IsBodyFault}
use Rattle.rule_cells.specs.Steps.{nothing, step, steps, side_read}
use Rattle.rule_cells.specs.Reading.{IsReadTo, IsReadUpTo, IsReadFault, IsSideRead}
use Rattle.rule_cells.proofs.Running.{at_level, before_at, last_at, body_runs, body_side, stops_before, steps_join}
use Rattle.rule_cells.proofs.Fronts.{Around, Front, IsFront, signs_read, state_of, front_begins, whole_side}
use Rattle.rule_cells.proofs.Fronts.Front.{Among, Within}
use Rattle.rule_cells.proofs.Contents.{Reached, reached}

-- ---- a token more

marks_more : (tokens : List RuleToken) (at : ℕ) (token : RuleToken) → at < length tokens → token ≡ get_or tokens at token → take (at + 1) (marks tokens) ≡ take at (marks tokens) ++ kind_mark token.kind ∷ []
marks_more tokens at token within is =
    take-map (λ (t : RuleToken). kind_mark t.kind) (at + 1) tokens
    ∙ ap (map (λ (t : RuleToken). kind_mark t.kind)) (take_more tokens at token within ∙ ap (λ t. take at tokens ++ t ∷ []) (sym is))
    ∙ map-append (λ (t : RuleToken). kind_mark t.kind) (take at tokens) (token ∷ [])
    ∙ ap (λ l. l ++ kind_mark token.kind ∷ []) (sym (take-map (λ (t : RuleToken). kind_mark t.kind) at tokens))

marks_size : (tokens : List RuleToken) (at : ℕ) → at < length tokens → length (take at (marks tokens)) ≡ at
marks_size tokens at within = length-take-le at (marks tokens) (let size = length-map tokens (λ (t : RuleToken). kind_mark t.kind) in omega (arith, size, within))

once_more : (o : Option State) → option_and_then (λ n. Some n) o ≡ o
once_more None = refl
once_more (Some n) = refl

one_step : (cells : List CellShape) (state : State) (at : ℕ) (sign : Mark) → steps cells state at (sign ∷ []) ≡ step cells state at sign
unfolding steps
one_step cells state at sign = once_more (step cells state at sign)

pub read_more : (cells : List CellShape) (tokens : List RuleToken) (at : ℕ) (token : RuleToken) (state : State) (sign : Mark) (o : Option State) → at < length tokens → token ≡ get_or tokens at token
    → sign ≡ kind_mark token.kind → steps cells nothing 0 (take at (marks tokens)) ≡ Some state → o ≡ step cells state at sign → steps cells nothing 0 (take (at + 1) (marks tokens)) ≡ o
read_more cells tokens at token state sign o within is kind read next =
    let size : 0 + length (take at (marks tokens)) ≡ at = let s = marks_size tokens at within in omega (arith, s) in
    ap (steps cells nothing 0) (marks_more tokens at token within is)
    ∙ steps_join cells (take at (marks tokens)) (kind_mark token.kind ∷ []) nothing 0
    ∙ ap (option_and_then (λ n. steps cells n (0 + length (take at (marks tokens))) (kind_mark token.kind ∷ []))) read
    ∙ (λ i. steps cells state (size i) ((sym kind) i ∷ []))
    ∙ one_step cells state at sign ∙ sym next

pub stopped : (cells : List CellShape) (tokens : List RuleToken) (at : ℕ) (token : RuleToken) (state : State) (sign : Mark) (o : Option State) → at < length tokens → token ≡ get_or tokens at token
    → sign ≡ kind_mark token.kind → steps cells nothing 0 (take at (marks tokens)) ≡ Some state → o ≡ step cells state at sign → o ≡ None → (number : ℕ) × IsReadUpTo cells tokens token.start number
stopped cells tokens at token state sign o within is kind read next none = (
  at,
  record {
    within = within;
    place = ap (λ g. option_map_or (λ (t : RuleToken). t.start) g 0) (sym (slice_get_read tokens (length tokens) at token refl within is));
    state = state;
    read = read;
    none = read_more cells tokens at token state sign o within is kind read next ∙ none;
  },
)

-- ---- a body

module _ (cells : List CellShape) where
  -- what is read begins a body
  pub begins_of : (signs : List Mark) (state : State) → steps cells nothing 0 signs ≡ Some state → Begins cells signs
  begins_of signs state read = let r = reached cells signs state read in subst (Begins cells) r.signs_are (front_begins cells r.front r.is)

  -- what is not read begins none
  pub none_of : (signs : List Mark) → steps cells nothing 0 signs ≡ None → Begins cells signs → ⊥
  none_of signs none b =
      let runs = body_runs cells b.side b.written.allowed in
      let stops = stops_before cells signs b.more nothing 0 none in
      let same = ap (steps cells nothing 0) b.written.signs_are in
      let no : Some (at_level Body (before_at 0 b.side) (last_at 0 b.side) []) ≡ None = sym runs ∙ same ∙ stops in
      cc

  -- a body is read with nothing open
  pub side_of_written : (signs : List Mark) (one : Side) (state : State) → IsWritten cells signs one → steps cells nothing 0 signs ≡ Some state → side_read state ≡ Some (side_at 0 one)
  side_of_written signs one state written read =
      let runs = body_runs cells one written.allowed in
      let same : at_level Body (before_at 0 one) (last_at 0 one) [] ≡ state = let both = sym runs ∙ ap (steps cells nothing 0) written.signs_are ∙ read in cc in
      ap side_read (sym same) ∙ body_side cells one

  whole_front : (front : Front) (state : State) (signs : List Mark) (found : side.Side) → IsFront cells front → state_of front ≡ state → signs_read front ≡ signs → side_read state ≡ Some found
      → IsSideRead cells signs found
  whole_front (Within around before cell d content) state signs found is state_is signs_are closed =
      let no = ap side_read state_is ∙ closed in absurd (cc)
  whole_front (Among around one) state signs found is state_is signs_are closed =
      let whole = whole_side cells around one found is (ap side_read state_is ∙ closed) in
      record { side = one; written = record { allowed = whole.0.allowed; signs_are = whole.0.signs_are ∙ signs_are }; is = whole.1 }

  pub whole_of : (signs : List Mark) (state : State) (found : side.Side) → steps cells nothing 0 signs ≡ Some state → side_read state ≡ Some found → IsSideRead cells signs found
  whole_of signs state found read closed = let r = reached cells signs state read in whole_front r.front state signs found r.is r.state_is r.signs_are closed

  pub stops_of : (tokens : List RuleToken) (fault : FormFault) → list_any is_of_bag (marks tokens) ≡ true → IsReadFault cells tokens fault → IsBodyFault cells tokens fault
  stops_of tokens Memory bag stop = tt
  stops_of tokens (NoReading at) bag stop = (
    bag,
    inl (
      stop.0,
      record {
        within = stop.1.within;
        place = stop.1.place;
        begins = begins_of (take stop.0 (marks tokens)) stop.1.state stop.1.read;
        none = none_of (take (stop.0 + 1) (marks tokens)) stop.1.none;
      },
    ),
  )

  pub open_of : (tokens : List RuleToken) (at : ℕ) (state : State) → list_any is_of_bag (marks tokens) ≡ true → at ≡ end_of tokens → steps cells nothing 0 (marks tokens) ≡ Some state → side_read state ≡ None
      → IsNoReading cells tokens at
  open_of tokens at state bag place read none = (
    bag,
    inr (record {
      place = place;
      begins = begins_of (marks tokens) state read;
      none = λ one written. let no = sym none ∙ side_of_written (marks tokens) one state written read in cc;
    }),
  )
