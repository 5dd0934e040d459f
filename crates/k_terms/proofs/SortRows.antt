-- How the rows of the table of sorts are filled.
use Rattle.std.proofs.Common.{◌≡◌, ◌⊎◌, ◌↔◌, ℕ, zero, suc, ◌+◌, ◌<◌, ◌≤◌, Bool, true, false, not, cond, ◌&&◌, ◌||◌, List, [], ◌∷◌, ◌++◌, map, length, get_or, set, replicate, Contains, All, inl, inr, refl, sym, ap, ◌∙◌, subst, subst₂, true≢false, arith, eqb, eqb-true, eq-eqb, lit<, length-set, get_or-set_same, get_or-set_other}
use Rattle.std.proofs.lemmas.Bool.{cases_eq, cases_lt}
use Rattle.std.proofs.lemmas.List.{get_or-replicate, get_or_past, get_or_default, get_or_read, get_or-map, length-map, length-replicate}
use Rattle.std.proofs.lemmas.List.Elements.{All-contains, All-from_recursion, Contains-append_left, Contains-append_right, Contains-append_cases, Contains-get_or}
use Rattle.k_terms.specs.Sorts.{SortOrder, Below, same, subsort, produced, built_in, item, through, item_sorts, sort_k, sort_kitem, sort_kresult, sort_int, sort_bool, sort_string, sort_id}
use Rattle.k_terms.specs.SortTable.{built_in_steps, all_steps, is_marked, unmarked, IsInside, leads_on, mark_step, IsClosed, Reached, marked, raised, IsPass, single, IsRow, IsTable}

-- ---- one step

unmarked-set : (row : List Bool) (i : ℕ) → i < length row → get_or row i false ≡ false → suc (unmarked (set row i true)) ≡ unmarked row
unmarked-set [] i h e = absurd (omega arith)
unmarked-set (true ∷ row) zero h e = cc
unmarked-set (false ∷ row) zero h e = refl
unmarked-set (true ∷ row) (suc i) h e = unmarked-set row i (omega arith) e
unmarked-set (false ∷ row) (suc i) h e = ap suc (unmarked-set row i (omega arith) e)

-- the marks after a write
marks_set : (row : List Bool) (high sort : ℕ) → high < length row → is_marked (set row high true) sort ≡ true → (is_marked row sort ≡ true) ⊎ (sort ≡ high)
marks_set row high sort h e =
    elim (cases_eq sort high) [
      | inl p ↦ inr p
      | inr p ↦ inl (sym (get_or-set_other row high sort true false p) ∙ e)
    ]

set_marks : (row : List Bool) (high sort : ℕ) → high < length row → is_marked row sort ≡ true → is_marked (set row high true) sort ≡ true
set_marks row high sort h e =
    elim (cases_eq sort high) [
      | inl p ↦ ap (is_marked (set row high true)) p ∙ get_or-set_same row high true false h
      | inr p ↦ get_or-set_other row high sort true false p ∙ e
    ]

both_true : (a b : Bool) → (a && b) ≡ true → (a ≡ true) × (b ≡ true)
both_true true b e = (refl, e)
both_true false b e = cc

not_true : (a : Bool) → not a ≡ true → a ≡ false
not_true true e = cc
not_true false e = refl

leads_from : (row : List Bool) (low high : ℕ) → leads_on row low high ≡ true → (is_marked row low ≡ true) × (is_marked row high ≡ false)
leads_from row low high e = ((both_true _ _ e).0, not_true _ (both_true _ _ e).1)

led_on : (a b : Bool) → (a && not b) ≡ false → a ≡ true → b ≡ true
led_on true true e h = refl
led_on true false e h = cc
led_on false b e h = cc

-- ---- a pass over the steps

pub record IsPassUpTo (steps : List (ℕ × ℕ)) (start row : List Bool) (i : ℕ) (has_marked : Bool) : Type 0 where
  pub pass : IsPass steps start row
  pub fewer : has_marked ≡ true → unmarked row < unmarked start
  pub still : has_marked ≡ false → row ≡ start
  pub closed : has_marked ≡ false → (k : ℕ) (d : ℕ × ℕ) → k < i → is_marked start (get_or steps k d).0 ≡ true → is_marked start (get_or steps k d).1 ≡ true

pub pass_none : (steps : List (ℕ × ℕ)) (start : List Bool) → IsPassUpTo steps start start 0 false
pass_none steps start = record {
  pass = record { long = refl; kept = λ s e. e; reached = λ s e. marked s e };
  fewer = λ e. cc;
  still = λ e. refl;
  closed = λ e k d h. absurd (omega arith);
}

or_true : (a : Bool) → (a || true) ≡ true
or_true true = refl
or_true false = refl

or_false : (a : Bool) → (a || false) ≡ a
or_false true = refl
or_false false = refl

no_more_unmarked : (a b : List Bool) (has_marked : Bool) → (has_marked ≡ true → unmarked a < unmarked b) → (has_marked ≡ false → a ≡ b) → unmarked a ≤ unmarked b
no_more_unmarked a b true fewer still = let h : unmarked a < unmarked b = fewer refl in omega arith
no_more_unmarked a b false fewer still = let e : unmarked a ≡ unmarked b = ap unmarked (still refl) in omega arith

contains_read : (steps : List (ℕ × ℕ)) (i : ℕ) (x : ℕ × ℕ) → i < length steps → x ≡ get_or steps i x → Contains steps x
contains_read steps i x h e = (i, h, sym e)

module _ (steps : List (ℕ × ℕ)) (start row : List Bool) (i : ℕ) (has_marked : Bool) (x : ℕ × ℕ) (within : i < length steps) (is : x ≡ get_or steps i x) (inside : IsInside (length start) x) (p : IsPassUpTo steps start row i has_marked) where
  in_row : x.1 < length row
  in_row = let long : length row ≡ length start = p.pass.long in let h : x.1 < length start = inside.1 in omega arith

  step_reached : leads_on row x.0 x.1 ≡ true → (sort : ℕ) → is_marked (set row x.1 true) sort ≡ true → Reached steps start sort
  step_reached e sort m =
      elim (marks_set row x.1 sort in_row m) [
        | inl q ↦ p.pass.reached sort q
        | inr q ↦ subst (Reached steps start) (sym q) (raised x.0 x.1 (contains_read steps i x within is) (p.pass.reached x.0 (leads_from row x.0 x.1 e).0))
      ]

  step_fewer : leads_on row x.0 x.1 ≡ true → unmarked (set row x.1 true) < unmarked start
  step_fewer e =
      let one : suc (unmarked (set row x.1 true)) ≡ unmarked row = unmarked-set row x.1 in_row (leads_from row x.0 x.1 e).1 in
      let rest : unmarked row ≤ unmarked start = no_more_unmarked row start has_marked p.fewer p.still in
      omega arith

  step_closed : leads_on row x.0 x.1 ≡ false → has_marked ≡ false → (k : ℕ) (d : ℕ × ℕ) → k < i + 1 → is_marked start (get_or steps k d).0 ≡ true → is_marked start (get_or steps k d).1 ≡ true
  step_closed e m k d h =
      elim (cases_lt k i) [
        | inl q ↦ p.closed m k d q
        | inr q ↦
            let at : k ≡ i = omega arith in
            let here : x ≡ get_or steps k d = get_or_read steps i x within is d ∙ ap (λ j. get_or steps j d) (sym at) in
            let led : is_marked start x.0 ≡ true → is_marked start x.1 ≡ true = subst (λ r. is_marked r x.0 ≡ true → is_marked r x.1 ≡ true) (p.still m) (led_on (is_marked row x.0) (is_marked row x.1) e) in
            subst (λ (y : ℕ × ℕ). is_marked start y.0 ≡ true → is_marked start y.1 ≡ true) here led
      ]

  pub pass_step : IsPassUpTo steps start (mark_step row x.0 x.1) (i + 1) (has_marked || leads_on row x.0 x.1)
  pass_step =
      elim (leads_on row x.0 x.1) as (λ b. leads_on row x.0 x.1 ≡ b → IsPassUpTo steps start (cond b (set row x.1 true) row) (i + 1) (has_marked || b)) [
        | true ↦ λ e. record {
          pass = record {
            long = length-set row x.1 true ∙ p.pass.long;
            kept = λ s m. set_marks row x.1 s in_row (p.pass.kept s m);
            reached = step_reached e;
          };
          fewer = λ _. step_fewer e;
          still = λ f. absurd (true≢false (sym (or_true has_marked) ∙ f));
          closed = λ f. absurd (true≢false (sym (or_true has_marked) ∙ f));
        }
        | false ↦ λ e. record {
          pass = p.pass;
          fewer = λ f. p.fewer (sym (or_false has_marked) ∙ f);
          still = λ f. p.still (sym (or_false has_marked) ∙ f);
          closed = λ f. step_closed e (sym (or_false has_marked) ∙ f);
        }
      ] refl

-- ---- passes one after another

pub reached_chain : (steps : List (ℕ × ℕ)) (first second : List Bool) → ((sort : ℕ) → is_marked second sort ≡ true → Reached steps first sort) → (sort : ℕ) → Reached steps second sort → Reached steps first sort
reached_chain steps first second h _ (marked sort e) = h sort e
reached_chain steps first second h _ (raised low high c r) = raised low high c (reached_chain steps first second h low r)

pub pass_chain : (steps : List (ℕ × ℕ)) (first second third : List Bool) → IsPass steps first second → IsPass steps second third → IsPass steps first third
pass_chain steps first second third p q = record {
  long = q.long ∙ p.long;
  kept = λ s e. q.kept s (p.kept s e);
  reached = λ s e. reached_chain steps first second p.reached s (q.reached s e);
}

-- ---- the row of a sort

-- membership in a list that a function made
contains_map : {A B : Type 0} (f : A → B) (xs : List A) (x : A) → Contains xs x → Contains (map f xs) (f x)
contains_map f xs x (k, h, e) = (k, simp length-map h, get_or-map f xs k x (f x) h ∙ ap f e)

contains_of_map : {A B : Type 0} (f : A → B) (xs : List A) (d : A) (y : B) → Contains (map f xs) y → (x : A) × Contains xs x × (f x ≡ y)
contains_of_map f xs d y (k, h, e) =
    let within : k < length xs = simp length-map at h in
    (get_or xs k d, Contains-get_or xs k d within, sym (get_or-map f xs k d y within) ∙ e)

abbrev to_kitem : ℕ → ℕ × ℕ
to_kitem sort = (sort, sort_kitem)

module _ (o : SortOrder) where
  abbrev Goes : ℕ × ℕ → Type 0
  Goes step = Below o step.0 step.1

  built_in_goes : All Goes built_in_steps
  built_in_goes = All-from_recursion Goes built_in_steps (
    built_in sort_int (0, lit< tt, refl),
    (
      built_in sort_bool (1, lit< tt, refl),
      (
        built_in sort_string (2, lit< tt, refl),
        (
          built_in sort_id (3, lit< tt, refl),
          (
            built_in sort_kresult (4, lit< tt, refl),
            (item, tt),
          ),
        ),
      ),
    ),
  )

  pub step_below : (step : ℕ × ℕ) → Contains (all_steps o) step → Below o step.0 step.1
  step_below step c =
      elim (Contains-append_cases _ _ _ c) [
        | inl c ↦ elim (Contains-append_cases _ _ _ c) [
          | inl c ↦ subsort step.0 step.1 c
          | inr c ↦
              let from = contains_of_map to_kitem o.productions 0 step c in
              subst Goes from.2 (produced from.0 from.1)
        ]
        | inr c ↦ All-contains Goes built_in_steps step built_in_goes c
      ]

  -- what the marked sorts lead to is above the sort
  pub reached_below : (start : List Bool) (sort : ℕ) → ((s : ℕ) → is_marked start s ≡ true → Below o sort s) → (s : ℕ) → Reached (all_steps o) start s → Below o sort s
  reached_below start sort h _ (marked s e) = h s e
  reached_below start sort h _ (raised low high c r) = through sort low high (reached_below start sort h low r) (step_below (low, high) c)

  -- each rule's step is among the steps
  abbrev produced_steps : List (ℕ × ℕ)
  produced_steps = map to_kitem o.productions

  in_subsorts : (step : ℕ × ℕ) → Contains o.steps step → Contains (all_steps o) step
  in_subsorts step c = Contains-append_left (o.steps ++ produced_steps) built_in_steps step (Contains-append_left o.steps produced_steps step c)

  in_produced : (sort : ℕ) → Contains o.productions sort → Contains (all_steps o) (sort, sort_kitem)
  in_produced sort c = Contains-append_left (o.steps ++ produced_steps) built_in_steps (sort, sort_kitem) (Contains-append_right o.steps produced_steps (sort, sort_kitem) (contains_map to_kitem o.productions sort c))

  of_built_in : (step : ℕ × ℕ) → Contains built_in_steps step → Contains (all_steps o) step
  of_built_in step c = Contains-append_right (o.steps ++ produced_steps) built_in_steps step c

  in_built_in : (sort : ℕ) → Contains item_sorts sort → Contains (all_steps o) (sort, sort_kitem)
  in_built_in sort c = of_built_in (sort, sort_kitem) (Contains-append_left (map to_kitem item_sorts) ((sort_kitem, sort_k) ∷ []) (sort, sort_kitem) (contains_map to_kitem item_sorts sort c))

  in_item : Contains (all_steps o) (sort_kitem, sort_k)
  in_item = of_built_in (sort_kitem, sort_k) (5, lit< tt, refl)

  -- a closed row that marks a sort marks all above it
  module _ (row : List Bool) (closed : IsClosed (all_steps o) row) where
    along : (step : ℕ × ℕ) → Contains (all_steps o) step → is_marked row step.0 ≡ true → is_marked row step.1 ≡ true
    along step c = All-contains (λ (x : ℕ × ℕ). is_marked row x.0 ≡ true → is_marked row x.1 ≡ true) (all_steps o) step closed c

    pub marks_above : (low high : ℕ) → Below o low high → is_marked row low ≡ true → is_marked row high ≡ true
    marks_above _ _ (same a) e = e
    marks_above _ _ (subsort a b c) e = along (a, b) (in_subsorts (a, b) c) e
    marks_above _ _ (produced a c) e = along (a, sort_kitem) (in_produced a c) e
    marks_above _ _ (built_in a c) e = along (a, sort_kitem) (in_built_in a c) e
    marks_above _ _ item e = along (sort_kitem, sort_k) in_item e
    marks_above _ _ (through a b c p q) e = marks_above b c q (marks_above a b p e)

  -- past the table a sort is above itself alone
  module _ (size : ℕ) (inside : All (IsInside size) (all_steps o)) where
    within : (step : ℕ × ℕ) → Contains (all_steps o) step → IsInside size step
    within step c = All-contains (IsInside size) (all_steps o) step inside c

    abbrev IsNear : ℕ → ℕ → Type 0
    IsNear low high = (low ≡ high) ⊎ IsInside size (low, high)

    near_chain : (a b c : ℕ) → IsNear a b → IsNear b c → IsNear a c
    near_chain a b c (inl p) q = subst (λ x. IsNear x c) (sym p) q
    near_chain a b c (inr p) (inl q) = subst (IsNear a) q (inr p)
    near_chain a b c (inr p) (inr q) = inr (p.0, q.1)

    pub below_near : (low high : ℕ) → Below o low high → (low ≡ high) ⊎ IsInside size (low, high)
    below_near _ _ (same a) = inl refl
    below_near _ _ (subsort a b c) = inr (within (a, b) (in_subsorts (a, b) c))
    below_near _ _ (produced a c) = inr (within (a, sort_kitem) (in_produced a c))
    below_near _ _ (built_in a c) = inr (within (a, sort_kitem) (in_built_in a c))
    below_near _ _ item = inr (within (sort_kitem, sort_k) in_item)
    below_near _ _ (through a b c p q) = near_chain a b c (below_near a b p) (below_near b c q)

-- ---- the table

single_marks : (size sort s : ℕ) → sort < size → is_marked (single size sort) s ≡ true → sort ≡ s
single_marks size sort s h e =
    elim (marks_set (replicate size false) sort s (simp length-replicate h) e) [
      | inl p ↦ elim (cases_lt s size) [
        | inl q ↦ absurd (true≢false (sym p ∙ get_or-replicate size s false false q))
        | inr q ↦ absurd (true≢false (sym p ∙ get_or_past (replicate size false) s false (simp length-replicate q)))
      ]
      | inr p ↦ sym p
    ]

single_marked : (size sort : ℕ) → sort < size → is_marked (single size sort) sort ≡ true
single_marked size sort h = get_or-set_same (replicate size false) sort true false (simp length-replicate h)

pub row_decides : (o : SortOrder) (size sort high : ℕ) (row : List Bool) → sort < size → IsRow (all_steps o) size sort row → (is_marked row high ≡ true) ↔ Below o sort high
row_decides o size sort high row h r = (
  λ e. reached_below o (single size sort) sort (λ s m. subst (Below o sort) (single_marks size sort s h m) (same sort)) high (r.pass.reached high e),
  λ b. marks_above o row r.closed sort high b (r.pass.kept sort (single_marked size sort h)),
)

pub row_long : (steps : List (ℕ × ℕ)) (size sort : ℕ) (row : List Bool) → IsRow steps size sort row → length row ≡ size
row_long steps size sort row r = r.pass.long ∙ length-set (replicate size false) sort true ∙ length-replicate size false

pub table_decides : (o : SortOrder) (rows : List (List Bool)) (low high : ℕ) → IsTable o rows → low < length rows → (is_marked (get_or rows low []) high ≡ true) ↔ Below o low high
table_decides o rows low high t h = row_decides o (length rows) low high (get_or rows low []) h (t.each low h)

pub past_decides : (o : SortOrder) (rows : List (List Bool)) (low high : ℕ) → IsTable o rows → (IsInside (length rows) (low, high) → ⊥) → (low ≡ high) ↔ Below o low high
past_decides o rows low high t past = (
  λ e. subst (Below o low) e (same low),
  λ b. elim (below_near o (length rows) t.inside low high b) [ inl p ↦ p | inr p ↦ absurd (past p) ],
)

-- ---- the forms that the code's goals have

pub pass_at : (steps : List (ℕ × ℕ)) (start row new : List Bool) (i : ℕ) (has_marked is_new : Bool) (d : ℕ × ℕ) → i < length steps → IsInside (length start) (get_or steps i d) → IsPassUpTo steps start row i has_marked → new ≡ mark_step row (get_or steps i d).0 (get_or steps i d).1 → is_new ≡ leads_on row (get_or steps i d).0 (get_or steps i d).1 → IsPassUpTo steps start new (i + 1) (has_marked || is_new)
pass_at steps start row new i has_marked is_new d h inside p e f =
    let step = pass_step steps start row i has_marked (get_or steps i d) h (get_or_default steps i d (get_or steps i d) h) inside p in
    subst₂ (λ r b. IsPassUpTo steps start r (i + 1) (has_marked || b)) (sym e) (sym f) step

pub pass_closed : (steps : List (ℕ × ℕ)) (start row : List Bool) (i : ℕ) (has_marked : Bool) → IsPassUpTo steps start row i has_marked → length steps ≤ i → has_marked ≡ false → IsClosed steps row
pass_closed steps start row i has_marked p h f = subst (IsClosed steps) (sym (p.still f)) (λ k d within. p.closed f k d (omega arith))

pub pass_itself : (steps : List (ℕ × ℕ)) (start : List Bool) → IsPass steps start start
pass_itself steps start = (pass_none steps start).pass

pub below_in_table : (o : SortOrder) (rows seen : List (List Bool)) (row found : List Bool) (low high : ℕ) → IsTable o rows → seen ≡ rows → low < length seen → found ≡ get_or seen low found → row ≡ found → (is_marked row high ≡ true) ↔ Below o low high
below_in_table o rows seen row found low high t e h is f =
    let within : low < length rows = subst (λ (r : List (List Bool)). low < length r) e h in
    let row_is : row ≡ get_or rows low [] = f ∙ get_or_read seen low found h is [] ∙ ap (λ r. get_or r low []) e in
    subst (λ r. (is_marked r high ≡ true) ↔ Below o low high) (sym row_is) (table_decides o rows low high t within)

pub below_past_table : (o : SortOrder) (rows seen : List (List Bool)) (low high : ℕ) → IsTable o rows → seen ≡ rows → ((low < length seen) × (length seen ≤ high)) ⊎ (length seen ≤ low) → (eqb low high ≡ true) ↔ Below o low high
below_past_table o rows seen low high t e past =
    let longer : length seen ≡ length rows = ap length e in
    let apart : IsInside (length rows) (low, high) → ⊥ = λ inside. elim past [ inl p ↦ omega (arith, p.1, inside.1) | inr p ↦ omega (arith, p, inside.0) ] in
    let decides = past_decides o rows low high t apart in
    (λ b. decides.0 (eqb-true low high b), λ b. eq-eqb low high (decides.1 b))
