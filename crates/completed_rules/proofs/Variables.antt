-- The variables of a completed rule.
use Rattle.std.proofs.Common.{◌≡◌, inl, inr, ℕ, zero, suc, ◌+◌, ◌<◌, ◌-◌, Bool, true, false, not, ◌||◌, ◌&&◌, ◌==◌, List, [], ◌∷◌, ◌++◌, length, replicate, Some, None, refl, sym, ap, ◌∙◌, subst, arith}
use Rattle.std.specs.Prelude.{IsTrue, slice_get}
use Rattle.std.specs.List.{list_any}
use Rattle.std.proofs.lemmas.Bool.{cases_lt, eqb-true, eq-eqb}
use Rattle.k_terms.specs.Sorts.{SortOrder}
use Rattle.rule_terms.specs.declared.pattern.Body.{Body}
use Rattle.rule_terms.specs.declared.pattern.CellPat.{CellPat}
use Rattle.rule_terms.specs.declared.rule.Draft.{Draft}
use Rattle.rule_terms.specs.declared.rule.Rule.{Rule}
use Rattle.rule_terms.specs.Patterns.{body_rest, parts_mention, is_rest}
use Rattle.rule_terms.specs.Sound.{body_mentions, side_mentions, conditions_mention, cells_rest}
use Rattle.rule_terms.specs.Spots.{Spot}
use Rattle.live_config.proofs.Members.{Has, has_left, has_any, any_has}
use Rattle.strictness.specs.SoundDrafts.{spots_of}
use Rattle.cell_trees.specs.Trees.{Tree as Declaration}
use Rattle.cell_trees.specs.Initials.{held_at}
use Rattle.cell_trees.specs.Defaults.{body_of}
use Rattle.rule_completion.specs.Writing.{written}
use Rattle.rule_completion.specs.Completed.{with_inside}
use Rattle.rule_completion.specs.Numbering.{added_mark}
use Rattle.rule_terms.proofs.Defined.{one_of, both}
use Rattle.completed_rules.proofs.Drafted.{with_body}
use Rattle.completed_rules.proofs.Bodies.{any_rest_with, parts_with, declared_parts, declared_rest}
use Rattle.completed_rules.proofs.Whole.{IsCase, root, total, cells_of}
use Rattle.k_terms.specs.Sorts.{sort_bag}
use Rattle.rule_terms.specs.Patterns.{cond_mentions}
use Rattle.rule_terms.specs.Sound.{HasSoundVariables}
use Rattle.rule_terms.specs.Spots.{occurs_elsewhere, has_mark}
use Rattle.rule_terms.specs.declared.pattern.Body.{Cells', Seq, Map, List as Listed, One, Made}
use Rattle.live_config.proofs.Members.{has-contains, contains-has, has_map}
use Rattle.live_config.proofs.SpotTree.{marks, same_spot}
use Rattle.cell_completion.specs.Trees.{marks as written_marks}
use Rattle.rule_completion.specs.Writing.{as_written, written_left, written_new}
use Rattle.completed_rules.specs.Fits.{occurs_beside}
use Rattle.completed_rules.proofs.Places.{marked, numbered}
use Rattle.completed_rules.proofs.Presence.{IsOn}
use Rattle.completed_rules.proofs.Drafted.{marked_is, side_apart}
use Rattle.completed_rules.proofs.Bodies.{rest_with}
use Rattle.completed_rules.proofs.Kinding.{got_more}
use Rattle.completed_rules.proofs.Whole.{pictured, whole}
use Rattle.completed_rules.proofs.Passing.{Bodied, drafted, added, held, bodied, both_drafted, both_sides, of_draft, on_some_side}

or_left : (a b : Bool) → a ≡ true → (a || b) ≡ true
or_left true b e = refl
or_left false b e = cc

or_right : (a b : Bool) → b ≡ true → (a || b) ≡ true
or_right true b e = refl
or_right false b e = e

false_not : (b : Bool) → (b ≡ true → ⊥) → not b ≡ true
false_not true no_more = absurd (no_more refl)
false_not false no_more = refl

not_false : (b : Bool) → not b ≡ true → b ≡ true → ⊥
not_false true e f = cc
not_false false e f = cc

size_more : {X : Type 0} (xs : List X) (n : ℕ) (x : X) → length (xs ++ replicate n x) ≡ length xs + n
size_more [] zero x = refl
size_more [] (suc n) x = let e = size_more [] n x in omega (arith, e)
size_more (y ∷ xs) n x = let e = size_more xs n x in omega (arith, e)

got_last : {X : Type 0} (xs : List X) (n k : ℕ) (x : X) → k < n → slice_get (xs ++ replicate n x) (length xs + k) ≡ Some x
got_last [] zero k x less = absurd (omega (arith, less))
got_last [] (suc n) zero x less = refl
got_last [] (suc n) (suc k) x less =
    let z : 0 + suc k ≡ suc k = omega arith in
    let y : k ≡ 0 + k = omega arith in
    ap (slice_get (x ∷ replicate n x)) z ∙ ap (slice_get (replicate n x)) y ∙ got_last [] n k x (omega (arith, less))
got_last (y ∷ xs) n k x less = let z : suc (length xs) + k ≡ suc (length xs + k) = omega arith in ap (slice_get (y ∷ (xs ++ replicate n x))) z ∙ got_last xs n k x less

rest_of_cells : (x : ℕ) (body : Body) → cells_rest body ≡ Some x → body_rest body ≡ Some x
rest_of_cells x (Cells' s row rest) e = e
rest_of_cells x (Seq parts rest) e = absurd (let f : None ≡ Some x = e in cc)
rest_of_cells x (Map entries rest) e = absurd (let f : None ≡ Some x = e in cc)
rest_of_cells x (Listed before rest after) e = absurd (let f : None ≡ Some x = e in cc)
rest_of_cells x (One p) e = absurd (let f : None ≡ Some x = e in cc)
rest_of_cells x (Made p) e = absurd (let f : None ≡ Some x = e in cc)

module _ (d : Declaration) (order : SortOrder) (draft : Draft) (rule : Rule) (c : IsCase d order draft rule) where
  abbrev Sides : List Spot
  Sides = both_sides d order draft rule c

  abbrev Drafted : List Spot
  Drafted = both_drafted d order draft rule c

  abbrev Total : ℕ
  Total = total d order draft rule c

  size : length rule.vars ≡ length draft.vars + Total
  size = ap length c.completed.has.is.vars ∙ size_more draft.vars Total sort_bag

  mentions_with : (x : ℕ) (body : Body) (cells : List CellPat) → body_mentions x (with_inside body cells) ≡ body_mentions x body
  mentions_with x body cells i = parts_with x body cells i || is_rest x (any_rest_with body cells i)

  in_draft : (x : ℕ) (s : Spot) → Has Drafted s → body_mentions x s.body ≡ true → x < length draft.vars
  in_draft x s h t = c.sound.known x (or_left (side_mentions x Drafted) (conditions_mention x draft.when) (has_any (λ (q : Spot). body_mentions x q.body) Drafted s h t))

  in_conditions : (x : ℕ) → conditions_mention x draft.when ≡ true → x < length draft.vars
  in_conditions x t = c.sound.known x (or_right (side_mentions x Drafted) (conditions_mention x draft.when) t)

  conditions_same : (x : ℕ) → conditions_mention x rule.when ≡ true → conditions_mention x draft.when ≡ true
  conditions_same x t = ap (conditions_mention x) (sym c.completed.has.is.when) ∙ t

  -- ---- those that occur are declared

  known_one : (x : ℕ) (left : Bool) (p : Spot) → Bodied d order draft rule c left p → body_mentions x p.body ≡ true → x < length draft.vars + Total
  known_one x left p (drafted s cells h m e) t =
      let l = in_draft x s (of_draft d order draft rule c left s h) (sym (mentions_with x s.body cells) ∙ ap (body_mentions x) (sym e) ∙ t) in omega (arith, l)
  known_one x left p (added n cells less m e) t =
      let same : x ≡ length draft.vars + n = eqb-true x (length draft.vars + n) (ap (body_mentions x) (sym e) ∙ t) in omega (arith, same, less)
  known_one x left p (held cells on e) t =
      let none : body_mentions x (body_of (held_at d p.cell) cells) ≡ false =
      (λ i. declared_parts x (held_at d p.cell) cells i || is_rest x (declared_rest (held_at d p.cell) cells i)) in
      absurd (let f : false ≡ true = sym none ∙ ap (body_mentions x) (sym e) ∙ t in cc)

  known : (x : ℕ) → (side_mentions x Sides || conditions_mention x rule.when) ≡ true → x < length rule.vars
  known x t =
      let n = size in
      elim (one_of (side_mentions x Sides) (conditions_mention x rule.when) t) [
        | inl side ↦
            let p = any_has (λ (q : Spot). body_mentions x q.body) Sides side in
            elim (on_some_side d order draft rule c p.0 p.1) [
              | inl b ↦ let l = known_one x true p.0 b p.2 in omega (arith, l, n)
              | inr b ↦ let l = known_one x false p.0 b p.2 in omega (arith, l, n)
            ]
        | inr when ↦ let l = in_conditions x (conditions_same x when) in omega (arith, l, n)
      ]

  -- ---- each stands on the left

  has_place : (s : Spot) → Has (spots_of draft.left) s → Has (written_marks (whole d order draft rule c)) s.mark
  has_place s h =
      let w = as_written (has_mark (spots_of draft.right) s.mark) s in
      let there = has_left (written_left draft) (written_new draft) w (has_map (λ (p : Spot). as_written (has_mark (spots_of draft.right) p.mark) p) (spots_of draft.left) s h) in
      contains-has (written_marks (whole d order draft rule c)) s.mark (c.completed.has.least.is.whole w (has-contains (written draft) w there))

  bound_drafted : (x : ℕ) (s : Spot) → Has (spots_of draft.left) s → body_mentions x s.body ≡ true → side_mentions x (cells_of d order draft rule c true) ≡ true
  bound_drafted x s h t =
      let m = marked (d.shapes) (written draft) (root d order draft rule c) s.mark (has_place s h) in
      let p = pictured d order draft rule c true m.at m.is_in
      (subst (IsOn d c.tree draft order c.sound c.fits true) (sym m.mark_is) (marked_is (spots_of draft.left) s.mark s h refl)) in
      elim p.is [
        | inl w ↦
            let q = with_body (spots_of draft.left) w.mark w.body w.stands in
            let marks_same : Some w.mark ≡ Some s.mark = sym w.is_marked ∙ m.mark_is in
            let own : w.mark ≡ s.mark = cc in
            let same = same_spot (spots_of draft.left) (side_apart draft order c.sound c.fits.above true) q.0 s q.1 h (q.2 ∙ own) in
            has_any (λ (r : Spot). body_mentions x r.body) (cells_of d order draft rule c true) p.spot p.has
            (ap (body_mentions x) w.body_is ∙ mentions_with x w.body w.cells ∙ ap (body_mentions x) (sym q.3 ∙ ap (λ (r : Spot). r.body) same) ∙ t)
        | inr w ↦ absurd (let f : None ≡ Some s.mark = sym w.is_added ∙ m.mark_is in cc)
      ]

  bound_added : (x k : ℕ) → x ≡ length draft.vars + k → k < Total → side_mentions x (cells_of d order draft rule c true) ≡ true
  bound_added x k same less =
      let n = numbered d.shapes (written draft) (root d order draft rule c) k (omega arith) (omega (arith, less)) in
      let p = pictured d order draft rule c true n.at n.is_in (subst (IsOn d c.tree draft order c.sound c.fits true) (sym n.mark_is) tt) in
      elim p.is [
        | inl w ↦ absurd (let f : Some w.mark ≡ None = sym w.is_marked ∙ n.mark_is in cc)
        | inr w ↦
            has_any (λ (r : Spot). body_mentions x r.body) (cells_of d order draft rule c true) p.spot p.has
            (ap (body_mentions x) w.body_is ∙ eq-eqb x (length draft.vars + n.at.number) (same ∙ ap (λ j. length draft.vars + j) (sym n.number_is)))
      ]

  bound : (x : ℕ) → x < length rule.vars → side_mentions x (cells_of d order draft rule c true) ≡ true
  bound x less =
      let n = size in
      elim (cases_lt x (length draft.vars)) [
        | inl own ↦ let s = any_has (λ (q : Spot). body_mentions x q.body) (spots_of draft.left) (c.sound.bound x own) in bound_drafted x s.0 s.1 s.2
        | inr more ↦ bound_added x (x - length draft.vars) (omega (arith, more)) (omega (arith, less, more, n))
      ]

  -- ---- a rest of cells stands in one cell alone

  abbrev occurs : ℕ → ℕ → Spot → Bool
  occurs mark x q = parts_mention x q.body || (not (q.mark == mark) && is_rest x (body_rest q.body))

  occurs_mentions : (mark x : ℕ) (q : Spot) → occurs mark x q ≡ true → body_mentions x q.body ≡ true
  occurs_mentions mark x q t =
      elim (one_of (parts_mention x q.body) (not (q.mark == mark) && is_rest x (body_rest q.body)) t) [
        | inl a ↦ or_left (parts_mention x q.body) (is_rest x (body_rest q.body)) a
        | inr b ↦ or_right (parts_mention x q.body) (is_rest x (body_rest q.body)) (both (not (q.mark == mark)) (is_rest x (body_rest q.body)) b).1
      ]

  -- where it is none of the draft's, it is that of one added cell
  one_added : (left : Bool) (mark n x : ℕ) (q : Spot) → x ≡ length draft.vars + n → mark ≡ added_mark n → Bodied d order draft rule c left q → occurs mark x q ≡ true → ⊥
  one_added left mark n x q is marks (drafted s cells h m e) t =
      let l = in_draft x s (of_draft d order draft rule c left s h) (sym (mentions_with x s.body cells) ∙ ap (body_mentions x) (sym e) ∙ occurs_mentions mark x q t) in
      omega (arith, l, is)
  one_added left mark n x q is marks (added k cells less m e) t =
      let differ : not (q.mark == mark) ≡ true = (both (not (q.mark == mark)) (is_rest x (body_rest q.body)) (ap (λ b. b || (not (q.mark == mark) && is_rest x (body_rest q.body))) (sym (ap (parts_mention x) e)) ∙ t)).0 in
      let same : x ≡ length draft.vars + k = eqb-true x (length draft.vars + k) (ap (body_mentions x) (sym e) ∙ occurs_mentions mark x q t) in
      not_false (q.mark == mark) differ (eq-eqb q.mark mark (omega (arith, m, marks, same, is)))
  one_added left mark n x q is marks (held cells on e) t =
      let none : body_mentions x (body_of (held_at d q.cell) cells) ≡ false =
      (λ i. declared_parts x (held_at d q.cell) cells i || is_rest x (declared_rest (held_at d q.cell) cells i)) in
      let f : false ≡ true = sym none ∙ ap (body_mentions x) (sym e) ∙ occurs_mentions mark x q t in cc

  one_drafted : (left : Bool) (mark x : ℕ) (q : Spot) → x < length draft.vars → not (occurs_beside draft mark x) ≡ true → Bodied d order draft rule c left q → occurs mark x q ≡ true → ⊥
  one_drafted left mark x q own beside (drafted s cells h m e) t =
      let parts : parts_mention x s.body ≡ parts_mention x q.body = sym (ap (parts_mention x) e ∙ parts_with x s.body cells) in
      let rests : body_rest s.body ≡ body_rest q.body = sym (ap body_rest e ∙ any_rest_with s.body cells) in
      let here : occurs mark x s ≡ occurs mark x q = (λ i. parts i || (not (sym m i == mark) && is_rest x (rests i))) in
      not_false (occurs_beside draft mark x) beside
      (or_left (list_any (occurs mark x) Drafted) (list_any (cond_mentions x) draft.when) (has_any (occurs mark x) Drafted s (of_draft d order draft rule c left s h) (here ∙ t)))
  one_drafted left mark x q own beside (added k cells less m e) t =
      let same : x ≡ length draft.vars + k = eqb-true x (length draft.vars + k) (ap (body_mentions x) (sym e) ∙ occurs_mentions mark x q t) in
      omega (arith, same, own)
  one_drafted left mark x q own beside (held cells on e) t =
      let none : body_mentions x (body_of (held_at d q.cell) cells) ≡ false =
      (λ i. declared_parts x (held_at d q.cell) cells i || is_rest x (declared_rest (held_at d q.cell) cells i)) in
      let f : false ≡ true = sym none ∙ ap (body_mentions x) (sym e) ∙ occurs_mentions mark x q t in cc

  nowhere : (mark x : ℕ) → ((left : Bool) (q : Spot) → Bodied d order draft rule c left q → occurs mark x q ≡ true → ⊥) → (conditions_mention x draft.when ≡ true → ⊥)
      → not (occurs_elsewhere rule mark x) ≡ true
  nowhere mark x none conditions =
      false_not (occurs_elsewhere rule mark x) (λ t. elim (one_of (list_any (occurs mark x) Sides) (list_any (cond_mentions x) rule.when) t) [
        | inl side ↦
            let q = any_has (occurs mark x) Sides side in
            elim (on_some_side d order draft rule c q.0 q.1) [ inl b ↦ none true q.0 b q.2 | inr b ↦ none false q.0 b q.2 ]
        | inr when ↦ conditions (conditions_same x when)
      ])

  abbrev IsAlone : Spot → ℕ → Type 0
  IsAlone p x = (slice_get rule.vars x ≡ Some sort_bag) × IsTrue (not (occurs_elsewhere rule p.mark x))

  rest_alone : (p : Spot) (x : ℕ) → cells_rest p.body ≡ Some x → Bodied d order draft rule c true p → IsAlone p x
  rest_alone p x rest (drafted s cells h m e) =
      let own : cells_rest s.body ≡ Some x = sym (rest_with s.body cells) ∙ ap cells_rest (sym e) ∙ rest in
      let r = c.fits.rests s x (has-contains (spots_of draft.left) s h) own in
      let l = in_draft x s (of_draft d order draft rule c true s h)
      (or_right (parts_mention x s.body) (is_rest x (body_rest s.body)) (ap (is_rest x) (rest_of_cells x s.body own) ∙ eq-eqb x x refl)) in
      let beside : not (occurs_beside draft p.mark x) ≡ true = ap (λ k. not (occurs_beside draft k x)) m ∙ r.1 in (
        ap (λ vars. slice_get vars x) c.completed.has.is.vars ∙ got_more draft.vars (replicate Total sort_bag) x sort_bag r.0,
        nowhere p.mark x (λ left q. one_drafted left p.mark x q l beside)
            (λ t. not_false (occurs_beside draft p.mark x) beside (or_right (list_any (occurs p.mark x) Drafted) (list_any (cond_mentions x) draft.when) t)),
      )
  rest_alone p x rest (added n cells less m e) =
      let same : Some (length draft.vars + n) ≡ Some x = ap cells_rest (sym e) ∙ rest in
      let is : x ≡ length draft.vars + n = cc in (
        ap (λ vars. slice_get vars x) c.completed.has.is.vars ∙ ap (slice_get (draft.vars ++ replicate Total sort_bag)) is ∙ got_last draft.vars Total n sort_bag less,
        nowhere p.mark x (λ left q. one_added left p.mark n x q is m) (λ t. let l = in_conditions x t in omega (arith, l, is)),
      )
  rest_alone p x rest (held cells on e) = absurd (let f : true ≡ false = on in cc)

  pub sound_variables : HasSoundVariables rule
  sound_variables = record {
    bound = bound;
    known = known;
    rests = λ p x h rest. rest_alone p x rest (bodied d order draft rule c true p (contains-has (cells_of d order draft rule c true) p h));
  }
