-- A search for what a module reaches.
use Rattle.std.proofs.Common.{arith, inl, inr, ⊎_elim, ◌⊎◌, ◌≡◌, ◌≢◌, ℕ, suc, zero, ◌+◌, ◌<◌, Bool, true, false, List, [], ◌∷◌, ◌++◌, length, set, replicate, take, drop, refl, sym, ap, subst, ◌∙◌, length-set, length-append}
use Rattle.std.proofs.lemmas.List.{get_or-set_same, get_or-set_other, length-replicate, take_at}
use Rattle.import_order.specs.Imports.{Has, imports_of, AreWithin, Reaches, by_one, by_more}
use Rattle.import_order.specs.Reaching.{is_seen, unseen, IsAdded, IsReaching}
use Rattle.import_order.proofs.Members.{has_left, has_last, has_push, same_or_not, has_same}
use Rattle.import_order.proofs.Closures.{one_more}

seen_at : (seen : List Bool) (m x : ℕ) → m < length seen → x ≡ m → is_seen (set seen m true) x ≡ true
seen_at seen m x within e = ap (is_seen (set seen m true)) e ∙ get_or-set_same seen m true false within

seen_else : (seen : List Bool) (m x : ℕ) → x ≢ m → is_seen (set seen m true) x ≡ is_seen seen x
seen_else seen m x other = get_or-set_other seen m x true false other

unseen_set : (seen : List Bool) (m : ℕ) → m < length seen → is_seen seen m ≡ false → unseen (set seen m true) + 1 ≡ unseen seen
unseen_set [] m within e = absurd (omega (arith, within))
unseen_set (true ∷ seen) zero within e = absurd (cc)
unseen_set (false ∷ seen) zero within e = omega arith
unseen_set (true ∷ seen) (suc m) within e = unseen_set seen m (omega (arith, within)) e
unseen_set (false ∷ seen) (suc m) within e = let rest = unseen_set seen m (omega (arith, within)) e in omega (arith, rest)

none_seen : (n m : ℕ) → is_seen (replicate n false) m ≡ false
none_seen zero m = refl
none_seen (suc n) zero = refl
none_seen (suc n) (suc m) = none_seen n m

pub added_none : (seen : List Bool) (work : List ℕ) → IsAdded [] seen seen work work
added_none seen work = record {
  long = refl;
  kept = λ m e. e;
  still = λ m h. h;
  added = λ m h. absurd h;
  from_seen = λ m e. inl e;
  from_work = λ m h. inl h;
  fewer = refl;
}

module _ (xs : List ℕ) (seen now : List Bool) (work later : List ℕ) (x : ℕ) (a : IsAdded xs seen now work later) where
  pub added_seen : is_seen now x ≡ true → IsAdded (xs ++ x ∷ []) seen now work later
  added_seen is = record {
    long = a.long;
    kept = a.kept;
    still = a.still;
    added = λ m h. ⊎_elim (λ (l : Has xs m). a.added m l) (λ (e : x ≡ m). subst (λ y. is_seen now y ≡ true) e is) (has_push xs x m h);
    from_seen = λ m e. ⊎_elim (λ (s : is_seen seen m ≡ true). inl s) (λ (b : Has xs m × Has later m). inr (has_left xs (x ∷ []) m b.0, b.1)) (a.from_seen m e);
    from_work = λ m h. ⊎_elim (λ (l : Has work m). inl l) (λ (r : Has xs m). inr (has_left xs (x ∷ []) m r)) (a.from_work m h);
    fewer = a.fewer;
  }

  pub added_new : is_seen now x ≡ false → x < length now → IsAdded (xs ++ x ∷ []) seen (set now x true) work (later ++ x ∷ [])
  added_new is within = record {
    long = length-set now x true ∙ a.long;
    kept = λ m e. ⊎_elim (λ (s : m ≡ x). seen_at now x m within s) (λ (n : m ≢ x). seen_else now x m n ∙ a.kept m e) (same_or_not m x);
    still = λ m h. has_left later (x ∷ []) m (a.still m h);
    added = λ m h.
        ⊎_elim
        (λ (s : m ≡ x). seen_at now x m within s)
        (λ (n : m ≢ x).
        seen_else now x m n ∙ a.added m (⊎_elim (λ (l : Has xs m). l) (λ (e : x ≡ m). absurd (n (sym e))) (has_push xs x m h)))
        (same_or_not m x);
    from_seen = λ m e.
        ⊎_elim
        (λ (s : m ≡ x). inr (has_same (xs ++ x ∷ []) x m (sym s) (has_last xs x), has_same (later ++ x ∷ []) x m (sym s) (has_last later x)))
        (λ (n : m ≢ x).
        ⊎_elim
        (λ (s : is_seen seen m ≡ true). inl s)
        (λ (b : Has xs m × Has later m). inr (has_left xs (x ∷ []) m b.0, has_left later (x ∷ []) m b.1))
        (a.from_seen m (sym (seen_else now x m n) ∙ e)))
        (same_or_not m x);
    from_work = λ m h.
        ⊎_elim
        (λ (l : Has later m). ⊎_elim (λ (o : Has work m). inl o) (λ (r : Has xs m). inr (has_left xs (x ∷ []) m r)) (a.from_work m l))
        (λ (e : x ≡ m). inr (has_same (xs ++ x ∷ []) x m e (has_last xs x)))
        (has_push later x m h);
    fewer = let one = unseen_set now x within is in let more = length-append later (x ∷ []) in omega (arith, one, more, a.fewer);
  }

module _ (graph : List (List ℕ)) (start : ℕ) where
  pub reaching_none : (n : ℕ) → n ≡ length graph → start < length graph → IsReaching graph start (replicate n false) (start ∷ [])
  reaching_none n long within = record {
    long = length-replicate n false ∙ long;
    within = λ m h. ⊎_elim (λ (e : start ≡ m). subst (λ y. y < length graph) e within) (λ (none : ⊥). absurd none) h;
    reached = λ m e. let never = none_seen n m in absurd (cc);
    work_reached = λ m h. ⊎_elim (λ (e : start ≡ m). inl (sym e)) (λ (none : ⊥). absurd none) h;
    closed = λ m either. ⊎_elim (λ (e : m ≡ start). inl (inl (sym e))) (λ (s : is_seen (replicate n false) m ≡ true). let never = none_seen n m in absurd (cc)) either;
  }

  -- what a module of the work imports is reached
  reached_on : (m x : ℕ) → (m ≡ start) ⊎ Reaches graph start m → Has (imports_of graph m) x → Reaches graph start x
  reached_on m x from h =
      ⊎_elim (λ (e : m ≡ start). by_one start x (subst (λ y. Has (imports_of graph y) x) e h)) (λ r. one_more graph start m x r h) from

  module _ (seen now : List Bool) (rest later : List ℕ) (next : ℕ) (r : IsReaching graph start seen (rest ++ next ∷ [])) where
    pub next_within : next < length graph
    next_within = r.within next (has_last rest next)

    from_next : (x : ℕ) → Has (imports_of graph next) x → Reaches graph start x
    from_next x h = reached_on next x (r.work_reached next (has_last rest next)) h

    module _ (within : AreWithin graph) (a : IsAdded (imports_of graph next) seen now rest later) where
      still_closed : (m : ℕ) → (m ≡ start) ⊎ (is_seen seen m ≡ true) → Has later m ⊎ ((x : ℕ) → Has (imports_of graph m) x → is_seen now x ≡ true)
      still_closed m either =
          ⊎_elim
          (λ (h : Has (rest ++ next ∷ []) m).
          ⊎_elim
          (λ (l : Has rest m). inl (a.still m l))
          (λ (e : next ≡ m). inr (λ x has. a.added x (subst (λ y. Has (imports_of graph y) x) (sym e) has)))
          (has_push rest next m h))
          (λ (all : (x : ℕ) → Has (imports_of graph m) x → is_seen seen x ≡ true). inr (λ x has. a.kept x (all x has)))
          (r.closed m either)

      pub reaching_more : IsReaching graph start now later
      reaching_more = record {
        long = a.long ∙ r.long;
        within = λ m h. ⊎_elim (λ (l : Has rest m). r.within m (has_left rest (next ∷ []) m l)) (λ (i : Has (imports_of graph next) m). within next m i) (a.from_work m h);
        reached = λ m e. ⊎_elim (λ (s : is_seen seen m ≡ true). r.reached m s) (λ (b : Has (imports_of graph next) m × Has later m). from_next m b.0) (a.from_seen m e);
        work_reached = λ m h.
            ⊎_elim (λ (l : Has rest m). r.work_reached m (has_left rest (next ∷ []) m l)) (λ (i : Has (imports_of graph next) m). inr (from_next m i)) (a.from_work m h);
        closed = λ m either.
            ⊎_elim
            (λ (e : m ≡ start). still_closed m (inl e))
            (λ (s : is_seen now m ≡ true).
            ⊎_elim (λ (o : is_seen seen m ≡ true). still_closed m (inr o)) (λ (b : Has (imports_of graph next) m × Has later m). inl b.1) (a.from_seen m s))
            either;
      }

      pub reaching_fewer : unseen now + length later < unseen seen + length (rest ++ next ∷ [])
      reaching_fewer = let more = length-append rest (next ∷ []) in omega (arith, more, a.fewer)

  module _ (seen : List Bool) (r : IsReaching graph start seen []) where
    all_seen : (m x : ℕ) → (m ≡ start) ⊎ (is_seen seen m ≡ true) → Has (imports_of graph m) x → is_seen seen x ≡ true
    all_seen m x either h = ⊎_elim (λ (none : ⊥). absurd none) (λ (all : (y : ℕ) → Has (imports_of graph m) y → is_seen seen y ≡ true). all x h) (r.closed m either)

    reached_seen : (m x : ℕ) → Reaches graph m x → (m ≡ start) ⊎ (is_seen seen m ≡ true) → is_seen seen x ≡ true
    reached_seen _ _ (by_one m x h) either = all_seen m x either h
    reached_seen _ _ (by_more m y x h leads) either = reached_seen y x leads (inr (all_seen m y either h))

    pub reaches_itself : (is_seen seen start ≡ true → Reaches graph start start) × (Reaches graph start start → is_seen seen start ≡ true)
    reaches_itself = (r.reached start, λ cycle. reached_seen start start cycle (inl refl))

-- what is left of a slice that was written, with the room behind it
pub written : (old now : List Bool) (n : ℕ) → n ≡ length old → length now ≡ length old → take n (now ++ drop (length now) old) ≡ now
written old now n long same = take_at now (drop (length now) old) n (same ∙ sym long)
