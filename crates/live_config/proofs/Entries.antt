-- Lists of entries whose numbers rise, at a place that a search found.
use Rattle.std.proofs.Common.{arith, inl, inr, ◌≡◌, ℕ, suc, zero, ◌+◌, ◌<◌, ◌≤◌, Bool, true, false, not, ◌==◌, leb, ◌&&◌, List, [], ◌∷◌, length, get_or, set, drop, filter, refl, sym, ap, subst, ◌∙◌, T}
use Rattle.std.specs.Prelude.{Some, None, nat_lt}
use Rattle.std.specs.declared.cmp.Ordering.{Ordering}
use Rattle.std.specs.declared.cmp.Ordering.TheVariants.{Less, Equal, Greater}
use Rattle.std.specs.Ordering.{nat_cmp, is_lt}
use Rattle.std.specs.FinMap.{find, put, is_sorted}
use Rattle.std.specs.FinMap.Entries.{below_all, is_sorted-put, is_sorted-where_key}
use Rattle.std.specs.Cmp.{nat_cmp_is}
use Rattle.std.proofs.lemmas.Cmp.{ranked, nat_cmp_total}
use Rattle.std.proofs.lemmas.Bool.{eq-eqb, cases_lt, lt-ltb, le-ltb, leb-true, leb-false}
use Rattle.std.proofs.lemmas.Bool.Decides.{eqb_tells}
use Rattle.std.specs.List.{insert, remove, HoldsAt}
use Rattle.std.specs.List.Sorted.{IsPartitionPoint}

less : (n m : ℕ) → n < m → nat_cmp n m ≡ Less
less n m lt = sym (nat_cmp_is n m Less lt)

tied : (n m : ℕ) → n ≡ m → nat_cmp n m ≡ Equal
tied n m e = sym (nat_cmp_is n m Equal e)

greater : (n m : ℕ) → m < n → nat_cmp n m ≡ Greater
greater n m lt = sym (nat_cmp_is n m Greater lt)

is_less : (o : Ordering) → is_lt o ≡ true → o ≡ Less
is_less Less e = refl
is_less Equal e = cc
is_less Greater e = cc

below : (n m : ℕ) → is_lt (nat_cmp n m) ≡ true → n < m
below n m e = ranked n m Less (sym (is_less (nat_cmp n m) e))

same : (n m : ℕ) → n ≡ m → (n == m) ≡ true
same n m e = eq-eqb n m e

other : (n m : ℕ) → ((n ≡ m) → ⊥) → (n == m) ≡ false
other n m differs = elim (eqb_tells n m) [ inl p ↦ absurd (differs p.1) | inr p ↦ p.0 ]

pub both : (a b : Bool) → (a && b) ≡ true → (a ≡ true) × (b ≡ true)
both true b e = (refl, e)
both false b e = cc

module _ {X : Type 0} where
  -- the numbers after one are greater
  pub above : (n : ℕ) (es : List (ℕ × X)) → below_all nat_cmp n es ≡ true → (at : ℕ) (d : ℕ × X) → at < length es → n < (get_or es at d).0
  above n [] rising at d within = absurd (omega (arith, within))
  above n (e ∷ es) rising zero d within = below n e.0 (both _ _ rising).0
  above n (e ∷ es) rising (suc at) d within = above n es (both _ _ rising).1 at d (omega (arith, within))

  -- an entry in a gap is put there
  pub insert-put : (es : List (ℕ × X)) (n at : ℕ) (x : X) → at ≤ length es → IsPartitionPoint (λ e. e.0 < n) (λ e. n < e.0) es at → insert es at (n, x) ≡ put nat_cmp n x es
  insert-put [] n zero x within parted = refl
  insert-put [] n (suc at) x within parted = absurd (omega (arith, within))
  insert-put (e ∷ es) n zero x within parted = rw (less n e.0 (parted.1 0 e (omega arith) (omega arith))) refl
  insert-put (e ∷ es) n (suc at) x within parted =
      rw (greater n e.0 (parted.0 0 e (omega arith) (omega arith)))
      (ap (λ rest. e ∷ rest) (insert-put es n at x (omega (arith, within)) ((λ k d le lt. parted.0 (suc k) d (omega arith) (omega arith)), (λ k d le lt. parted.1 (suc k) d (omega arith) (omega arith)))))

  -- an entry at the place of its number is put there
  pub set-put : (es : List (ℕ × X)) (n at : ℕ) (x : X) → is_sorted nat_cmp es ≡ true → at < length es → HoldsAt (λ e. e.0 ≡ n) es at → set es at (n, x) ≡ put nat_cmp n x es
  set-put [] n at x rising within here = absurd (omega (arith, within))
  set-put (e ∷ es) n zero x rising within here = rw (tied n e.0 (sym (here e))) (ap (λ k. (k, x) ∷ es) (sym (here e)))
  set-put (e ∷ es) n (suc at) x rising within here =
      let lower : e.0 < n = subst (λ m. e.0 < m) (here e) (above e.0 es (both _ _ rising).0 at e (omega (arith, within))) in
      rw (greater n e.0 lower) (ap (λ rest. e ∷ rest) (set-put es n at x (both _ _ rising).1 (omega (arith, within)) (λ d. here d)))

  -- none of these has the number
  none_dropped : (n : ℕ) (es : List (ℕ × X)) → ((at : ℕ) (d : ℕ × X) → at < length es → ((get_or es at d).0 ≡ n) → ⊥) → filter (λ e. not (e.0 == n)) es ≡ es
  none_dropped n [] differ = refl
  none_dropped n (e ∷ es) differ = rw (other e.0 n (differ 0 e (omega arith))) (ap (λ rest. e ∷ rest) (none_dropped n es (λ at d lt. differ (suc at) d (omega (arith, lt)))))

  pub gap-without : (es : List (ℕ × X)) (n at : ℕ) → IsPartitionPoint (λ e. e.0 < n) (λ e. n < e.0) es at → filter (λ e. not (e.0 == n)) es ≡ es
  gap-without es n at parted = none_dropped n es (λ k d lt e. elim (cases_lt k at) [
    | inl low ↦ let p = parted.0 k d (omega arith) low in omega (arith, p, e)
    | inr high ↦ let p = parted.1 k d high lt in omega (arith, p, e)
  ])

  pub remove-without : (es : List (ℕ × X)) (n at : ℕ) → is_sorted nat_cmp es ≡ true → at < length es → HoldsAt (λ e. e.0 ≡ n) es at → remove es at ≡ filter (λ e. not (e.0 == n)) es
  remove-without [] n at rising within here = absurd (omega (arith, within))
  remove-without (e ∷ es) n zero rising within here =
      rw (same e.0 n (here e)) (sym (none_dropped n es (λ at d lt s. let p = above e.0 es (both _ _ rising).0 at d lt in let h = here e in omega (arith, p, h, s))))
  remove-without (e ∷ es) n (suc at) rising within here =
      let lower : e.0 < n = subst (λ m. e.0 < m) (here e) (above e.0 es (both _ _ rising).0 at e (omega (arith, within))) in
      rw (other e.0 n (λ s. omega (arith, s, lower))) (ap (λ rest. e ∷ rest) (remove-without es n at (both _ _ rising).1 (omega (arith, within)) (λ d. here d)))

  -- what is found
  pub gap-find : (es : List (ℕ × X)) (n at : ℕ) → IsPartitionPoint (λ e. e.0 < n) (λ e. n < e.0) es at → find nat_cmp n es ≡ None
  gap-find [] n at parted = refl
  gap-find (e ∷ es) n zero parted = rw (less n e.0 (parted.1 0 e (omega arith) (omega arith))) (gap-find es n 0 ((λ k d le lt. absurd (omega (arith, lt))), (λ k d le lt. parted.1 (suc k) d (omega arith) (omega (arith, lt)))))
  gap-find (e ∷ es) n (suc at) parted = rw (greater n e.0 (parted.0 0 e (omega arith) (omega arith))) (gap-find es n at ((λ k d le lt. parted.0 (suc k) d (omega arith) (omega (arith, lt))), (λ k d le lt. parted.1 (suc k) d (omega (arith, le)) (omega (arith, lt)))))

  pub place-find : (es : List (ℕ × X)) (n at : ℕ) (d : ℕ × X) → is_sorted nat_cmp es ≡ true → at < length es → HoldsAt (λ e. e.0 ≡ n) es at → find nat_cmp n es ≡ Some (get_or es at d).1
  place-find [] n at d rising within here = absurd (omega (arith, within))
  place-find (e ∷ es) n zero d rising within here = rw (tied n e.0 (sym (here e))) refl
  place-find (e ∷ es) n (suc at) d rising within here =
      let lower : e.0 < n = subst (λ m. e.0 < m) (here e) (above e.0 es (both _ _ rising).0 at e (omega (arith, within))) in
      rw (greater n e.0 lower) (place-find es n at d (both _ _ rising).1 (omega (arith, within)) (λ f. here f))

  drop_nil : (n : ℕ) (es : List (ℕ × X)) → es ≡ [] → drop n es ≡ es
  drop_nil zero es none = refl
  drop_nil (suc n) [] none = refl
  drop_nil (suc n) (e ∷ es) none = absurd (let l : length (e ∷ es) ≡ 0 = ap length none in omega (arith, l))

  -- what stands past a number
  all_past : (n : ℕ) (es : List (ℕ × X)) → ((at : ℕ) (d : ℕ × X) → at < length es → n < (get_or es at d).0) → filter (λ e. nat_lt n e.0) es ≡ es
  all_past n [] past = refl
  all_past n (e ∷ es) past = rw (lt-ltb n e.0 (past 0 e (omega arith))) (ap (λ rest. e ∷ rest) (all_past n es (λ at d lt. past (suc at) d (omega arith))))

  pub parted-drop : (es : List (ℕ × X)) (n at : ℕ) → IsPartitionPoint (λ e. leb e.0 n ≡ true) (λ e. leb e.0 n ≡ false) es at → drop at es ≡ filter (λ e. nat_lt n e.0) es
  parted-drop [] n at parted = drop_nil at [] refl
  parted-drop (e ∷ es) n zero parted = sym (all_past n (e ∷ es) (λ k d lt. leb-false _ _ (parted.1 k d (omega arith) lt)))
  parted-drop (e ∷ es) n (suc at) parted =
      rw (le-ltb n e.0 (leb-true _ _ (parted.0 0 e (omega arith) (omega arith))))
      (parted-drop es n at ((λ k d le lt. parted.0 (suc k) d (omega arith) (omega (arith, lt))), (λ k d le lt. parted.1 (suc k) d (omega (arith, le)) (omega (arith, lt)))))

to_true : (b : Bool) → T b → b ≡ true
to_true true p = refl
to_true false p = absurd p

from_true : (b : Bool) → b ≡ true → T b
from_true b e = subst T (sym e) tt

module _ {X : Type 0} where
  pub put-rises : (n : ℕ) (x : X) (es : List (ℕ × X)) → is_sorted nat_cmp es ≡ true → is_sorted nat_cmp (put nat_cmp n x es) ≡ true
  put-rises n x es rising = to_true _ (is_sorted-put nat_cmp nat_cmp_total n x es (from_true _ rising))

  pub without-rises : (n : ℕ) (es : List (ℕ × X)) → is_sorted nat_cmp es ≡ true → is_sorted nat_cmp (filter (λ e. not (e.0 == n)) es) ≡ true
  without-rises n es rising = to_true _ (is_sorted-where_key nat_cmp (λ k. not (k == n)) es (from_true _ rising))

-- ---- going through a list from a place on

module _ {X : Type 0} (test : X → Bool) where
  pub filter_passed : (xs : List X) (i : ℕ) (x : X) → i < length xs → x ≡ get_or xs i x → test x ≡ true → (rest : List X) × (filter test (drop i xs) ≡ x ∷ rest)
  filter_passed [] i x within here passed = absurd (omega (arith, within))
  filter_passed (y ∷ xs) zero x within here passed = (filter test xs, rw (← here, passed) refl)
  filter_passed (y ∷ xs) (suc i) x within here passed = filter_passed xs i x (omega (arith, within)) here passed

  pub filter_failed : (xs : List X) (i : ℕ) (x : X) → i < length xs → x ≡ get_or xs i x → test x ≡ false → filter test (drop i xs) ≡ filter test (drop (i + 1) xs)
  filter_failed [] i x within here failed = absurd (omega (arith, within))
  filter_failed (y ∷ xs) zero x within here failed = rw (← here, failed) refl
  filter_failed (y ∷ xs) (suc i) x within here failed = filter_failed xs i x (omega (arith, within)) here failed ∙ ap (λ k. filter test (drop k (y ∷ xs))) {x = suc (i + 1)} {y = suc i + 1} (omega arith)

  pub filter_ended : (xs : List X) (i : ℕ) → length xs ≤ i → filter test (drop i xs) ≡ []
  filter_ended [] zero past = refl
  filter_ended [] (suc i) past = refl
  filter_ended (y ∷ xs) zero past = absurd (omega (arith, past))
  filter_ended (y ∷ xs) (suc i) past = filter_ended xs i (omega (arith, past))

pub all_kept : {X : Type 0} (xs : List X) → filter (λ x. true) xs ≡ xs
all_kept [] = refl
all_kept (x ∷ xs) = ap (λ rest. x ∷ rest) (all_kept xs)
