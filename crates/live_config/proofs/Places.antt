-- What a search for a number finds among entries whose numbers rise.
use Rattle.std.proofs.Common.{arith, leb, ◌≡◌, ℕ, suc, zero, ◌<◌, ◌≤◌, true, List, [], ◌∷◌, length, get_or, set, filter, not, ◌==◌, ap, ◌∙◌, Some, None, Result, Ok, Err, IfOk, IfErr, sym}
use Rattle.std.specs.Ordering.{nat_cmp, ordering_index}
use Rattle.std.specs.FinMap.{find, put, is_sorted}
use Rattle.std.specs.List.{insert, remove}
use Rattle.std.specs.List.Sorted.{IsSearchInRange, IsBinarySearchResult, IsNonDecreasingBy, IsPartitionedBy}
use Rattle.std.proofs.lemmas.Cmp.{ranked}
use Rattle.std.proofs.lemmas.List.Sorted.{IsPartitionedBy-leb}
use Rattle.std.proofs.lemmas.Bool.Decides.{nat_tests}
use Rattle.live_config.specs.declared.cell.Cell.{Cell}
use Rattle.live_config.specs.Live.{IsPlaceOf, IsGapFor}
use Rattle.live_config.proofs.Entries.{above, both, place-find, gap-find, set-put, insert-put, remove-without, gap-without, put-rises, without-rises}

module _ {X : Type 0} where
  -- a later entry has a greater number
  later : (es : List (ℕ × X)) → is_sorted nat_cmp es ≡ true → (i j : ℕ) (d : ℕ × X) → i < j → j < length es → (get_or es i d).0 < (get_or es j d).0
  later [] rising i j d lt within = absurd (omega (arith, within))
  later (e ∷ es) rising zero zero d lt within = absurd (omega (arith, lt))
  later (e ∷ es) rising zero (suc j) d lt within = above e.0 es (both _ _ rising).0 j d (omega (arith, within))
  later (e ∷ es) rising (suc i) zero d lt within = absurd (omega (arith, lt))
  later (e ∷ es) rising (suc i) (suc j) d lt within = later es (both _ _ rising).1 i j d (omega (arith, lt)) (omega (arith, within))

  -- the comparisons with a number rise, as a binary search asks
  comparisons_rise : (es : List (ℕ × X)) (n : ℕ) → is_sorted nat_cmp es ≡ true → IsNonDecreasingBy (λ e. ordering_index (nat_cmp e.0 n)) es
  comparisons_rise es n rising i j d le within =
      let rise : (get_or es i d).0 ≤ (get_or es j d).0 = grind (arith, later es rising i j d, λ (same : i ≡ j). ap (λ k. (get_or es k d).0) same) in
      grind (arith, nat_tests)

  -- as a search for the first greater number asks
  pub numbers_parted : (es : List (ℕ × X)) (n : ℕ) → is_sorted nat_cmp es ≡ true → IsPartitionedBy (λ e. leb e.0 n) es
  numbers_parted es n rising = IsPartitionedBy-leb (λ e. e.0) es n (λ i j d le within. grind (arith, later es rising i j d, λ (same : i ≡ j). ap (λ k. (get_or es k d).0) same))

pub searched : (es : List (ℕ × Cell)) (n : ℕ) (r : Result ℕ ℕ) → is_sorted nat_cmp es ≡ true → IsSearchInRange r (length es) → IsBinarySearchResult (λ e. nat_cmp e.0 n) es r → IfOk r (IsPlaceOf es n) × IfErr r (IsGapFor es n)
searched es n (Ok at) rising within equal = (record { within = within; number = λ d. ranked _ n _ (sym (equal d)) }, tt)
searched es n (Err at) rising within parted =
    let parts = parted (comparisons_rise es n rising) in
    (tt, record { within = within; parted = ((λ k d le lt. ranked _ n _ (sym (parts.0 k d le lt))), (λ k d le lt. ranked _ n _ (sym (parts.1 k d le lt)))) })

-- ---- at the place of a number, and at the gap for it

module _ (es fs : List (ℕ × Cell)) (same : es ≡ fs) (n at : ℕ) (rising : is_sorted nat_cmp fs ≡ true) where
  pub place_find : IsPlaceOf fs n at → (d : ℕ × Cell) → d ≡ get_or es at d → Some d.1 ≡ find nat_cmp n fs
  place_find place d read = ap (λ e. Some e.1) read ∙ ap (λ l. Some (get_or l at d).1) same ∙ sym (place-find fs n at d rising place.within place.number)

  pub gap_find : IsGapFor fs n at → None ≡ find nat_cmp n fs
  gap_find gap = sym (gap-find fs n at gap.parted)

  pub place_set : IsPlaceOf fs n at → (m : ℕ) (x y : Cell) → m ≡ n → x ≡ y → set es at (m, x) ≡ put nat_cmp n y fs
  place_set place m x y number cell = ap (λ l. set l at (m, x)) same ∙ (λ i. set fs at (number i, cell i)) ∙ set-put fs n at y rising place.within place.number

  pub gap_insert : IsGapFor fs n at → (y : Cell) → insert es at (n, y) ≡ put nat_cmp n y fs
  gap_insert gap y = ap (λ l. insert l at (n, y)) same ∙ insert-put fs n at y gap.within gap.parted

  pub place_remove : IsPlaceOf fs n at → remove es at ≡ filter (λ e. not (e.0 == n)) fs
  place_remove place = ap (λ l. remove l at) same ∙ remove-without fs n at rising place.within place.number

  pub gap_remove : IsGapFor fs n at → es ≡ filter (λ e. not (e.0 == n)) fs
  gap_remove gap = same ∙ sym (gap-without fs n at gap.parted)

  -- the number of the entry that stands there
  pub place_number : IsPlaceOf fs n at → (d : ℕ × Cell) → d ≡ get_or es at d → d.0 ≡ n
  place_number place d read = ap (λ e. e.0) (read ∙ ap (λ l. get_or l at d) same) ∙ place.number d

  pub set_rises : IsPlaceOf fs n at → (m : ℕ) (x y : Cell) → m ≡ n → x ≡ y → is_sorted nat_cmp (set es at (m, x)) ≡ true
  set_rises place m x y number cell = ap (λ l. is_sorted nat_cmp l) (place_set place m x y number cell) ∙ put-rises n y fs rising

  pub insert_rises : IsGapFor fs n at → (y : Cell) → is_sorted nat_cmp (insert es at (n, y)) ≡ true
  insert_rises gap y = ap (λ l. is_sorted nat_cmp l) (gap_insert gap y) ∙ put-rises n y fs rising

  pub remove_rises : IsPlaceOf fs n at → is_sorted nat_cmp (remove es at) ≡ true
  remove_rises place = ap (λ l. is_sorted nat_cmp l) (place_remove place) ∙ without-rises n fs rising
