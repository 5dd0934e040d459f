-- Rows that mark nullable sorts.
use Rattle.std.proofs.Common.{arith, inl, inr, ◌⊎◌, ◌≡◌, ℕ, suc, zero, ◌+◌, ◌<◌, ◌==◌, Bool, true, false, not, cond, ◌&&◌, ◌||◌, List, [], ◌∷◌, ◌++◌, length, get_or, set, drop, refl, sym, ap, subst, ◌∙◌, get_or-set_other, drop-cons, add-one}
use Rattle.std.proofs.lemmas.Bool.{and_parts, not-true, cases_eq, eqb-true, eq-eqb, false≢true}
use Rattle.k_terms.specs.SortTable.{unmarked}
use Rattle.grammar_terms.specs.Grammar.{Syntax, is_list}
use Rattle.grammar_terms.specs.declared.production.Part.{Part}
use Rattle.grammar_terms.specs.declared.production.Part.TheVariants.{Terminal, Sort}
use Rattle.sorted_grammar.specs.Leading.{Nullable, AreNullable, by_list, by_items, kitem_by, k_by, no_items, more_items}
use Rattle.sorted_grammar.specs.Marks.{marked, blocks, blocking, IsFired, IsSound, IsClosed, IsNullableRow}

pub blocking_append : (row : List Bool) (xs ys : List Part) → blocking row (xs ++ ys) ≡ blocking row xs + blocking row ys
blocking_append row [] ys = omega arith
blocking_append row (x ∷ xs) ys = let rest = blocking_append row xs ys in omega (arith, rest)

pub blocking_left : (row : List Bool) (items : List Part) (i : ℕ) (item : Part) → i < length items → item ≡ get_or items i item
    → blocking row (drop i items) ≡ blocks row item + blocking row (drop (i + 1) items)
blocking_left row items i item within is =
    ap (blocking row) (drop-cons items i item within) ∙ (λ j. blocks row (sym is j) + blocking row (drop (sym (add-one i) j) items))

pub unblocked : (row : List Bool) (sort : ℕ) → blocks row (Sort sort) ≡ 0 → marked row sort ≡ true
unblocked row sort is = elim (marked row sort) as (λ b. ◌≡◌ {A = ℕ} (cond b 0 1) 0 → b ≡ true) [ true ↦ λ _. refl | false ↦ λ e. absurd (omega (arith, e)) ] is

pub unblocks : (row : List Bool) (sort : ℕ) → marked row sort ≡ true → blocks row (Sort sort) ≡ 0
unblocks row sort is = ap (λ b. cond b 0 1) is

module _ (g : Syntax) (row : List Bool) where
  pub marked_nullable : IsSound g row → (items : List Part) → blocking row items ≡ 0 → AreNullable g items
  marked_nullable sound [] none = no_items
  marked_nullable sound (Terminal text ∷ items) none = absurd (omega (arith, none))
  marked_nullable sound (Sort sort ∷ items) none =
      more_items sort items (sound sort (unblocked row sort (omega (arith, none)))) (marked_nullable sound items (omega (arith, none)))

  either_of : (a b : Bool) → (a || b) ≡ true → (a ≡ true) ⊎ (b ≡ true)
  either_of true b e = inl refl
  either_of false b e = inr e

  -- a sort that a production makes nullable, by those that are marked
  pub fired_nullable : IsSound g row → (sort : ℕ) → IsFired g.prods row sort → Nullable g sort
  fired_nullable sound sort f =
      let parts = and_parts (not (marked row f.production.sort)) (is_list f.production.form || blocking row f.production.items == 0) f.fires in
      subst (Nullable g) (sym f.is)
      (elim (either_of (is_list f.production.form) (blocking row f.production.items == 0) parts.1) [
        | inl list ↦ by_list f.production f.has list
        | inr none ↦ by_items f.production f.has (marked_nullable sound f.production.items (eqb-true _ _ none))
      ])

  pub fired_unmarked : (sort : ℕ) → IsFired g.prods row sort → marked row sort ≡ false
  fired_unmarked sort f =
      ap (marked row) f.is
      ∙ not-true _ (and_parts (not (marked row f.production.sort)) (is_list f.production.form || blocking row f.production.items == 0) f.fires).0

  module _ (closed : IsClosed g row) where
    unfired : (a b : Bool) → (not a && b) ≡ false → b ≡ true → a ≡ true
    unfired true b e is = refl
    unfired false b e is = absurd (false≢true (sym e ∙ is))

    right_or : (a b : Bool) → b ≡ true → (a || b) ≡ true
    right_or true b is = refl
    right_or false b is = is

    mutual
      pub nullable_marked : (sort : ℕ) → Nullable g sort → marked row sort ≡ true
      nullable_marked _ (by_list production has list) =
          unfired (marked row production.sort) (is_list production.form || blocking row production.items == 0) (closed.none production has)
          (ap (λ b. b || blocking row production.items == 0) list)
      nullable_marked _ (by_items production has all) =
          unfired (marked row production.sort) (is_list production.form || blocking row production.items == 0) (closed.none production has)
          (right_or (is_list production.form) (blocking row production.items == 0) (eq-eqb _ _ (all_marked production.items all)))
      nullable_marked _ (kitem_by sort declared n) = closed.kitem (record { sort = sort; declared = declared; is = nullable_marked sort n })
      nullable_marked _ (k_by sort declared n) = closed.k (record { sort = sort; declared = declared; is = nullable_marked sort n })

      pub all_marked : (items : List Part) → AreNullable g items → blocking row items ≡ 0
      all_marked _ no_items = refl
      all_marked _ (more_items sort items n all) =
          let here = unblocks row sort (nullable_marked sort n) in
          let rest = all_marked items all in
          omega (arith, here, rest)

  pub sound_set : (high : ℕ) → high < length row → IsSound g row → Nullable g high → IsSound g (set row high true)
  sound_set high within sound n sort is = elim (cases_eq sort high) [
    | inl same ↦ subst (Nullable g) (sym same) n
    | inr other ↦ sound sort (sym (get_or-set_other row high sort true false other) ∙ is)
  ]

pub row_blocking : (g : Syntax) (row : List Bool) → IsNullableRow g row → (items : List Part) → AreNullable g items → blocking row items ≡ 0
row_blocking g row is _ no_items = refl
row_blocking g row is _ (more_items sort items n all) =
    let here = unblocks row sort ((is.decides sort).1 n) in
    let rest = row_blocking g row is items all in
    omega (arith, here, rest)

pub unmarked_set : (row : List Bool) (i : ℕ) → i < length row → marked row i ≡ false → unmarked (set row i true) < unmarked row
unmarked_set [] i within is = absurd (omega (arith, within))
unmarked_set (true ∷ row) zero within is = absurd (cc)
unmarked_set (false ∷ row) zero within is = omega arith
unmarked_set (true ∷ row) (suc i) within is = unmarked_set row i (omega (arith, within)) is
unmarked_set (false ∷ row) (suc i) within is = let rest = unmarked_set row i (omega (arith, within)) is in omega (arith, rest)
