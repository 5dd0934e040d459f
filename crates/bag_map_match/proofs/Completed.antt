-- The substitution that gives each bound variable its value, and each other one some cells.
use Rattle.std.proofs.Common.{arith, ◌≡◌, ℕ, zero, suc, ◌+◌, List, [], ◌∷◌, length, refl, sym, ap, subst, ◌∙◌}
use Rattle.std.specs.Prelude.{Option, Some, None, slice_get}
use Rattle.std.specs.Option.{option_and_then}
use Rattle.k_terms.specs.declared.value.Value.{Value}
use Rattle.k_terms.specs.Sorts.{SortOrder, Below, least_sort, sort_bag}
use Rattle.rule_terms.specs.declared.plain.Plain.{Plain}
use Rattle.rule_terms.specs.Substitution.{Bound, Whole, Bag, Subst, value_at, AreOfSorts}
use Rattle.leaf_match.specs.Bindings.{Partial}

-- the variables from a number on
abbrev pub completed : (ℕ → List Plain) → ℕ → Partial → Subst
completed bag x [] = []
completed bag x (None ∷ p) = Bag (bag x) ∷ completed bag (suc x) p
completed bag x (Some v ∷ p) = Whole v ∷ completed bag (suc x) p

pub value_completed : (bag : ℕ → List Plain) (from : ℕ) (p : Partial) (x : ℕ) → value_at (completed bag from p) x ≡ option_and_then (λ known. known) (slice_get p x)
value_completed bag from [] x = refl
value_completed bag from (None ∷ p) zero = refl
value_completed bag from (Some v ∷ p) zero = refl
value_completed bag from (None ∷ p) (suc x) = value_completed bag (suc from) p x
value_completed bag from (Some v ∷ p) (suc x) = value_completed bag (suc from) p x

next_is : (from x : ℕ) → suc from + x ≡ from + suc x
next_is from x = omega arith

pub cells_completed : (bag : ℕ → List Plain) (from : ℕ) (p : Partial) (x : ℕ) → slice_get p x ≡ Some None → slice_get (completed bag from p) x ≡ Some (Bag (bag (from + x)))
cells_completed bag from [] x e = absurd (let no : None ≡ Some None = e in cc)
cells_completed bag from (None ∷ p) zero e = ap (λ n. Some (Bag (bag n))) (let same : from ≡ from + 0 = omega arith in same)
cells_completed bag from (Some v ∷ p) zero e = absurd (let no : Some (Some v) ≡ Some None = e in cc)
cells_completed bag from (None ∷ p) (suc x) e = cells_completed bag (suc from) p x e ∙ ap (λ n. Some (Bag (bag n))) (next_is from x)
cells_completed bag from (Some v ∷ p) (suc x) e = cells_completed bag (suc from) p x e ∙ ap (λ n. Some (Bag (bag n))) (next_is from x)

pub sorts_completed : (o : SortOrder) (bag : ℕ → List Plain) (from : ℕ) (vars : List ℕ) (p : Partial) → length p ≡ length vars
    → ((x : ℕ) (v : Value) (sort : ℕ) → slice_get p x ≡ Some (Some v) → slice_get vars x ≡ Some sort → Below o (least_sort o v) sort)
    → ((x sort : ℕ) → slice_get p x ≡ Some None → slice_get vars x ≡ Some sort → sort ≡ sort_bag)
    → AreOfSorts o vars (completed bag from p)
sorts_completed o bag from [] [] count values cells = tt
sorts_completed o bag from [] (known ∷ p) count values cells = absurd (let no : suc (length p) ≡ 0 = count in omega (arith, no))
sorts_completed o bag from (sort ∷ vars) [] count values cells = absurd (let no : 0 ≡ suc (length vars) = count in omega (arith, no))
sorts_completed o bag from (sort ∷ vars) (None ∷ p) count values cells = (
  cells 0 sort refl refl,
  sorts_completed o bag (suc from) vars p (let e : suc (length p) ≡ suc (length vars) = count in omega (arith, e)) (λ x v other at its. values (suc x) v other at its) (λ x other at its. cells (suc x) other at its),
)
sorts_completed o bag from (sort ∷ vars) (Some v ∷ p) count values cells = (
  values 0 v sort refl refl,
  sorts_completed o bag (suc from) vars p (let e : suc (length p) ≡ suc (length vars) = count in omega (arith, e)) (λ x w other at its. values (suc x) w other at its) (λ x other at its. cells (suc x) other at its),
)
