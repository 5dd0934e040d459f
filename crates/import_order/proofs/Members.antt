-- Members of lists of numbers.
use Rattle.std.proofs.Common.{arith, inl, inr, ⊎_elim, ◌⊎◌, ◌≡◌, ◌≢◌, ℕ, suc, zero, ◌<◌, List, [], ◌∷◌, ◌++◌, length, get_or, refl, sym, subst}
use Rattle.std.proofs.lemmas.Bool.Decides.{eqb_tells}
use Rattle.import_order.specs.Imports.{Has}
use Rattle.import_order.specs.Walking.{AreApart}

pub has_left : (xs ys : List ℕ) (x : ℕ) → Has xs x → Has (xs ++ ys) x
has_left [] ys x h = absurd h
has_left (z ∷ xs) ys x (inl e) = inl e
has_left (z ∷ xs) ys x (inr h) = inr (has_left xs ys x h)

pub has_right : (xs ys : List ℕ) (x : ℕ) → Has ys x → Has (xs ++ ys) x
has_right [] ys x h = h
has_right (z ∷ xs) ys x h = inr (has_right xs ys x h)

pub has_either : (xs ys : List ℕ) (x : ℕ) → Has (xs ++ ys) x → Has xs x ⊎ Has ys x
has_either [] ys x h = inr h
has_either (z ∷ xs) ys x (inl e) = inl (inl e)
has_either (z ∷ xs) ys x (inr h) = ⊎_elim (λ l. inl (inr l)) (λ r. inr r) (has_either xs ys x h)

pub has_last : (xs : List ℕ) (x : ℕ) → Has (xs ++ x ∷ []) x
has_last xs x = has_right xs (x ∷ []) x (inl refl)

pub has_push : (xs : List ℕ) (y x : ℕ) → Has (xs ++ y ∷ []) x → Has xs x ⊎ (y ≡ x)
has_push xs y x h = ⊎_elim (λ l. inl l) (λ r. elim r as (λ _. Has xs x ⊎ (y ≡ x)) [ inl e ↦ inr e | inr none ↦ absurd none ]) (has_either xs (y ∷ []) x h)

pub has_at : (xs : List ℕ) (k d : ℕ) → k < length xs → Has xs (get_or xs k d)
has_at [] k d l = absurd (omega (arith, l))
has_at (y ∷ ys) zero d l = inl refl
has_at (y ∷ ys) (suc k) d l = inr (has_at ys k d (omega (arith, l)))

pub has_place : (xs : List ℕ) (x : ℕ) → Has xs x → (k : ℕ) × (k < length xs) × (get_or xs k 0 ≡ x)
has_place [] x h = absurd h
has_place (y ∷ ys) x (inl e) = (0, omega arith, e)
has_place (y ∷ ys) x (inr h) = let p = has_place ys x h in (suc p.0, let l = p.1 in omega (arith, l), p.2)

pub has_same : (xs : List ℕ) (x y : ℕ) → x ≡ y → Has xs x → Has xs y
has_same xs x y e h = subst (Has xs) e h

-- numbers are one or not
pub same_or_not : (x y : ℕ) → (x ≡ y) ⊎ (x ≢ y)
same_or_not x y = ⊎_elim (λ s. inl s.1) (λ s. inr s.1) (eqb_tells x y)

-- no number stands twice, so what stands in the middle stands at neither side
pub apart_around : (front back : List ℕ) (x : ℕ) → AreApart (front ++ x ∷ back) → Has (front ++ back) x → ⊥
apart_around [] back x apart h = apart.0 h
apart_around (y ∷ front) back x apart (inl e) = apart.0 (has_right front (x ∷ back) y (inl (sym e)))
apart_around (y ∷ front) back x apart (inr h) = apart_around front back x apart.1 h
