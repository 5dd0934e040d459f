-- What keeping each number at its first place alone does.
use Rattle.std.proofs.Common.{inl, inr, ⊎_elim, ◌⊎◌, ◌≡◌, ◌≢◌, ℕ, cond, List, [], ◌∷◌, ◌++◌, refl, sym, ap, subst, ◌∙◌, append-nil}
use Rattle.std.proofs.lemmas.Bool.{eq-eqb, ne_eqb}
use Rattle.import_order.specs.Imports.{Has}
use Rattle.import_order.specs.Order.{without, firsts}
use Rattle.import_order.specs.Walking.{AreApart}
use Rattle.import_order.proofs.Members.{same_or_not}

pub without_same : (x y : ℕ) (ys : List ℕ) → y ≡ x → without x (y ∷ ys) ≡ without x ys
without_same x y ys e = ap (λ b. cond b (without x ys) (y ∷ without x ys)) (eq-eqb y x e)

pub without_other : (x y : ℕ) (ys : List ℕ) → y ≢ x → without x (y ∷ ys) ≡ y ∷ without x ys
without_other x y ys e = ap (λ b. cond b (without x ys) (y ∷ without x ys)) (ne_eqb y x e)

pub without-append : (x : ℕ) (xs ys : List ℕ) → without x (xs ++ ys) ≡ without x xs ++ without x ys
without-append x [] ys = refl
without-append x (z ∷ xs) ys =
    ⊎_elim
    (λ (e : z ≡ x). without_same x z (xs ++ ys) e ∙ without-append x xs ys ∙ ap (λ l. l ++ without x ys) (sym (without_same x z xs e)))
    (λ (e : z ≢ x). without_other x z (xs ++ ys) e ∙ ap (λ l. z ∷ l) (without-append x xs ys) ∙ ap (λ l. l ++ without x ys) (sym (without_other x z xs e)))
    (same_or_not z x)

-- none of the numbers other than x is x
pub without_has : (x y : ℕ) (xs : List ℕ) → Has (without x xs) y → Has xs y × (x ≢ y)
without_has x y [] h = absurd h
without_has x y (z ∷ xs) h =
    ⊎_elim
    (λ (e : z ≡ x). let found = without_has x y xs (subst (λ l. Has l y) (without_same x z xs e) h) in (inr found.0, found.1))
    (λ (e : z ≢ x).
    let both : (z ≡ y) ⊎ Has (without x xs) y = subst (λ l. Has l y) (without_other x z xs e) h in
    ⊎_elim
    (λ (s : z ≡ y). (inl s, λ (t : x ≡ y). e (s ∙ sym t)))
    (λ (r : Has (without x xs) y). let found = without_has x y xs r in (inr found.0, found.1))
    both)
    (same_or_not z x)

pub has_without : (x y : ℕ) (xs : List ℕ) → x ≢ y → Has xs y → Has (without x xs) y
has_without x y [] ne h = absurd h
has_without x y (z ∷ xs) ne h =
    ⊎_elim
    (λ (e : z ≡ x).
    subst (λ l. Has l y) (sym (without_same x z xs e))
    (⊎_elim (λ (s : z ≡ y). absurd (ne (sym e ∙ s))) (λ (r : Has xs y). has_without x y xs ne r) h))
    (λ (e : z ≢ x).
    let later : (z ≡ y) ⊎ Has (without x xs) y = ⊎_elim (λ (s : z ≡ y). inl s) (λ (r : Has xs y). inr (has_without x y xs ne r)) h in
    subst (λ l. Has l y) (sym (without_other x z xs e)) later)
    (same_or_not z x)

pub without_twice : (x : ℕ) (xs : List ℕ) → without x (without x xs) ≡ without x xs
without_twice x [] = refl
without_twice x (z ∷ xs) =
    ⊎_elim
    (λ (e : z ≡ x). ap (without x) (without_same x z xs e) ∙ without_twice x xs ∙ sym (without_same x z xs e))
    (λ (e : z ≢ x). ap (without x) (without_other x z xs e) ∙ without_other x z (without x xs) e ∙ ap (λ l. z ∷ l) (without_twice x xs) ∙ sym (without_other x z xs e))
    (same_or_not z x)

-- the order in which two numbers are left out does not matter
pub without_turned : (x y : ℕ) (xs : List ℕ) → without x (without y xs) ≡ without y (without x xs)
without_turned x y [] = refl
without_turned x y (z ∷ xs) =
    ⊎_elim
    (λ (e : z ≡ x).
    ⊎_elim
    (λ (f : z ≡ y). ap (without x) (without_same y z xs f) ∙ without_turned x y xs ∙ ap (without y) (sym (without_same x z xs e)))
    (λ (f : z ≢ y). ap (without x) (without_other y z xs f) ∙ without_same x z (without y xs) e ∙ without_turned x y xs ∙ ap (without y) (sym (without_same x z xs e)))
    (same_or_not z y))
    (λ (e : z ≢ x).
    ⊎_elim
    (λ (f : z ≡ y).
    ap (without x) (without_same y z xs f) ∙ without_turned x y xs ∙ sym (without_same y z (without x xs) f) ∙ ap (without y) (sym (without_other x z xs e)))
    (λ (f : z ≢ y).
    ap (without x) (without_other y z xs f) ∙ without_other x z (without y xs) e ∙ ap (λ l. z ∷ l) (without_turned x y xs) ∙ sym (without_other y z (without x xs) f)
    ∙ ap (without y) (sym (without_other x z xs e)))
    (same_or_not z y))
    (same_or_not z x)

pub without-firsts : (x : ℕ) (xs : List ℕ) → without x (firsts xs) ≡ firsts (without x xs)
without-firsts x [] = refl
without-firsts x (y ∷ ys) =
    ⊎_elim
    (λ (e : y ≡ x).
    without_same x y (without y (firsts ys)) e
    ∙ ap (λ k. without x (without k (firsts ys))) e
    ∙ without_twice x (firsts ys)
    ∙ without-firsts x ys
    ∙ ap firsts (sym (without_same x y ys e)))
    (λ (e : y ≢ x).
    without_other x y (without y (firsts ys)) e
    ∙ ap (λ l. y ∷ l) (without_turned x y (firsts ys) ∙ ap (without y) (without-firsts x ys))
    ∙ ap firsts (sym (without_other x y ys e)))
    (same_or_not y x)

-- what is left of the first list alone may be left of it before
pub firsts_left : (xs ys : List ℕ) → firsts (firsts xs ++ ys) ≡ firsts (xs ++ ys)
firsts_left [] ys = refl
firsts_left (x ∷ xs) ys =
    ap (λ l. x ∷ l)
    (without-firsts x (without x (firsts xs) ++ ys)
    ∙ ap firsts (without-append x (without x (firsts xs)) ys ∙ ap (λ l. l ++ without x ys) (without_twice x (firsts xs)) ∙ sym (without-append x (firsts xs) ys))
    ∙ sym (without-firsts x (firsts xs ++ ys))
    ∙ ap (without x) (firsts_left xs ys))

pub firsts_twice : (xs : List ℕ) → firsts (firsts xs) ≡ firsts xs
firsts_twice xs = ap firsts (sym (append-nil (firsts xs))) ∙ firsts_left xs [] ∙ ap firsts (append-nil xs)

pub firsts_right : (xs ys : List ℕ) → firsts (xs ++ firsts ys) ≡ firsts (xs ++ ys)
firsts_right [] ys = firsts_twice ys
firsts_right (x ∷ xs) ys = ap (λ l. x ∷ without x l) (firsts_right xs ys)

-- a number that stands before adds nothing
pub firsts_again : (xs ys : List ℕ) (x : ℕ) → Has xs x → firsts (xs ++ x ∷ ys) ≡ firsts (xs ++ ys)
firsts_again [] ys x h = absurd h
firsts_again (z ∷ xs) ys x (inl e) =
    ap (λ l. z ∷ l)
    (without-firsts z (xs ++ x ∷ ys)
    ∙ ap firsts (without-append z xs (x ∷ ys) ∙ ap (λ l. without z xs ++ l) (without_same z x ys (sym e)) ∙ sym (without-append z xs ys))
    ∙ sym (without-firsts z (xs ++ ys)))
firsts_again (z ∷ xs) ys x (inr h) = ap (λ l. z ∷ without z l) (firsts_again xs ys x h)

pub firsts_within : (xs ys zs : List ℕ) → ((x : ℕ) → Has ys x → Has xs x) → firsts (xs ++ (ys ++ zs)) ≡ firsts (xs ++ zs)
firsts_within xs [] zs all = refl
firsts_within xs (y ∷ ys) zs all = firsts_again xs (ys ++ zs) y (all y (inl refl)) ∙ firsts_within xs ys zs (λ x h. all x (inr h))

-- a number that does not stand before is added
pub firsts_new : (xs : List ℕ) (x : ℕ) → (Has xs x → ⊥) → firsts (xs ++ x ∷ []) ≡ firsts xs ++ x ∷ []
firsts_new [] x absent = refl
firsts_new (z ∷ xs) x absent =
    let ne : x ≢ z = λ e. absent (inl (sym e)) in
    ap (λ l. z ∷ l)
    (ap (without z) (firsts_new xs x (λ h. absent (inr h)))
    ∙ without-append z (firsts xs) (x ∷ [])
    ∙ ap (λ l. without z (firsts xs) ++ l) (without_other z x [] ne))

pub firsts_has : (xs : List ℕ) (x : ℕ) → Has (firsts xs) x → Has xs x
firsts_has [] x h = absurd h
firsts_has (z ∷ xs) x (inl e) = inl e
firsts_has (z ∷ xs) x (inr h) = inr (firsts_has xs x (without_has z x (firsts xs) h).0)

pub has_firsts : (xs : List ℕ) (x : ℕ) → Has xs x → Has (firsts xs) x
has_firsts [] x h = absurd h
has_firsts (z ∷ xs) x h =
    ⊎_elim
    (λ (e : z ≡ x). inl e)
    (λ (e : z ≢ x). ⊎_elim (λ (s : z ≡ x). inl s) (λ (r : Has xs x). inr (has_without z x (firsts xs) e (has_firsts xs x r))) h)
    (same_or_not z x)

without_apart : (x : ℕ) (xs : List ℕ) → AreApart xs → AreApart (without x xs)
without_apart x [] apart = tt
without_apart x (z ∷ xs) apart =
    ⊎_elim
    (λ (e : z ≡ x). subst AreApart (sym (without_same x z xs e)) (without_apart x xs apart.1))
    (λ (e : z ≢ x).
    let both : AreApart (z ∷ without x xs) = (λ h. apart.0 (without_has x z xs h).0, without_apart x xs apart.1) in
    subst AreApart (sym (without_other x z xs e)) both)
    (same_or_not z x)

pub firsts_apart : (xs : List ℕ) → AreApart (firsts xs)
firsts_apart [] = tt
firsts_apart (x ∷ xs) = (λ h. (without_has x x (firsts xs) h).1 refl, without_apart x (firsts xs) (firsts_apart xs))
