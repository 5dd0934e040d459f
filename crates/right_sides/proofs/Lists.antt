-- Lists of steps that may be undefined, one step at a time.
use Rattle.std.proofs.Common.{◌≡◌, ℕ, zero, suc, ◌+◌, ◌<◌, ◌≤◌, List, [], ◌∷◌, ◌++◌, map, length, get_or, drop, refl, sym, ap, ◌∙◌, arith, drop-cons}
use Rattle.std.specs.Prelude.{Option, Some, None}
use Rattle.std.specs.Option.{option_map, option_and_then}
use Rattle.std.specs.List.{flat_map}
use Rattle.std.proofs.lemmas.List.{map-append}
use Rattle.rule_terms.specs.Options.{each_some, joined}

one_more : (i : ℕ) → suc i ≡ i + 1
one_more i = omega arith

module _ {A : Type 0} where
  -- what is left begins with the item that stands next
  pub left_from : (xs : List A) (i : ℕ) (x : A) → i < length xs → x ≡ get_or xs i x → drop i xs ≡ x ∷ drop (i + 1) xs
  left_from xs i x within is = drop-cons xs i x within ∙ (λ k. sym is k ∷ drop (one_more i k) xs)

  none_left : (xs : List A) (i : ℕ) → length xs ≤ i → drop i xs ≡ []
  none_left [] zero behind = refl
  none_left [] (suc i) behind = refl
  none_left (x ∷ xs) zero behind = absurd (omega (arith, behind))
  none_left (x ∷ xs) (suc i) behind = none_left xs i (omega (arith, behind))

  append_none : (xs : List A) → xs ++ [] ≡ xs
  append_none [] = refl
  append_none (x ∷ xs) = ap (λ ys. x ∷ ys) (append_none xs)

  assoc : (xs ys zs : List A) → (xs ++ ys) ++ zs ≡ xs ++ (ys ++ zs)
  assoc [] ys zs = refl
  assoc (x ∷ xs) ys zs = ap (λ ws. x ∷ ws) (assoc xs ys zs)

  -- nothing yet, one more, several more, and none left
  pub joined_start : (o : Option (List A)) → o ≡ joined (Some []) o
  joined_start None = refl
  joined_start (Some xs) = refl

  pub joined_more : (xs ys : List A) (o : Option (List A)) → joined (Some xs) (joined (Some ys) o) ≡ joined (Some (xs ++ ys)) o
  joined_more xs ys None = refl
  joined_more xs ys (Some zs) = ap Some (sym (assoc xs ys zs))

  pub joined_end : (xs : List A) → joined (Some xs) (Some []) ≡ Some xs
  joined_end xs = ap Some (append_none xs)

  pub joined_none : (o : Option (List A)) → joined o None ≡ None
  joined_none None = refl
  joined_none (Some xs) = refl

  -- the steps of two lists
  pub each_append : (os ps : List (Option A)) → each_some (os ++ ps) ≡ joined (each_some os) (each_some ps)
  each_append [] ps = joined_start (each_some ps)
  each_append (None ∷ os) ps = refl
  each_append (Some x ∷ os) ps = ap (option_map (λ xs. x ∷ xs)) (each_append os ps) ∙ before x (each_some os) (each_some ps)
    where
      before : (x : A) (o p : Option (List A)) → option_map (λ xs. x ∷ xs) (joined o p) ≡ joined (option_map (λ xs. x ∷ xs) o) p
      before x None p = refl
      before x (Some xs) None = refl
      before x (Some xs) (Some ys) = refl

-- ---- a step for each item

module _ {A B : Type 0} (f : A → Option B) (xs : List A) where
  -- the next step is defined
  pub each_next : (i : ℕ) (x : A) (y : B) (ys : List B) (all : Option (List B)) → i < length xs → x ≡ get_or xs i x → Some y ≡ f x
      → all ≡ joined (Some ys) (each_some (map f (drop i xs))) → all ≡ joined (Some (ys ++ y ∷ [])) (each_some (map f (drop (i + 1) xs)))
  each_next i x y ys all within is here before =
      before
      ∙ ap (λ zs. joined (Some ys) (each_some (map f zs))) (left_from xs i x within is)
      ∙ ap (λ o. joined (Some ys) (option_and_then (λ z. option_map (λ zs. z ∷ zs) (each_some (map f (drop (i + 1) xs)))) o)) (sym here)
      ∙ joined_more ys (y ∷ []) (each_some (map f (drop (i + 1) xs)))

  -- or it isn't
  pub each_stops : (i : ℕ) (x : A) (ys : List B) (all : Option (List B)) → i < length xs → x ≡ get_or xs i x → None ≡ f x
      → all ≡ joined (Some ys) (each_some (map f (drop i xs))) → None ≡ all
  each_stops i x ys all within is here before = sym (
      before
      ∙ ap (λ zs. joined (Some ys) (each_some (map f zs))) (left_from xs i x within is)
      ∙ ap (λ o. joined (Some ys) (option_and_then (λ z. option_map (λ zs. z ∷ zs) (each_some (map f (drop (i + 1) xs)))) o)) (sym here)
      )

  -- or none is left
  pub each_ends : (i : ℕ) (ys : List B) (all : Option (List B)) → length xs ≤ i → all ≡ joined (Some ys) (each_some (map f (drop i xs))) → Some ys ≡ all
  each_ends i ys all behind before = sym (before ∙ ap (λ zs. joined (Some ys) (each_some (map f zs))) (none_left xs i behind) ∙ joined_end ys)

-- ---- steps of which each item gives several

module _ {A X B : Type 0} (f : X → Option B) (under : A → List X) where
  -- those of an item, and those of the items behind it
  pub under_cons : (x : A) (xs : List A) → each_some (map f (flat_map under (x ∷ xs))) ≡ joined (each_some (map f (under x))) (each_some (map f (flat_map under xs)))
  under_cons x xs = ap each_some (map-append f (under x) (flat_map under xs)) ∙ each_append (map f (under x)) (map f (flat_map under xs))

  pub under_next : (xs : List A) (i : ℕ) (x : A) (own ys : List B) (all : Option (List B)) → i < length xs → x ≡ get_or xs i x → Some own ≡ each_some (map f (under x))
      → all ≡ joined (Some ys) (each_some (map f (flat_map under (drop i xs)))) → all ≡ joined (Some (ys ++ own)) (each_some (map f (flat_map under (drop (i + 1) xs))))
  under_next xs i x own ys all within is here before =
      before
      ∙ ap (λ zs. joined (Some ys) (each_some (map f (flat_map under zs)))) (left_from xs i x within is)
      ∙ ap (joined (Some ys)) (under_cons x (drop (i + 1) xs) ∙ ap (λ o. joined o (each_some (map f (flat_map under (drop (i + 1) xs))))) (sym here))
      ∙ joined_more ys own (each_some (map f (flat_map under (drop (i + 1) xs))))

  pub under_stops : (xs : List A) (i : ℕ) (x : A) (ys : List B) (all : Option (List B)) → i < length xs → x ≡ get_or xs i x → None ≡ each_some (map f (under x))
      → all ≡ joined (Some ys) (each_some (map f (flat_map under (drop i xs)))) → None ≡ all
  under_stops xs i x ys all within is here before = sym (
      before
      ∙ ap (λ zs. joined (Some ys) (each_some (map f (flat_map under zs)))) (left_from xs i x within is)
      ∙ ap (joined (Some ys)) (under_cons x (drop (i + 1) xs) ∙ ap (λ o. joined o (each_some (map f (flat_map under (drop (i + 1) xs))))) (sym here))
      )

  pub under_ends : (xs : List A) (i : ℕ) (ys : List B) (all : Option (List B)) → length xs ≤ i → all ≡ joined (Some ys) (each_some (map f (flat_map under (drop i xs)))) → Some ys ≡ all
  under_ends xs i ys all behind before =
      sym (before ∙ ap (λ zs. joined (Some ys) (each_some (map f (flat_map under zs)))) (none_left xs i behind) ∙ joined_end ys)
