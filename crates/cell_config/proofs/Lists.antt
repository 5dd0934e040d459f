-- Lists by their places.
use Rattle.std.proofs.Common.{◌≡◌, ℕ, zero, suc, ◌+◌, ◌<◌, List, [], ◌∷◌, ◌++◌, take, length, map, Option, Some, None, refl, sym, ap, ◌∙◌, subst, arith}
use Rattle.std.specs.Prelude.{slice_get}
use Rattle.std.specs.List.{AllZip, AllByRecursion}

pub some_same : {X : Type 0} (x y : X) → Some x ≡ Some y → x ≡ y
some_same x y same = cc

pub none_some : {X : Type 0} (x : X) → None ≡ Some x → ⊥
none_some x same = absurd (cc)

pub none_is_some : {X : Type 0} (o : Option X) (x : X) → o ≡ None → o ≡ Some x → ⊥
none_is_some o x none some = none_some x (sym none ∙ some)

pub same_place : (n m : ℕ) → (n < m → ⊥) → (m < n → ⊥) → n ≡ m
same_place n m less more = omega (arith, less, more)

-- ---- two lists

module _ {A B : Type 0} (R : A → B → Type 0) where
  pub zip_push : (xs : List A) (ys : List B) (x : A) (y : B) → AllZip R xs ys → R x y → AllZip R (xs ++ x ∷ []) (ys ++ y ∷ [])
  zip_push [] [] x y all one = (one, tt)
  zip_push [] (b ∷ ys) x y all one = absurd all
  zip_push (a ∷ xs) [] x y all one = absurd all
  zip_push (a ∷ xs) (b ∷ ys) x y all one = (all.0, zip_push xs ys x y all.1 one)

  pub zip_left : (xs : List A) (ys : List B) (n : ℕ) (y : B) → AllZip R xs ys → slice_get ys n ≡ Some y → (x : A) × (slice_get xs n ≡ Some x) × R x y
  zip_left [] [] n y all at = absurd (none_some y at)
  zip_left [] (b ∷ ys) n y all at = absurd all
  zip_left (a ∷ xs) [] n y all at = absurd all
  zip_left (a ∷ xs) (b ∷ ys) zero y all at = (a, refl, subst (R a) (some_same b y at) all.0)
  zip_left (a ∷ xs) (b ∷ ys) (suc n) y all at = zip_left xs ys n y all.1 at

  pub zip_right : (xs : List A) (ys : List B) (n : ℕ) (x : A) → AllZip R xs ys → slice_get xs n ≡ Some x → (y : B) × (slice_get ys n ≡ Some y) × R x y
  zip_right [] [] n x all at = absurd (none_some x at)
  zip_right [] (b ∷ ys) n x all at = absurd all
  zip_right (a ∷ xs) [] n x all at = absurd all
  zip_right (a ∷ xs) (b ∷ ys) zero x all at = (b, refl, subst (λ z. R z b) (some_same a x at) all.0)
  zip_right (a ∷ xs) (b ∷ ys) (suc n) x all at = zip_right xs ys n x all.1 at

  -- what is related to the same items is one
  pub zip_same : ((x : A) (y z : B) → R x y → R x z → y ≡ z) → (xs : List A) (ys zs : List B) → AllZip R xs ys → AllZip R xs zs → ys ≡ zs
  zip_same one [] [] [] f h = refl
  zip_same one [] [] (z ∷ zs) f h = absurd h
  zip_same one [] (y ∷ ys) zs f h = absurd f
  zip_same one (x ∷ xs) [] zs f h = absurd f
  zip_same one (x ∷ xs) (y ∷ ys) [] f h = absurd h
  zip_same one (x ∷ xs) (y ∷ ys) (z ∷ zs) f h = (λ i. one x y z f.0 h.0 i ∷ zip_same one xs ys zs f.1 h.1 i)

-- ---- places

pub got_map : {A B : Type 0} (f : A → B) (xs : List A) (n : ℕ) (y : B) → slice_get (map f xs) n ≡ Some y → (x : A) × (slice_get xs n ≡ Some x) × (f x ≡ y)
got_map f [] n y at = absurd (none_some y at)
got_map f (x ∷ xs) zero y at = (x, refl, some_same (f x) y at)
got_map f (x ∷ xs) (suc n) y at = got_map f xs n y at

pub map_got : {A B : Type 0} (f : A → B) (xs : List A) (n : ℕ) (x : A) → slice_get xs n ≡ Some x → slice_get (map f xs) n ≡ Some (f x)
map_got f [] n x at = absurd (none_some x at)
map_got f (y ∷ xs) zero x at = ap (λ z. Some (f z)) (some_same y x at)
map_got f (y ∷ xs) (suc n) x at = map_got f xs n x at

pub got_within : {A : Type 0} (xs : List A) (n : ℕ) (x : A) → slice_get xs n ≡ Some x → n < length xs
got_within [] n x at = absurd (none_some x at)
got_within (y ∷ xs) zero x at = omega arith
got_within (y ∷ xs) (suc n) x at = let less = got_within xs n x at in omega (arith, less)

pub got_front : {A : Type 0} (xs : List A) (n m : ℕ) (x : A) → n < m → slice_get xs n ≡ Some x → slice_get (take m xs) n ≡ Some x
got_front [] n m x less at = absurd (none_some x at)
got_front (y ∷ xs) n zero x less at = absurd (omega (arith, less))
got_front (y ∷ xs) zero (suc m) x less at = at
got_front (y ∷ xs) (suc n) (suc m) x less at = got_front xs n m x (omega (arith, less)) at

pub each_at : {A : Type 0} (P : A → Type 0) (xs : List A) → ((n : ℕ) (x : A) → slice_get xs n ≡ Some x → P x) → AllByRecursion P xs
each_at P [] each = tt
each_at P (x ∷ xs) each = (each 0 x refl, each_at P xs (λ n y at. each (suc n) y at))

pub at_each : {A : Type 0} (P : A → Type 0) (xs : List A) (n : ℕ) (x : A) → AllByRecursion P xs → slice_get xs n ≡ Some x → P x
at_each P [] n x all at = absurd (none_some x at)
at_each P (y ∷ xs) zero x all at = subst P (some_same y x at) all.0
at_each P (y ∷ xs) (suc n) x all at = at_each P xs n x all.1 at
