-- What follows where tests pass, and where a step that may be undefined is defined.
use Rattle.std.proofs.Common.{◌≡◌, Bool, true, false, cond, ◌&&◌, ◌||◌, ◌⊎◌, inl, inr, List, ◌++◌, refl, ap}
use Rattle.std.specs.Prelude.{Contains, Option, Some, None, unwrap_or}
use Rattle.std.proofs.lemmas.List.Sums.{AllPass-from_list_all}
use Rattle.std.proofs.lemmas.List.Elements.{All-contains}
use Rattle.std.specs.List.{list_all}
use Rattle.std.specs.Option.{option_map, option_and_then}
use Rattle.rule_terms.specs.Options.{joined}

-- both parts of a test, and one of them
pub both : (a b : Bool) → (a && b) ≡ true → (a ≡ true) × (b ≡ true)
both true b e = (refl, e)
both false b e = cc

pub joins : (a b : Bool) → a ≡ true → b ≡ true → (a && b) ≡ true
joins true b e f = f
joins false b e f = cc

pub one_of : (a b : Bool) → (a || b) ≡ true → (a ≡ true) ⊎ (b ≡ true)
one_of true b e = inl refl
one_of false b e = inr e

pub same_some : {A : Type 0} (x y : A) → Some x ≡ Some y → x ≡ y
same_some x y e = ap (λ o. unwrap_or o x) e

module _ {A : Type 0} where
  -- a value that a test lets through
  pub let_through : (b : Bool) (x y : A) → cond b (Some x) None ≡ Some y → x ≡ y
  let_through true x y e = same_some x y e
  let_through false x y e = cc

  pub not_held : (b : Bool) (x y : A) → cond b None (Some x) ≡ Some y → (b ≡ false) × (x ≡ y)
  not_held true x y e = cc
  not_held false x y e = (refl, same_some x y e)

  pub joined_gives : (o p : Option (List A)) (zs : List A) → joined o p ≡ Some zs → (xs : List A) × (ys : List A) × (o ≡ Some xs) × (p ≡ Some ys) × (xs ++ ys ≡ zs)
  joined_gives None p zs e = cc
  joined_gives (Some xs) None zs e = cc
  joined_gives (Some xs) (Some ys) zs e = (xs, ys, refl, refl, same_some (xs ++ ys) zs e)

module _ {A B : Type 0} where
  pub and_then_gives : (f : A → Option B) (o : Option A) (w : B) → option_and_then f o ≡ Some w → (x : A) × (o ≡ Some x) × (f x ≡ Some w)
  and_then_gives f None w e = cc
  and_then_gives f (Some x) w e = (x, refl, e)

  pub map_gives : (f : A → B) (o : Option A) (w : B) → option_map f o ≡ Some w → (x : A) × (o ≡ Some x) × (f x ≡ w)
  map_gives f None w e = cc
  map_gives f (Some x) w e = (x, refl, same_some _ _ e)

-- a test that all pass is passed by each
pub passes : {X : Type 0} (p : X → Bool) (xs : List X) (x : X) → list_all p xs ≡ true → Contains xs x → p x ≡ true
passes p xs x e has = All-contains (λ y. p y ≡ true) xs x (AllPass-from_list_all p xs e) has
