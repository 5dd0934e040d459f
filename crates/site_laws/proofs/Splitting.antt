-- A cell that pairs off with one of the trees of some numbers: that number is taken out, and the others pair off with the trees
-- that are left.
use Rattle.std.proofs.Common.{◌≡◌, inl, inr, ℕ, List, [], ◌∷◌, ◌++◌, map, refl, sym, ap, subst, ◌∙◌}
use Rattle.std.proofs.lemmas.List.{map-append}
use Rattle.rule_terms.specs.declared.plain.Plain.{Plain}
use Rattle.rule_terms.specs.Rewriting.{Alike}
use Rattle.live_config.specs.Steps.{PairOff}
use Rattle.live_config.proofs.Members.{Has, has_left, has_right, has_either}

-- a list that is mapped to a front, an item and others
pub record IsSplit {X Y : Type 0} (f : X → Y) (xs : List X) (front : List Y) (y : Y) (back : List Y) : Type 0 where
  pub before : List X
  pub item : X
  pub after : List X
  pub is : xs ≡ before ++ item ∷ after
  pub front_is : map f before ≡ front
  pub item_is : f item ≡ y
  pub back_is : map f after ≡ back

pub split_map : {X Y : Type 0} (f : X → Y) (xs : List X) (front : List Y) (y : Y) (back : List Y) → map f xs ≡ front ++ y ∷ back
    → IsSplit f xs front y back
split_map f [] [] y back e = absurd (let g : [] ≡ y ∷ back = e in cc)
split_map f [] (z ∷ front) y back e = absurd (let g : [] ≡ z ∷ (front ++ y ∷ back) = e in cc)
split_map f (x ∷ xs) [] y back e =
    let g : f x ∷ map f xs ≡ y ∷ back = e in
    record { before = []; item = x; after = xs; is = refl; front_is = refl; item_is = cc; back_is = cc }
split_map f (x ∷ xs) (z ∷ front) y back e =
    let g : f x ∷ map f xs ≡ z ∷ (front ++ y ∷ back) = e in
    let first : f x ≡ z = cc in
    let rest : map f xs ≡ front ++ y ∷ back = cc in
    let s = split_map f xs front y back rest in
    record {
      before = x ∷ s.before;
      item = s.item;
      after = s.after;
      is = ap (λ ys. x ∷ ys) s.is;
      front_is = λ i. first i ∷ s.front_is i;
      item_is = s.item_is;
      back_is = s.back_is;
    }

-- a number whose tree is like a cell, and the others pair off
pub record IsTaken (trees : ℕ → Plain) (t : Plain) (ts : List Plain) (ks : List ℕ) : Type 0 where
  pub before : List ℕ
  pub number : ℕ
  pub after : List ℕ
  pub is : ks ≡ before ++ number ∷ after
  pub like : Alike t (trees number)
  pub pairs : PairOff ts (map trees (before ++ after))

pub taken : (trees : ℕ → Plain) (t : Plain) (ts : List Plain) (ks : List ℕ) → PairOff (t ∷ ts) (map trees ks) → IsTaken trees t ts ks
taken trees t ts ks (front, u, back, is, like, pairs) =
    let s = split_map trees ks front u back is in
    record {
      before = s.before;
      number = s.item;
      after = s.after;
      is = s.is;
      like = subst (Alike t) (sym s.item_is) like;
      pairs = subst (PairOff ts) ((λ i. sym s.front_is i ++ sym s.back_is i) ∙ sym (map-append trees s.before s.after)) pairs;
    }

pub none_left : {X Y : Type 0} (f : X → Y) (xs : List X) → map f xs ≡ [] → xs ≡ []
none_left f [] e = refl
none_left f (x ∷ xs) e = absurd (let g : f x ∷ map f xs ≡ [] = e in cc)

-- ---- the members of a list that is parted

pub has_middle : (before : List ℕ) (n : ℕ) (after : List ℕ) → Has (before ++ n ∷ after) n
has_middle before n after = has_right before (n ∷ after) n (inl refl)

pub has_around : (before : List ℕ) (n : ℕ) (after : List ℕ) (k : ℕ) → Has (before ++ after) k → Has (before ++ n ∷ after) k
has_around before n after k h = elim (has_either before after k h) [
  | inl a ↦ has_left before (n ∷ after) k a
  | inr b ↦ has_right before (n ∷ after) k (inr b)
]
