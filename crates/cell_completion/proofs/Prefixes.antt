-- Loops over lists: what is known of those before a place.
use Rattle.std.proofs.Common.{◌≡◌, inl, inr, ℕ, zero, suc, ◌+◌, ◌<◌, ◌≤◌, true, false, cond, List, [], ◌∷◌, take, drop, length, get_or, refl, sym, ap, ◌∙◌, subst, arith}
use Rattle.std.proofs.lemmas.List.{take_more, take_all}
use Rattle.std.proofs.Math.Seq.{drop-cons}
use Rattle.live_config.proofs.Members.{Has, has_either}
use Rattle.cell_completion.specs.declared.tree.Tree.{Tree}
use Rattle.cell_completion.specs.Building.{stands_before, place_of}

module _ {X : Type 0} (P : X → Type 0) where
  -- it holds of none of these
  abbrev pub NoneOf : List X → Type 0
  NoneOf xs = (x : X) → Has xs x → P x → ⊥

  pub none_begins : (xs : List X) → NoneOf (take 0 xs)
  none_begins [] x h p = absurd h
  none_begins (y ∷ ys) x h p = absurd h

  pub none_goes_on : (xs : List X) (i : ℕ) (d : X) → i < length xs → NoneOf (take i xs) → (P (get_or xs i d) → ⊥) → NoneOf (take (i + 1) xs)
  none_goes_on xs i d less none other x h p =
      elim (has_either (take i xs) (get_or xs i d ∷ []) x (subst (λ ys. Has ys x) (take_more xs i d less) h)) [
        | inl g ↦ none x g p
        | inr g ↦ elim g [ inl e ↦ other (subst P (sym e) p) | inr nothing ↦ absurd nothing ]
      ]

  pub none_ends : (xs : List X) (i : ℕ) → length xs ≤ i → NoneOf (take i xs) → NoneOf xs
  none_ends xs i past none x h p = none x (subst (λ ys. Has ys x) (sym (take_all i xs past)) h) p

-- ---- how many trees stand before one

abbrev pub IsPlaceFrom : Tree → List Tree → ℕ → Type 0
IsPlaceFrom t ts i = place_of t ts ≡ i + place_of t (drop i ts)

pub place_begins : (t : Tree) (ts : List Tree) → IsPlaceFrom t ts 0
place_begins t [] = refl
place_begins t (u ∷ us) = omega (arith)

next_place : (t : Tree) (ts : List Tree) (i : ℕ) (d : Tree) → i < length ts
    → place_of t (drop i ts) ≡ cond (stands_before (get_or ts i d) t) (suc (place_of t (drop (suc i) ts))) 0
next_place t ts i d less = ap (place_of t) (drop-cons ts i d less)

pub place_stops : (t : Tree) (ts : List Tree) (i : ℕ) (d : Tree) → i < length ts → IsPlaceFrom t ts i → stands_before (get_or ts i d) t ≡ false → i ≡ place_of t ts
place_stops t ts i d less is stops =
    let none : place_of t (drop i ts) ≡ 0 = next_place t ts i d less ∙ ap (λ b. cond b (suc (place_of t (drop (suc i) ts))) 0) stops in
    omega (arith, is, none)

pub place_goes_on : (t : Tree) (ts : List Tree) (i : ℕ) (d : Tree) → i < length ts → IsPlaceFrom t ts i → stands_before (get_or ts i d) t ≡ true → IsPlaceFrom t ts (i + 1)
place_goes_on t ts i d less is before =
    let one : place_of t (drop i ts) ≡ suc (place_of t (drop (suc i) ts)) = next_place t ts i d less ∙ ap (λ b. cond b (suc (place_of t (drop (suc i) ts))) 0) before in
    let next : suc i ≡ i + 1 = omega (arith) in
    let same : place_of t (drop (suc i) ts) ≡ place_of t (drop (i + 1) ts) = ap (λ (n : ℕ). place_of t (drop n ts)) next in
    omega (arith, is, one, same)

past_all : (t : Tree) (ts : List Tree) (i : ℕ) → length ts ≤ i → place_of t (drop i ts) ≡ 0
past_all t [] zero past = refl
past_all t [] (suc i) past = refl
past_all t (u ∷ us) zero past = absurd (omega (arith, past))
past_all t (u ∷ us) (suc i) past = past_all t us i (omega (arith, past))

pub place_ends : (t : Tree) (ts : List Tree) (i : ℕ) → length ts ≤ i → i ≤ length ts → IsPlaceFrom t ts i → length ts ≡ place_of t ts
place_ends t ts i past within is = let none = past_all t ts i past in omega (arith, past, within, is, none)
