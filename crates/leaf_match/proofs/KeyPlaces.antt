-- The places of keys, found one after the other.
use Rattle.std.proofs.Common.{arith, ◌≡◌, ℕ, zero, suc, ◌+◌, ◌<◌, ◌==◌, Bool, true, false, ◌||◌, List, [], ◌∷◌, ◌++◌, take, length, get_or, refl, sym, ap, subst, ◌∙◌}
use Rattle.std.specs.Prelude.{Some, None, slice_get}
use Rattle.std.specs.Ordering.{is_eq}
use Rattle.std.specs.FinMap.{find}
use Rattle.std.proofs.lemmas.List.{map-append, take_more}
use Rattle.std.proofs.lemmas.Bool.{eqb-true, eq-eqb}
use Rattle.k_terms.specs.declared.value.Value.{Value}
use Rattle.k_terms.specs.Value.{value_cmp}
use Rattle.rule_terms.specs.Numbers.{has_number}
use Rattle.leaf_match.proofs.Entering.{Entries, among, keys_of, itself, tie_is, untied}
use Rattle.leaf_match.proofs.Puts.{AreThere, KeysDiffer}
use Rattle.leaf_match.proofs.MapBodies.{PickedAt}
use Rattle.leaf_match.specs.Maps.{IsKeyAt, ArePlaces}

either : (a b : Bool) → (a || b) ≡ false → (a ≡ false) × (b ≡ false)
either true b e = cc
either false b e = (refl, e)

-- ---- one more at the end

among_more : (ks : List Value) (k x : Value) → among ks x ≡ false → is_eq (value_cmp k x) ≡ false → among (ks ++ k ∷ []) x ≡ false
among_more [] k x none apart = ap (λ b. b || false) apart
among_more (j ∷ ks) k x none apart =
    let parts = either (is_eq (value_cmp j x)) (among ks x) none in
    ap (λ b. b || among (ks ++ k ∷ []) x) parts.0 ∙ among_more ks k x parts.1 apart

differ_more : (ks : List Value) (k : Value) → KeysDiffer ks → among ks k ≡ false → KeysDiffer (ks ++ k ∷ [])
differ_more [] k differ none = (refl, tt)
differ_more (j ∷ ks) k differ none =
    let parts = either (is_eq (value_cmp j k)) (among ks k) none in
    (among_more ks k j differ.0 (untied j k parts.0), differ_more ks k differ.1 parts.1)

picked_more : (c : Entries) (ps : List ℕ) (es : Entries) (p : ℕ) (e : Value × Value) → PickedAt c ps es → slice_get c p ≡ Some e → PickedAt c (ps ++ p ∷ []) (es ++ e ∷ [])
picked_more c [] [] p e picked is = (is, tt)
picked_more c [] (f ∷ es) p e picked is = absurd picked
picked_more c (q ∷ ps) [] p e picked is = absurd picked
picked_more c (q ∷ ps) (f ∷ es) p e picked is = (picked.0, picked_more c ps es p e picked.1 is)

-- a place that is none of these has another key
place_apart : (c : Entries) (ps : List ℕ) (es : Entries) (p : ℕ) (k v : Value) → PickedAt c ps es → slice_get c p ≡ Some (k, v) → has_number ps p ≡ false
    → ((i j : ℕ) (e f : Value × Value) → slice_get c i ≡ Some e → slice_get c j ≡ Some f → e.0 ≡ f.0 → i ≡ j) → among (keys_of es) k ≡ false
place_apart c [] [] p k v picked is none one = refl
place_apart c [] (f ∷ es) p k v picked is none one = absurd picked
place_apart c (q ∷ ps) [] p k v picked is none one = absurd picked
place_apart c (q ∷ ps) (f ∷ es) p k v picked is none one =
    let parts = either (q == p) (has_number ps p) none in
    ap (λ b. b || among (keys_of es) k)
    (elim (is_eq (value_cmp f.0 k)) as (λ b. is_eq (value_cmp f.0 k) ≡ b → b ≡ false) [
      | true ↦ λ t. let same : q ≡ p = one q p f (k, v) picked.0 is (tie_is f.0 k t) in let no : true ≡ false = sym (at_itself p) ∙ ap (λ n. n == p) (sym same) ∙ parts.0 in cc
      | false ↦ λ t. refl
    ] refl)
    ∙ place_apart c ps es p k v picked.1 is parts.1 one
  where
    at_itself : (n : ℕ) → (n == n) ≡ true
    at_itself n = eq-eqb n n refl

one_more : (i : ℕ) → i + 1 ≡ suc i
one_more i = omega arith

-- the places of so many keys and of one more
pub places_more : (c : Entries) (ks : List Value) (i : ℕ) (k : Value) (ps : List ℕ) (p : ℕ) → i < length ks → k ≡ get_or ks i k
    → ((i j : ℕ) (e f : Value × Value) → slice_get c i ≡ Some e → slice_get c j ≡ Some f → e.0 ≡ f.0 → i ≡ j)
    → ArePlaces c (take i ks) (Some ps) → IsKeyAt c k (Some p) → has_number ps p ≡ false → ArePlaces c (take (i + 1) ks) (Some (ps ++ p ∷ []))
places_more c ks i k ps p within is one places at none =
    let next : take (i + 1) ks ≡ take i ks ++ k ∷ [] = take_more ks i k within ∙ ap (λ x. take i ks ++ x ∷ []) (sym is) in
    let apart : among (take i ks) k ≡ false = ap (λ js. among js k) (sym places.2) ∙ place_apart c ps places.0 p k at.0 places.1 at.1 none one in (
      places.0 ++ (k, at.0) ∷ [],
      picked_more c ps places.0 p (k, at.0) places.1 at.1,
      map-append (λ (e : Value × Value). e.0) places.0 ((k, at.0) ∷ []) ∙ ap (λ js. js ++ k ∷ []) places.2 ∙ sym next,
      subst KeysDiffer (sym next) (differ_more (take i ks) k places.3 apart),
    )

-- ---- no places

there_at : (c es : Entries) (ks : List Value) (i : ℕ) (k : Value) → keys_of es ≡ ks → AreThere c es → i < length ks → k ≡ get_or ks i k → find value_cmp k c ≡ None → ⊥
there_at c [] [] i k keys there within is none = omega (arith, within)
there_at c [] (j ∷ ks) i k keys there within is none = cc
there_at c (e ∷ es) [] i k keys there within is none = omega (arith, within)
there_at c (e ∷ es) (j ∷ ks) zero k keys there within is none =
    let first : e.0 ≡ j = cc in
    let no : None ≡ Some e.1 = sym none ∙ ap (λ x. find value_cmp x c) (is ∙ sym first) ∙ there.0 in cc
there_at c (e ∷ es) (j ∷ ks) (suc i) k keys there within is none =
    let others : keys_of es ≡ ks = cc in there_at c es ks i k others there.1 (omega (arith, within)) is none

pub no_place : (c : Entries) (ks : List Value) (i : ℕ) (k : Value) → i < length ks → k ≡ get_or ks i k → IsKeyAt c k None → ArePlaces c ks None
no_place c ks i k within is none = λ es keys there differ. there_at c es ks i k keys there within is none

among_at : (ks : List Value) (i : ℕ) (k : Value) → i < length ks → k ≡ get_or ks i k → (j : Value) → among ks j ≡ false → is_eq (value_cmp k j) ≡ false
among_at [] i k within is j none = absurd (omega (arith, within))
among_at (m ∷ ks) zero k within is j none = ap (λ x. is_eq (value_cmp x j)) is ∙ (either (is_eq (value_cmp m j)) (among ks j) none).0
among_at (m ∷ ks) (suc i) k within is j none = among_at ks i k (omega (arith, within)) is j (either (is_eq (value_cmp m j)) (among ks j) none).1

differ_before : (ks : List Value) (i : ℕ) (k : Value) → KeysDiffer ks → i < length ks → k ≡ get_or ks i k → among (take i ks) k ≡ false
differ_before [] i k differ within is = absurd (omega (arith, within))
differ_before (j ∷ ks) zero k differ within is = refl
differ_before (j ∷ ks) (suc i) k differ within is =
    ap (λ b. b || among (take i ks) k) (untied k j (among_at ks i k (omega (arith, within)) is j differ.0)) ∙ differ_before ks i k differ.1 (omega (arith, within)) is

key_of : (e f : Value × Value) → Some e ≡ Some f → e.0 ≡ f.0
key_of e f is = let whole : e ≡ f = cc in ap (λ (g : Value × Value). g.0) whole

later : (a b : Bool) → b ≡ true → (a || b) ≡ true
later true b e = refl
later false b e = e

-- a place that is one of these has a key that stands before
pub place_same : (c : Entries) (ps : List ℕ) (es : Entries) (p : ℕ) (k v : Value) → PickedAt c ps es → slice_get c p ≡ Some (k, v) → has_number ps p ≡ true → among (keys_of es) k ≡ true
place_same c [] [] p k v picked is has = cc
place_same c [] (f ∷ es) p k v picked is has = absurd picked
place_same c (q ∷ ps) [] p k v picked is has = absurd picked
place_same c (q ∷ ps) (f ∷ es) p k v picked is has =
    elim (q == p) as (λ b. (q == p) ≡ b → (b || has_number ps p) ≡ true → (is_eq (value_cmp f.0 k) || among (keys_of es) k) ≡ true) [
      | true ↦ λ t h.
          let at : Some f ≡ Some (k, v) = sym picked.0 ∙ ap (slice_get c) (eqb-true q p t) ∙ is in
          let keys : f.0 ≡ k = key_of f (k, v) at in
          ap (λ x. is_eq (value_cmp x k) || among (keys_of es) k) keys ∙ ap (λ b. b || among (keys_of es) k) (itself k)
      | false ↦ λ t h. later (is_eq (value_cmp f.0 k)) (among (keys_of es) k) (place_same c ps es p k v picked.1 is h)
    ] refl has

pub place_again : (c : Entries) (ks : List Value) (i : ℕ) (k : Value) (ps : List ℕ) (p : ℕ) → i < length ks → k ≡ get_or ks i k
    → ArePlaces c (take i ks) (Some ps) → IsKeyAt c k (Some p) → has_number ps p ≡ true → ArePlaces c ks None
place_again c ks i k ps p within is places at has = λ es keys there differ.
    let twice : among (take i ks) k ≡ true = ap (λ js. among js k) (sym places.2) ∙ place_same c ps places.0 p k at.0 places.1 at.1 has in
    let no : true ≡ false = sym twice ∙ differ_before ks i k differ within is in cc
