-- Entries matched one by one.
use Rattle.std.proofs.Common.{arith, ◌≡◌, ℕ, zero, suc, ◌+◌, ◌<◌, List, [], ◌∷◌, take, length, get_or, map, refl, sym, ap, subst, ◌∙◌}
use Rattle.std.specs.Prelude.{Option, Some, slice_get}
use Rattle.std.specs.Option.{option_map, option_and_then}
use Rattle.std.proofs.lemmas.Option.{get_or_from_slice_get}
use Rattle.k_terms.specs.declared.value.Value.{Value}
use Rattle.rule_terms.specs.declared.pattern.Pattern.{Pattern}
use Rattle.rule_terms.specs.Options.{each_some}
use Rattle.rule_terms.specs.Substitution.{Subst}
use Rattle.rule_terms.specs.Eval.{eval, eval_entry, eval_entries}
use Rattle.rule_terms.proofs.Defined.{and_then_gives, map_gives, same_some}
use Rattle.leaf_match.proofs.Entering.{Entries}
use Rattle.leaf_match.specs.Maps.{HavePlaces}
use Rattle.leaf_match.proofs.MapBodies.{PickedAt, entry_parts, entry_made}

module _ {A B : Type 0} (f : A → Option B) where
  parts_of : (x : A) (xs : List A) (ys : List B) → each_some (map f (x ∷ xs)) ≡ Some ys → (y : B) × (zs : List B) × (f x ≡ Some y) × (each_some (map f xs) ≡ Some zs) × (ys ≡ y ∷ zs)
  parts_of x xs ys e =
      let first = and_then_gives (λ y. option_map (λ zs. y ∷ zs) (each_some (map f xs))) (f x) ys e in
      let rest = map_gives (λ zs. first.0 ∷ zs) (each_some (map f xs)) ys first.2 in
      (first.0, rest.0, first.1, rest.1, sym rest.2)

  cons_of : (x : A) (xs : List A) (y : B) (ys : List B) → f x ≡ Some y → each_some (map f xs) ≡ Some ys → each_some (map f (x ∷ xs)) ≡ Some (y ∷ ys)
  cons_of x xs y ys first rest = ap (λ o. option_and_then (λ w. option_map (λ ws. w ∷ ws) (each_some (map f xs))) o) first ∙ ap (option_map (λ ws. y ∷ ws)) rest

  head_is : (y w : B) (ys ws : List B) → y ∷ ys ≡ w ∷ ws → (y ≡ w) × (ys ≡ ws)
  head_is y w ys ws e = let first : y ≡ w = cc in let rest : ys ≡ ws = cc in (first, rest)

  more_of : (xs : List A) (ys : List B) (i : ℕ) (x : A) (y : B) → i < length xs → i < length ys → x ≡ get_or xs i x → y ≡ get_or ys i y
      → ((each_some (map f (take i xs)) ≡ Some (take i ys)) × (f x ≡ Some y) → each_some (map f (take (suc i) xs)) ≡ Some (take (suc i) ys))
      × (each_some (map f (take (suc i) xs)) ≡ Some (take (suc i) ys) → (each_some (map f (take i xs)) ≡ Some (take i ys)) × (f x ≡ Some y))
  more_of [] ys i x y in_xs in_ys is_x is_y = absurd (omega (arith, in_xs))
  more_of (q ∷ xs) [] i x y in_xs in_ys is_x is_y = absurd (omega (arith, in_ys))
  more_of (q ∷ xs) (w ∷ ys) zero x y in_xs in_ys is_x is_y = (
    (λ e. cons_of q [] w [] (ap f (sym is_x) ∙ e.1 ∙ ap Some is_y) refl),
    (λ e. let parts = parts_of q [] (w ∷ []) e in (refl, ap f is_x ∙ parts.2 ∙ ap Some (sym (head_is w parts.0 [] parts.1 parts.4).0 ∙ sym is_y))),
  )
  more_of (q ∷ xs) (w ∷ ys) (suc i) x y in_xs in_ys is_x is_y =
      let more = more_of xs ys i x y (omega (arith, in_xs)) (omega (arith, in_ys)) is_x is_y in (
        (λ e. let parts = parts_of q (take i xs) (w ∷ take i ys) e.0 in
            let heads = head_is w parts.0 (take i ys) parts.1 parts.4 in
            cons_of q (take (suc i) xs) w (take (suc i) ys) (parts.2 ∙ ap Some (sym heads.0)) (more.0 (parts.3 ∙ ap Some (sym heads.1), e.1))),
        (λ e. let parts = parts_of q (take (suc i) xs) (w ∷ take (suc i) ys) e in
            let heads = head_is w parts.0 (take (suc i) ys) parts.1 parts.4 in
            let rest = more.1 (parts.3 ∙ ap Some (sym heads.1)) in
            (cons_of q (take i xs) w (take i ys) (parts.2 ∙ ap Some (sym heads.0)) rest.0, rest.1)),
      )

  some_of : (xs : List A) (ys : List B) (n : ℕ) → each_some (map f xs) ≡ Some ys → each_some (map f (take n xs)) ≡ Some (take n ys)
  some_of xs ys zero e = refl
  some_of [] ys (suc n) e = let none : [] ≡ ys = same_some [] ys e in ap (λ ws. Some (take (suc n) ws)) none
  some_of (x ∷ xs) ys (suc n) e =
      let parts = parts_of x xs ys e in
      cons_of x (take n xs) parts.0 (take n parts.1) parts.2 (some_of xs parts.1 n parts.3) ∙ ap (λ ws. Some (take (suc n) ws)) (sym parts.4)

one_more : (i : ℕ) → i + 1 ≡ suc i
one_more i = omega arith

-- so many entries and one more
pub entries_next : (ps : List (Pattern × Pattern)) (es : Entries) (s : Subst) (i : ℕ) (p : Pattern × Pattern) (e : Value × Value)
    → i < length ps → i < length es → p ≡ get_or ps i p → e ≡ get_or es i e
    → ((eval_entries (take i ps) s ≡ Some (take i es)) × ((eval p.0 s ≡ Some e.0) × (eval p.1 s ≡ Some e.1)) → eval_entries (take (i + 1) ps) s ≡ Some (take (i + 1) es))
    × (eval_entries (take (i + 1) ps) s ≡ Some (take (i + 1) es) → (eval_entries (take i ps) s ≡ Some (take i es)) × ((eval p.0 s ≡ Some e.0) × (eval p.1 s ≡ Some e.1)))
entries_next ps es s i p e in_ps in_es is_p is_e =
    let more = more_of (λ q. eval_entry q s) ps es i p e in_ps in_es is_p is_e in
    subst (λ n. ((eval_entries (take i ps) s ≡ Some (take i es)) × ((eval p.0 s ≡ Some e.0) × (eval p.1 s ≡ Some e.1)) → eval_entries (take n ps) s ≡ Some (take n es))
    × (eval_entries (take n ps) s ≡ Some (take n es) → (eval_entries (take i ps) s ≡ Some (take i es)) × ((eval p.0 s ≡ Some e.0) × (eval p.1 s ≡ Some e.1))))
    (sym (one_more i)) (
      (λ all. more.0 (all.0, entry_made p s e all.1)),
      (λ is. let parts = more.1 is in (parts.0, entry_parts p s e parts.1)),
    )

pub entries_some : (ps : List (Pattern × Pattern)) (es : Entries) (s : Subst) (n : ℕ) → eval_entries ps s ≡ Some es → eval_entries (take n ps) s ≡ Some (take n es)
entries_some ps es s n is = some_of (λ q. eval_entry q s) ps es n is

-- ---- the entry at a place

pub picked_length : (c : Entries) (ps : List ℕ) (es : Entries) → PickedAt c ps es → length ps ≡ length es
picked_length c [] [] picked = refl
picked_length c [] (e ∷ es) picked = absurd picked
picked_length c (p ∷ ps) [] picked = absurd picked
picked_length c (p ∷ ps) (e ∷ es) picked = ap suc (picked_length c ps es picked.1)

pub picked_at : (c : Entries) (ps : List ℕ) (es : Entries) (i d : ℕ) → PickedAt c ps es → i < length ps → (e : Value × Value) × (e ≡ get_or es i e) × (slice_get c (get_or ps i d) ≡ Some e)
picked_at c [] es i d picked within = absurd (omega (arith, within))
picked_at c (q ∷ ps) [] i d picked within = absurd picked
picked_at c (q ∷ ps) (e ∷ es) zero d picked within = (e, refl, picked.0)
picked_at c (q ∷ ps) (e ∷ es) (suc i) d picked within = picked_at c ps es i d picked.1 (omega (arith, within))

pub place_within : {A : Type 0} (xs : List A) (p : ℕ) (x : A) → slice_get xs p ≡ Some x → p < length xs
place_within [] p x is = cc
place_within (y ∷ ys) zero x is = omega arith
place_within (y ∷ ys) (suc p) x is = let more = place_within ys p x is in omega (arith, more)

pub place_is : (c : Entries) (p : ℕ) (e f : Value × Value) → slice_get c p ≡ Some e → f ≡ get_or c p f → f ≡ e
place_is c p e f is at = at ∙ get_or_from_slice_get c p e f is

-- ---- where each pattern has its place

module _ (c : Entries) (patterns : List (Pattern × Pattern)) (ps : List ℕ) where
  pub in_places : (i : ℕ) → HavePlaces c patterns ps → i < length patterns → i < length ps
  in_places i have within = let long = picked_length c ps have.0 have.1 in let count = have.2 in omega (arith, long, count, within)

  pub same_count : (es : Entries) → HavePlaces c patterns ps → PickedAt c ps es → length patterns ≡ length es
  same_count es have picked = have.2 ∙ sym (picked_length c ps have.0 have.1) ∙ picked_length c ps es picked

  pub in_picked : (es : Entries) (i : ℕ) → HavePlaces c patterns ps → PickedAt c ps es → i < length patterns → i < length es
  in_picked es i have picked within = subst (λ n. i < n) (same_count es have picked) within

  pub in_entries : (i d : ℕ) → HavePlaces c patterns ps → i < length patterns → get_or ps i d < length c
  in_entries i d have within = let here = picked_at c ps have.0 i d have.1 (in_places i have within) in place_within c (get_or ps i d) here.0 here.2
