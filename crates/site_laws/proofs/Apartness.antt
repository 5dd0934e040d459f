-- Lists of numbers in which none stands twice: joined ones, those without one number, and what is left of one.
use Rattle.std.proofs.Common.{◌≡◌, inl, inr, ℕ, Bool, true, false, not, ◌||◌, List, [], ◌∷◌, ◌++◌, filter, cond, refl, sym, ap, subst, ◌∙◌}
use Rattle.std.proofs.lemmas.Bool.{eq-eqb, ne_eqb, not_from_false}
use Rattle.std.proofs.lemmas.List.Elements.{filter-append}
use Rattle.rule_terms.specs.Numbers.{has_number, all_different}
use Rattle.rule_terms.proofs.Defined.{joins}
use Rattle.live_config.proofs.Members.{Has, has_either, lacks_number, Apart, Leaves}
use Rattle.site_laws.proofs.Splitting.{has_middle, has_around}

pub apart-different : (ns : List ℕ) → Apart ns → all_different ns ≡ true
apart-different [] apart = refl
apart-different (n ∷ ns) apart = joins (not (has_number ns n)) (all_different ns) (not_from_false _ (lacks_number ns n apart.0)) (apart-different ns apart.1)

pub apart_joined : (ns ms : List ℕ) → Apart ns → Apart ms → ((k : ℕ) → Has ns k → Has ms k → ⊥) → Apart (ns ++ ms)
apart_joined [] ms a b none = b
apart_joined (n ∷ ns) ms a b none =
    ((λ h. elim (has_either ns ms n h) [ inl g ↦ a.0 g | inr g ↦ none n (inl refl) g ]), apart_joined ns ms a.1 b (λ k h g. none k (inr h) g))

-- the numbers around one
pub record IsAround (before : List ℕ) (m : ℕ) (after : List ℕ) : Type 0 where
  pub apart : Apart (before ++ after)
  pub alone : Has (before ++ after) m → ⊥

pub apart_around : (before : List ℕ) (m : ℕ) (after : List ℕ) → Apart (before ++ m ∷ after) → IsAround before m after
apart_around [] m after a = record { apart = a.1; alone = a.0 }
apart_around (b ∷ before) m after a =
    let rest = apart_around before m after a.1 in
    record {
      apart = ((λ h. a.0 (has_around before m after b h)), rest.apart);
      alone = λ h. elim h [
        | inl e ↦ a.0 (subst (Has (before ++ m ∷ after)) (sym e) (has_middle before m after))
        | inr g ↦ rest.alone g
      ];
    }

-- ---- what is left of a list from which numbers are taken

filter_alike : (p q : ℕ → Bool) (ks : List ℕ) → ((k : ℕ) → Has ks k → p k ≡ q k) → filter p ks ≡ filter q ks
filter_alike p q [] same = refl
filter_alike p q (k ∷ ks) same = λ i. cond (same k (inl refl) i) (k ∷ filter_alike p q ks (λ j h. same j (inr h)) i) (filter_alike p q ks (λ j h. same j (inr h)) i)

filter_around : (p : ℕ → Bool) (before : List ℕ) (m : ℕ) (after : List ℕ) → p m ≡ false → filter p (before ++ m ∷ after) ≡ filter p (before ++ after)
filter_around p before m after fails =
    filter-append p before (m ∷ after) ∙ ap (λ b. filter p before ++ cond b (m ∷ filter p after) (filter p after)) fails ∙ sym (filter-append p before after)

abbrev beside : List ℕ → ℕ → Bool
beside ms k = not (has_number ms k)

lacks_first : (m : ℕ) (ms : List ℕ) → beside (m ∷ ms) m ≡ false
lacks_first m ms = ap (λ b. not (b || has_number ms m)) (eq-eqb m m refl)

other_first : (m k : ℕ) (ms : List ℕ) → (m ≡ k → ⊥) → beside ms k ≡ beside (m ∷ ms) k
other_first m k ms differ = ap (λ b. not (b || has_number ms k)) (sym (ne_eqb m k differ))

all_kept : (ks : List ℕ) → filter (beside []) ks ≡ ks
all_kept [] = refl
all_kept (k ∷ ks) = ap (λ js. k ∷ js) (all_kept ks)

-- what is left are the others, in their order
pub left_others : (ms ks others : List ℕ) → Leaves ms ks others → Apart ks → others ≡ filter (λ k. not (has_number ms k)) ks
left_others [] ks others leaves apart = sym leaves ∙ sym (all_kept ks)
left_others (m ∷ ms) ks others (before, after, is, leaves) apart =
    let around = apart_around before m after (subst Apart is apart) in
    left_others ms (before ++ after) others leaves around.apart
    ∙ filter_alike (beside ms) (beside (m ∷ ms)) (before ++ after) (λ k h. other_first m k ms (λ e. around.alone (subst (Has (before ++ after)) (sym e) h)))
    ∙ sym (filter_around (beside (m ∷ ms)) before m after (lacks_first m ms))
    ∙ ap (filter (beside (m ∷ ms))) (sym is)
