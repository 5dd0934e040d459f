-- A substitution in which a rest of cells stands for other cells.
use Rattle.std.proofs.Common.{◌≡◌, ℕ, zero, suc, List, [], ◌∷◌, Some, None, refl, sym, ap, subst}
use Rattle.std.specs.Prelude.{slice_get, unwrap_or}
use Rattle.rule_terms.specs.declared.plain.Plain.{Plain}
use Rattle.rule_terms.specs.Substitution.{Bound, Bag, Subst}
use Rattle.live_config.specs.Steps.{PairOff, BoundAlike, SubstAlike}

-- the variable stands for these cells
abbrev pub rebound : Subst → ℕ → List Plain → Subst
rebound [] x cells = []
rebound (b ∷ s) zero cells = Bag cells ∷ s
rebound (b ∷ s) (suc x) cells = b ∷ rebound s x cells

bag_alike : (b c : Bound) (ts us : List Plain) → Some b ≡ Some (Bag ts) → PairOff ts us → BoundAlike b (Bag us)
bag_alike b c ts us e pairs = subst (λ a. BoundAlike a (Bag us)) (sym (ap (λ o. unwrap_or o b) e)) pairs

pub rebound_alike : (s t : Subst) (x : ℕ) (ts us : List Plain) → SubstAlike s t → slice_get s x ≡ Some (Bag ts) → PairOff ts us
    → SubstAlike s (rebound t x us)
rebound_alike [] [] x ts us like is pairs = tt
rebound_alike [] (c ∷ t) x ts us like is pairs = absurd like
rebound_alike (b ∷ s) [] x ts us like is pairs = absurd like
rebound_alike (b ∷ s) (c ∷ t) zero ts us like is pairs = (bag_alike b c ts us is pairs, like.1)
rebound_alike (b ∷ s) (c ∷ t) (suc x) ts us like is pairs = (like.0, rebound_alike s t x ts us like.1 is pairs)

pub rebound_here : (s t : Subst) (x : ℕ) (b : Bound) (us : List Plain) → SubstAlike s t → slice_get s x ≡ Some b
    → slice_get (rebound t x us) x ≡ Some (Bag us)
rebound_here [] t x b us like is = absurd (let f : None ≡ Some b = is in cc)
rebound_here (a ∷ s) [] x b us like is = absurd like
rebound_here (a ∷ s) (c ∷ t) zero b us like is = refl
rebound_here (a ∷ s) (c ∷ t) (suc x) b us like is = rebound_here s t x b us like.1 is

pub rebound_other : (s : Subst) (x y : ℕ) (us : List Plain) → (x ≡ y → ⊥) → slice_get (rebound s x us) y ≡ slice_get s y
rebound_other [] x y us d = refl
rebound_other (b ∷ s) zero zero us d = absurd (d refl)
rebound_other (b ∷ s) zero (suc y) us d = refl
rebound_other (b ∷ s) (suc x) zero us d = refl
rebound_other (b ∷ s) (suc x) (suc y) us d = rebound_other s x y us (λ e. d (ap suc e))
