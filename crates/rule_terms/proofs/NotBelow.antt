-- When a sort isn't below another: a set of sorts that each step up stays within has the first, and not the second.
use Rattle.std.proofs.Common.{◌≡◌, ℕ, Bool, true, false, not, ◌||◌, ◌&&◌}
use Rattle.std.specs.List.{list_all}
use Rattle.k_terms.specs.Sorts.{SortOrder, Below, same, subsort, produced, built_in, item, through, item_sorts, sort_kitem, sort_k}
use Rattle.rule_terms.proofs.Defined.{both, passes}

abbrev pub leads : Bool → Bool → Bool
leads a b = not a || b

-- each step up from a sort of the set comes to one of the set
abbrev pub is_closed : SortOrder → (ℕ → Bool) → Bool
is_closed o set =
    list_all (λ step. leads (set step.0) (set step.1)) o.steps
    && list_all (λ sort. leads (set sort) (set sort_kitem)) o.productions
    && list_all (λ sort. leads (set sort) (set sort_kitem)) item_sorts
    && leads (set sort_kitem) (set sort_k)

pub led : (a b : Bool) → leads a b ≡ true → a ≡ true → b ≡ true
led true b e h = e
led false b e h = cc

module _ (o : SortOrder) (within : ℕ → Bool) (e : is_closed o within ≡ true) where
  first_three : ((list_all (λ step. leads (within step.0) (within step.1)) o.steps && list_all (λ sort. leads (within sort) (within sort_kitem)) o.productions) && list_all (λ sort. leads (within sort) (within sort_kitem)) item_sorts) ≡ true
  first_three = (both _ _ e).0

  first_part : list_all (λ step. leads (within step.0) (within step.1)) o.steps ≡ true
  first_part = (both _ _ (both _ _ first_three).0).0

  second_part : list_all (λ sort. leads (within sort) (within sort_kitem)) o.productions ≡ true
  second_part = (both _ _ (both _ _ first_three).0).1

  third_part : list_all (λ sort. leads (within sort) (within sort_kitem)) item_sorts ≡ true
  third_part = (both _ _ first_three).1

  fourth_part : leads (within sort_kitem) (within sort_k) ≡ true
  fourth_part = (both _ _ e).1

stays : (o : SortOrder) (within : ℕ → Bool) → is_closed o within ≡ true → (a b : ℕ) → Below o a b → within a ≡ true → within b ≡ true
stays o within e _ _ (same a) h = h
stays o within e _ _ (subsort a b has) h = led (within a) (within b) (passes (λ step. leads (within step.0) (within step.1)) o.steps (a, b) (first_part o within e) has) h
stays o within e _ _ (produced a has) h = led (within a) (within sort_kitem) (passes (λ sort. leads (within sort) (within sort_kitem)) o.productions a (second_part o within e) has) h
stays o within e _ _ (built_in a has) h = led (within a) (within sort_kitem) (passes (λ sort. leads (within sort) (within sort_kitem)) item_sorts a (third_part o within e) has) h
stays o within e _ _ item h = led (within sort_kitem) (within sort_k) (fourth_part o within e) h
stays o within e _ _ (through a b c p q) h = stays o within e b c q (stays o within e a b p h)

pub not_below : (o : SortOrder) (within : ℕ → Bool) → is_closed o within ≡ true → (a b : ℕ) → within a ≡ true → within b ≡ false → ¬ Below o a b
not_below o within e a b h f below = let g : within b ≡ true = stays o within e a b below h in cc
