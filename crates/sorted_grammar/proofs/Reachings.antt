-- A search that is at its end.
use Rattle.std.proofs.Common.{inl, inr, ⊎_elim, ◌⊎◌, ◌≡◌, ◌↔◌, ℕ, Bool, true, List, [], refl}
use Rattle.import_order.specs.Imports.{Has, imports_of, Reaches, by_one, by_more}
use Rattle.import_order.specs.Reaching.{is_seen, IsReaching}

module _ (graph : List (List ℕ)) (start : ℕ) (seen : List Bool) (r : IsReaching graph start seen []) where
  all_seen : (m x : ℕ) → (m ≡ start) ⊎ (is_seen seen m ≡ true) → Has (imports_of graph m) x → is_seen seen x ≡ true
  all_seen m x either h = ⊎_elim (λ (none : ⊥). absurd none) (λ (all : (y : ℕ) → Has (imports_of graph m) y → is_seen seen y ≡ true). all x h) (r.closed m either)

  reached_seen : (m x : ℕ) → Reaches graph m x → (m ≡ start) ⊎ (is_seen seen m ≡ true) → is_seen seen x ≡ true
  reached_seen _ _ (by_one m x h) either = all_seen m x either h
  reached_seen _ _ (by_more m y x h leads) either = reached_seen y x leads (inr (all_seen m y either h))

  pub seen_reaches : (to : ℕ) → (is_seen seen to ≡ true) ↔ Reaches graph start to
  seen_reaches to = (r.reached to, λ leads. reached_seen start to leads (inl refl))
