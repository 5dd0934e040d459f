-- Orders of several modules.
use Rattle.std.proofs.Common.{⊎_elim, ◌≡◌, ℕ, ◌+◌, ◌<◌, ◌≤◌, List, [], ◌∷◌, ◌++◌, length, get_or, take, sym, ap, subst, ◌∙◌, append-nil}
use Rattle.std.specs.List.{concat}
use Rattle.std.proofs.lemmas.List.{take_more, take_all, get_or_past}
use Rattle.std.proofs.lemmas.Bool.{cases_lt}
use Rattle.std.proofs.lemmas.List.Folds.{concat-append}
use Rattle.import_order.specs.Imports.{Has, Reaches, by_one, by_more, HasNoCycle, LeadsToCycle}
use Rattle.import_order.specs.Order.{firsts, IsClosure, AreClosures, none, IsOrder}
use Rattle.import_order.specs.Walking.{IsVisited}
use Rattle.import_order.proofs.Firsts.{firsts_left, firsts_twice}
use Rattle.import_order.proofs.Closures.{made, all_made, no_parts, closures_push, no_cycle_through}

module _ (graph : List (List ℕ)) where
  pub order_none : (order : List ℕ) → order ≡ [] → IsOrder graph [] order
  order_none order empty = record { parts = []; closures = none; is = empty }

  pub order_more : (roots : List ℕ) (i root : ℕ) (old new : List ℕ) → i < length roots → root ≡ get_or roots i 0 → IsOrder graph (take i roots) old → IsVisited graph root old new
      → IsOrder graph (take (i + 1) roots) new
  order_more roots i root old new within is before visited = record {
    parts = before.parts ++ visited.closure ∷ [];
    closures =
        subst (λ ms. AreClosures graph ms (before.parts ++ visited.closure ∷ []))
        (ap (λ m. take i roots ++ m ∷ []) is ∙ sym (take_more roots i 0 within))
        (closures_push graph (take i roots) before.parts root visited.closure before.closures visited.is);
    is =
        visited.added
        ∙ ap (λ o. firsts (o ++ visited.closure)) before.is
        ∙ firsts_left (concat before.parts) visited.closure
        ∙ ap (λ l. firsts (concat before.parts ++ l)) (sym (append-nil visited.closure))
        ∙ ap firsts (sym (concat-append before.parts (visited.closure ∷ [])));
  }

  pub order_all : (roots order : List ℕ) (n : ℕ) → length roots ≤ n → IsOrder graph (take n roots) order → IsOrder graph roots order
  order_all roots order n over is = subst (λ ms. IsOrder graph ms order) (take_all n roots over) is

  -- the order of one module is its closure
  pub order_one : (m : ℕ) (order : List ℕ) → IsOrder graph (m ∷ []) order → IsClosure graph m order
  order_one m order is =
      let parts = all_made graph m [] is.parts is.closures in
      let closed = made graph m parts.order parts.closure in
      let whole : concat is.parts ≡ parts.order =
      ap concat (parts.is ∙ ap (λ ps. parts.order ∷ ps) (no_parts graph parts.rest parts.closures)) ∙ append-nil parts.order in
      let once : firsts parts.order ≡ parts.order = ap firsts closed.is ∙ firsts_twice (concat closed.parts ++ m ∷ []) ∙ sym closed.is in
      subst (IsClosure graph m) (sym (is.is ∙ ap firsts whole ∙ once)) parts.closure

  -- a module past the end imports nothing, so it reaches nothing
  pub reaches_within : (m x : ℕ) → Reaches graph m x → m < length graph
  reaches_within _ _ (by_one m x h) = ⊎_elim (λ (l : m < length graph). l) (λ (p : length graph ≤ m). absurd (subst (λ l. Has l x) (get_or_past graph m [] p) h)) (cases_lt m (length graph))
  reaches_within _ _ (by_more m y x h leads) =
      ⊎_elim (λ (l : m < length graph). l) (λ (p : length graph ≤ m). absurd (subst (λ l. Has l y) (get_or_past graph m [] p) h)) (cases_lt m (length graph))

  -- where all modules have an order, none lies on a cycle
  pub no_cycle_of : (all order : List ℕ) → ((m : ℕ) → m < length graph → Has all m) → IsOrder graph all order → HasNoCycle graph
  no_cycle_of all order whole is m cycle = no_cycle_through graph all is.parts m is.closures (whole m (reaches_within m m cycle)) cycle

  -- a cycle lies at some module of the graph
  pub none_below : (all : List ℕ) → LeadsToCycle graph all → ((m : ℕ) → m < length graph → Reaches graph m m → ⊥) → ⊥
  none_below all some free = free some.at (reaches_within some.at some.at some.cycle) some.cycle

  -- what one of the roots leads to, the roots lead to
  pub cycle_of_root : (roots : List ℕ) (root : ℕ) → Has roots root → LeadsToCycle graph (root ∷ []) → LeadsToCycle graph roots
  cycle_of_root roots root h c = record {
    root = c.root;
    is_root = ⊎_elim (λ (e : root ≡ c.root). subst (Has roots) e h) (λ (absent : ⊥). absurd absent) c.is_root;
    at = c.at;
    leads = c.leads;
    cycle = c.cycle;
  }
