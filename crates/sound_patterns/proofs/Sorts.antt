-- Which sorts are below which: those that have names are below such ones, and no other is below another one.
use Rattle.std.proofs.Common.{◌≡◌, inl, inr, ⊎_elim, ℕ, ◌<◌, ◌≤◌, Bool, true, false, cond, List, [], ◌∷◌, map, Option, Some, None, Contains, refl, sym, ap, subst, ◌∙◌, arith}
use Rattle.std.specs.List.{AllByRecursion}
use Rattle.k_terms.specs.Sorts.{SortOrder, Below, same, subsort, produced, built_in, item, through, item_sorts}
use Rattle.grammar_terms.specs.declared.production.Part.{Part}
use Rattle.grammar_terms.specs.declared.production.Part.TheVariants.{Terminal, Sort}
use Rattle.grammar_terms.specs.declared.production.Production.{Production}
use Rattle.grammar_terms.specs.Grammar.{lone_sort, step_from, step_of, steps_of, order_by}
use Rattle.live_config.proofs.Members.{Has, contains-has, has_either, map_has}
use Rattle.sound_patterns.proofs.Readings.{AreBelow}

-- the sorts of a production have numbers below this one
pub record IsBelow (n : ℕ) (production : Production) : Type 0 where
  pub sort : production.sort < n
  pub items : AreBelow n production.items

pub all_has : {X : Type 0} (P : X → Type 0) (xs : List X) (x : X) → AllByRecursion P xs → Has xs x → P x
all_has P [] x all h = absurd h
all_has P (y ∷ xs) x all (inl e) = subst P e all.0
all_has P (y ∷ xs) x all (inr h) = all_has P xs x all.1 h

module _ (n : ℕ) (some : 10 ≤ n) (prods : List Production) (below : AllByRecursion (IsBelow n) prods) where
  abbrev o : SortOrder
  o = order_by prods

  lone_low : (items : List Part) (low : ℕ) → AreBelow n items → lone_sort items ≡ Some low → low < n
  lone_low [] low all e = absurd (let f : None ≡ Some low = e in cc)
  lone_low (Terminal text ∷ items) low all e = absurd (let f : None ≡ Some low = e in cc)
  lone_low (Sort sort ∷ []) low all e = let is : sort ≡ low = cc in subst (λ m. m < n) is all.0
  lone_low (Sort sort ∷ other ∷ items) low all e = absurd (let f : None ≡ Some low = e in cc)

  from_low : (b : Bool) (items : List Part) (low : ℕ) → AreBelow n items → cond b (lone_sort items) None ≡ Some low → low < n
  from_low true items low all e = lone_low items low all e
  from_low false items low all e = absurd (let f : None ≡ Some low = e in cc)

  step_low : (found : Option ℕ) (sort : ℕ) (a b : ℕ) → ((low : ℕ) → found ≡ Some low → low < n) → sort < n
      → Has (let steps : List (ℕ × ℕ) = elim found [ None ↦ [] | Some low ↦ (low, sort) ∷ [] ] in steps) (a, b) → (a < n) × (b < n)
  step_low None sort a b lower low h = absurd h
  step_low (Some one) sort a b lower low (inl e) = (subst (λ m. m < n) (ap (λ (it : ℕ × ℕ). it.0) e) (lower one refl), subst (λ m. m < n) (ap (λ (it : ℕ × ℕ). it.1) e) low)
  step_low (Some one) sort a b lower low (inr h) = absurd h

  steps_low : (productions : List Production) (a b : ℕ) → AllByRecursion (IsBelow n) productions → Has (steps_of productions) (a, b) → (a < n) × (b < n)
  steps_low [] a b all h = absurd h
  steps_low (production ∷ productions) a b all h =
      ⊎_elim
      (λ (here : Has (step_of production) (a, b)).
      step_low (step_from production) production.sort a b (λ low e. from_low _ production.items low all.0.items e) all.0.sort here)
      (λ (later : Has (steps_of productions) (a, b)). steps_low productions a b all.1 later)
      (has_either (step_of production) (steps_of productions) (a, b) h)

  produced_low : (a : ℕ) → Contains (map (λ (it : Production). it.sort) prods) a → a < n
  produced_low a is =
      let found = map_has (λ (it : Production). it.sort) prods a (contains-has (map (λ (it : Production). it.sort) prods) a is) in
      subst (λ m. m < n) found.2 (all_has (IsBelow n) prods found.0 below found.1).sort

  built_in_low : (a : ℕ) → Contains item_sorts a → a < n
  built_in_low a is = all_has (λ m. m < n) item_sorts a (omega (arith, some), (omega (arith, some), (omega (arith, some), (omega (arith, some), (omega (arith, some), tt))))) (contains-has item_sorts a is)

  pub below_low : {own sort : ℕ} → Below o own sort → sort < n → own < n
  below_low (same a) low = low
  below_low (subsort a b is) low = (steps_low prods a b below (contains-has (steps_of prods) (a, b) is)).0
  below_low (produced a is) low = produced_low a is
  below_low (built_in a is) low = built_in_low a is
  below_low item low = omega (arith, some)
  below_low (through a b c one other) low = below_low one (below_low other low)

  pub below_high : {own sort : ℕ} → Below o own sort → n ≤ sort → own ≡ sort
  below_high (same a) high = refl
  below_high (subsort a b is) high = let low = (steps_low prods a b below (contains-has (steps_of prods) (a, b) is)).1 in absurd (omega (arith, low, high))
  below_high (produced a is) high = absurd (omega (arith, some, high))
  below_high (built_in a is) high = absurd (omega (arith, some, high))
  below_high item high = absurd (omega (arith, some, high))
  below_high (through a b c one other) high = let is : b ≡ c = below_high other high in below_high one (subst (λ m. n ≤ m) (sym is) high) ∙ is
