-- The sorts of a grammar have names, and what is of a sort of contents is of that sort alone.
use Rattle.std.proofs.Common.{◌≡◌, ◌⊎◌, inl, inr, ⊎_elim, ℕ, zero, suc, ◌<◌, ◌≤◌, false, cond, ◌==◌, List, [], ◌∷◌, ◌++◌, length, take, Option, Some, None, refl, sym, ap, subst, ◌∙◌, Contains, arith}
use Rattle.std.proofs.lemmas.Bool.Decides.{nat_tests}
use Rattle.k_terms.specs.Sorts.{SortOrder, Below, sort_k, sort_kitem}
use Rattle.k_terms.specs.Sorts.Below.{same, subsort, produced, built_in, item, through}
use Rattle.live_config.proofs.Members.{Has, has_either, contains-has}
use Rattle.grammar_terms.specs.declared.production.Production.{Production}
use Rattle.grammar_terms.specs.Grammar.{Syntax, order_of, step_from, step_of, steps_of}
use Rattle.grammar_terms.specs.Reading.{item_sort}
use Rattle.rule_terms.specs.declared.defs.Kind.{Kind}
use Rattle.rule_contents.specs.Contents.{numbers_of, content_prods, with_content}

-- the productions of a grammar have sorts with names
pub record HasSorts (g : Syntax) : Type 0 where
  pub some : 10 ≤ length g.names
  pub within : g.declared ≤ length g.prods
  pub sort : (production : Production) → Has g.prods production → production.sort < length g.names

pub taken_front : {X : Type 0} (k : ℕ) (xs ys : List X) → k ≤ length xs → take k (xs ++ ys) ≡ take k xs
taken_front zero xs ys less = refl
taken_front (suc k) [] ys less = absurd (omega (arith, less))
taken_front (suc k) (x ∷ xs) ys less = ap (λ zs. x ∷ zs) (taken_front k xs ys (omega (arith, less)))

pub taken_has : {X : Type 0} (k : ℕ) (xs : List X) (x : X) → Has (take k xs) x → Has xs x
taken_has zero xs x h = absurd h
taken_has (suc k) [] x h = absurd h
taken_has (suc k) (y ∷ xs) x (inl e) = inl e
taken_has (suc k) (y ∷ xs) x (inr h) = inr (taken_has k xs x h)

-- ---- the order of sorts

step_high : (production : Production) (o : Option ℕ) (step : ℕ × ℕ) → Has (elim o [ None ↦ [] | Some low ↦ (low, production.sort) ∷ [] ]) step
    → step.1 ≡ production.sort
step_high production None step h = absurd h
step_high production (Some low) step (inl e) = sym (ap (λ (s : ℕ × ℕ). s.1) e)
step_high production (Some low) step (inr h) = absurd h

steps_high : (n : ℕ) (prods : List Production) (step : ℕ × ℕ) → ((production : Production) → Has prods production → production.sort < n)
    → Has (steps_of prods) step → step.1 < n
steps_high n [] step all h = absurd h
steps_high n (production ∷ prods) step all h =
    ⊎_elim
    (λ (here : Has (step_of production) step). let e : step.1 ≡ production.sort = step_high production (step_from production) step here in
    let less = all production (inl refl) in (let goal : step.1 < n = omega (arith, e, less) in goal))
    (λ (later : Has (steps_of prods) step). steps_high n prods step (λ other there. all other (inr there)) later)
    (has_either (step_of production) (steps_of prods) step h)

-- nothing else is below a sort that is above all steps
top_alone : (o : SortOrder) (n : ℕ) → 2 ≤ n → ((step : ℕ × ℕ) → Contains o.steps step → step.1 < n) → (a b : ℕ) → Below o a b → n ≤ b → a ≡ b
top_alone o n some steps a b below high = go below high
  where
    go : {a b : ℕ} → Below o a b → n ≤ b → a ≡ b
    go (same a) high = refl
    go (subsort a b has) high = let less : b < n = steps (a, b) has in absurd (omega (arith, less, high))
    go (produced a has) high = absurd (omega (arith, some, high))
    go (built_in a has) high = absurd (omega (arith, some, high))
    go item high = absurd (omega (arith, some, high))
    go (through a b c one other) high =
        let e : b ≡ c = go other high in
        let also : n ≤ b = omega (arith, e, high) in
        go one also ∙ e

module _ (g : Syntax) (has : HasSorts g) (kind : Kind) where
  abbrev n : ℕ
  n = length g.names

  abbrev contents : Syntax
  contents = with_content g kind

  -- what is of a sort of contents is of that sort alone
  pub high_alone : (own sort : ℕ) → n ≤ sort → Below (order_of contents) own (item_sort sort) ⊎ (own ≡ sort) → own ≡ sort
  high_alone own sort high (inr e) = e
  high_alone own sort high (inl below) =
      let some = has.some in
      let other : (sort == sort_k) ≡ false = is_not_k sort (omega (arith, some, high)) in
      let is : item_sort sort ≡ sort = ap (λ b. cond b sort_kitem sort) other in
      top_alone (order_of contents) n (omega (arith, some)) (λ step contains. steps_high n (take g.declared contents.prods) step in_front (contains-has (steps_of (take g.declared contents.prods)) step contains)) own sort
      (subst (Below (order_of contents) own) is below) high
    where
      is_not_k : (s : ℕ) → 1 ≤ s → (s == sort_k) ≡ false
      is_not_k s some = grind (arith, nat_tests)

      in_front : (production : Production) → Has (take g.declared contents.prods) production → production.sort < n
      in_front production there =
          has.sort production (taken_has g.declared g.prods production (subst (λ ps. Has ps production) (taken_front g.declared g.prods (content_prods (numbers_of g) kind) has.within) there))
