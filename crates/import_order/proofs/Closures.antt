-- The laws of closures.
use Rattle.std.proofs.Common.{inl, inr, ⊎_elim, ◌⊎◌, ◌≡◌, ◌≢◌, ℕ, List, [], ◌∷◌, ◌++◌, refl, sym, ap, subst, ◌∙◌}
use Rattle.std.specs.List.{concat}
use Rattle.import_order.specs.Imports.{Has, imports_of, Reaches, by_one, by_more, LeadsToCycle}
use Rattle.import_order.specs.Order.{without, firsts, IsClosure, AreClosures, closes, none, next, IsOrder}
use Rattle.import_order.specs.Walking.{AreApart}
use Rattle.import_order.proofs.Members.{has_left, has_right, has_either, has_last, has_push, same_or_not, has_same, apart_around}
use Rattle.import_order.proofs.Firsts.{firsts_has, has_firsts, firsts_apart, without_same, without_other}

module _ (graph : List (List ℕ)) where
  -- what a closure is made of
  pub record IsMade (m : ℕ) (order : List ℕ) : Type 0 where
    pub parts : List (List ℕ)
    pub closures : AreClosures graph (imports_of graph m) parts
    pub is : order ≡ firsts (concat parts ++ m ∷ [])

  pub made : (m : ℕ) (order : List ℕ) → IsClosure graph m order → IsMade m order
  made m order (closes _ _ parts closures is) = record { parts = parts; closures = closures; is = is }

  pub no_parts : (parts : List (List ℕ)) → AreClosures graph [] parts → parts ≡ []
  no_parts parts none = refl

  -- the closures of several modules are that of the first and those of the rest
  pub record AreMade (m : ℕ) (ms : List ℕ) (parts : List (List ℕ)) : Type 0 where
    pub order : List ℕ
    pub rest : List (List ℕ)
    pub closure : IsClosure graph m order
    pub closures : AreClosures graph ms rest
    pub is : parts ≡ order ∷ rest

  pub all_made : (m : ℕ) (ms : List ℕ) (parts : List (List ℕ)) → AreClosures graph (m ∷ ms) parts → AreMade m ms parts
  all_made m ms parts (next _ _ order rest closure closures) = record { order = order; rest = rest; closure = closure; closures = closures; is = refl }

  mutual
    same_closure : (m : ℕ) (one other : List ℕ) → IsClosure graph m one → IsClosure graph m other → one ≡ other
    same_closure _ _ other (closes m one parts closures is) second =
        let b = made m other second in
        is ∙ ap (λ ps. firsts (concat ps ++ m ∷ [])) (same_closures (imports_of graph m) parts b.parts closures b.closures) ∙ sym b.is

    same_closures : (ms : List ℕ) (one other : List (List ℕ)) → AreClosures graph ms one → AreClosures graph ms other → one ≡ other
    same_closures _ _ other none second = sym (no_parts other second)
    same_closures _ _ other (next m ms order parts closure closures) second =
        let b = all_made m ms other second in
        ap (λ o. o ∷ parts) (same_closure m order b.order closure b.closure) ∙ ap (λ ps. b.order ∷ ps) (same_closures ms parts b.rest closures b.closures) ∙ sym b.is

  pub one_closure : (m : ℕ) (one other : List ℕ) → IsClosure graph m one → IsClosure graph m other → one ≡ other
  one_closure = same_closure

  pub stands_once : (m : ℕ) (order : List ℕ) → IsClosure graph m order → (front back : List ℕ) (x : ℕ) → order ≡ front ++ x ∷ back → Has (front ++ back) x → ⊥
  stands_once m order closure front back x e h =
      let c = made m order closure in
      apart_around front back x (subst AreApart (sym c.is ∙ e) (firsts_apart (concat c.parts ++ m ∷ []))) h

  -- the closure of one of several modules
  pub record IsPart (x : ℕ) (parts : List (List ℕ)) : Type 0 where
    pub order : List ℕ
    pub closure : IsClosure graph x order
    pub within : (y : ℕ) → Has order y → Has (concat parts) y

  pub part_of : (ms : List ℕ) (parts : List (List ℕ)) (x : ℕ) → AreClosures graph ms parts → Has ms x → IsPart x parts
  part_of _ _ x none h = absurd h
  part_of _ _ x (next m ms order parts closure closures) (inl e) = record {
    order = order;
    closure = subst (λ y. IsClosure graph y order) e closure;
    within = λ y. has_left order (concat parts) y;
  }
  part_of _ _ x (next m ms order parts closure closures) (inr h) =
      let p = part_of ms parts x closures h in record { order = p.order; closure = p.closure; within = λ y has. has_right order (concat parts) y (p.within y has) }

  -- what stands in a closure
  pub has_itself : (m : ℕ) (order : List ℕ) → IsClosure graph m order → Has order m
  has_itself m order closure = let c = made m order closure in subst (λ o. Has o m) (sym c.is) (has_firsts (concat c.parts ++ m ∷ []) m (has_last (concat c.parts) m))

  pub has_parts : (m : ℕ) (order : List ℕ) (c : IsMade m order) (x : ℕ) → Has (concat c.parts) x → Has order x
  has_parts m order c x h = subst (λ o. Has o x) (sym c.is) (has_firsts (concat c.parts ++ m ∷ []) x (has_left (concat c.parts) (m ∷ []) x h))

  pub has_reached : (m x : ℕ) (order : List ℕ) → IsClosure graph m order → Reaches graph m x → Has order x
  has_reached _ _ order closure (by_one m x h) =
      let c = made m order closure in
      let p = part_of (imports_of graph m) c.parts x c.closures h in
      has_parts m order c x (p.within x (has_itself x p.order p.closure))
  has_reached _ _ order closure (by_more m y x h more) =
      let c = made m order closure in
      let p = part_of (imports_of graph m) c.parts y c.closures h in
      has_parts m order c x (p.within x (has_reached y x p.order p.closure more))

  -- some module of several is another or reaches it
  pub record SomeReaches (ms : List ℕ) (x : ℕ) : Type 0 where
    pub from : ℕ
    pub is_one : Has ms from
    pub leads : (x ≡ from) ⊎ Reaches graph from x

  reaches_one : (m x : ℕ) → SomeReaches (imports_of graph m) x → Reaches graph m x
  reaches_one m x s = ⊎_elim (λ (e : x ≡ s.from). by_one m x (has_same (imports_of graph m) s.from x (sym e) s.is_one)) (λ r. by_more m s.from x s.is_one r) s.leads

  mutual
    reached_one : (m x : ℕ) (order : List ℕ) → IsClosure graph m order → Has order x → (x ≡ m) ⊎ Reaches graph m x
    reached_one _ x _ (closes m order parts closures is) h =
        ⊎_elim
        (λ (l : Has (concat parts) x). inr (reaches_one m x (reached_some (imports_of graph m) parts x closures l)))
        (λ (e : m ≡ x). inl (sym e))
        (has_push (concat parts) m x (firsts_has (concat parts ++ m ∷ []) x (subst (λ o. Has o x) is h)))

    reached_some : (ms : List ℕ) (parts : List (List ℕ)) (x : ℕ) → AreClosures graph ms parts → Has (concat parts) x → SomeReaches ms x
    reached_some _ _ x none h = absurd h
    reached_some _ _ x (next m ms order parts closure closures) h =
        ⊎_elim
        (λ (l : Has order x). record { from = m; is_one = inl refl; leads = reached_one m x order closure l })
        (λ (r : Has (concat parts) x). let s = reached_some ms parts x closures r in record { from = s.from; is_one = inr s.is_one; leads = s.leads })
        (has_either order (concat parts) x h)

  pub has_what_is_reached : (m : ℕ) (order : List ℕ) → IsClosure graph m order → (x : ℕ) → (Has order x → (x ≡ m) ⊎ Reaches graph m x) × ((x ≡ m) ⊎ Reaches graph m x → Has order x)
  has_what_is_reached m order closure x = (
    reached_one m x order closure,
    λ either. ⊎_elim (λ (e : x ≡ m). has_same order m x (sym e) (has_itself m order closure)) (λ r. has_reached m x order closure r) either,
  )

  pub one_more : (m y x : ℕ) → Reaches graph m y → Has (imports_of graph y) x → Reaches graph m x
  one_more _ _ x (by_one m y h) more = by_more m y x h (by_one y x more)
  one_more _ _ x (by_more m z y h leads) more = by_more m z x h (one_more z y x leads more)

  pub and_on : (m y x : ℕ) → Reaches graph m y → Reaches graph y x → Reaches graph m x
  and_on _ _ x (by_one m y h) more = by_more m y x h more
  and_on _ _ x (by_more m z y h leads) more = by_more m z x h (and_on z y x leads more)

  -- a cycle through a module goes through one that it imports
  pub record ImportsCycle (m : ℕ) : Type 0 where
    pub at : ℕ
    pub is_one : Has (imports_of graph m) at
    pub cycle : Reaches graph at at

  turned : (m x : ℕ) → x ≡ m → Reaches graph m x → ImportsCycle m
  turned _ _ e (by_one m x h) =
      let itself = has_same (imports_of graph m) x m e h in record { at = m; is_one = itself; cycle = by_one m m itself }
  turned _ _ e (by_more m y x h leads) = record { at = y; is_one = h; cycle = one_more y m y (subst (Reaches graph y) e leads) h }

  mutual
    no_cycle : (m : ℕ) (order : List ℕ) → IsClosure graph m order → Reaches graph m m → ⊥
    no_cycle _ _ (closes m order parts closures is) cycle = let t = turned m m refl cycle in no_cycles (imports_of graph m) parts t.at closures t.is_one t.cycle

    no_cycles : (ms : List ℕ) (parts : List (List ℕ)) (x : ℕ) → AreClosures graph ms parts → Has ms x → Reaches graph x x → ⊥
    no_cycles _ _ x none h cycle = h
    no_cycles _ _ x (next m ms order parts closure closures) h cycle =
        ⊎_elim
        (λ (e : m ≡ x). no_cycle m order closure (subst (λ y. Reaches graph y y) (sym e) cycle))
        (λ (r : Has ms x). no_cycles ms parts x closures r cycle)
        h

  pub lies_on_no_cycle : (m : ℕ) (order : List ℕ) → IsClosure graph m order → Reaches graph m m → ⊥
  lies_on_no_cycle = no_cycle

  pub no_cycle_through : (ms : List ℕ) (parts : List (List ℕ)) (x : ℕ) → AreClosures graph ms parts → Has ms x → Reaches graph x x → ⊥
  no_cycle_through = no_cycles

  -- a module with a closure reaches no cycle
  reached_no_cycle : (m x : ℕ) (order : List ℕ) → IsClosure graph m order → Reaches graph m x → Reaches graph x x → ⊥
  reached_no_cycle _ _ order closure (by_one m x h) cycle = let c = made m order closure in no_cycles (imports_of graph m) c.parts x c.closures h cycle
  reached_no_cycle _ _ order closure (by_more m y x h leads) cycle =
      let c = made m order closure in
      let p = part_of (imports_of graph m) c.parts y c.closures h in
      reached_no_cycle y x p.order p.closure leads cycle

  pub no_order : (roots order : List ℕ) → IsOrder graph roots order → LeadsToCycle graph roots → ⊥
  no_order roots order is c =
      let p = part_of roots is.parts c.root is.closures c.is_root in
      ⊎_elim
      (λ (e : c.at ≡ c.root). no_cycle c.root p.order p.closure (subst (λ x. Reaches graph x x) e c.cycle))
      (λ (r : Reaches graph c.root c.at). reached_no_cycle c.root c.at p.order p.closure r c.cycle)
      c.leads

  pub closures_push : (ms : List ℕ) (parts : List (List ℕ)) (m : ℕ) (order : List ℕ) → AreClosures graph ms parts → IsClosure graph m order → AreClosures graph (ms ++ m ∷ []) (parts ++ order ∷ [])
  closures_push _ _ m order none closure = next m [] order [] closure none
  closures_push _ _ m order (next x ms o parts first closures) closure = next x (ms ++ m ∷ []) o (parts ++ order ∷ []) first (closures_push ms parts m order closures closure)

  -- ---- what is imported stands in front

  -- with these in front, what each imports stands before it
  IsRising : List ℕ → List ℕ → Type 0
  IsRising seen [] = Unit {0}
  IsRising seen (x ∷ xs) = ((y : ℕ) → Has (imports_of graph x) y → Has seen y) × IsRising (x ∷ seen) xs

  rising_more : (xs seen more : List ℕ) → ((y : ℕ) → Has seen y → Has more y) → IsRising seen xs → IsRising more xs
  unfolding IsRising
  rising_more [] seen more all rising = tt
  rising_more (x ∷ xs) seen more all rising = (
    λ y h. all y (rising.0 y h),
    rising_more xs (x ∷ seen) (x ∷ more) (λ y h. ⊎_elim (λ (e : x ≡ y). inl e) (λ (r : Has seen y). inr (all y r)) h) rising.1,
  )

  rising_append : (xs ys seen : List ℕ) → IsRising seen xs → ((more : List ℕ) → ((y : ℕ) → Has seen y → Has more y) → ((y : ℕ) → Has xs y → Has more y) → IsRising more ys) → IsRising seen (xs ++ ys)
  unfolding IsRising
  rising_append [] ys seen rising then = then seen (λ y h. h) (λ y h. absurd h)
  rising_append (x ∷ xs) ys seen rising then = (
    rising.0,
    rising_append xs ys (x ∷ seen) rising.1
        (λ more all own. then more (λ y h. all y (inr h)) (λ y h. ⊎_elim (λ (e : x ≡ y). all y (inl e)) (λ (r : Has xs y). own y r) h)),
  )

  rising_without : (x : ℕ) (xs seen : List ℕ) → Has seen x → IsRising seen xs → IsRising seen (without x xs)
  unfolding IsRising
  rising_without x [] seen has rising = tt
  rising_without x (z ∷ xs) seen has rising =
      ⊎_elim
      (λ (e : z ≡ x).
      subst (IsRising seen) (sym (without_same x z xs e))
      (rising_without x xs seen has (rising_more xs (z ∷ seen) seen (λ y h. ⊎_elim (λ (s : z ≡ y). has_same seen x y (sym e ∙ s) has) (λ (r : Has seen y). r) h) rising.1)))
      (λ (e : z ≢ x).
      let both : IsRising seen (z ∷ without x xs) = (rising.0, rising_without x xs (z ∷ seen) (inr has) rising.1) in
      subst (IsRising seen) (sym (without_other x z xs e)) both)
      (same_or_not z x)

  rising_firsts : (xs seen : List ℕ) → IsRising seen xs → IsRising seen (firsts xs)
  unfolding IsRising
  rising_firsts [] seen rising = tt
  rising_firsts (x ∷ xs) seen rising = (rising.0, rising_without x (firsts xs) (x ∷ seen) (inl refl) (rising_firsts xs (x ∷ seen) rising.1))

  rising_last : (m : ℕ) (seen : List ℕ) → ((y : ℕ) → Has (imports_of graph m) y → Has seen y) → IsRising seen (m ∷ [])
  unfolding IsRising
  rising_last m seen all = (all, tt)

  none_rising : (seen : List ℕ) → IsRising seen []
  unfolding IsRising
  none_rising seen = tt

  mutual
    closure_rising : (m : ℕ) (order seen : List ℕ) → IsClosure graph m order → IsRising seen order
    closure_rising _ _ seen (closes m order parts closures is) =
        subst (IsRising seen) (sym is)
        (rising_firsts (concat parts ++ m ∷ []) seen
        (rising_append (concat parts) (m ∷ []) seen (closures_rising (imports_of graph m) parts seen closures)
        (λ more all own. rising_last m more (λ y h. let p = part_of (imports_of graph m) parts y closures h in own y (p.within y (has_itself y p.order p.closure))))))

    closures_rising : (ms : List ℕ) (parts : List (List ℕ)) (seen : List ℕ) → AreClosures graph ms parts → IsRising seen (concat parts)
    closures_rising _ _ seen none = none_rising seen
    closures_rising _ _ seen (next m ms order parts closure closures) =
        rising_append order (concat parts) seen (closure_rising m order seen closure) (λ more all own. closures_rising ms parts more closures)

  rising_at : (front back seen : List ℕ) (x y : ℕ) → IsRising seen (front ++ x ∷ back) → Has (imports_of graph x) y → Has seen y ⊎ Has front y
  unfolding IsRising
  rising_at [] back seen x y rising h = inl (rising.0 y h)
  rising_at (z ∷ front) back seen x y rising h =
      ⊎_elim
      (λ (l : Has (z ∷ seen) y). ⊎_elim (λ (e : z ≡ y). inr (inl e)) (λ (s : Has seen y). inl s) l)
      (λ (r : Has front y). inr (inr r))
      (rising_at front back (z ∷ seen) x y rising.1 h)

  pub stands_in_front : (m : ℕ) (order : List ℕ) → IsClosure graph m order → (front back : List ℕ) (x y : ℕ) → order ≡ front ++ x ∷ back → Has (imports_of graph x) y → Has front y
  stands_in_front m order closure front back x y e h =
      ⊎_elim (λ (none : ⊥). absurd none) (λ (r : Has front y). r) (rising_at front back [] x y (subst (IsRising []) e (closure_rising m order [] closure)) h)
