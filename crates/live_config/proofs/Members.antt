-- Members of lists, lists of rising numbers, and lists of numbers that are parted.
use Rattle.std.proofs.Common.{arith, inl, inr, ◌⊎◌, ◌≡◌, ℕ, suc, zero, ◌<◌, Bool, true, false, not, ◌==◌, ◌&&◌, ◌||◌, List, [], ◌∷◌, ◌++◌, map, filter, length, get_or, cond, Contains, refl, sym, ap, subst, ◌∙◌}
use Rattle.std.proofs.lemmas.Bool.{eqb-true, eq-eqb, ne_eqb, cases_eq, cases_Bool, and_parts, or_cases, or_right, not-true, not_from_false}
use Rattle.std.specs.List.{list_any, list_all}
use Rattle.rule_terms.specs.Numbers.{has_number, all_different}

module _ {X : Type 0} where
  -- x stands in the list
  abbrev pub Has : List X → X → Type 0
  Has [] x = ⊥
  Has (y ∷ ys) x = (y ≡ x) ⊎ Has ys x

  pub has-contains : (xs : List X) (x : X) → Has xs x → Contains xs x
  has-contains [] x h = absurd h
  has-contains (y ∷ ys) x (inl e) = (0, omega arith, e)
  has-contains (y ∷ ys) x (inr h) = let c = has-contains ys x h in (suc c.0, let l = c.1 in omega (arith, l), c.2)

  has_at : (xs : List X) (x : X) (k : ℕ) → k < length xs → get_or xs k x ≡ x → Has xs x
  has_at [] x k l e = absurd (omega (arith, l))
  has_at (y ∷ ys) x zero l e = inl e
  has_at (y ∷ ys) x (suc k) l e = inr (has_at ys x k (omega (arith, l)) e)

  pub contains-has : (xs : List X) (x : X) → Contains xs x → Has xs x
  contains-has xs x c = has_at xs x c.0 c.1 c.2

  pub has_left : (xs ys : List X) (x : X) → Has xs x → Has (xs ++ ys) x
  has_left [] ys x h = absurd h
  has_left (z ∷ xs) ys x (inl e) = inl e
  has_left (z ∷ xs) ys x (inr h) = inr (has_left xs ys x h)

  pub has_right : (xs ys : List X) (x : X) → Has ys x → Has (xs ++ ys) x
  has_right [] ys x h = h
  has_right (z ∷ xs) ys x h = inr (has_right xs ys x h)

  pub has_either : (xs ys : List X) (x : X) → Has (xs ++ ys) x → Has xs x ⊎ Has ys x
  has_either [] ys x h = inr h
  has_either (z ∷ xs) ys x (inl e) = inl (inl e)
  has_either (z ∷ xs) ys x (inr h) = elim (has_either xs ys x h) [ inl a ↦ inl (inr a) | inr b ↦ inr b ]

  -- what a filter keeps
  pub kept : (p : X → Bool) (xs : List X) (x : X) → Has (filter p xs) x → Has xs x × (p x ≡ true)
  kept p [] x h = absurd h
  kept p (y ∷ ys) x h =
      elim (p y) as (λ b. p y ≡ b → Has (cond b (y ∷ filter p ys) (filter p ys)) x → ((y ≡ x) ⊎ Has ys x) × (p x ≡ true)) [
        | true ↦ λ t g. elim g [ inl e ↦ (inl e, ap p (sym e) ∙ t) | inr k ↦ let r = kept p ys x k in (inr r.0, r.1) ]
        | false ↦ λ _ g. let r = kept p ys x g in (inr r.0, r.1)
      ] refl h

  pub keeps : (p : X → Bool) (xs : List X) (x : X) → Has xs x → p x ≡ true → Has (filter p xs) x
  keeps p [] x h t = absurd h
  keeps p (y ∷ ys) x h t =
      elim (p y) as (λ b. p y ≡ b → Has (cond b (y ∷ filter p ys) (filter p ys)) x) [
        | true ↦ λ _. elim h [ inl e ↦ inl e | inr g ↦ inr (keeps p ys x g t) ]
        | false ↦ λ f. elim h [ inl e ↦ absurd (let g : false ≡ true = sym f ∙ ap p e ∙ t in cc) | inr g ↦ keeps p ys x g t ]
      ] refl

  -- a test that finds a member
  pub any_has : (p : X → Bool) (xs : List X) → list_any p xs ≡ true → (x : X) × Has xs x × (p x ≡ true)
  any_has p [] e = absurd (let f : false ≡ true = e in cc)
  any_has p (y ∷ ys) e = elim (or_cases (p y) (list_any p ys) e) [ inl t ↦ (y, inl refl, t) | inr r ↦ let s = any_has p ys r in (s.0, inr s.1, s.2) ]

  pub has_any : (p : X → Bool) (xs : List X) (x : X) → Has xs x → p x ≡ true → list_any p xs ≡ true
  has_any p [] x h t = absurd h
  has_any p (y ∷ ys) x (inl e) t = ap (λ b. b || list_any p ys) (ap p e ∙ t)
  has_any p (y ∷ ys) x (inr h) t = or_right (p y) (list_any p ys) (has_any p ys x h t)

  pub all_has : (p : X → Bool) (xs : List X) (x : X) → list_all p xs ≡ true → Has xs x → p x ≡ true
  all_has p [] x e h = absurd h
  all_has p (y ∷ ys) x e (inl s) = ap p (sym s) ∙ (and_parts (p y) (list_all p ys) e).0
  all_has p (y ∷ ys) x e (inr h) = all_has p ys x (and_parts (p y) (list_all p ys) e).1 h

module _ {X Y : Type 0} (f : X → Y) where
  pub has_map : (xs : List X) (x : X) → Has xs x → Has (map f xs) (f x)
  has_map [] x h = absurd h
  has_map (y ∷ ys) x (inl e) = inl (ap f e)
  has_map (y ∷ ys) x (inr h) = inr (has_map ys x h)

  pub map_has : (xs : List X) (y : Y) → Has (map f xs) y → (x : X) × Has xs x × (f x ≡ y)
  map_has [] y h = absurd h
  map_has (x ∷ xs) y (inl e) = (x, inl refl, e)
  map_has (x ∷ xs) y (inr h) = let r = map_has xs y h in (r.0, inr r.1, r.2)

-- ---- lists of numbers

pub number_has : (ns : List ℕ) (n : ℕ) → has_number ns n ≡ true → Has ns n
number_has ns n e = let r = any_has (λ m. m == n) ns e in subst (Has ns) (eqb-true r.0 n r.2) r.1

pub has_the_number : (ns : List ℕ) (n : ℕ) → Has ns n → has_number ns n ≡ true
has_the_number ns n h = has_any (λ m. m == n) ns n h (eq-eqb n n refl)

pub lacks_number : (ns : List ℕ) (n : ℕ) → (Has ns n → ⊥) → has_number ns n ≡ false
lacks_number ns n none = elim (cases_Bool (has_number ns n)) [ inl t ↦ absurd (none (number_has ns n t)) | inr f ↦ f ]

pub number_lacks : (ns : List ℕ) (n : ℕ) → has_number ns n ≡ false → Has ns n → ⊥
number_lacks ns n f h = let t : has_number ns n ≡ true = has_the_number ns n h in cc

-- no number stands twice
abbrev pub Apart : List ℕ → Type 0
Apart [] = Unit {0}
Apart (n ∷ ns) = (Has ns n → ⊥) × Apart ns

pub different-apart : (ns : List ℕ) → all_different ns ≡ true → Apart ns
different-apart [] e = tt
different-apart (n ∷ ns) e =
    let p = and_parts (not (has_number ns n)) (all_different ns) e in
    (number_lacks ns n (not-true _ p.0), different-apart ns p.1)

-- each number is less than those after it
abbrev pub Rises : List ℕ → Type 0
Rises [] = Unit {0}
Rises (n ∷ ns) = ((m : ℕ) → Has ns m → n < m) × Rises ns

pub rises-apart : (ns : List ℕ) → Rises ns → Apart ns
rises-apart [] r = tt
rises-apart (n ∷ ns) r = ((λ h. let l = r.0 n h in omega (arith, l)), rises-apart ns r.1)

pub rises-filter : (p : ℕ → Bool) (ns : List ℕ) → Rises ns → Rises (filter p ns)
rises-filter p [] r = tt
rises-filter p (n ∷ ns) r =
    elim (p n) as (λ b. Rises (cond b (n ∷ filter p ns) (filter p ns))) [
      | true ↦ ((λ m h. r.0 m (kept p ns m h).0), rises-filter p ns r.1)
      | false ↦ rises-filter p ns r.1
    ]

tail_has : (n k : ℕ) (ns ms : List ℕ) → n ≡ k → ((m : ℕ) → Has ns m → n < m) → ((m : ℕ) → Has (n ∷ ns) m → Has (k ∷ ms) m) → (m : ℕ) → Has ns m → Has ms m
tail_has n k ns ms e low to m h = elim (to m (inr h)) [ inl s ↦ absurd (let l = low m h in omega (arith, l, s, e)) | inr g ↦ g ]

-- two rising lists with the same members are the same
pub same_rising : (ns ms : List ℕ) → Rises ns → Rises ms → ((m : ℕ) → Has ns m → Has ms m) → ((m : ℕ) → Has ms m → Has ns m) → ns ≡ ms
same_rising [] [] r s to from = refl
same_rising [] (k ∷ ms) r s to from = absurd (from k (inl refl))
same_rising (n ∷ ns) [] r s to from = absurd (to n (inl refl))
same_rising (n ∷ ns) (k ∷ ms) r s to from =
    let same : n ≡ k = elim (to n (inl refl)) [
      | inl e ↦ sym e
      | inr h ↦ elim (from k (inl refl)) [ inl e ↦ e | inr g ↦ absurd (let a = r.0 k g in let b = s.0 n h in omega (arith, a, b)) ]
    ] in
    let rest = same_rising ns ms r.1 s.1 (tail_has n k ns ms same r.0 to) (tail_has k n ms ns (sym same) s.0 from) in
    λ i. same i ∷ rest i

-- ---- the numbers of a list that are taken out of another, one by one, and what is left

abbrev pub Leaves : List ℕ → List ℕ → List ℕ → Type 0
Leaves [] ks others = ks ≡ others
Leaves (m ∷ ms) ks others = (before : List ℕ) × (after : List ℕ) × (ks ≡ before ++ m ∷ after) × Leaves ms (before ++ after) others

abbrev pub without : ℕ → List ℕ → List ℕ
without m ks = filter (λ k. not (k == m)) ks

pub without_none : (m : ℕ) (ks : List ℕ) → (Has ks m → ⊥) → without m ks ≡ ks
without_none m [] none = refl
without_none m (k ∷ ks) none = rw (ne_eqb k m (λ e. none (inl e))) (ap (λ rest. k ∷ rest) (without_none m ks (λ h. none (inr h))))

-- a number that stands once in a list parts it
pub parted : (m : ℕ) (ks : List ℕ) → Apart ks → Has ks m → (before : List ℕ) × (after : List ℕ) × (ks ≡ before ++ m ∷ after) × (before ++ after ≡ without m ks)
parted m [] apart h = absurd h
parted m (k ∷ ks) apart (inl e) =
    ([], ks, ap (λ j. j ∷ ks) e, rw (eq-eqb k m e) (sym (without_none m ks (subst (λ j. Has ks j → ⊥) e apart.0))))
parted m (k ∷ ks) apart (inr h) =
    let rest = parted m ks apart.1 h in
    let differ : k ≡ m → ⊥ = λ e. apart.0 (subst (Has ks) (sym e) h) in
    (k ∷ rest.0, rest.1, ap (λ js. k ∷ js) rest.2, rw (ne_eqb k m differ) (ap (λ js. k ∷ js) rest.3))

beside : (m k : ℕ) (ms : List ℕ) → (not (k == m) && not (has_number ms k)) ≡ not (has_number (m ∷ ms) k)
beside m k ms =
    elim (cases_eq k m) [
      | inl e ↦ rw (eq-eqb k m e, eq-eqb m k (sym e)) refl
      | inr d ↦ rw (ne_eqb k m d, ne_eqb m k (λ e. d (sym e))) refl
    ]

filter_twice : (p q r : ℕ → Bool) → ((k : ℕ) → (p k && q k) ≡ r k) → (ks : List ℕ) → filter q (filter p ks) ≡ filter r ks
filter_twice p q r same [] = refl
filter_twice p q r same (k ∷ ks) =
    let rest = filter_twice p q r same ks in
    elim (p k) as (λ b. p k ≡ b → filter q (cond b (k ∷ filter p ks) (filter p ks)) ≡ cond (r k) (k ∷ filter r ks) (filter r ks)) [
      | true ↦ λ e. rw (sym (same k), e) (ap (λ js. cond (q k) (k ∷ js) js) rest)
      | false ↦ λ e. rw (sym (same k), e) rest
    ] refl

apart_filter : (p : ℕ → Bool) (ns : List ℕ) → Apart ns → Apart (filter p ns)
apart_filter p [] a = tt
apart_filter p (n ∷ ns) a =
    elim (p n) as (λ b. Apart (cond b (n ∷ filter p ns) (filter p ns))) [
      | true ↦ ((λ h. a.0 (kept p ns n h).0), apart_filter p ns a.1)
      | false ↦ apart_filter p ns a.1
    ]

-- numbers that all differ and stand in a list leave those that are not among them
pub leaves_others : (ms ks : List ℕ) → Apart ms → Apart ks → ((m : ℕ) → Has ms m → Has ks m) → Leaves ms ks (filter (λ k. not (has_number ms k)) ks)
leaves_others [] ks a b within = sym (all_kept ks)
  where
    all_kept : (xs : List ℕ) → filter (λ k. not (has_number [] k)) xs ≡ xs
    all_kept [] = refl
    all_kept (x ∷ xs) = ap (λ rest. x ∷ rest) (all_kept xs)
leaves_others (m ∷ ms) ks a b within =
    let p = parted m ks b (within m (inl refl)) in
    let rest = leaves_others ms (without m ks) a.1 (apart_filter (λ k. not (k == m)) ks b) (λ k h. keeps (λ j. not (j == m)) ks k (within k (inr h)) (not_from_false _ (ne_eqb k m (λ e. a.0 (subst (Has ms) e h))))) in (
      p.0,
      p.1,
      p.2,
      subst (λ js. Leaves ms js (filter (λ k. not (has_number (m ∷ ms) k)) ks)) (sym p.3)
          (subst (Leaves ms (without m ks)) (filter_twice (λ k. not (k == m)) (λ k. not (has_number ms k)) (λ k. not (has_number (m ∷ ms) k)) (λ k. beside m k ms) ks) rest),
    )
