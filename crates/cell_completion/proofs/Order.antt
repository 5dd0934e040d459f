-- Trees in order.
use Rattle.std.proofs.Common.{◌≡◌, ◌⊎◌, inl, inr, ℕ, ◌<◌, ◌≤◌, true, false, not, cond, ◌==◌, ◌&&◌, ◌||◌, List, [], ◌∷◌, refl, sym, ◌∙◌, subst, arith}
use Rattle.std.specs.Prelude.{nat_lt}
use Rattle.std.proofs.lemmas.Bool.{eqb-true, eq-eqb, ltb-true, lt-ltb, cases_lt, or_cases, and_parts, and_from, or_left, or_right}
use Rattle.rule_terms.specs.declared.defs.CellShape.{CellShape}
use Rattle.live_config.proofs.Members.{Has}
use Rattle.cell_completion.specs.declared.tree.Tree.{Tree}
use Rattle.cell_completion.specs.Trees.{first_mark}
use Rattle.cell_completion.specs.Completion.{is_many, ComesBefore, AreInOrder}
use Rattle.cell_completion.specs.Building.{stands_before, inserted, all_inserted, have_room}
use Rattle.cell_completion.proofs.Unfolded.{cell_of}

-- ---- the order

abbrev pub Before : Tree → Tree → Type 0
Before t u = (cell_of t < cell_of u) ⊎ ((cell_of t ≡ cell_of u) × (first_mark t < first_mark u))

pub before_from : (t u : Tree) → stands_before t u ≡ true → Before t u
before_from t u e =
    elim (or_cases (nat_lt (cell_of t) (cell_of u)) (cell_of t == cell_of u && nat_lt (first_mark t) (first_mark u)) e) [
      | inl less ↦ inl (ltb-true (cell_of t) (cell_of u) less)
      | inr both ↦ let p = and_parts (cell_of t == cell_of u) (nat_lt (first_mark t) (first_mark u)) both in
          inr (eqb-true (cell_of t) (cell_of u) p.0, ltb-true (first_mark t) (first_mark u) p.1)
    ]

pub from_before : (t u : Tree) → Before t u → stands_before t u ≡ true
from_before t u (inl less) =
    or_left (nat_lt (cell_of t) (cell_of u)) (cell_of t == cell_of u && nat_lt (first_mark t) (first_mark u)) (lt-ltb (cell_of t) (cell_of u) less)
from_before t u (inr both) =
    or_right (nat_lt (cell_of t) (cell_of u)) (cell_of t == cell_of u && nat_lt (first_mark t) (first_mark u))
    (and_from (cell_of t == cell_of u) (nat_lt (first_mark t) (first_mark u)) (eq-eqb (cell_of t) (cell_of u) both.0) (lt-ltb (first_mark t) (first_mark u) both.1))

pub not_before : (t u : Tree) → stands_before t u ≡ false → Before t u → ⊥
not_before t u f b = let e : stands_before t u ≡ true = from_before t u b in let g : false ≡ true = sym f ∙ e in cc

pub never_before : (t : Tree) → Before t t → ⊥
never_before t (inl less) = omega (arith, less)
never_before t (inr both) = let l = both.1 in omega (arith, l)

pub before_both : (t u : Tree) → Before t u → Before u t → ⊥
before_both t u (inl a) (inl b) = omega (arith, a, b)
before_both t u (inl a) (inr b) = let e = b.0 in omega (arith, a, e)
before_both t u (inr a) (inl b) = let e = a.0 in omega (arith, b, e)
before_both t u (inr a) (inr b) = let l = a.1 in let m = b.1 in omega (arith, l, m)

pub before_then : (t u v : Tree) → Before t u → Before u v → Before t v
before_then t u v (inl a) (inl b) = inl (omega (arith, a, b))
before_then t u v (inl a) (inr b) = let e = b.0 in inl (omega (arith, a, e))
before_then t u v (inr a) (inl b) = let e = a.0 in inl (omega (arith, b, e))
before_then t u v (inr a) (inr b) = let l = a.1 in let m = b.1 in inr (a.0 ∙ b.0, omega (arith, l, m))

-- two trees of which one stands before the other
abbrev pub AreApart : Tree → Tree → Type 0
AreApart t u = Before t u ⊎ Before u t

pub apart_turned : (t u : Tree) → AreApart t u → AreApart u t
apart_turned t u (inl b) = inr b
apart_turned t u (inr b) = inl b

-- those with different first marks are
pub by_first : (t u : Tree) → (first_mark t ≡ first_mark u → ⊥) → AreApart t u
by_first t u differ =
    elim (cases_lt (cell_of t) (cell_of u)) [
      | inl less ↦ inl (inl less)
      | inr more ↦ elim (cases_lt (cell_of u) (cell_of t)) [
        | inl less ↦ inr (inl less)
        | inr same ↦ elim (cases_lt (first_mark t) (first_mark u)) [
          | inl less ↦ inl (inr (omega (arith, more, same), less))
          | inr least ↦ inr (inr (omega (arith, more, same), other (first_mark t) (first_mark u) least differ))
        ]
      ]
    ]
  where
    other : (m n : ℕ) → n ≤ m → (m ≡ n → ⊥) → n < m
    other m n least differ = elim (cases_lt n m) [ inl less ↦ less | inr more ↦ absurd (differ (omega (arith, least, more))) ]

-- ---- lists in order

abbrev pub Sorted : List Tree → Type 0
Sorted [] = Unit {0}
Sorted (t ∷ ts) = ((u : Tree) → Has ts u → Before t u) × Sorted ts

tail_has : (t u : Tree) (ts us : List Tree) → t ≡ u → ((v : Tree) → Has ts v → Before t v) → ((v : Tree) → Has (t ∷ ts) v → Has (u ∷ us) v)
    → (v : Tree) → Has ts v → Has us v
tail_has t u ts us e low to v h =
    elim (to v (inr h)) [ inl s ↦ absurd (never_before v (subst (λ w. Before w v) (e ∙ s) (low v h))) | inr g ↦ g ]

-- two lists in order with the same members are the same
pub same_sorted : (ts us : List Tree) → Sorted ts → Sorted us → ((v : Tree) → Has ts v → Has us v) → ((v : Tree) → Has us v → Has ts v) → ts ≡ us
same_sorted [] [] r s to from = refl
same_sorted [] (u ∷ us) r s to from = absurd (from u (inl refl))
same_sorted (t ∷ ts) [] r s to from = absurd (to t (inl refl))
same_sorted (t ∷ ts) (u ∷ us) r s to from =
    let same : t ≡ u = elim (to t (inl refl)) [
      | inl e ↦ sym e
      | inr h ↦ elim (from u (inl refl)) [ inl e ↦ e | inr g ↦ absurd (before_both t u (r.0 u g) (s.0 t h)) ]
    ] in
    let rest = same_sorted ts us r.1 s.1 (tail_has t u ts us same r.0 to) (tail_has u t us ts (sym same) s.0 from) in
    λ i. same i ∷ rest i

-- ---- putting one in

pub inserted_has : (t : Tree) (us : List Tree) (x : Tree) → Has (inserted t us) x → (t ≡ x) ⊎ Has us x
inserted_has t [] x h = h
inserted_has t (u ∷ us) x h =
    elim (stands_before u t) as (λ b. Has (cond b (u ∷ inserted t us) (t ∷ u ∷ us)) x → (t ≡ x) ⊎ Has (u ∷ us) x) [
      | true ↦ λ g. elim g [ inl e ↦ inr (inl e) | inr k ↦ elim (inserted_has t us x k) [ inl e ↦ inl e | inr m ↦ inr (inr m) ] ]
      | false ↦ λ g. g
    ] h

pub has_new : (t : Tree) (us : List Tree) → Has (inserted t us) t
has_new t [] = inl refl
has_new t (u ∷ us) =
    elim (stands_before u t) as (λ b. Has (cond b (u ∷ inserted t us) (t ∷ u ∷ us)) t) [
      | true ↦ inr (has_new t us)
      | false ↦ inl refl
    ]

pub has_old : (t : Tree) (us : List Tree) (x : Tree) → Has us x → Has (inserted t us) x
has_old t [] x h = absurd h
has_old t (u ∷ us) x h =
    elim (stands_before u t) as (λ b. Has (cond b (u ∷ inserted t us) (t ∷ u ∷ us)) x) [
      | true ↦ elim h [ inl e ↦ inl e | inr g ↦ inr (has_old t us x g) ]
      | false ↦ inr h
    ]

pub inserted_sorted : (t : Tree) (us : List Tree) → Sorted us → ((u : Tree) → Has us u → AreApart t u) → Sorted (inserted t us)
inserted_sorted t [] s apart = ((λ u h. absurd h), tt)
inserted_sorted t (u ∷ us) s apart =
    elim (stands_before u t) as (λ b. stands_before u t ≡ b → Sorted (cond b (u ∷ inserted t us) (t ∷ u ∷ us))) [
      | true ↦ λ e. (
        (λ v h. elim (inserted_has t us v h) [ inl same ↦ subst (Before u) same (before_from u t e) | inr g ↦ s.0 v g ]),
        inserted_sorted t us s.1 (λ v h. apart v (inr h)),
      )
      | false ↦ λ e.
          let first : Before t u = elim (apart u (inl refl)) [ inl b ↦ b | inr b ↦ absurd (not_before u t e b) ] in
          ((λ v h. elim h [ inl same ↦ subst (Before t) same first | inr g ↦ before_then t u v first (s.0 v g) ]), s)
    ] refl

-- ---- putting several in

pub all_inserted_has : (ts us : List Tree) (x : Tree) → Has (all_inserted ts us) x → Has ts x ⊎ Has us x
all_inserted_has [] us x h = inr h
all_inserted_has (t ∷ ts) us x h =
    elim (all_inserted_has ts (inserted t us) x h) [
      | inl g ↦ inl (inr g)
      | inr g ↦ elim (inserted_has t us x g) [ inl e ↦ inl (inl e) | inr k ↦ inr k ]
    ]

pub has_all_old : (ts us : List Tree) (x : Tree) → Has us x → Has (all_inserted ts us) x
has_all_old [] us x h = h
has_all_old (t ∷ ts) us x h = has_all_old ts (inserted t us) x (has_old t us x h)

pub has_all_new : (ts us : List Tree) (x : Tree) → Has ts x → Has (all_inserted ts us) x
has_all_new [] us x h = absurd h
has_all_new (t ∷ ts) us x (inl e) = has_all_old ts (inserted t us) x (subst (Has (inserted t us)) e (has_new t us))
has_all_new (t ∷ ts) us x (inr h) = has_all_new ts (inserted t us) x h

-- each two at different places are apart
abbrev pub AllApart : List Tree → Type 0
AllApart [] = Unit {0}
AllApart (t ∷ ts) = ((u : Tree) → Has ts u → AreApart t u) × AllApart ts

pub all_sorted : (ts us : List Tree) → Sorted us → AllApart ts → ((t u : Tree) → Has ts t → Has us u → AreApart t u) → Sorted (all_inserted ts us)
all_sorted [] us s apart between = s
all_sorted (t ∷ ts) us s apart between =
    all_sorted ts (inserted t us) (inserted_sorted t us s (λ u h. between t u (inl refl) h)) apart.1
    (λ v u hv hu. elim (inserted_has t us u hu) [
      | inl e ↦ apart_turned u v (subst (λ w. AreApart w v) e (apart.0 v hv))
      | inr h ↦ between v u (inr hv) h
    ])

-- ---- room

module _ (shapes : List CellShape) where
  comes_before : (t u : Tree) → ComesBefore shapes t u → Before t u
  comes_before t u (inl less) = inl less
  comes_before t u (inr more) = inr (more.0, more.2)

  room_for : (t u : Tree) → ComesBefore shapes t u → (not (cell_of t == cell_of u) || is_many shapes (cell_of t)) ≡ true
  room_for t u (inl less) =
      elim (cell_of t == cell_of u) as (λ b. (cell_of t == cell_of u) ≡ b → (not b || is_many shapes (cell_of t)) ≡ true) [
        | true ↦ λ e. absurd (let same = eqb-true (cell_of t) (cell_of u) e in omega (arith, less, same))
        | false ↦ λ _. refl
      ] refl
  room_for t u (inr more) = or_right (not (cell_of t == cell_of u)) (is_many shapes (cell_of t)) more.1

  pub ordered_sorted : (ts : List Tree) → AreInOrder shapes ts → Sorted ts
  ordered_sorted [] o = tt
  ordered_sorted (t ∷ []) o = ((λ u h. absurd h), tt)
  ordered_sorted (t ∷ u ∷ us) o =
      let rest = ordered_sorted (u ∷ us) o.1 in
      let first = comes_before t u o.0 in
      ((λ v h. elim h [ inl e ↦ subst (Before t) e first | inr g ↦ before_then t u v first (rest.0 v g) ]), rest)

  pub ordered_room : (ts : List Tree) → AreInOrder shapes ts → have_room shapes ts ≡ true
  ordered_room [] o = refl
  ordered_room (t ∷ []) o = refl
  ordered_room (t ∷ u ∷ us) o =
      and_from (not (cell_of t == cell_of u) || is_many shapes (cell_of t)) (have_room shapes (u ∷ us)) (room_for t u o.0) (ordered_room (u ∷ us) o.1)

  next_to : (t u : Tree) → Before t u → (not (cell_of t == cell_of u) || is_many shapes (cell_of t)) ≡ true → ComesBefore shapes t u
  next_to t u (inl less) room = inl less
  next_to t u (inr both) room =
      inr (both.0, subst (λ b. (not b || is_many shapes (cell_of t)) ≡ true) (eq-eqb (cell_of t) (cell_of u) both.0) room, both.1)

  pub room_ordered : (ts : List Tree) → Sorted ts → have_room shapes ts ≡ true → AreInOrder shapes ts
  room_ordered [] s room = tt
  room_ordered (t ∷ []) s room = tt
  room_ordered (t ∷ u ∷ us) s room =
      let p = and_parts (not (cell_of t == cell_of u) || is_many shapes (cell_of t)) (have_room shapes (u ∷ us)) room in
      (next_to t u (s.0 u (inl refl)) p.0, room_ordered (u ∷ us) s.1 p.1)
