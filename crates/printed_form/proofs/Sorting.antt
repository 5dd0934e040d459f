-- The order of children: their sorted list does not depend on the order in which they stand.
use Rattle.std.proofs.Common.{◌≡◌, ℕ, suc, ◌+◌, ◌<◌, Bool, true, false, cond, List, [], ◌∷◌, ◌++◌, ◌≤◌, map, length, take, get_or, refl, sym, ap, ◌∙◌, subst, arith}
use Rattle.std.specs.Prelude.{sum_by, IsSorted, IsPermutation}
use Rattle.std.proofs.lemmas.List.{take_all}
use Rattle.std.specs.declared.cmp.Ordering.{Ordering}
use Rattle.std.specs.declared.cmp.Ordering.TheVariants.{Less, Equal, Greater}
use Rattle.std.specs.Ordering.{nat_cmp, ordering_then, ordering_reverse, is_lt, is_eq}
use Rattle.std.specs.Cmp.{IsTotalOrder}
use Rattle.std.specs.Cmp.Lexicographic.{slice_cmp}
use Rattle.std.specs.FinMap.{nat_cmp-IsAntisymmetric, slice_cmp-IsAntisymmetric}
use Rattle.std.proofs.lemmas.Cmp.{on_total, then_total, nat_cmp_total, nat_list_cmp_total, tied_itself}
use Rattle.std.proofs.lemmas.List.Sums.{sum_by-append, sum_by-cons}
use Rattle.std.proofs.lemmas.List.Sorted.{sum_by-IsPermutation}
use Rattle.printed_form.specs.Configurations.{child_cmp, put_child, in_order}

abbrev pub Child : Type 0
Child = ℕ × List ℕ

abbrev pub below : Child → Child → Bool
below a b = is_lt (child_cmp a b)

-- ---- the order is total, and only equal children tie

pub child_cmp_total : IsTotalOrder child_cmp
child_cmp_total = then_total (on_total (λ (c : Child). c.0) nat_cmp_total) (on_total (λ (c : Child). c.1) nat_list_cmp_total)

first_tied : (r s : Ordering) → ordering_then r s ≡ Equal → r ≡ Equal
first_tied Less s e = e
first_tied Equal s e = refl
first_tied Greater s e = e

second_tied : (r s : Ordering) → ordering_then r s ≡ Equal → s ≡ Equal
second_tied Less s e = cc
second_tied Equal s e = e
second_tied Greater s e = cc

pair_same : (a b : Child) → a.0 ≡ b.0 → a.1 ≡ b.1 → a ≡ b
pair_same (m, xs) (n, ys) e f = cc

pub tied_same : (a b : Child) → child_cmp a b ≡ Equal → a ≡ b
tied_same a b e =
    pair_same a b (nat_cmp-IsAntisymmetric a.0 b.0 (first_tied (nat_cmp a.0 b.0) (slice_cmp nat_cmp a.1 b.1) e))
    (slice_cmp-IsAntisymmetric nat_cmp-IsAntisymmetric a.1 b.1 (second_tied (nat_cmp a.0 b.0) (slice_cmp nat_cmp a.1 b.1) e))

neither_less : (r s : Ordering) → s ≡ ordering_reverse r → is_lt r ≡ false → is_lt s ≡ false → r ≡ Equal
neither_less Less s e p q = cc
neither_less Equal s e p q = refl
neither_less Greater s e p q = let less : is_lt s ≡ true = ap is_lt e in cc

one_less : (r s : Ordering) → s ≡ ordering_reverse r → is_lt r ≡ true → is_lt s ≡ false
one_less Less s e p = ap is_lt e
one_less Equal s e p = cc
one_less Greater s e p = cc

less_from : (r : Ordering) → is_lt r ≡ true → r ≡ Less
less_from Less e = refl
less_from Equal e = cc
less_from Greater e = cc

neither_below : (a b : Child) → below a b ≡ false → below b a ≡ false → a ≡ b
neither_below a b p q = tied_same a b (neither_less (child_cmp a b) (child_cmp b a) (child_cmp_total.antisymm b a) p q)

one_below : (a b : Child) → below a b ≡ true → below b a ≡ false
one_below a b p = one_less (child_cmp a b) (child_cmp b a) (child_cmp_total.antisymm b a) p

through_at : (a b c : Child) (r : Ordering) → child_cmp b a ≡ r → is_lt r ≡ false → below b c ≡ true → below a c ≡ true
through_at a b c Less e p q = cc
through_at a b c Equal e p q = subst (λ (x : Child). below x c ≡ true) (tied_same b a e) q
through_at a b c Greater e p q = ap is_lt (child_cmp_total.trans a b c (child_cmp_total.antisymm a b ∙ ap ordering_reverse e) (less_from (child_cmp b c) q))

-- a is not above b, and b is below c
through : (a b c : Child) → below b a ≡ false → below b c ≡ true → below a c ≡ true
through a b c p q = through_at a b c (child_cmp b a) refl p q

-- ---- putting a child in

put_past : (a b : Child) (bs : List Child) → below b a ≡ true → put_child a (b ∷ bs) ≡ b ∷ put_child a bs
put_past a b bs e = ap (λ t. cond t (b ∷ put_child a bs) (a ∷ b ∷ bs)) e

put_before : (a b : Child) (bs : List Child) → below b a ≡ false → put_child a (b ∷ bs) ≡ a ∷ b ∷ bs
put_before a b bs e = ap (λ t. cond t (b ∷ put_child a bs) (a ∷ b ∷ bs)) e

two_ways : (x y : List Child) (t s : Bool) → (t ≡ true → s ≡ false) → (t ≡ false → s ≡ false → y ≡ x) → cond t x y ≡ cond s y x
two_ways x y true true p q = cc (p refl)
two_ways x y true false p q = refl
two_ways x y false true p q = refl
two_ways x y false false p q = q refl refl

-- two children before the same list
two_fronts : (a b : Child) (cs : List Child) → cond (below b a) (b ∷ a ∷ cs) (a ∷ b ∷ cs) ≡ cond (below a b) (a ∷ b ∷ cs) (b ∷ a ∷ cs)
two_fronts a b cs = two_ways (b ∷ a ∷ cs) (a ∷ b ∷ cs) (below b a) (below a b) (one_below b a) (λ p q. let same : a ≡ b = neither_below a b q p in cc)

-- one goes past the first of the list, and the other doesn't
one_past : (a b c : Child) (cs : List Child) → below c a ≡ true → below c b ≡ false → put_child a (put_child b (c ∷ cs)) ≡ put_child b (put_child a (c ∷ cs))
one_past a b c cs p q =
    ap (put_child a) (put_before b c cs q) ∙ put_past a b (c ∷ cs) (through b c a q p) ∙ ap (λ xs. b ∷ xs) (put_past a c cs p)
    ∙ sym (ap (put_child b) (put_past a c cs p) ∙ put_before b c (put_child a cs) q)

commute_at : (a b c : Child) (cs : List Child) (t s : Bool) → below c a ≡ t → below c b ≡ s → put_child a (put_child b cs) ≡ put_child b (put_child a cs) → put_child a (put_child b (c ∷ cs)) ≡ put_child b (put_child a (c ∷ cs))
commute_at a b c cs true true p q h =
    ap (put_child a) (put_past b c cs q) ∙ put_past a c (put_child b cs) p ∙ ap (λ xs. c ∷ xs) h
    ∙ sym (ap (put_child b) (put_past a c cs p) ∙ put_past b c (put_child a cs) q)
commute_at a b c cs true false p q h = one_past a b c cs p q
commute_at a b c cs false true p q h = sym (one_past b a c cs q p)
commute_at a b c cs false false p q h =
    ap (put_child a) (put_before b c cs q) ∙ ap (λ xs. cond (below b a) (b ∷ xs) (a ∷ b ∷ c ∷ cs)) (put_before a c cs p)
    ∙ two_fronts a b (c ∷ cs)
    ∙ sym (ap (put_child b) (put_before a c cs p) ∙ ap (λ xs. cond (below a b) (a ∷ xs) (b ∷ a ∷ c ∷ cs)) (put_before b c cs q))

pub put_commutes : (a b : Child) (cs : List Child) → put_child a (put_child b cs) ≡ put_child b (put_child a cs)
put_commutes a b [] = two_fronts a b []
put_commutes a b (c ∷ cs) = commute_at a b c cs (below c a) (below c b) refl refl (put_commutes a b cs)

pub in_order-middle : (before : List Child) (c : Child) (after : List Child) → in_order (before ++ c ∷ after) ≡ put_child c (in_order (before ++ after))
in_order-middle [] c after = refl
in_order-middle (b ∷ before) c after = ap (put_child b) (in_order-middle before c after) ∙ put_commutes b c (in_order (before ++ after))

-- ---- the same children in another order

abbrev pub SameSums : List Child → List Child → Type 0
SameSums xs ys = (f : Child → ℕ) → sum_by f ys ≡ sum_by f xs

abbrev one_if : Child → Child → ℕ
one_if c y = cond (is_eq (child_cmp c y)) 1 0

record Split (c : Child) (ys : List Child) : Type 0 where
  before : List Child
  after : List Child
  is : ys ≡ before ++ c ∷ after

equal_from : (r : Ordering) → is_eq r ≡ true → r ≡ Equal
equal_from Less e = cc
equal_from Equal e = refl
equal_from Greater e = cc

split_at : (c y : Child) (ys : List Child) (t : Bool) → is_eq (child_cmp c y) ≡ t → 0 < cond t 1 0 + sum_by (one_if c) ys → (0 < sum_by (one_if c) ys → Split c ys) → Split c (y ∷ ys)
split_at c y ys true e h further = record { before = []; after = ys; is = ap (λ x. x ∷ ys) (sym (tied_same c y (equal_from (child_cmp c y) e))) }
split_at c y ys false e h further = let rest : Split c ys = further (omega arith) in record { before = y ∷ rest.before; after = rest.after; is = ap (λ xs. y ∷ xs) rest.is }

split : (c : Child) (ys : List Child) → 0 < sum_by (one_if c) ys → Split c ys
split c [] h = absurd (omega arith)
split c (y ∷ ys) h = split_at c y ys (is_eq (child_cmp c y)) refl (subst (λ n. 0 < n) (sum_by-cons (one_if c) y ys) h) (split c ys)

none_left : (ys : List Child) → sum_by (λ _. 1) ys ≡ 0 → ys ≡ []
none_left [] e = refl
none_left (y ∷ ys) e = absurd (omega (arith, sum_by-cons (λ (_ : Child). 1) y ys))

one_of : (c : Child) → one_if c c ≡ 1
one_of c = ap (λ r. cond (is_eq r) 1 0) (tied_itself child_cmp_total c)

without : (c : Child) (xs ys : List Child) (s : Split c ys) → SameSums (c ∷ xs) ys → SameSums xs (s.before ++ s.after)
without c xs ys s h f =
    omega (arith, h f, ap (sum_by f) s.is, sum_by-append f s.before (c ∷ s.after), sum_by-cons f c s.after, sum_by-cons f c xs, sum_by-append f s.before s.after)

pub in_order-same : (xs ys : List Child) → SameSums xs ys → in_order xs ≡ in_order ys
in_order-same [] ys h = ap in_order (sym (none_left ys (h (λ _. 1))))
in_order-same (x ∷ xs) ys h =
    let s : Split x ys = split x ys (omega (arith, h (one_if x), sum_by-cons (one_if x) x xs, one_of x)) in
    ap (put_child x) (in_order-same xs (s.before ++ s.after) (without x xs ys s h)) ∙ sym (in_order-middle s.before x s.after) ∙ ap in_order (sym s.is)

-- ---- a sorted list

tail_sorted : (y : Child) (ys : List Child) → IsSorted child_cmp (y ∷ ys) → IsSorted child_cmp ys
tail_sorted y ys up = λ k d low h. let next : suc (k + 1) ≡ suc k + 1 = omega arith in ap (λ n. is_lt (child_cmp (get_or (y ∷ ys) n d) (get_or ys k d))) next ∙ up (suc k) d (omega arith) (omega arith)

pub in_order-sorted : (ys : List Child) → IsSorted child_cmp ys → in_order ys ≡ ys
in_order-sorted [] up = refl
in_order-sorted (y ∷ []) up = refl
in_order-sorted (y ∷ z ∷ zs) up =
    ap (put_child y) (in_order-sorted (z ∷ zs) (tail_sorted y (z ∷ zs) up)) ∙ put_before y z zs (up 0 y (omega arith) (omega arith))

-- what a sort gives
pub sorted_is : (xs ys : List Child) → IsPermutation xs ys → IsSorted child_cmp ys → ys ≡ in_order xs
sorted_is xs ys moved up = sym (in_order-sorted ys up) ∙ sym (in_order-same xs ys (λ f. sum_by-IsPermutation f xs ys moved))

-- what the code of children gives: `made` are the children's lines, and `sorted` is what a sort gives
pub children_at : {A : Type 0} (f : A → Child) (children : List A) (i : ℕ) (made sorted : List Child) → length children ≤ i → made ≡ map f (take i children) → IsPermutation made sorted → IsSorted child_cmp sorted → sorted ≡ in_order (map f children)
children_at f children i made sorted past is_made moved up = sorted_is made sorted moved up ∙ ap in_order (is_made ∙ ap (map f) (take_all i children past))
