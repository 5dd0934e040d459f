-- Entries put into a map, each at a new key.
use Rattle.std.proofs.Common.{◌≡◌, Bool, true, false, not, cond, List, [], ◌∷◌, refl, sym, ap, subst, ◌∙◌, T}
use Rattle.std.specs.Prelude.{Option, Some, None}
use Rattle.std.specs.declared.cmp.Ordering.{Ordering}
use Rattle.std.specs.declared.cmp.Ordering.TheVariants.{Less, Equal, Greater}
use Rattle.std.specs.Ordering.{is_eq}
use Rattle.std.specs.FinMap.{find, put, is_sorted}
use Rattle.std.specs.FinMap.Entries.{by_order, where_key, is_sorted-put, is_sorted-where_key, find-put, find-where_key, same_entries}
use Rattle.k_terms.specs.declared.value.Value.{Value}
use Rattle.k_terms.specs.Value.{value_cmp}
use Rattle.k_terms.proofs.OrderLaws.{value_cmp_total, value_cmp_ties, value_cmp_itself}
pub use Rattle.leaf_match.specs.Maps.{Entries, keys_of, among}

-- a key is not this one; and none of several
abbrev pub other : Value → Value → Bool
other k x = not (is_eq (value_cmp k x))

abbrev pub without : List Value → Entries → Entries
without ks c = where_key value_cmp (λ x. not (among ks x)) c

-- ---- tests

pub yes : (b : Bool) → b ≡ true → T b
yes b e = subst T (sym e) tt

no_tie : (k x : Value) → value_cmp k x ≡ Less → is_eq (value_cmp k x) ≡ false
no_tie k x e = ap is_eq e

some_none : {A : Type 0} (x : A) → Some x ≡ None → ⊥
some_none x e = cc

cond_none : {X : Type 0} (b : Bool) (x : X) (rest : Option X) → cond b (Some x) rest ≡ None → (b ≡ false) × (rest ≡ None)
cond_none true x rest e = absurd (some_none x e)
cond_none false x rest e = (refl, e)

pub itself : (k : Value) → is_eq (value_cmp k k) ≡ true
itself k = ap is_eq (value_cmp_itself k)

equal_is : (o : Ordering) → is_eq o ≡ true → o ≡ Equal
equal_is Less e = cc
equal_is Equal e = refl
equal_is Greater e = cc

pub tie_is : (a b : Value) → is_eq (value_cmp a b) ≡ true → a ≡ b
tie_is a b p = value_cmp_ties a b (equal_is (value_cmp a b) p)

pub untied : (a b : Value) → is_eq (value_cmp a b) ≡ false → is_eq (value_cmp b a) ≡ false
untied a b p =
    elim (is_eq (value_cmp b a)) as (λ r. is_eq (value_cmp b a) ≡ r → r ≡ false) [
      | true ↦ λ e. let back : is_eq (value_cmp a b) ≡ true = ap (λ x. is_eq (value_cmp x b)) (sym (tie_is b a e)) ∙ itself b in let no : true ≡ false = sym back ∙ p in cc
      | false ↦ λ e. refl
    ] refl

-- ---- an entry that was put, taken out again

kept_all : (k : Value) (es : Entries) → find value_cmp k es ≡ None → where_key value_cmp (other k) es ≡ es
kept_all k [] none = refl
kept_all k (e ∷ es) none =
    let parts = cond_none (is_eq (value_cmp k e.0)) e.1 (find value_cmp k es) none in
    ap (λ b. cond (not b) (e ∷ where_key value_cmp (other k) es) (where_key value_cmp (other k) es)) parts.0 ∙ ap (λ fs. e ∷ fs) (kept_all k es parts.1)

pub cut_put : (k v : Value) (es : Entries) → find value_cmp k es ≡ None → where_key value_cmp (other k) (put value_cmp k v es) ≡ es
cut_put k v [] none = ap (λ b. cond (not b) ((k, v) ∷ []) []) (itself k)
cut_put k v (e ∷ es) none =
    let parts = cond_none (is_eq (value_cmp k e.0)) e.1 (find value_cmp k es) none in
    elim (value_cmp k e.0) as (λ r. value_cmp k e.0 ≡ r → where_key value_cmp (other k) (by_order r ((k, v) ∷ e ∷ es) ((e.0, v) ∷ es) (e ∷ put value_cmp k v es)) ≡ e ∷ es) [
      | Less ↦ λ p.
          ap (λ b. cond (not b) ((k, v) ∷ where_key value_cmp (other k) (e ∷ es)) (where_key value_cmp (other k) (e ∷ es))) (itself k) ∙ kept_all k (e ∷ es) none
      | Equal ↦ λ p. let tied : true ≡ false = sym (ap is_eq p) ∙ parts.0 in cc
      | Greater ↦ λ p.
          ap (λ b. cond (not b) (e ∷ where_key value_cmp (other k) (put value_cmp k v es)) (where_key value_cmp (other k) (put value_cmp k v es))) parts.0
          ∙ ap (λ fs. e ∷ fs) (cut_put k v es parts.1)
    ] refl

-- a key that is there, taken out and put back
pub put_cut : (k v : Value) (c : Entries) → is_sorted value_cmp c ≡ true → find value_cmp k c ≡ Some v → put value_cmp k v (where_key value_cmp (other k) c) ≡ c
put_cut k v c sorted found =
    same_entries value_cmp value_cmp_total value_cmp_ties (put value_cmp k v left) c
    (is_sorted-put value_cmp value_cmp_total k v left (is_sorted-where_key value_cmp (other k) c (yes (is_sorted value_cmp c) sorted))) (yes (is_sorted value_cmp c) sorted) same
  where
    left : Entries
    left = where_key value_cmp (other k) c

    alike : (q x : Value) → value_cmp q x ≡ Equal → other k x ≡ other k q
    alike q x tied = ap (other k) (sym (value_cmp_ties q x tied))

    same : (q : Value) → find value_cmp q (put value_cmp k v left) ≡ find value_cmp q c
    same q =
        find-put value_cmp value_cmp_total q k v left
        ∙ elim (is_eq (value_cmp q k)) as (λ b. is_eq (value_cmp q k) ≡ b → cond b (Some v) (find value_cmp q left) ≡ find value_cmp q c) [
          | true ↦ λ p. sym found ∙ ap (λ x. find value_cmp x c) (sym (tie_is q k p))
          | false ↦ λ p. find-where_key value_cmp (other k) q (alike q) c ∙ ap (λ b. cond (not b) (find value_cmp q c) None) (untied q k p)
        ] refl
