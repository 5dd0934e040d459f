-- When entries make a map of another one.
use Rattle.std.proofs.Common.{◌≡◌, Bool, true, false, not, ◌||◌, ◌&&◌, cond, List, [], ◌∷◌, refl, sym, ap, ◌∙◌, T}
use Rattle.std.specs.Prelude.{Option, Some, None, is_some}
use Rattle.std.specs.Option.{option_and_then}
use Rattle.std.specs.Ordering.{is_eq}
use Rattle.std.specs.FinMap.{find, put, is_sorted}
use Rattle.std.specs.FinMap.Entries.{where_key, is_sorted-where_key, find-put, find-where_key}
use Rattle.k_terms.specs.declared.value.Value.{Value}
use Rattle.k_terms.specs.Value.{value_cmp}
use Rattle.k_terms.proofs.OrderLaws.{value_cmp_total, value_cmp_ties}
use Rattle.rule_terms.specs.Fill.{put_new}
use Rattle.rule_terms.proofs.Defined.{and_then_gives, same_some}
use Rattle.leaf_match.proofs.Entering.{Entries, other, among, without, keys_of, yes, itself, tie_is, untied, cut_put, put_cut}
pub use Rattle.leaf_match.specs.Maps.{AreThere, KeysDiffer}

-- The entries are there, with keys that differ, and the other map is what is left.
pub record IsPut (es m c : Entries) : Type 0 where
  pub there : AreThere c es
  pub differ : KeysDiffer (keys_of es)
  pub rest : m ≡ without (keys_of es) c

-- ---- tests

let_in : {A : Type 0} (b : Bool) (x y : A) → cond b None (Some x) ≡ Some y → (b ≡ false) × (x ≡ y)
let_in true x y e = cc
let_in false x y e = (refl, same_some x y e)

is_none_of : {A : Type 0} (o : Option A) → is_some o ≡ false → o ≡ None
is_none_of None e = refl
is_none_of (Some x) e = cc

from_T : (b : Bool) → T b → b ≡ true
from_T true t = refl
from_T false t = absurd t

-- two tests, one after the other
twice : (p q : Value → Bool) (es : Entries) → where_key value_cmp p (where_key value_cmp q es) ≡ where_key value_cmp (λ x. q x && p x) es
twice p q [] = refl
twice p q (e ∷ es) =
    elim (q e.0) as (λ b. q e.0 ≡ b → where_key value_cmp p (cond b (e ∷ where_key value_cmp q es) (where_key value_cmp q es)) ≡ cond (b && p e.0) (e ∷ where_key value_cmp (λ x. q x && p x) es) (where_key value_cmp (λ x. q x && p x) es)) [
      | true ↦ λ is. ap (λ fs. cond (p e.0) (e ∷ fs) fs) (twice p q es)
      | false ↦ λ is. twice p q es
    ] refl

alike_tests : (p q : Value → Bool) → ((x : Value) → p x ≡ q x) → (es : Entries) → where_key value_cmp p es ≡ where_key value_cmp q es
alike_tests p q same [] = refl
alike_tests p q same (e ∷ es) = λ i. cond (same e.0 i) (e ∷ alike_tests p q same es i) (alike_tests p q same es i)

neither : (a b : Bool) → (not a && not b) ≡ not (a || b)
neither true b = refl
neither false b = refl

-- without one key, and without several
pub without_more : (k : Value) (ks : List Value) (c : Entries) → without ks (where_key value_cmp (other k) c) ≡ without (k ∷ ks) c
without_more k ks c =
    twice (λ x. not (among ks x)) (other k) c
    ∙ alike_tests (λ x. other k x && not (among ks x)) (λ x. not (among (k ∷ ks) x)) (λ x. neither (is_eq (value_cmp k x)) (among ks x)) c

-- a key that is found is none that is not
apart : (q k v : Value) (es : Entries) → find value_cmp k es ≡ None → find value_cmp q es ≡ Some v → is_eq (value_cmp q k) ≡ false
apart q k v es none some =
    elim (is_eq (value_cmp q k)) as (λ b. is_eq (value_cmp q k) ≡ b → b ≡ false) [
      | true ↦ λ p. let no : None ≡ Some v = sym none ∙ ap (λ x. find value_cmp x es) (sym (tie_is q k p)) ∙ some in cc
      | false ↦ λ p. refl
    ] refl

-- ---- what was put

there_in : (k v : Value) (es more c : Entries) → find value_cmp k more ≡ None → c ≡ put value_cmp k v more → AreThere more es → AreThere c es × (among (keys_of es) k ≡ false)
there_in k v [] more c none is there = (tt, refl)
there_in k v (e ∷ es) more c none is there =
    let rest = there_in k v es more c none is there.1 in
    let differ : is_eq (value_cmp e.0 k) ≡ false = apart e.0 k e.1 more none there.0 in
    let here : find value_cmp e.0 c ≡ Some e.1 =
    ap (find value_cmp e.0) is ∙ find-put value_cmp value_cmp_total e.0 k v more ∙ ap (λ b. cond b (Some v) (find value_cmp e.0 more)) differ ∙ there.0 in
    ((here, rest.0), ap (λ b. b || among (keys_of es) k) differ ∙ rest.1)

pub put_told : (es m c : Entries) → is_sorted value_cmp c ≡ true → put_new es m ≡ Some c → IsPut es m c
put_told [] m c sorted made = record { there = tt; differ = tt; rest = same_some m c made ∙ all_left c }
  where
    all_left : (es : Entries) → es ≡ without [] es
    all_left [] = refl
    all_left (e ∷ es) = ap (λ fs. e ∷ fs) (all_left es)
put_told (e ∷ es) m c sorted made =
    let first = and_then_gives (λ more. cond (is_some (find value_cmp e.0 more)) None (Some (put value_cmp e.0 e.1 more))) (put_new es m) c made in
    let more : Entries = first.0 in
    let parts = let_in (is_some (find value_cmp e.0 more)) (put value_cmp e.0 e.1 more) c first.2 in
    let none : find value_cmp e.0 more ≡ None = is_none_of (find value_cmp e.0 more) parts.0 in
    let left : where_key value_cmp (other e.0) c ≡ more = ap (where_key value_cmp (other e.0)) (sym parts.1) ∙ cut_put e.0 e.1 more none in
    let rising : is_sorted value_cmp more ≡ true =
    ap (is_sorted value_cmp) (sym left) ∙ from_T (is_sorted value_cmp (where_key value_cmp (other e.0) c)) (is_sorted-where_key value_cmp (other e.0) c (yes (is_sorted value_cmp c) sorted)) in
    let told = put_told es m more rising first.1 in
    let both = there_in e.0 e.1 es more c none (sym parts.1) told.there in
    record {
      there = (ap (find value_cmp e.0) (sym parts.1) ∙ find-put value_cmp value_cmp_total e.0 e.0 e.1 more ∙ ap (λ b. cond b (Some e.1) (find value_cmp e.0 more)) (itself e.0), both.0);
      differ = (both.1, told.differ);
      rest = told.rest ∙ ap (without (keys_of es)) (sym left) ∙ without_more e.0 (keys_of es) c;
    }

-- ---- and what can be put

there_left : (k : Value) (es c : Entries) → among (keys_of es) k ≡ false → AreThere c es → AreThere (where_key value_cmp (other k) c) es
there_left k [] c none there = tt
there_left k (e ∷ es) c none there =
    let parts = neither_of (is_eq (value_cmp e.0 k)) (among (keys_of es) k) none in (
      find-where_key value_cmp (other k) e.0 (λ x tied. ap (other k) (sym (value_cmp_ties e.0 x tied))) c
          ∙ ap (λ b. cond (not b) (find value_cmp e.0 c) None) (untied e.0 k parts.0) ∙ there.0,
      there_left k es c parts.1 there.1,
    )
  where
    neither_of : (a b : Bool) → (a || b) ≡ false → (a ≡ false) × (b ≡ false)
    neither_of true b e = cc
    neither_of false b e = (refl, e)

pub put_holds : (es m c : Entries) → is_sorted value_cmp c ≡ true → IsPut es m c → put_new es m ≡ Some c
put_holds [] m c sorted is = ap Some (is.rest ∙ all_left c)
  where
    all_left : (es : Entries) → without [] es ≡ es
    all_left [] = refl
    all_left (e ∷ es) = ap (λ fs. e ∷ fs) (all_left es)
put_holds (e ∷ es) m c sorted is =
    let left : Entries = where_key value_cmp (other e.0) c in
    let rising : is_sorted value_cmp left ≡ true = from_T (is_sorted value_cmp left) (is_sorted-where_key value_cmp (other e.0) c (yes (is_sorted value_cmp c) sorted)) in
    let made : put_new es m ≡ Some left = put_holds es m left rising (record {
      there = there_left e.0 es c is.differ.0 is.there.1;
      differ = is.differ.1;
      rest = is.rest ∙ sym (without_more e.0 (keys_of es) c);
    }) in
    let none : find value_cmp e.0 left ≡ None =
    find-where_key value_cmp (other e.0) e.0 (λ x tied. ap (other e.0) (sym (value_cmp_ties e.0 x tied))) c
    ∙ ap (λ b. cond (not b) (find value_cmp e.0 c) None) (itself e.0) in
    ap (option_and_then (λ more. cond (is_some (find value_cmp e.0 more)) None (Some (put value_cmp e.0 e.1 more)))) made
    ∙ ap (λ (o : Option Value). cond (is_some o) None (Some (put value_cmp e.0 e.1 left))) none
    ∙ ap Some (put_cut e.0 e.1 c sorted is.there.0)
