-- Entries at other places than those of some keys.
use Rattle.std.proofs.Common.{arith, ◌≡◌, ℕ, zero, suc, ◌+◌, ◌==◌, Bool, true, false, not, ◌||◌, cond, List, [], ◌∷◌, refl, sym, ap, ◌∙◌}
use Rattle.std.specs.Prelude.{Some, slice_get}
use Rattle.std.specs.declared.cmp.Ordering.TheVariants.{Less, Equal, Greater}
use Rattle.std.specs.Ordering.{is_eq, is_lt}
use Rattle.std.specs.FinMap.{is_sorted}
use Rattle.std.specs.FinMap.Entries.{where_key, below_all}
use Rattle.std.proofs.lemmas.Bool.{eqb-true, eq-eqb}
use Rattle.k_terms.specs.declared.value.Value.{Value}
use Rattle.k_terms.specs.Value.{value_cmp}
use Rattle.rule_terms.specs.Numbers.{has_number}
use Rattle.rule_terms.proofs.Defined.{both}
use Rattle.leaf_match.proofs.Entering.{Entries, among, without, itself, tie_is}
pub use Rattle.leaf_match.specs.Bindings.{kept}

-- the entries that stand at none of some places are those whose keys pass a test, where each key passes that stands at none
pub kept_where : (at : ℕ) (places : List ℕ) (test : Value → Bool) (es : Entries)
    → ((j : ℕ) (e : Value × Value) → slice_get es j ≡ Some e → has_number places (at + j) ≡ not (test e.0)) → kept at places es ≡ where_key value_cmp test es
kept_where at places test [] each = refl
kept_where at places test (e ∷ es) each =
    let here : has_number places at ≡ not (test e.0) = ap (has_number places) (sym (none_more at)) ∙ each zero e refl in
    let rest : kept (suc at) places es ≡ where_key value_cmp test es =
    kept_where (suc at) places test es (λ j f is. ap (has_number places) (one_more at j) ∙ each (suc j) f is) in
    ap (λ b. cond b (kept (suc at) places es) (e ∷ kept (suc at) places es)) here ∙ turned (test e.0) (kept (suc at) places es) (e ∷ kept (suc at) places es)
    ∙ ap (λ fs. cond (test e.0) (e ∷ fs) fs) rest
  where
    none_more : (n : ℕ) → n + 0 ≡ n
    none_more n = omega arith

    one_more : (n j : ℕ) → suc n + j ≡ n + suc j
    one_more n j = omega arith

    turned : {A : Type 0} (b : Bool) (x y : A) → cond (not b) x y ≡ cond b y x
    turned true x y = refl
    turned false x y = refl

-- ---- keys that rise stand at one place each

below_at : (k : Value) (es : Entries) (j : ℕ) (e : Value × Value) → below_all value_cmp k es ≡ true → slice_get es j ≡ Some e → is_lt (value_cmp k e.0) ≡ true
below_at k [] j e below is = cc
below_at k (f ∷ es) zero e below is = let same : f ≡ e = cc in ap (λ (g : Value × Value). is_lt (value_cmp k g.0)) (sym same) ∙ (both (is_lt (value_cmp k f.0)) (below_all value_cmp k es) below).0
below_at k (f ∷ es) (suc j) e below is = below_at k es j e (both (is_lt (value_cmp k f.0)) (below_all value_cmp k es) below).1 is

not_itself : (k : Value) → is_lt (value_cmp k k) ≡ true → ⊥
not_itself k less = let tied : is_eq (value_cmp k k) ≡ true = itself k in clash (value_cmp k k) less tied
  where
    clash : (o : _) → is_lt o ≡ true → is_eq o ≡ true → ⊥
    clash Less l t = cc
    clash Equal l t = cc
    clash Greater l t = cc

pub one_place : (es : Entries) (i j : ℕ) (e f : Value × Value) → is_sorted value_cmp es ≡ true → slice_get es i ≡ Some e → slice_get es j ≡ Some f → e.0 ≡ f.0 → i ≡ j
one_place [] i j e f sorted one two same = cc
one_place (g ∷ es) zero zero e f sorted one two same = refl
one_place (g ∷ es) zero (suc j) e f sorted one two same =
    let here : g ≡ e = cc in
    let less : is_lt (value_cmp g.0 f.0) ≡ true = below_at g.0 es j f (both (below_all value_cmp g.0 es) (is_sorted value_cmp es) sorted).0 two in
    absurd (not_itself g.0 (ap (λ k. is_lt (value_cmp g.0 k)) (ap (λ (h : Value × Value). h.0) here ∙ same) ∙ less))
one_place (g ∷ es) (suc i) zero e f sorted one two same =
    let here : g ≡ f = cc in
    let less : is_lt (value_cmp g.0 e.0) ≡ true = below_at g.0 es i e (both (below_all value_cmp g.0 es) (is_sorted value_cmp es) sorted).0 one in
    absurd (not_itself g.0 (ap (λ k. is_lt (value_cmp g.0 k)) (ap (λ (h : Value × Value). h.0) here ∙ sym same) ∙ less))
one_place (g ∷ es) (suc i) (suc j) e f sorted one two same =
    ap suc (one_place es i j e f (both (below_all value_cmp g.0 es) (is_sorted value_cmp es) sorted).1 one two same)

-- each key stands at its place
abbrev pub StandAt : Entries → List Value → List ℕ → Type 0
StandAt es [] [] = Unit {0}
StandAt es [] (p ∷ ps) = ⊥
StandAt es (k ∷ ks) [] = ⊥
StandAt es (k ∷ ks) (p ∷ ps) = ((v : Value) × (slice_get es p ≡ Some (k, v))) × StandAt es ks ps

-- a place is one of these where its key is one of those
places_tell : (es : Entries) (ks : List Value) (ps : List ℕ) (j : ℕ) (e : Value × Value) → is_sorted value_cmp es ≡ true → StandAt es ks ps → slice_get es j ≡ Some e
    → has_number ps j ≡ among ks e.0
places_tell es [] [] j e sorted stand is = refl
places_tell es [] (p ∷ ps) j e sorted stand is = absurd stand
places_tell es (k ∷ ks) [] j e sorted stand is = absurd stand
places_tell es (k ∷ ks) (p ∷ ps) j e sorted stand is = λ i. here i || places_tell es ks ps j e sorted stand.1 is i
  where
    here : (p == j) ≡ is_eq (value_cmp k e.0)
    here =
        elim (is_eq (value_cmp k e.0)) as (λ b. is_eq (value_cmp k e.0) ≡ b → (p == j) ≡ b) [
          | true ↦ λ t. eq-eqb p j (one_place es p j (k, stand.0.0) e sorted stand.0.1 is (tie_is k e.0 t))
          | false ↦ λ t. elim (p == j) as (λ c. (p == j) ≡ c → c ≡ false) [
            | true ↦ λ s.
                let same : p ≡ j = eqb-true p j s in
                let at : Some (k, stand.0.0) ≡ Some e = sym stand.0.1 ∙ ap (slice_get es) same ∙ is in
                let keys : k ≡ e.0 = ap (λ (h : Value × Value). h.0) (whole at) in
                let no : true ≡ false = sym (ap (λ x. is_eq (value_cmp k x)) (sym keys) ∙ itself k) ∙ t in cc
            | false ↦ λ s. refl
          ] refl
        ] refl
      where
        whole : {A : Type 0} {x y : A} → Some x ≡ Some y → x ≡ y
        whole {A} {x} {y} e = cc

-- what stands at other places than those of some keys is without these keys
pub kept_without : (es : Entries) (ks : List Value) (ps : List ℕ) → is_sorted value_cmp es ≡ true → StandAt es ks ps → kept 0 ps es ≡ without ks es
kept_without es ks ps sorted stand =
    kept_where 0 ps (λ x. not (among ks x)) es (λ j e is. ap (has_number ps) (none_less j) ∙ places_tell es ks ps j e sorted stand is ∙ twice_not (among ks e.0))
  where
    none_less : (j : ℕ) → 0 + j ≡ j
    none_less j = omega arith

    twice_not : (b : Bool) → b ≡ not (not b)
    twice_not true = refl
    twice_not false = refl
