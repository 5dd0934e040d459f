-- Patterns matched one by one.
use Rattle.std.proofs.Common.{arith, ◌≡◌, ◌↔◌, ◌==◌, IsTrue, ℕ, zero, suc, ◌+◌, ◌<◌, Bool, true, List, [], ◌∷◌, take, length, get_or, refl, sym, ap, subst, ◌∙◌}
use Rattle.std.specs.Prelude.{Some}
use Rattle.std.specs.Option.{option_map, option_and_then}
use Rattle.std.specs.List.{AllByRecursion, list_all}
use Rattle.std.proofs.lemmas.Bool.{eqb-true, eq-eqb}
use Rattle.k_terms.specs.declared.value.Value.{Value}
use Rattle.rule_terms.specs.declared.pattern.Pattern.{Pattern}
use Rattle.rule_terms.specs.Substitution.{Subst}
use Rattle.rule_terms.specs.Eval.{eval, eval_all}
use Rattle.rule_terms.proofs.Defined.{both, and_then_gives, map_gives, same_some}

eval_parts : (p : Pattern) (ps : List Pattern) (s : Subst) (vs : List Value) → eval_all (p ∷ ps) s ≡ Some vs
    → (v : Value) × (ws : List Value) × (eval p s ≡ Some v) × (eval_all ps s ≡ Some ws) × (vs ≡ v ∷ ws)
eval_parts p ps s vs e =
    let first = and_then_gives (λ v. option_map (λ ws. v ∷ ws) (eval_all ps s)) (eval p s) vs e in
    let rest = map_gives (λ ws. first.0 ∷ ws) (eval_all ps s) vs first.2 in
    (first.0, rest.0, first.1, rest.1, sym rest.2)

eval_cons : (p : Pattern) (ps : List Pattern) (s : Subst) (v : Value) (vs : List Value) → eval p s ≡ Some v → eval_all ps s ≡ Some vs → eval_all (p ∷ ps) s ≡ Some (v ∷ vs)
eval_cons p ps s v vs first rest = ap (λ o. option_and_then (λ w. option_map (λ ws. w ∷ ws) (eval_all ps s)) o) first ∙ ap (option_map (λ ws. v ∷ ws)) rest

head_is : (v w : Value) (vs ws : List Value) → v ∷ vs ≡ w ∷ ws → (v ≡ w) × (vs ≡ ws)
head_is v w vs ws e = let first : v ≡ w = cc in let rest : vs ≡ ws = cc in (first, rest)

no_one : (v : Value) (vs : List Value) → [] ≡ v ∷ vs → ⊥
no_one v vs e = cc

-- so many patterns and one more
eval_more : (ps : List Pattern) (vs : List Value) (s : Subst) (i : ℕ) (p : Pattern) (v : Value) → i < length ps → i < length vs → p ≡ get_or ps i p → v ≡ get_or vs i v
    → ((eval_all (take i ps) s ≡ Some (take i vs)) × (eval p s ≡ Some v) → eval_all (take (suc i) ps) s ≡ Some (take (suc i) vs))
    × (eval_all (take (suc i) ps) s ≡ Some (take (suc i) vs) → (eval_all (take i ps) s ≡ Some (take i vs)) × (eval p s ≡ Some v))
eval_more [] vs s i p v in_ps in_vs is_p is_v = absurd (omega (arith, in_ps))
eval_more (q ∷ ps) [] s i p v in_ps in_vs is_p is_v = absurd (omega (arith, in_vs))
eval_more (q ∷ ps) (w ∷ vs) s zero p v in_ps in_vs is_p is_v = (
  (λ e. eval_cons q [] s w [] (ap (λ r. eval r s) (sym is_p) ∙ e.1 ∙ ap Some is_v) refl),
  (λ e. let parts = eval_parts q [] s (w ∷ []) e in
      (refl, ap (λ r. eval r s) is_p ∙ parts.2 ∙ ap Some (sym (head_is w parts.0 [] parts.1 parts.4).0 ∙ sym is_v))),
)
eval_more (q ∷ ps) (w ∷ vs) s (suc i) p v in_ps in_vs is_p is_v =
    let more = eval_more ps vs s i p v (omega (arith, in_ps)) (omega (arith, in_vs)) is_p is_v in (
      (λ e. let parts = eval_parts q (take i ps) s (w ∷ take i vs) e.0 in
          let heads = head_is w parts.0 (take i vs) parts.1 parts.4 in
          eval_cons q (take (suc i) ps) s w (take (suc i) vs) (parts.2 ∙ ap Some (sym heads.0)) (more.0 (parts.3 ∙ ap Some (sym heads.1), e.1))),
      (λ e. let parts = eval_parts q (take (suc i) ps) s (w ∷ take (suc i) vs) e in
          let heads = head_is w parts.0 (take (suc i) vs) parts.1 parts.4 in
          let rest = more.1 (parts.3 ∙ ap Some (sym heads.1)) in
          (eval_cons q (take i ps) s w (take i vs) (parts.2 ∙ ap Some (sym heads.0)) rest.0, rest.1)),
    )

one_more : (i : ℕ) → i + 1 ≡ suc i
one_more i = omega arith

pub eval_next : (ps : List Pattern) (vs : List Value) (s : Subst) (i : ℕ) (p : Pattern) (v : Value) → i < length ps → i < length vs → p ≡ get_or ps i p → v ≡ get_or vs i v
    → ((eval_all (take i ps) s ≡ Some (take i vs)) × (eval p s ≡ Some v) → eval_all (take (i + 1) ps) s ≡ Some (take (i + 1) vs))
    × (eval_all (take (i + 1) ps) s ≡ Some (take (i + 1) vs) → (eval_all (take i ps) s ≡ Some (take i vs)) × (eval p s ≡ Some v))
eval_next ps vs s i p v in_ps in_vs is_p is_v =
    subst (λ n. ((eval_all (take i ps) s ≡ Some (take i vs)) × (eval p s ≡ Some v) → eval_all (take n ps) s ≡ Some (take n vs))
    × (eval_all (take n ps) s ≡ Some (take n vs) → (eval_all (take i ps) s ≡ Some (take i vs)) × (eval p s ≡ Some v)))
    (sym (one_more i)) (eval_more ps vs s i p v in_ps in_vs is_p is_v)

-- some of the patterns that all have their values
pub eval_some : (ps : List Pattern) (vs : List Value) (s : Subst) (n : ℕ) → eval_all ps s ≡ Some vs → eval_all (take n ps) s ≡ Some (take n vs)
eval_some ps vs s zero e = refl
eval_some [] vs s (suc n) e = let none : [] ≡ vs = same_some [] vs e in ap (λ ws. Some (take (suc n) ws)) none
eval_some (p ∷ ps) vs s (suc n) e =
    let parts = eval_parts p ps s vs e in
    eval_cons p (take n ps) s parts.0 (take n parts.1) parts.2 (eval_some ps parts.1 s n parts.3) ∙ ap (λ ws. Some (take (suc n) ws)) (sym parts.4)

-- ---- one of several

pub plain_at : {A : Type 0} (test : A → Bool) (xs : List A) (i : ℕ) (x : A) → list_all test xs ≡ true → i < length xs → x ≡ get_or xs i x → test x ≡ true
plain_at test [] i x all within is = absurd (omega (arith, within))
plain_at test (y ∷ ys) zero x all within is = ap test is ∙ (both (test y) (list_all test ys) all).0
plain_at test (y ∷ ys) (suc i) x all within is = plain_at test ys i x (both (test y) (list_all test ys) all).1 (omega (arith, within)) is

pub each_at : {A : Type 0} (P : A → Type 0) (xs : List A) (i : ℕ) (x : A) → AllByRecursion P xs → i < length xs → x ≡ get_or xs i x → P x
each_at P [] i x all within is = absurd (omega (arith, within))
each_at P (y ∷ ys) zero x all within is = subst P (sym is) all.0
each_at P (y ∷ ys) (suc i) x all within is = each_at P ys i x all.1 (omega (arith, within)) is

none_long : {A : Type 0} (xs : List A) → length xs ≡ 0 → xs ≡ []
none_long [] e = refl
none_long (x ∷ xs) e = absurd (omega (arith, e))

-- whether nothing is left
pub empty_told : {A : Type 0} (xs : List A) (found : Bool) → found ≡ (length xs == 0) → IsTrue found ↔ (xs ≡ [])
empty_told xs found is = ((λ yes. none_long xs (eqb-true (length xs) 0 (sym is ∙ yes))), (λ e. is ∙ eq-eqb (length xs) 0 (ap length e)))
