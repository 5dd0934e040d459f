-- The variables of a rule are told at different tokens, so that each has its own number.
use Rattle.std.proofs.Common.{◌≡◌, inl, inr, ℕ, zero, suc, ◌+◌, Bool, true, false, cond, ◌==◌, List, [], ◌∷◌, ◌++◌, map, Some, None, refl, sym, ap, subst, ◌∙◌, arith}
use Rattle.std.proofs.lemmas.Bool.{eq-eqb, ne_eqb}
use Rattle.std.proofs.lemmas.List.{map-append}
use Rattle.std.specs.Prelude.{slice_get, unwrap_or}
use Rattle.std.specs.List.{position_from}
use Rattle.live_config.proofs.Members.{Has, has_either, has_map, map_has, has_any, Apart}
use Rattle.rule_parts.specs.declared.terms.Occurrence.{Occurrence}
use Rattle.rule_parts.specs.Terms.{number_of}
use Rattle.rule_drafts.specs.Drafts.{is_known, with_variable, first_from, variables}

abbrev homes : List Occurrence → List ℕ
homes vars = map (λ (v : Occurrence). v.home) vars

apart_more : (ns : List ℕ) (n : ℕ) → Apart ns → (Has ns n → ⊥) → Apart (ns ++ n ∷ [])
apart_more [] n apart new = ((λ h. h), tt)
apart_more (m ∷ ns) n apart new =
    ((λ h. elim (has_either ns (n ∷ []) m h) [ inl there ↦ apart.0 there | inr last ↦ elim last [ inl e ↦ new (inl (sym e)) | inr none ↦ none ] ]), apart_more ns n apart.1 (λ h. new (inr h)))

not_among : (vars : List Occurrence) (home : ℕ) → is_known vars home ≡ false → Has (homes vars) home → ⊥
not_among vars home unknown h =
    let v = map_has (λ (v : Occurrence). v.home) vars home h in
    let known : is_known vars home ≡ true = has_any (λ (w : Occurrence). w.home == home) vars v.0 v.1 (eq-eqb v.0.home home v.2) in
    absurd (let f : false ≡ true = sym unknown ∙ known in cc)

with_apart : (b : Bool) (vars : List Occurrence) (found : Occurrence) → is_known vars found.home ≡ b → Apart (homes vars) → Apart (homes (cond b vars (vars ++ found ∷ [])))
with_apart true vars found known apart = apart
with_apart false vars found unknown apart =
    subst Apart (sym (map-append (λ (v : Occurrence). v.home) vars (found ∷ []))) (apart_more (homes vars) found.home apart (not_among vars found.home unknown))

from_apart : (vars found : List Occurrence) → Apart (homes vars) → Apart (homes (first_from vars found))
from_apart vars [] apart = apart
from_apart vars (one ∷ more) apart = from_apart (with_variable vars one) more (with_apart (is_known vars one.home) vars one refl apart)

pub variables_apart : (found : List Occurrence) → Apart (homes (variables found))
variables_apart found = from_apart [] found tt

slice_has : {X : Type 0} (xs : List X) (n : ℕ) (x : X) → slice_get xs n ≡ Some x → Has xs x
slice_has [] n x e = absurd (let f : None ≡ Some x = e in cc)
slice_has (y ∷ xs) zero x e = let same : y ≡ x = cc in inl same
slice_has (y ∷ xs) (suc n) x e = inr (slice_has xs n x e)

position_of : (at : ℕ) (vars : List Occurrence) (x : ℕ) (v : Occurrence) → Apart (homes vars) → slice_get vars x ≡ Some v
    → position_from (λ (w : Occurrence). w.home == v.home) at vars ≡ Some (at + x)
position_of at [] x v apart e = absurd (let f : None ≡ Some v = e in cc)
position_of at (u ∷ vars) zero v apart e =
    let same : u ≡ v = cc in
    ap (λ b. cond b (Some at) (position_from (λ (w : Occurrence). w.home == v.home) (at + 1) vars)) (eq-eqb u.home v.home (ap (λ (w : Occurrence). w.home) same))
    ∙ ap Some (let f : at ≡ at + 0 = omega arith in f)
position_of at (u ∷ vars) (suc x) v apart e =
    let there = has_map (λ (w : Occurrence). w.home) vars v (slice_has vars x v e) in
    let away : (u.home == v.home) ≡ false = ne_eqb u.home v.home (λ same. apart.0 (subst (Has (homes vars)) (sym same) there)) in
    ap (λ b. cond b (Some at) (position_from (λ (w : Occurrence). w.home == v.home) (at + 1) vars)) away
    ∙ position_of (at + 1) vars x v apart.1 e
    ∙ ap Some (let f : at + 1 + x ≡ at + suc x = omega arith in f)

pub number_is : (vars : List Occurrence) (x : ℕ) (v : Occurrence) → Apart (homes vars) → slice_get vars x ≡ Some v → (number_of vars v.home ≡ x) × Has vars v
number_is vars x v apart e = (ap (λ o. unwrap_or o 0) (position_of 0 vars x v apart e) ∙ (let f : 0 + x ≡ x = omega arith in f), slice_has vars x v e)
