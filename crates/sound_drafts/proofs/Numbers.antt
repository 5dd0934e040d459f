-- The variables of a rule: each that occurs has a number, where its first occurrence stands.
use Rattle.std.proofs.Common.{◌≡◌, ◌⊎◌, inl, inr, ℕ, suc, ◌+◌, Bool, true, false, cond, ◌==◌, ◌||◌, List, [], ◌∷◌, ◌++◌, Some, refl, ap, subst, ◌∙◌, arith}
use Rattle.std.proofs.lemmas.Bool.{eqb-true, eq-eqb}
use Rattle.std.specs.Prelude.{slice_get, unwrap_or}
use Rattle.std.specs.List.{position_from}
use Rattle.live_config.proofs.Members.{Has, has_left, has_right, has_either, any_has, has_any}
use Rattle.rule_parts.specs.declared.terms.Occurrence.{Occurrence}
use Rattle.rule_parts.specs.Terms.{number_of}
use Rattle.rule_drafts.specs.Drafts.{is_known, with_variable, first_from, variables}

abbrev is_at : ℕ → Occurrence → Bool
is_at home v = v.home == home

-- ---- none but those found

with_members : (b : Bool) (vars : List Occurrence) (found v : Occurrence) → Has (cond b vars (vars ++ found ∷ [])) v → Has vars v ⊎ (found ≡ v)
with_members true vars found v h = inl h
with_members false vars found v h = elim (has_either vars (found ∷ []) v h) [ inl old ↦ inl old | inr new ↦ elim new [ inl e ↦ inr e | inr none ↦ absurd none ] ]

from_members : (vars found : List Occurrence) (v : Occurrence) → Has (first_from vars found) v → Has vars v ⊎ Has found v
from_members vars [] v h = inl h
from_members vars (one ∷ more) v h =
    elim (from_members (with_variable vars one) more v h) [
      | inl old ↦ elim (with_members (is_known vars one.home) vars one v old) [ inl before ↦ inl before | inr e ↦ inr (inl e) ]
      | inr later ↦ inr (inr later)
    ]

pub was_found : (found : List Occurrence) (v : Occurrence) → Has (variables found) v → Has found v
was_found found v h = elim (from_members [] found v h) [ inl none ↦ absurd none | inr there ↦ there ]

-- ---- and all of them

known_more : (vars more : List Occurrence) (home : ℕ) → is_known vars home ≡ true → is_known (vars ++ more) home ≡ true
known_more vars more home known =
    let v = any_has (is_at home) vars known in
    has_any (is_at home) (vars ++ more) v.0 (has_left vars more v.0 v.1) v.2

with_known : (b : Bool) (vars : List Occurrence) (found : Occurrence) (home : ℕ) → is_known vars home ≡ true → is_known (cond b vars (vars ++ found ∷ [])) home ≡ true
with_known true vars found home known = known
with_known false vars found home known = known_more vars (found ∷ []) home known

with_itself : (b : Bool) (vars : List Occurrence) (found : Occurrence) → is_known vars found.home ≡ b → is_known (cond b vars (vars ++ found ∷ [])) found.home ≡ true
with_itself true vars found known = known
with_itself false vars found new =
    has_any (is_at found.home) (vars ++ found ∷ []) found (has_right vars (found ∷ []) found (inl refl)) (eq-eqb found.home found.home refl)

from_known : (vars found : List Occurrence) (home : ℕ) → is_known vars home ≡ true → is_known (first_from vars found) home ≡ true
from_known vars [] home known = known
from_known vars (one ∷ more) home known = from_known (with_variable vars one) more home (with_known (is_known vars one.home) vars one home known)

from_found : (vars found : List Occurrence) (o : Occurrence) → Has found o → is_known (first_from vars found) o.home ≡ true
from_found vars [] o h = absurd h
from_found vars (one ∷ more) o (inl e) =
    subst (λ (x : Occurrence). is_known (first_from (with_variable vars one) more) x.home ≡ true) e
    (from_known (with_variable vars one) more one.home (with_itself (is_known vars one.home) vars one refl))
from_found vars (one ∷ more) o (inr h) = from_found (with_variable vars one) more o h

pub is_variable : (found : List Occurrence) (o : Occurrence) → Has found o → is_known (variables found) o.home ≡ true
is_variable found o h = from_found [] found o h

-- ---- its number

-- a variable that is told at a token stands at a place of a list counted from a number
record StandsAt (at home : ℕ) (vars : List Occurrence) : Type 0 where
  place : ℕ
  variable : Occurrence
  found : position_from (is_at home) at vars ≡ Some (at + place)
  is : slice_get vars place ≡ Some variable
  has : Has vars variable
  home_is : variable.home ≡ home

stands_at : (at home : ℕ) (vars : List Occurrence) → is_known vars home ≡ true → StandsAt at home vars
stands_at at home [] known = absurd (let f : false ≡ true = known in cc)
stands_at at home (v ∷ vars) known =
    elim (v.home == home) as (λ b. (v.home == home) ≡ b → (b || is_known vars home) ≡ true → StandsAt at home (v ∷ vars)) [
      | true ↦ λ here _. record {
        place = 0;
        variable = v;
        found = ap (λ b. cond b (Some at) (position_from (is_at home) (at + 1) vars)) here ∙ ap Some (let e : at ≡ at + 0 = omega arith in e);
        is = refl;
        has = inl refl;
        home_is = eqb-true v.home home here;
      }
      | false ↦ λ away later.
          let rest = stands_at (at + 1) home vars later in
          record {
            place = suc rest.place;
            variable = rest.variable;
            found = ap (λ b. cond b (Some at) (position_from (is_at home) (at + 1) vars)) away ∙ rest.found ∙ ap Some (let e : at + 1 + rest.place ≡ at + suc rest.place = omega arith in e);
            is = rest.is;
            has = inr rest.has;
            home_is = rest.home_is;
          }
    ] refl known

-- the variable with its number
pub record IsNumbered (vars : List Occurrence) (home : ℕ) : Type 0 where
  pub variable : Occurrence
  pub is : slice_get vars (number_of vars home) ≡ Some variable
  pub has : Has vars variable
  pub home_is : variable.home ≡ home

pub numbered : (vars : List Occurrence) (home : ℕ) → is_known vars home ≡ true → IsNumbered vars home
numbered vars home known =
    let s = stands_at 0 home vars known in
    let number : number_of vars home ≡ s.place = ap (λ o. unwrap_or o 0) s.found ∙ (let e : 0 + s.place ≡ s.place = omega arith in e) in
    record { variable = s.variable; is = ap (slice_get vars) number ∙ s.is; has = s.has; home_is = s.home_is }
