-- The first name that is none of some.
use Rattle.std.proofs.Common.{◌≡◌, ◌⊎◌, ⊎_elim, ℕ, zero, suc, ◌<◌, true, false, cond, List, [], ◌∷◌, ◌++◌, take, length, get_or, Option, Some, None, refl, sym, ap, subst, ◌∙◌, arith}
use Rattle.k_terms.specs.Names.{number_of}
use Rattle.module_reader.proofs.Naming.{not_among}
use Rattle.std.specs.List.{list_all, flat_map}
use Rattle.std.proofs.lemmas.Bool.{and_parts, cond-true, cond-false}
use Rattle.production_reader.specs.Allowed.{is_among}
use Rattle.module_reader.specs.Modules.{AreFound}
use Rattle.module_reader.specs.Faults.{first_missing}
use Rattle.module_reader.specs.Joining.{IsMissingAmong, IsMissingIn}
use Rattle.module_reader.specs.declared.fault.ModuleFault.{ModuleFault}
use Rattle.module_reader.specs.declared.fault.ModuleFault.TheVariants.{Expected, NoModule, ImportCycle, TwoModules, Memory}

none_some : {x : List ℕ} → ◌≡◌ {A = Option (List ℕ)} None (Some x) → ⊥
none_some e = cc

module _ (names : List (List ℕ)) where
  missing_none : (imports : List (List ℕ)) → list_all (is_among names) imports ≡ true → first_missing names imports ≡ None
  missing_none [] all = refl
  missing_none (name ∷ imports) all =
      let parts = and_parts (is_among names name) (list_all (is_among names) imports) all in
      cond-true (is_among names name) _ _ parts.0 ∙ missing_none imports parts.1

  missing_past : (xs ys : List (List ℕ)) → first_missing names xs ≡ None → first_missing names (xs ++ ys) ≡ first_missing names ys
  missing_past [] ys none = refl
  missing_past (x ∷ xs) ys none =
      elim (is_among names x) as (λ b. cond b (first_missing names xs) (Some x) ≡ None → cond b (first_missing names (xs ++ ys)) (Some x) ≡ first_missing names ys) [
        | true ↦ λ more. missing_past xs ys more
        | false ↦ λ some. absurd (cc)
      ] none

  missing_front : (xs ys : List (List ℕ)) (name : List ℕ) → first_missing names xs ≡ Some name → first_missing names (xs ++ ys) ≡ Some name
  missing_front [] ys name is = absurd (none_some is)
  missing_front (x ∷ xs) ys name is =
      elim (is_among names x) as (λ b. cond b (first_missing names xs) (Some x) ≡ Some name → cond b (first_missing names (xs ++ ys)) (Some x) ≡ Some name) [
        | true ↦ λ more. missing_front xs ys name more
        | false ↦ λ here. here
      ] is

  pub missing_at : (imports : List (List ℕ)) (i : ℕ) → i < length imports → list_all (is_among names) (take i imports) ≡ true → is_among names (get_or imports i []) ≡ false
      → first_missing names imports ≡ Some (get_or imports i [])
  missing_at [] i within all absent = absurd (omega (arith, within))
  missing_at (name ∷ imports) zero within all absent = cond-false _ _ _ absent
  missing_at (name ∷ imports) (suc i) within all absent =
      let parts = and_parts (is_among names name) (list_all (is_among names) (take i imports)) all in
      cond-true (is_among names name) _ _ parts.0 ∙ missing_at imports i (omega (arith, within)) parts.1 absent

  missing_part : (imports : List (List (List ℕ))) (i : ℕ) (name : List ℕ) → i < length imports → AreFound names (take i imports) → first_missing names (get_or imports i []) ≡ Some name
      → first_missing names (flat_map (λ names. names) imports) ≡ Some name
  missing_part [] i name within all is = absurd (omega (arith, within))
  missing_part (part ∷ imports) zero name within all is = missing_front part (flat_map (λ names. names) imports) name is
  missing_part (part ∷ imports) (suc i) name within all is =
      let parts = and_parts (list_all (is_among names) part) (list_all (list_all (is_among names)) (take i imports)) all in
      missing_past part (flat_map (λ names. names) imports) (missing_none part parts.0) ∙ missing_part imports i name (omega (arith, within)) parts.1 is

  -- what is missing among the imports of one module, where those before it miss none
  pub missing_in : (imports : List (List (List ℕ))) (i : ℕ) (fault : ModuleFault) → i < length imports → AreFound names (take i imports) → IsMissingAmong names (get_or imports i []) fault
      → IsMissingIn names imports fault
  missing_in imports i (NoModule name) within all is = missing_part imports i name within all is
  missing_in imports i Memory within all is = tt
  missing_in imports i (Expected at) within all is = is
  missing_in imports i (ImportCycle name) within all is = is
  missing_in imports i (TwoModules name) within all is = is

  none_in_all : (imports : List (List (List ℕ))) → AreFound names imports → first_missing names (flat_map (λ names. names) imports) ≡ None
  none_in_all [] all = refl
  none_in_all (part ∷ imports) all =
      let parts = and_parts (list_all (is_among names) part) (list_all (list_all (is_among names)) imports) all in
      missing_past part (flat_map (λ names. names) imports) (missing_none part parts.0) ∙ none_in_all imports parts.1

  pub found_or_missing : (imports : List (List (List ℕ))) (name : List ℕ) → AreFound names imports → first_missing names (flat_map (λ names. names) imports) ≡ Some name → ⊥
  found_or_missing imports name all is = let none = none_in_all imports all in absurd (cc)

  pub missing_told : (imports : List (List ℕ)) (i : ℕ) (name : List ℕ) (fault : ModuleFault) → i < length imports → list_all (is_among names) (take i imports) ≡ true → None ≡ number_of names name
      → name ≡ get_or imports i [] → (fault ≡ Memory) ⊎ (fault ≡ NoModule name) → IsMissingAmong names imports fault
  missing_told imports i name fault within all none is told =
      let absent : is_among names (get_or imports i []) ≡ false = not_among names (get_or imports i []) (none ∙ ap (number_of names) is) in
      ⊎_elim
      (λ (e : fault ≡ Memory). subst (IsMissingAmong names imports) (sym e) tt)
      (λ (e : fault ≡ NoModule name). subst (IsMissingAmong names imports) (sym e) (missing_at imports i within all absent ∙ ap Some (sym is)))
      told
