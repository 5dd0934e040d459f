-- Modules by their names.
use Rattle.std.proofs.Common.{◌≡◌, ℕ, zero, suc, ◌+◌, ◌<◌, Bool, true, false, not, cond, ◌||◌, List, [], ◌∷◌, ◌++◌, map, take, length, get_or, Option, Some, None, position, nat_lt, unwrap_or, Bor, refl, sym, ap, subst, ◌∙◌, arith}
use Rattle.std.specs.List.{list_any, position_or_len}
use Rattle.std.specs.Cmp.Lexicographic.{bytes_decides}
use Rattle.std.proofs.lemmas.Bool.{and_parts, and_from, or_from, both_ways, not-true, false_from_ne_true, false≢true, cond-true, cond-false, lt-ltb}
use Rattle.std.proofs.lemmas.List.{take_more, map-append, length-map}
use Rattle.std.proofs.lemmas.List.Folds.{list_any_at, list_all_more}
use Rattle.std.proofs.lemmas.List.Quantifiers.{position-Some}
use Rattle.k_terms.specs.Names.{number_of}
use Rattle.production_reader.specs.Allowed.{same_text, is_among}
use Rattle.file_reader.specs.Files.{are_different}
use Rattle.module_reader.specs.Joining.{module_number, AreNumbers}

module _ {A B : Type 0} (f : A → B) (p : B → Bool) where
  any_map : (xs : List A) → list_any p (map f xs) ≡ list_any (λ x. p (f x)) xs
  any_map [] = refl
  any_map (x ∷ xs) = ap (λ b. p (f x) || b) (any_map xs)

  first_map : (xs : List A) → position_or_len p (map f xs) ≡ position_or_len (λ x. p (f x)) xs
  first_map [] = refl
  first_map (x ∷ xs) = ap (λ n. cond (not (p (f x))) (1 + n) 0) (first_map xs)

  position_map : (xs : List A) → position p (map f xs) ≡ position (λ x. p (f x)) xs
  position_map xs = λ i. cond (nat_lt (first_map xs i) (length-map xs f i)) (Some (first_map xs i)) None

passes_within : {X : Type 0} (p : X → Bool) (xs : List X) → list_any p xs ≡ true → position_or_len p xs < length xs
passes_within p [] some = absurd (false≢true some)
passes_within p (x ∷ xs) some =
    elim (p x) as (λ b. (b || list_any p xs) ≡ true → cond (not b) (1 + position_or_len p xs) 0 < suc (length xs)) [
      | true ↦ λ _. omega arith
      | false ↦ λ more. let within : position_or_len p xs < length xs = passes_within p xs more in omega arith
    ] some

-- a name that is among them has a number
number_among : (names : List (List ℕ)) (name : List ℕ) → is_among names name ≡ true → number_of names name ≡ Some (position_or_len (same_text name) names)
number_among names name some = cond-true _ _ _ (lt-ltb _ _ (passes_within (same_text name) names some))

pub number_within : (names : List (List ℕ)) (name : List ℕ) → is_among names name ≡ true → module_number names name < length names
number_within names name some =
    subst (λ n. n < length names) (sym (ap (λ o. unwrap_or o 0) (number_among names name some))) (passes_within (same_text name) names some)

pub not_among : (names : List (List ℕ)) (name : List ℕ) → None ≡ number_of names name → is_among names name ≡ false
not_among names name none = false_from_ne_true _ (λ some. let both : ◌≡◌ {A = Option ℕ} None (Some (position_or_len (same_text name) names)) = none ∙ number_among names name some in absurd (cc))

pub number_found : (names : List (List ℕ)) (name : List ℕ) (number : ℕ) → Some number ≡ number_of names name → (is_among names name ≡ true) × (number ≡ module_number names name)
number_found names name number is =
    let at = position-Some (same_text name) names number [] (sym is) in (
      list_any_at (same_text name) names number [] at.0 at.1,
      ap (λ o. unwrap_or o 0) is,
    )

-- no name of different ones stands before itself
different_before : (names : List (List ℕ)) (i : ℕ) → i < length names → are_different names ≡ true → is_among (take i names) (get_or names i []) ≡ false
different_before [] i within all = absurd (omega (arith, within))
different_before (first ∷ names) zero within all = refl
different_before (first ∷ names) (suc i) within all =
    let parts = and_parts (not (is_among names first)) (are_different names) all in
    let inside : i < length names = omega (arith, within) in
    let name = get_or names i [] in
    or_from (same_text name first) (is_among (take i names) name)
    (false_from_ne_true (same_text name first)
    (λ same. both_ways (is_among names first) (not-true _ parts.0)
    (list_any_at (same_text first) names i [] inside ((bytes_decides first name).1 (sym ((bytes_decides name first).0 same))))))
    (different_before names i inside parts.1)

-- ---- the forms that the code's goals have

pub name_added : (keys new : List (Bor (List ℕ))) (names : List (List ℕ)) (i : ℕ) (name : Bor (List ℕ)) → i < length names → name.now ≡ get_or names i [] → are_different names ≡ true
    → map (λ key. key.now) keys ≡ take i names → new ≡ cond (list_any (λ key. same_text name.now key.now) keys) keys (keys ++ name ∷ []) → map (λ key. key.now) new ≡ take (i + 1) names
name_added keys new names i name within is different before pushed =
    let absent : list_any (λ (key : Bor (List ℕ)). same_text name.now key.now) keys ≡ false =
    sym (any_map (λ (key : Bor (List ℕ)). key.now) (same_text name.now) keys)
    ∙ ap (λ ns. is_among ns name.now) before
    ∙ ap (λ n. is_among (take i names) n) is
    ∙ different_before names i within different in
    ap (map (λ (key : Bor (List ℕ)). key.now)) (pushed ∙ cond-false _ keys (keys ++ name ∷ []) absent)
    ∙ map-append (λ (key : Bor (List ℕ)). key.now) keys (name ∷ [])
    ∙ (λ j. before j ++ is j ∷ [])
    ∙ sym (take_more names i [] within)

pub name_number : (keys : List (Bor (List ℕ))) (names : List (List ℕ)) (name : List ℕ) (found : Option ℕ) → map (λ key. key.now) keys ≡ names → found ≡ position (λ key. same_text name key.now) keys
    → found ≡ number_of names name
name_number keys names name found is at = at ∙ sym (position_map (λ (key : Bor (List ℕ)). key.now) (same_text name) keys) ∙ ap (λ ns. number_of ns name) is

pub number_added : (names imports : List (List ℕ)) (i : ℕ) (name : List ℕ) (number : ℕ) (before after : List ℕ) → i < length imports → name ≡ get_or imports i [] → Some number ≡ number_of names name
    → AreNumbers names (take i imports) before → after ≡ before ++ number ∷ [] → AreNumbers names (take (i + 1) imports) after
number_added names imports i name number before after within is found numbers pushed =
    let here = number_found names (get_or imports i []) number (found ∙ ap (number_of names) is) in (
      list_all_more (is_among names) imports i [] within ∙ and_from _ _ numbers.0 here.0,
      pushed
          ∙ (λ j. numbers.1 j ++ here.1 j ∷ [])
          ∙ sym (map-append (module_number names) (take i imports) (get_or imports i [] ∷ []))
          ∙ ap (map (module_number names)) (sym (take_more imports i [] within)),
    )
