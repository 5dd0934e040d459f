-- Sorts by their names.
use Rattle.std.proofs.Common.{◌≡◌, ℕ, ◌+◌, ◌<◌, Bool, true, false, cond, ◌||◌, List, [], ◌∷◌, ◌++◌, map, take, drop, length, get_or, Some, None, is_some, Bor, refl, sym, ap, subst, ◌∙◌, drop-cons, add-one}
use Rattle.std.specs.List.{list_any}
use Rattle.std.proofs.lemmas.List.{map-append, take_more}
use Rattle.std.proofs.lemmas.Option.{get_or_from_slice_get, slice_get_within}
use Rattle.std.specs.Prelude.{slice_get}
use Rattle.k_terms.specs.Names.{number_of, with_word}
use Rattle.production_reader.specs.Allowed.{same_text, is_among}
use Rattle.file_reader.specs.declared.sentence.Sentence.{Sentence}
use Rattle.module_reader.proofs.Naming.{not_among, number_found, number_within}
use Rattle.sorted_grammar.specs.Naming.{with_sort, with_sorts}

any_map : {A B : Type 0} (f : A → B) (p : B → Bool) (xs : List A) → list_any p (map f xs) ≡ list_any (λ x. p (f x)) xs
any_map f p [] = refl
any_map f p (x ∷ xs) = ap (λ b. p (f x) || b) (any_map f p xs)

some_among : (names : List (List ℕ)) (name : List ℕ) → is_some (number_of names name) ≡ is_among names name
some_among names name =
    elim (number_of names name) as (λ o. number_of names name ≡ o → is_some o ≡ is_among names name) [
      | None ↦ λ e. sym (not_among names name (sym e))
      | Some number ↦ λ e. sym (number_found names name number (sym e)).0
    ] refl

pub word_added : (keys new : List (Bor (List ℕ))) (names : List (List ℕ)) (name : Bor (List ℕ)) → map (λ key. key.now) keys ≡ names
    → new ≡ cond (list_any (λ key. same_text name.now key.now) keys) keys (keys ++ name ∷ []) → map (λ key. key.now) new ≡ with_word names name.now
word_added keys new names name is pushed =
    let known : is_some (number_of names name.now) ≡ list_any (λ (key : Bor (List ℕ)). same_text name.now key.now) keys =
    some_among names name.now ∙ ap (λ ns. is_among ns name.now) (sym is) ∙ any_map (λ (key : Bor (List ℕ)). key.now) (same_text name.now) keys in
    ap (map (λ (key : Bor (List ℕ)). key.now)) pushed
    ∙ elim (list_any (λ (key : Bor (List ℕ)). same_text name.now key.now) keys) as (λ b. map (λ (key : Bor (List ℕ)). key.now) (cond b keys (keys ++ name ∷ [])) ≡ cond b names (names ++ name.now ∷ [])) [
      | true ↦ is
      | false ↦ map-append (λ (key : Bor (List ℕ)). key.now) keys (name ∷ []) ∙ ap (λ ns. ns ++ name.now ∷ []) is
    ]
    ∙ ap (λ b. cond b names (names ++ name.now ∷ [])) (sym known)

pub within_names : (names : List (List ℕ)) (name : List ℕ) (number : ℕ) → Some number ≡ number_of names name → number < length names
within_names names name number is =
    let found = number_found names name number is in subst (λ n. n < length names) (sym found.1) (number_within names name found.0)

-- one sentence more was read
pub sentence_read : (sentences : List Sentence) (i : ℕ) (sentence : Sentence) (before after all : List (List ℕ)) → i < length sentences → sentence ≡ get_or sentences i sentence
    → after ≡ with_sort before sentence → with_sorts before (drop i sentences) ≡ all → with_sorts after (drop (i + 1) sentences) ≡ all
sentence_read sentences i sentence before after all within is added rest =
    ap (λ names. with_sorts names (drop (i + 1) sentences)) (added ∙ ap (with_sort before) is)
    ∙ ap (λ n. with_sorts (with_sort before (get_or sentences i sentence)) (drop n sentences)) (add-one i)
    ∙ ap (with_sorts before) (sym (drop-cons sentences i sentence within))
    ∙ rest

pub text_pushed : (names before after : List (List ℕ)) (i : ℕ) (text : List ℕ) → before ≡ take i names → slice_get names i ≡ Some text → after ≡ before ++ text ∷ [] → after ≡ take (i + 1) names
text_pushed names before after i text is found pushed =
    pushed
    ∙ (λ j. is j ++ sym (get_or_from_slice_get names i text [] found) j ∷ [])
    ∙ sym (take_more names i [] (slice_get_within names i text found))
