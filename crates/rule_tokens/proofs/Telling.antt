-- A table tells what is written of each variable.
use Rattle.std.proofs.Common.{◌≡◌, ℕ, ◌+◌, ◌<◌, Bool, true, false, ◌==◌, ◌||◌, not, cond, List, [], ◌∷◌, ◌++◌, map, length, take, get_or, refl, sym, ap, subst, ◌∙◌, rules, append_assoc, append-nil, Option, Some, None, true≢false}
use Rattle.std.specs.Prelude.{if◌then◌else◌, nat_eq, unwrap_or, slice_get}
use Rattle.std.specs.List.{find, list_any}
use Rattle.std.specs.Map.{lookup}
use Rattle.std.proofs.lemmas.Bool.Decides.{nat_tests}
use Rattle.std.proofs.lemmas.List.{map-append, take_more}
use Rattle.std.proofs.lemmas.List.Folds.{list_any-append}
use Rattle.std.proofs.lemmas.Option.{get_or_from_slice_get, slice_get_within, slice_get-map}
use Rattle.indexmap.specs.IndexMap.{insert_entry}
use Rattle.rule_tokens.specs.declared.table.Written.{Written}
use Rattle.rule_tokens.specs.declared.sorts.Named.{Named}
use Rattle.rule_tokens.specs.Variables.{Occurrence, names_of, sort_in, written, with_number, with_numbers, variable_of}
use Rattle.rule_tokens.specs.Tables.{summary, also, also_sort, Tells}

same_number : (one other : ℕ) → (one == other) ≡ true → one ≡ other
same_number one other is = search (rules, nat_tests)

equal_number : (one other : ℕ) → one ≡ other → (one == other) ≡ true
equal_number one other is = search (rules, nat_tests)

-- ---- one entry more

abbrev Entries : Type 0
Entries = List (ℕ × Written)

abbrev keys : Entries → List ℕ
keys entries = map (λ (entry : ℕ × Written). entry.0) entries

abbrev looked : ℕ → Entries → Option Written
looked name entries = lookup (nat_eq name) entries

looked_insert : (entries : Entries) (name : ℕ) (value : Written) (other : ℕ)
    → looked other (insert_entry nat_eq entries name value) ≡ (if other == name then Some value else looked other entries)
looked_insert [] name value other = elim (other == name) as (λ b. cond b (Some value) None ≡ (if b then Some value else None)) [ true ↦ refl | false ↦ refl ]
looked_insert (entry ∷ entries) name value other =
    elim (name == entry.0) as
    (λ b. (name == entry.0) ≡ b → looked other (if b then (entry.0, value) ∷ entries else entry ∷ insert_entry nat_eq entries name value) ≡ (if other == name then Some value else looked other (entry ∷ entries))) [
      | true ↦ λ here.
          let is : name ≡ entry.0 = same_number name entry.0 here in
          subst (λ n. cond (other == entry.0) (Some value) (looked other entries) ≡ (if other == n then Some value else cond (other == entry.0) (Some entry.1) (looked other entries))) (sym is)
          (elim (other == entry.0) as (λ b. cond b (Some value) (looked other entries) ≡ (if b then Some value else cond b (Some entry.1) (looked other entries))) [ true ↦ refl | false ↦ refl ])
      | false ↦ λ apart.
          elim (other == entry.0) as
          (λ b. (other == entry.0) ≡ b → cond b (Some entry.1) (looked other (insert_entry nat_eq entries name value)) ≡ (if other == name then Some value else cond b (Some entry.1) (looked other entries))) [
            | true ↦ λ same. other_name (other == name) refl same apart
            | false ↦ λ other_is. looked_insert entries name value other
          ] refl
    ] refl
  where
    other_name : (b : Bool) → (other == name) ≡ b → (other == entry.0) ≡ true → (name == entry.0) ≡ false → Some entry.1 ≡ (if b then Some value else Some entry.1)
    other_name true named same apart =
        absurd (true≢false (sym (equal_number name entry.0 (sym (same_number other name named) ∙ same_number other entry.0 same)) ∙ apart))
    other_name false named same apart = refl

keys_insert : (entries : Entries) (name : ℕ) (value : Written) → keys (insert_entry nat_eq entries name value) ≡ with_number (keys entries) name
keys_insert [] name value = refl
keys_insert (entry ∷ entries) name value =
    elim (name == entry.0) as
    (λ b. keys (if b then (entry.0, value) ∷ entries else entry ∷ insert_entry nat_eq entries name value)
    ≡ (if b || list_any (λ other. name == other) (keys entries) then entry.0 ∷ keys entries else (entry.0 ∷ keys entries) ++ name ∷ [])) [
      | true ↦ refl
      | false ↦ ap (λ ks. entry.0 ∷ ks) (keys_insert entries name value) ∙ inside (list_any (λ other. name == other) (keys entries))
    ]
  where
    inside : (b : Bool) → entry.0 ∷ (if b then keys entries else keys entries ++ name ∷ []) ≡ (if b then entry.0 ∷ keys entries else (entry.0 ∷ keys entries) ++ name ∷ [])
    inside true = refl
    inside false = refl

numbers-append : (numbers more : List ℕ) (number : ℕ) → with_numbers numbers (more ++ number ∷ []) ≡ with_number (with_numbers numbers more) number
numbers-append numbers [] number = refl
numbers-append numbers (first ∷ more) number = numbers-append (with_number numbers first) more number

-- ---- what is written

written-append : (name : ℕ) (before after : List Occurrence) → written name (before ++ after) ≡ written name before ++ written name after
written-append name [] after = refl
written-append name (occurrence ∷ before) after =
    elim (name == occurrence.0) as
    (λ b. (if b then sort_in occurrence.1 ++ written name (before ++ after) else written name (before ++ after)) ≡ (if b then sort_in occurrence.1 ++ written name before else written name before) ++ written name after) [
      | true ↦ ap (λ ss. sort_in occurrence.1 ++ ss) (written-append name before after) ∙ sym (append_assoc (sort_in occurrence.1) (written name before) (written name after))
      | false ↦ written-append name before after
    ]

abbrev is_named : ℕ → List Occurrence → Bool
is_named name occurrences = list_any (λ other. name == other) (names_of occurrences)

unnamed : (name : ℕ) (occurrences : List Occurrence) → is_named name occurrences ≡ false → written name occurrences ≡ []
unnamed name [] none = refl
unnamed name (occurrence ∷ occurrences) none =
    elim (name == occurrence.0) as (λ b. (b || is_named name occurrences) ≡ false → (if b then sort_in occurrence.1 ++ written name occurrences else written name occurrences) ≡ []) [
      | true ↦ λ is. absurd (true≢false is)
      | false ↦ λ is. unnamed name occurrences is
    ] none

find-push : (test : ℕ → Bool) (items : List ℕ) (item : ℕ) → find test (items ++ item ∷ []) ≡ elim (find test items) [ None ↦ (if test item then Some item else None) | Some first ↦ Some first ]
find-push test [] item = elim (test item) as (λ b. cond b (Some item) None ≡ (if b then Some item else None)) [ true ↦ refl | false ↦ refl ]
find-push test (first ∷ items) item =
    elim (test first) as
    (λ b. cond b (Some first) (find test (items ++ item ∷ [])) ≡ elim (cond b (Some first) (find test items)) [ None ↦ (if test item then Some item else None) | Some first ↦ Some first ]) [
      | true ↦ refl
      | false ↦ find-push test items item
    ]

abbrev a_written : Option ℕ → Option ℕ → Written
a_written first other = record { first = first; other = other }

also_pushed : (first sort : ℕ) (sorts : List ℕ) → also_sort (Some first) (find (λ other. not (other == first)) sorts) sort ≡ summary (first ∷ (sorts ++ sort ∷ []))
also_pushed first sort sorts =
    elim (find (λ other. not (other == first)) sorts) as
    (λ o. find (λ other. not (other == first)) sorts ≡ o → also_sort (Some first) o sort ≡ summary (first ∷ (sorts ++ sort ∷ []))) [
      | None ↦ λ none.
          one_pushed (sort == first)
          ∙ sym (ap (λ o. a_written (Some first) o) (find-push (λ other. not (other == first)) sorts sort
          ∙ ap (λ o. elim o [ None ↦ (if not (sort == first) then Some sort else None) | Some first ↦ Some first ]) none))
      | Some other ↦ λ some.
          sym (ap (λ o. a_written (Some first) o) (find-push (λ other. not (other == first)) sorts sort
          ∙ ap (λ o. elim o [ None ↦ (if not (sort == first) then Some sort else None) | Some first ↦ Some first ]) some))
    ] refl
  where
    one_pushed : (b : Bool) → (if b then a_written (Some first) None else a_written (Some first) (Some sort)) ≡ a_written (Some first) (if not b then Some sort else None)
    one_pushed true = refl
    one_pushed false = refl

also_is : (sorts : List ℕ) (sort : Option ℕ) → also (summary sorts) sort ≡ summary (sorts ++ sort_in sort)
also_is sorts None = ap summary (sym (append-nil sorts))
also_is [] (Some sort) = refl
also_is (first ∷ sorts) (Some sort) = also_pushed first sort sorts

-- ---- the table

abbrev nothing : Written
nothing = record { first = None; other = None }

so_far : (before : List Occurrence) (entries : Entries) (name : ℕ) → Tells before entries → unwrap_or (looked name entries) nothing ≡ summary (written name before)
so_far before entries name tells =
    ap (λ o. unwrap_or o nothing) (tells.each name)
    ∙ (elim (is_named name before) as (λ b. is_named name before ≡ b → unwrap_or (if b then Some (summary (written name before)) else None) nothing ≡ summary (written name before)) [
      | true ↦ λ named. refl
      | false ↦ λ none. sym (ap summary (unnamed name before none))
    ] refl)

named-more : (name other : ℕ) (sort : Option ℕ) (before : List Occurrence) → is_named other (before ++ (name, sort) ∷ []) ≡ (is_named other before || ((other == name) || false))
named-more name other sort before =
    ap (list_any (λ n. other == n)) (map-append (λ (occurrence : Occurrence). occurrence.0) before ((name, sort) ∷ [])) ∙ list_any-append (λ n. other == n) (names_of before) (name ∷ [])

or_true : (b : Bool) → (b || (true || false)) ≡ true
or_true true = refl
or_true false = refl

or_false : (b : Bool) → (b || (false || false)) ≡ b
or_false true = refl
or_false false = refl

pub tells_more : (before : List Occurrence) (entries new : Entries) (name : ℕ) (sort : Option ℕ) (found value : Written) → found ≡ unwrap_or (lookup (nat_eq name) entries) nothing → value ≡ also found sort
    → new ≡ insert_entry nat_eq entries name value → Tells before entries → Tells (before ++ (name, sort) ∷ []) new
tells_more before entries new name sort found value was is made tells = record {
  names = ap keys made ∙ keys_insert entries name value ∙ ap (λ ks. with_number ks name) tells.names ∙ sym (numbers-append [] (names_of before) name)
      ∙ ap (with_numbers []) (sym (map-append (λ (occurrence : Occurrence). occurrence.0) before ((name, sort) ∷ [])));
  each = λ other.
      ap (looked other) made ∙ looked_insert entries name value other
      ∙ (elim (other == name) as
      (λ b. (other == name) ≡ b → (if b then Some value else looked other entries) ≡ (if is_named other (before ++ (name, sort) ∷ []) then Some (summary (written other (before ++ (name, sort) ∷ []))) else None)) [
        | true ↦ λ here. told_here other (same_number other name here) here
        | false ↦ λ apart. told_apart other apart
      ] refl);
}
  where
    told_here : (other : ℕ) → other ≡ name → (other == name) ≡ true → Some value ≡ (if is_named other (before ++ (name, sort) ∷ []) then Some (summary (written other (before ++ (name, sort) ∷ []))) else None)
    told_here other is_name here =
        let named : is_named other (before ++ (name, sort) ∷ []) ≡ true =
        named-more name other sort before ∙ ap (λ b. is_named other before || (b || false)) here ∙ or_true (is_named other before) in
        let all : written other (before ++ (name, sort) ∷ []) ≡ written name before ++ sort_in sort =
        written-append other before ((name, sort) ∷ [])
        ∙ ap (λ b. written other before ++ (if b then sort_in sort ++ [] else [])) here ∙ ap (λ ss. written other before ++ ss) (append-nil (sort_in sort)) ∙ ap (λ n. written n before ++ sort_in sort) is_name in
        let told : value ≡ summary (written name before ++ sort_in sort) = is ∙ ap (λ w. also w sort) (was ∙ so_far before entries name tells) ∙ also_is (written name before) sort in
        ap (λ w. Some w) (told ∙ ap summary (sym all)) ∙ ap (λ b. if b then Some (summary (written other (before ++ (name, sort) ∷ []))) else None) (sym named)

    told_apart : (other : ℕ) → (other == name) ≡ false → looked other entries ≡ (if is_named other (before ++ (name, sort) ∷ []) then Some (summary (written other (before ++ (name, sort) ∷ []))) else None)
    told_apart other apart =
        let named : is_named other (before ++ (name, sort) ∷ []) ≡ is_named other before =
        named-more name other sort before ∙ ap (λ b. is_named other before || (b || false)) apart ∙ or_false (is_named other before) in
        let all : written other (before ++ (name, sort) ∷ []) ≡ written other before =
        written-append other before ((name, sort) ∷ []) ∙ ap (λ b. written other before ++ (if b then sort_in sort ++ [] else [])) apart ∙ append-nil (written other before) in
        tells.each other ∙ (λ i. if sym named i then Some (summary (sym all i)) else None)

-- ---- the variables of a table

told_is : (b : Bool) (value told : Written) → Some value ≡ (if b then Some told else None) → value ≡ told
told_is true value told is = ap (λ o. unwrap_or o value) is
told_is false value told is = absurd (cc)

-- the next variable
pub listed_more : (before : List Occurrence) (entries : Entries) (place name : ℕ) (value : Written) (found new : List Named) → Tells before entries → Some (name, value) ≡ slice_get entries place
    → lookup (nat_eq name) entries ≡ Some value → found ≡ map (variable_of before) (take place (map (λ entry. entry.0) entries))
    → new ≡ found ++ record { name = record { 0 = name }; first = value.first; other = value.other } ∷ []
    → new ≡ map (variable_of before) (take (place + 1) (map (λ entry. entry.0) entries))
listed_more before entries place name value found new tells here own sofar made =
    let there : slice_get (keys entries) place ≡ Some name = slice_get-map (λ (entry : ℕ × Written). entry.0) entries place ∙ ap (option_first) (sym here) in
    let within : place < length (keys entries) = slice_get_within (keys entries) place name there in
    let is : get_or (keys entries) place name ≡ name = get_or_from_slice_get (keys entries) place name name there in
    let front : take (place + 1) (keys entries) ≡ take place (keys entries) ++ name ∷ [] = take_more (keys entries) place name within ∙ ap (λ n. take place (keys entries) ++ n ∷ []) is in
    let told : value ≡ summary (written name before) = told_is (is_named name before) value (summary (written name before)) (sym own ∙ tells.each name) in
    made ∙ ap (λ ns. ns ++ record { name = record { 0 = name }; first = value.first; other = value.other } ∷ []) sofar
    ∙ ap (λ w. map (variable_of before) (take place (keys entries)) ++ record { name = record { 0 = name }; first = w.first; other = w.other } ∷ []) told
    ∙ sym (ap (map (variable_of before)) front ∙ map-append (variable_of before) (take place (keys entries)) (name ∷ []))
  where
    option_first : Option (ℕ × Written) → Option ℕ
    option_first None = None
    option_first (Some entry) = Some entry.0
