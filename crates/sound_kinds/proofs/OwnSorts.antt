-- The productions of a definition are of declared sorts, or of sort KResult.
use Rattle.std.proofs.Common.{◌≡◌, ◌⊎◌, inl, inr, ℕ, zero, suc, ◌+◌, ◌<◌, ◌≤◌, Bool, true, false, not, cond, ◌||◌, List, [], ◌∷◌, ◌++◌, length, codes, Option, Some, None, unwrap_or, is_some, refl, sym, ap, subst, ◌∙◌, arith}
use Rattle.std.proofs.lemmas.Bool.{cond-true, lt-ltb}
use Rattle.std.specs.Cmp.Lexicographic.{bytes_decides}
use Rattle.std.specs.Prelude.{slice_get}
use Rattle.std.specs.List.{AllByRecursion, list_any, flat_map, position_or_len}
use Rattle.k_lexer.specs.declared.token.Token.{Token}
use Rattle.k_terms.specs.Names.{number_of, with_word}
use Rattle.k_terms.specs.Sorts.{sort_kresult}
use Rattle.production_reader.specs.Allowed.{same_text, is_among}
use Rattle.production_reader.specs.declared.prod.Prod.{Prod}
use Rattle.file_reader.specs.Written.{Sentence, Module, signs_of_sentence, signs_of_header, signs_of_module}
use Rattle.file_reader.specs.Written.Sentence.{Imports, Syntax, Config, Rule}
use Rattle.file_reader.specs.Files.{Context, built_in, AreSentences, AreModules, after, after_all}
use Rattle.file_reader.specs.Meaning.{sentences_of, sentences_by_module}
use Rattle.file_reader.specs.declared.sentence.Sentence.{Sentence as Meant}
use Rattle.file_reader.specs.declared.sentence.Sentence.TheVariants.{Syntax as SyntaxMeant, Config as ConfigMeant, Rule as RuleMeant}
use Rattle.grammar_terms.specs.declared.production.Production.{Production}
use Rattle.grammar_terms.specs.Grammar.{Syntax as Grammar}
use Rattle.live_config.proofs.Members.{Has, map_has}
use Rattle.module_reader.proofs.Naming.{number_found}
use Rattle.sorted_grammar.specs.Naming.{built_in_names, with_sort, with_sorts, names_of, number_in}
use Rattle.sorted_grammar.specs.Placing.{PlacedProd, placed_in_group, placed_in_groups, placed_in_sentence, placed_from, placed_of, production_of, groups_of, grammar_of}
use Rattle.definition_syntax.specs.declared.syntax.Definition.{Definition}
use Rattle.definition_syntax.specs.Syntaxes.{IsDefinition}

first_false : (a b : Bool) → (a || b) ≡ false → a ≡ false
first_false true b e = absurd (let f : true ≡ false = e in cc)
first_false false b e = refl

second_false : (a b : Bool) → (a || b) ≡ false → b ≡ false
second_false true b e = absurd (let f : true ≡ false = e in cc)
second_false false b e = e

both_all : {X : Type 0} (P : X → Type 0) (xs ys : List X) → AllByRecursion P xs → AllByRecursion P ys → AllByRecursion P (xs ++ ys)
both_all P [] ys one other = other
both_all P (x ∷ xs) ys one other = (one.0, both_all P xs ys one.1 other)

all_has : {X : Type 0} (P : X → Type 0) (xs : List X) (x : X) → AllByRecursion P xs → Has xs x → P x
all_has P [] x all h = absurd h
all_has P (y ∷ xs) x all (inl e) = subst P e all.0
all_has P (y ∷ xs) x all (inr h) = all_has P xs x all.1 h

-- ---- no sentence is of a built-in sort

abbrev IsOwnName : List ℕ → Type 0
IsOwnName name = is_among built_in name ≡ false

abbrev IsOwn : Meant → Type 0
IsOwn (SyntaxMeant sort groups) = IsOwnName sort
IsOwn (ConfigMeant first past) = Unit {0}
IsOwn (RuleMeant at first past) = Unit {0}

sentences_own : (tokens : List Token) (at : ℕ) (context : Context) (sentences : List Sentence) → AreSentences context sentences → AllByRecursion IsOwn (sentences_of tokens at sentences)
sentences_own tokens at context [] are = tt
sentences_own tokens at context (Imports name ∷ sentences) are =
    sentences_own tokens (at + length (signs_of_sentence (Imports name))) (after context (Imports name)) sentences are.1
sentences_own tokens at context (Syntax sort groups ∷ sentences) are =
    (are.0.0.1, sentences_own tokens (at + length (signs_of_sentence (Syntax sort groups))) (after context (Syntax sort groups)) sentences are.1)
sentences_own tokens at context (Config text ∷ sentences) are =
    (tt, sentences_own tokens (at + length (signs_of_sentence (Config text))) (after context (Config text)) sentences are.1)
sentences_own tokens at context (Rule text ∷ sentences) are =
    (tt, sentences_own tokens (at + length (signs_of_sentence (Rule text))) (after context (Rule text)) sentences are.1)

modules_own : (tokens : List Token) (at : ℕ) (context : Context) (modules : List Module) → AreModules context modules → AllByRecursion (AllByRecursion IsOwn) (sentences_by_module tokens at modules)
modules_own tokens at context [] are = tt
modules_own tokens at context (one ∷ modules) are = (
  sentences_own tokens (at + length (signs_of_header one.name)) context one.sentences are.0.1,
  modules_own tokens (at + length (signs_of_module one)) (after_all context one.sentences) modules are.1,
)

taken_own : (xs : List (List Meant)) (m : ℕ) → AllByRecursion (AllByRecursion IsOwn) xs → AllByRecursion IsOwn (unwrap_or (slice_get xs m) [])
taken_own [] m all = tt
taken_own (x ∷ xs) zero all = all.0
taken_own (x ∷ xs) (suc m) all = taken_own xs m all.1

closure_own : (xs : List (List Meant)) (order : List ℕ) → AllByRecursion (AllByRecursion IsOwn) xs → AllByRecursion IsOwn (flat_map (λ m. unwrap_or (slice_get xs m) []) order)
closure_own xs [] all = tt
closure_own xs (m ∷ order) all =
    both_all IsOwn (unwrap_or (slice_get xs m) []) (flat_map (λ n. unwrap_or (slice_get xs n) []) order) (taken_own xs m all) (closure_own xs order all)

all_own : (text : List ℕ) (definition : Definition) → IsDefinition text definition → AllByRecursion IsOwn definition.sentences
all_own text definition is =
    let modules = is.are.are_modules in
    let by_module = subst (AllByRecursion (AllByRecursion IsOwn)) (sym modules.sentences) (modules_own definition.tokens 0 [] modules.modules modules.file.0.1) in
    subst (AllByRecursion IsOwn) (sym is.are.closure.are) (closure_own is.are.modules.sentences is.are.closure.order by_module)

-- ---- names

same_itself : (name : List ℕ) → same_text name name ≡ true
same_itself name = (bytes_decides name name).1 refl

or_later : (a b c : Bool) → (b ≡ true → c ≡ true) → (a || b) ≡ true → (a || c) ≡ true
or_later true b c to e = refl
or_later false b c to e = to e

or_last : (a b : Bool) → b ≡ true → (a || b) ≡ true
or_last true b e = refl
or_last false b e = e

any_front : {X : Type 0} (p : X → Bool) (xs ys : List X) → list_any p xs ≡ true → list_any p (xs ++ ys) ≡ true
any_front p [] ys e = absurd (let f : false ≡ true = e in cc)
any_front p (x ∷ xs) ys e = or_later (p x) (list_any p xs) (list_any p (xs ++ ys)) (any_front p xs ys) e

any_last : {X : Type 0} (p : X → Bool) (xs : List X) (y : X) → p y ≡ true → list_any p (xs ++ y ∷ []) ≡ true
any_last p [] y e = ap (λ b. b || false) e
any_last p (x ∷ xs) y e = or_last (p x) (list_any p (xs ++ y ∷ [])) (any_last p xs y e)

-- a list of names with one more, as it is where the name is known or new
by_known : (P : List (List ℕ) → Type 0) (names : List (List ℕ)) (word : List ℕ) (known : Option ℕ) → number_of names word ≡ known
    → (is_among names word ≡ true → P names) → P (names ++ word ∷ []) → P (cond (is_some known) names (names ++ word ∷ []))
by_known P names word None e here new = new
by_known P names word (Some n) e here new = here (number_found names word n (sym e)).0

with_itself : (names : List (List ℕ)) (word : List ℕ) → is_among (with_word names word) word ≡ true
with_itself names word =
    by_known (λ ns. is_among ns word ≡ true) names word (number_of names word) refl (λ is. is) (any_last (same_text word) names word (same_itself word))

with_others : (names : List (List ℕ)) (word other : List ℕ) → is_among names other ≡ true → is_among (with_word names word) other ≡ true
with_others names word other e =
    by_known (λ ns. is_among ns other ≡ true) names word (number_of names word) refl (λ _. e) (any_front (same_text other) names (word ∷ []) e)

sentence_others : (names : List (List ℕ)) (sentence : Meant) (other : List ℕ) → is_among names other ≡ true → is_among (with_sort names sentence) other ≡ true
sentence_others names (SyntaxMeant sort groups) other e = with_others names sort other e
sentence_others names (ConfigMeant first past) other e = e
sentence_others names (RuleMeant at first past) other e = e

sentences_others : (names : List (List ℕ)) (sentences : List Meant) (other : List ℕ) → is_among names other ≡ true → is_among (with_sorts names sentences) other ≡ true
sentences_others names [] other e = e
sentences_others names (sentence ∷ sentences) other e = sentences_others (with_sort names sentence) sentences other (sentence_others names sentence other e)

-- each sentence's sort has a name
abbrev IsNamed : List (List ℕ) → Meant → Type 0
IsNamed names (SyntaxMeant sort groups) = is_among names sort ≡ true
IsNamed names (ConfigMeant first past) = Unit {0}
IsNamed names (RuleMeant at first past) = Unit {0}

named_later : (names : List (List ℕ)) (sentence : Meant) (sentences : List Meant) → IsNamed (with_sorts (with_sort names sentence) sentences) sentence
named_later names (SyntaxMeant sort groups) sentences = sentences_others (with_word names sort) sentences sort (with_itself names sort)
named_later names (ConfigMeant first past) sentences = tt
named_later names (RuleMeant at first past) sentences = tt

all_named : (names : List (List ℕ)) (sentences : List Meant) → AllByRecursion (IsNamed (with_sorts names sentences)) sentences
all_named names [] = tt
all_named names (sentence ∷ sentences) = (named_later names sentence sentences, all_named (with_sort names sentence) sentences)

-- further names stand behind
record GoesOn (names more : List (List ℕ)) : Type 0 where
  rest : List (List ℕ)
  is : more ≡ names ++ rest

joined : (xs ys zs : List (List ℕ)) → (xs ++ ys) ++ zs ≡ xs ++ (ys ++ zs)
joined [] ys zs = refl
joined (x ∷ xs) ys zs = ap (λ ws. x ∷ ws) (joined xs ys zs)

nothing_behind : (xs : List (List ℕ)) → xs ≡ xs ++ []
nothing_behind [] = refl
nothing_behind (x ∷ xs) = ap (λ ws. x ∷ ws) (nothing_behind xs)

goes_on : (one two three : List (List ℕ)) → GoesOn one two → GoesOn two three → GoesOn one three
goes_on one two three a b = record { rest = a.rest ++ b.rest; is = b.is ∙ ap (λ ns. ns ++ b.rest) a.is ∙ joined one a.rest b.rest }

word_goes_on : (names : List (List ℕ)) (word : List ℕ) → GoesOn names (with_word names word)
word_goes_on names word =
    by_known (GoesOn names) names word (number_of names word) refl (λ _. record { rest = []; is = nothing_behind names }) (record { rest = word ∷ []; is = refl })

sentence_goes_on : (names : List (List ℕ)) (sentence : Meant) → GoesOn names (with_sort names sentence)
sentence_goes_on names (SyntaxMeant sort groups) = word_goes_on names sort
sentence_goes_on names (ConfigMeant first past) = record { rest = []; is = nothing_behind names }
sentence_goes_on names (RuleMeant at first past) = record { rest = []; is = nothing_behind names }

sorts_go_on : (names : List (List ℕ)) (sentences : List Meant) → GoesOn names (with_sorts names sentences)
sorts_go_on names [] = record { rest = []; is = nothing_behind names }
sorts_go_on names (sentence ∷ sentences) =
    goes_on names (with_sort names sentence) (with_sorts (with_sort names sentence) sentences) (sentence_goes_on names sentence) (sorts_go_on (with_sort names sentence) sentences)

-- ---- numbers

skipped : (p : List ℕ → Bool) (x : List ℕ) (xs : List (List ℕ)) → p x ≡ false → position_or_len p (x ∷ xs) ≡ 1 + position_or_len p xs
skipped p x xs e = ap (λ b. cond (not b) (1 + position_or_len p xs) 0) e

here_or_later : (p : List ℕ → Bool) (x : List ℕ) (xs : List (List ℕ)) → (position_or_len p (x ∷ xs) ≡ 0) ⊎ (position_or_len p (x ∷ xs) ≡ 1 + position_or_len p xs)
here_or_later p x xs = by (p x)
  where
    by : (b : Bool) → (cond (not b) (1 + position_or_len p xs) 0 ≡ 0) ⊎ (cond (not b) (1 + position_or_len p xs) 0 ≡ 1 + position_or_len p xs)
    by true = inl refl
    by false = inr refl

abbrev IsOwnNumber : ℕ → Type 0
IsOwnNumber n = (n ≡ sort_kresult) ⊎ (10 ≤ n)

own_place : (name : List ℕ) (more : List (List ℕ)) → IsOwnName name → IsOwnNumber (position_or_len (same_text name) (built_in_names ++ more))
unfolding built_in_names
own_place name more own =
    let p = same_text name in
    let k = first_false (p (codes "K")) _ own in
    let o1 = second_false (p (codes "K")) _ own in
    let kitem = first_false (p (codes "KItem")) _ o1 in
    let o2 = second_false (p (codes "KItem")) _ o1 in
    let int = first_false (p (codes "Int")) _ o2 in
    let o3 = second_false (p (codes "Int")) _ o2 in
    let bool = first_false (p (codes "Bool")) _ o3 in
    let o4 = second_false (p (codes "Bool")) _ o3 in
    let string = first_false (p (codes "String")) _ o4 in
    let o5 = second_false (p (codes "String")) _ o4 in
    let id = first_false (p (codes "Id")) _ o5 in
    let o6 = second_false (p (codes "Id")) _ o5 in
    let map_no = first_false (p (codes "Map")) _ o6 in
    let o7 = second_false (p (codes "Map")) _ o6 in
    let list_no = first_false (p (codes "List")) _ o7 in
    let o8 = second_false (p (codes "List")) _ o7 in
    let bag = first_false (p (codes "Bag")) _ o8 in
    let n9 = skipped p (codes "Bag") more bag in
    let n8 = skipped p (codes "List") (codes "Bag" ∷ more) list_no in
    let n7 = skipped p (codes "Map") (codes "List" ∷ codes "Bag" ∷ more) map_no in
    let n6 = skipped p (codes "Id") (codes "Map" ∷ codes "List" ∷ codes "Bag" ∷ more) id in
    let n5 = skipped p (codes "String") (codes "Id" ∷ codes "Map" ∷ codes "List" ∷ codes "Bag" ∷ more) string in
    let n4 = skipped p (codes "Bool") (codes "String" ∷ codes "Id" ∷ codes "Map" ∷ codes "List" ∷ codes "Bag" ∷ more) bool in
    let n3 = skipped p (codes "Int") (codes "Bool" ∷ codes "String" ∷ codes "Id" ∷ codes "Map" ∷ codes "List" ∷ codes "Bag" ∷ more) int in
    let rest : List (List ℕ) = codes "Int" ∷ codes "Bool" ∷ codes "String" ∷ codes "Id" ∷ codes "Map" ∷ codes "List" ∷ codes "Bag" ∷ more in
    let n1 = skipped p (codes "KItem") (codes "KResult" ∷ rest) kitem in
    let n0 = skipped p (codes "K") (codes "KItem" ∷ codes "KResult" ∷ rest) k in
    elim (here_or_later p (codes "KResult") rest) [
      | inl zero_there ↦ inl (omega (arith, n0, n1, zero_there))
      | inr later ↦ inr (omega (arith, n0, n1, later, n3, n4, n5, n6, n7, n8, n9))
    ]

passes_within : {X : Type 0} (p : X → Bool) (xs : List X) → list_any p xs ≡ true → position_or_len p xs < length xs
passes_within p [] some = absurd (let f : false ≡ true = some in cc)
passes_within p (x ∷ xs) some =
    elim (p x) as (λ b. (b || list_any p xs) ≡ true → cond (not b) (1 + position_or_len p xs) 0 < suc (length xs)) [
      | true ↦ λ _. omega arith
      | false ↦ λ more. let within : position_or_len p xs < length xs = passes_within p xs more in omega arith
    ] some

number_among : (names : List (List ℕ)) (name : List ℕ) → is_among names name ≡ true → number_in names name ≡ position_or_len (same_text name) names
number_among names name some = ap (λ (o : Option ℕ). unwrap_or o 0) (cond-true _ _ _ (lt-ltb _ _ (passes_within (same_text name) names some)))

own_number : (sentences : List Meant) (name : List ℕ) → IsOwnName name → is_among (names_of sentences) name ≡ true → IsOwnNumber (number_in (names_of sentences) name)
own_number sentences name own known =
    let on = sorts_go_on built_in_names sentences in
    subst IsOwnNumber (ap (position_or_len (same_text name)) (sym on.is) ∙ sym (number_among (names_of sentences) name known)) (own_place name on.rest own)

-- ---- productions

module _ (sentences : List Meant) where
  abbrev names : List (List ℕ)
  names = names_of sentences

  abbrev IsOwnPlaced : PlacedProd → Type 0
  IsOwnPlaced placed = IsOwnName placed.sort × (is_among names placed.sort ≡ true)

  group_own : (sort : List ℕ) (sentence group : ℕ) (prods : List Prod) → IsOwnName sort → is_among names sort ≡ true → AllByRecursion IsOwnPlaced (placed_in_group sort sentence group prods)
  group_own sort sentence group [] own known = tt
  group_own sort sentence group (prod ∷ prods) own known = ((own, known), group_own sort sentence group prods own known)

  groups_own : (sort : List ℕ) (sentence group : ℕ) (groups : List (List Prod)) → IsOwnName sort → is_among names sort ≡ true → AllByRecursion IsOwnPlaced (placed_in_groups sort sentence group groups)
  groups_own sort sentence group [] own known = tt
  groups_own sort sentence group (prods ∷ groups) own known =
      both_all IsOwnPlaced (placed_in_group sort sentence group prods) (placed_in_groups sort sentence (group + 1) groups) (group_own sort sentence group prods own known)
      (groups_own sort sentence (group + 1) groups own known)

  sentence_own : (place group : ℕ) (sentence : Meant) → IsOwn sentence → IsNamed names sentence → AllByRecursion IsOwnPlaced (placed_in_sentence place group sentence)
  sentence_own place group (SyntaxMeant sort groups) own known = groups_own sort place group groups own known
  sentence_own place group (ConfigMeant first past) own known = tt
  sentence_own place group (RuleMeant at first past) own known = tt

  placed_own : (place group : ℕ) (some : List Meant) → AllByRecursion IsOwn some → AllByRecursion (IsNamed names) some → AllByRecursion IsOwnPlaced (placed_from place group some)
  placed_own place group [] own known = tt
  placed_own place group (sentence ∷ some) own known =
      both_all IsOwnPlaced (placed_in_sentence place group sentence) (placed_from (place + 1) (group + length (groups_of sentence)) some) (sentence_own place group sentence own.0 known.0)
      (placed_own (place + 1) (group + length (groups_of sentence)) some own.1 known.1)

  pub production_own : AllByRecursion IsOwn sentences → (production : Production) → Has (grammar_of sentences).prods production → IsOwnNumber production.sort
  production_own own production has =
      let from = map_has (production_of names) (placed_of sentences) production has in
      let placed = all_has IsOwnPlaced (placed_of sentences) from.0 (placed_own 0 0 sentences own (all_named built_in_names sentences)) from.1 in
      subst (λ (it : Production). IsOwnNumber it.sort) from.2 (own_number sentences from.0.sort placed.0 placed.1)

-- the sort of a declared production is KResult or a declared one
pub own_sort : (text : List ℕ) (definition : Definition) → IsDefinition text definition → (production : Production) → Has definition.grammar.prods production
    → (production.sort ≡ sort_kresult) ⊎ (10 ≤ production.sort)
own_sort text definition is production has =
    production_own definition.sentences (all_own text definition is) production (subst (λ (g : Grammar). Has g.prods production) is.grammar.is has)
