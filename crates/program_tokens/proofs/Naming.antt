-- The names with the words of a text.
use Rattle.std.proofs.Common.{◌≡◌, ℕ, suc, ◌+◌, ◌<◌, Bool, true, false, cond, ◌||◌, not, List, [], ◌∷◌, ◌++◌, length, drop, get_or, refl, sym, ap, subst, ◌∙◌, arith, append_assoc, append-nil, drop-cons, add-one, nat_lt, lt-ltb, Some, None}
use Rattle.std.specs.Prelude.{is_some, if◌then◌else◌}
use Rattle.std.specs.List.{list_any, position_or_len}
use Rattle.std.specs.Str.{bytes_eq}
use Rattle.std.specs.Cmp.Lexicographic.{bytes_decides}
use Rattle.std.proofs.lemmas.Bool.Decides.{nat_tests}
use Rattle.std.proofs.lemmas.List.Folds.{list_any-append}
use Rattle.k_terms.specs.Names.{number_of, with_word}
use Rattle.k_lexer.specs.declared.token.Kind.{Kind}
use Rattle.k_lexer.specs.declared.token.Kind.TheVariants.{Word, Int, Str, Mark}
use Rattle.k_lexer.specs.declared.token.Token.{Token}
use Rattle.k_lexer.specs.Before.{AreBefore, AllStand}
use Rattle.k_lexer.proofs.Standing.{all_stand}
use Rattle.program_tokens.specs.Base.{bytes_of, with_token, with_tokens, GoesOn, AllNumbered}

pub before_stand : (text : List ℕ) (at : ℕ) (tokens : List Token) → AreBefore text at tokens → AllStand text tokens
before_stand text at tokens before = all_stand text tokens before.place before.reached

-- ---- in order

pub token_more : (text : List ℕ) (old names new : List (List ℕ)) (tokens : List Token) (i : ℕ) (other : Token) → i < length tokens
    → with_tokens text old tokens ≡ with_tokens text names (drop i tokens) → new ≡ with_token text names (get_or tokens i other)
    → with_tokens text old tokens ≡ with_tokens text new (drop (i + 1) tokens)
token_more text old names new tokens i other within sofar is =
    sofar ∙ ap (with_tokens text names) (drop-cons tokens i other within ∙ ap (λ n. get_or tokens i other ∷ drop n tokens) (sym (add-one i)))
    ∙ ap (λ ns. with_tokens text ns (drop (i + 1) tokens)) (sym is)

-- ---- names go on

goes_same : (names : List (List ℕ)) → GoesOn names names
goes_same names = ([], sym (append-nil names))

goes_through : (one two three : List (List ℕ)) → GoesOn one two → GoesOn two three → GoesOn one three
goes_through one two three f g = (f.0 ++ g.0, g.1 ∙ ap (λ ns. ns ++ g.0) f.1 ∙ append_assoc one f.0 g.0)

word_goes : (names : List (List ℕ)) (word : List ℕ) → GoesOn names (with_word names word)
word_goes names word = elim (is_some (number_of names word)) as (λ b. GoesOn names (if b then names else names ++ word ∷ [])) [ true ↦ goes_same names | false ↦ (word ∷ [], refl) ]

kind_goes : (kind : Kind) (names : List (List ℕ)) (word : List ℕ) → GoesOn names (elim kind [ Word ↦ with_word names word | Int ↦ names | Str ↦ names | Mark ↦ names ])
kind_goes Word names word = word_goes names word
kind_goes Int names word = goes_same names
kind_goes Str names word = goes_same names
kind_goes Mark names word = goes_same names

pub goes_more : (text : List ℕ) (old names new : List (List ℕ)) (token : Token) → GoesOn old names → new ≡ with_token text names token → GoesOn old new
goes_more text old names new token before is = goes_through old names new before (subst (GoesOn names) (sym is) (kind_goes token.kind names (bytes_of text token)))

pub tokens_go : (text : List ℕ) (names : List (List ℕ)) (tokens : List Token) → GoesOn names (with_tokens text names tokens)
tokens_go text names [] = goes_same names
tokens_go text names (token ∷ tokens) =
    goes_through names (with_token text names token) (with_tokens text (with_token text names token) tokens) (kind_goes token.kind names (bytes_of text token))
    (tokens_go text (with_token text names token) tokens)

-- ---- each word has a number

is_some_of : (b : Bool) (n : ℕ) → is_some (cond b (Some n) None) ≡ b
is_some_of true n = refl
is_some_of false n = refl

less_more : (k n : ℕ) → nat_lt (1 + k) (suc n) ≡ nat_lt k n
less_more k n = grind (arith, nat_tests)

any_less : (p : List ℕ → Bool) (words : List (List ℕ)) → nat_lt (position_or_len p words) (length words) ≡ list_any p words
any_less p [] = refl
any_less p (word ∷ words) =
    elim (p word) as (λ b. nat_lt (cond (not b) (1 + position_or_len p words) 0) (suc (length words)) ≡ (b || list_any p words)) [
      | true ↦ lt-ltb 0 (suc (length words)) (omega arith)
      | false ↦ less_more (position_or_len p words) (length words) ∙ any_less p words
    ]

numbered_is : (names : List (List ℕ)) (word : List ℕ) → is_some (number_of names word) ≡ list_any (bytes_eq word) names
numbered_is names word = is_some_of (nat_lt (position_or_len (bytes_eq word) names) (length names)) (position_or_len (bytes_eq word) names) ∙ any_less (bytes_eq word) names

still_numbered : (names more : List (List ℕ)) (word : List ℕ) → is_some (number_of names word) ≡ true → GoesOn names more → is_some (number_of more word) ≡ true
still_numbered names more word is goes =
    let here : list_any (bytes_eq word) names ≡ true = sym (numbered_is names word) ∙ is in
    numbered_is more word ∙ ap (list_any (bytes_eq word)) goes.1 ∙ list_any-append (bytes_eq word) names goes.0 ∙ ap (λ b. b || list_any (bytes_eq word) goes.0) here

or_true : (a : Bool) → (a || (true || false)) ≡ true
or_true true = refl
or_true false = refl

word_numbered : (names : List (List ℕ)) (word : List ℕ) → is_some (number_of (with_word names word) word) ≡ true
word_numbered names word =
    elim (is_some (number_of names word)) as (λ b. is_some (number_of names word) ≡ b → is_some (number_of (if b then names else names ++ word ∷ []) word) ≡ true) [
      | true ↦ λ known. known
      | false ↦ λ new.
          numbered_is (names ++ word ∷ []) word ∙ list_any-append (bytes_eq word) names (word ∷ [])
          ∙ ap (λ b. list_any (bytes_eq word) names || (b || false)) ((bytes_decides word word).1 refl) ∙ or_true (list_any (bytes_eq word) names)
    ] refl

abbrev pub IsNumberedAs : Kind → List (List ℕ) → List ℕ → Type 0
IsNumberedAs kind names word = elim kind [ Word ↦ is_some (number_of names word) ≡ true | Int ↦ Unit {0} | Str ↦ Unit {0} | Mark ↦ Unit {0} ]

kind_numbered : (kind : Kind) (names after : List (List ℕ)) (word : List ℕ) → GoesOn (elim kind [ Word ↦ with_word names word | Int ↦ names | Str ↦ names | Mark ↦ names ]) after
    → IsNumberedAs kind after word
kind_numbered Word names after word goes = still_numbered (with_word names word) after word (word_numbered names word) goes
kind_numbered Int names after word goes = tt
kind_numbered Str names after word goes = tt
kind_numbered Mark names after word goes = tt

pub all_numbered : (text : List ℕ) (names : List (List ℕ)) (tokens : List Token) → AllNumbered text (with_tokens text names tokens) tokens
all_numbered text names [] = tt
all_numbered text names (token ∷ tokens) =
    let next = with_token text names token in (
      kind_numbered token.kind names (with_tokens text next tokens) (bytes_of text token) (tokens_go text next tokens),
      all_numbered text next tokens,
    )
