-- Where a word stands among others.
use Rattle.std.proofs.Common.{◌≡◌, ℕ, suc, ◌+◌, ◌≤◌, Bool, true, false, not, cond, ◌||◌, List, [], ◌∷◌, ◌++◌, map, length, Option, Some, None, Result, Ok, Err, position, String, string_bytes, string_eq, nat_lt, IfOk, OnOk, refl, sym, ap, ◌∙◌, arith, add-zero, ltb-false, lt-ltb}
use Rattle.std.specs.List.{position_or_len, list_any}
use Rattle.std.specs.Str.{bytes_eq}
use Rattle.std.specs.Cmp.Lexicographic.{bytes_decides}
use Rattle.std.proofs.lemmas.List.{length-map, length_push, map-append}
use Rattle.std.proofs.lemmas.List.Folds.{position_or_len_push}
use Rattle.std.proofs.Common.{Global}
use Rattle.k_terms.specs.declared.value.Symbol.{Symbol}
use Rattle.k_terms.specs.declared.memory.Memory.{Memory}
use Rattle.k_terms.specs.Names.{number_of}

module _ {A B : Type 0} (f : A → B) (p : B → Bool) where
  position_or_len-map : (xs : List A) → position_or_len p (map f xs) ≡ position_or_len (λ x. p (f x)) xs
  position_or_len-map [] = refl
  position_or_len-map (x ∷ xs) = ap (λ n. cond (not (p (f x))) (1 + n) 0) (position_or_len-map xs)

  position-map : (xs : List A) → position p (map f xs) ≡ position (λ x. p (f x)) xs
  position-map xs = λ i. cond (nat_lt (position_or_len-map xs i) (length-map xs f i)) (Some (position_or_len-map xs i)) None

cond_same : (b : Bool) (m n k : ℕ) → m ≡ k → n ≡ k → cond b m n ≡ k
cond_same true m n k e f = e
cond_same false m n k e f = f

module _ {A : Type 0} (p : A → Bool) where
  position_or_len-le-length : (xs : List A) → position_or_len p xs ≤ length xs
  position_or_len-le-length [] = omega arith
  position_or_len-le-length (x ∷ xs) = elim (p x) as (λ b. cond (not b) (1 + position_or_len p xs) 0 ≤ suc (length xs)) [ true ↦ omega arith | false ↦ omega (arith, position_or_len-le-length xs) ]

  none_at : (b : Bool) (n : ℕ) → None ≡ cond b (Some n) None → b ≡ false
  none_at true n e = cc
  none_at false n e = refl

  position_none : (xs : List A) → None ≡ position p xs → position_or_len p xs ≡ length xs
  position_none xs e =
      let past : length xs ≤ position_or_len p xs = ltb-false _ _ (none_at (nat_lt (position_or_len p xs) (length xs)) (position_or_len p xs) e) in
      let within : position_or_len p xs ≤ length xs = position_or_len-le-length xs in
      omega arith

  list_any_none : (xs : List A) → position_or_len p xs ≡ length xs → list_any p xs ≡ false
  list_any_none [] e = refl
  list_any_none (x ∷ xs) e = elim (p x) as (λ b. cond (not b) (1 + position_or_len p xs) 0 ≡ suc (length xs) → (b || list_any p xs) ≡ false) [
    | true ↦ λ none. absurd (omega (arith, none))
    | false ↦ λ none. list_any_none xs (omega (arith, none))
  ] e

  position_push : (xs : List A) (x : A) → None ≡ position p xs → p x ≡ true → position p (xs ++ x ∷ []) ≡ Some (length xs)
  position_push xs x e passes =
      let none : position_or_len p xs ≡ length xs = position_none xs e in
      let here : length xs + cond (p x) 0 1 ≡ length xs = ap (λ b. length xs + cond b 0 1) passes ∙ add-zero (length xs) in
      let at : position_or_len p (xs ++ x ∷ []) ≡ length xs = position_or_len_push p xs x ∙ cond_same _ _ _ (length xs) here none in
      let longer : length (xs ++ x ∷ []) ≡ length xs + 1 = length_push xs x in
      let inside : nat_lt (position_or_len p (xs ++ x ∷ [])) (length (xs ++ x ∷ [])) ≡ true = lt-ltb _ _ (omega arith) in
      λ i. cond (inside i) (Some (at i)) None

bytes_eq_itself : (word : List ℕ) → bytes_eq word word ≡ true
bytes_eq_itself word = (bytes_decides word word).1 refl

-- ---- the forms that the code's goals have

pub number_found : (keys : List (String Global)) (words : List (List ℕ)) (word : List ℕ) (r : Option ℕ) → map string_bytes keys ≡ words → r ≡ position (λ key. bytes_eq word (string_bytes key)) keys → r ≡ number_of words word
number_found keys words word r e is = is ∙ sym (position-map string_bytes (bytes_eq word) keys) ∙ ap (λ ws. number_of ws word) e

pub keys_lack : (keys : List (String Global)) (words : List (List ℕ)) (key : String Global) (word : List ℕ) → map string_bytes keys ≡ words → number_of words word ≡ None → string_bytes key ≡ word → list_any (string_eq key) keys ≡ false
keys_lack keys words key word e none is =
    list_any_none (string_eq key) keys (position_none (string_eq key) keys (
    sym none ∙ ap (λ ws. number_of ws word) (sym e) ∙ position-map string_bytes (bytes_eq word) keys ∙ ap (λ w. position (λ k. bytes_eq w (string_bytes k)) keys) (sym is)
    ))

pub words_pushed : (keys new : List (String Global)) (words : List (List ℕ)) (key : String Global) (word : List ℕ) → map string_bytes keys ≡ words → number_of words word ≡ None → string_bytes key ≡ word → new ≡ cond (list_any (string_eq key) keys) keys (keys ++ key ∷ []) → map string_bytes new ≡ words ++ word ∷ []
words_pushed keys new words key word e none is pushed =
    ap (map string_bytes) (pushed ∙ ap (λ b. cond b keys (keys ++ key ∷ [])) (keys_lack keys words key word e none is))
    ∙ map-append string_bytes keys (key ∷ [])
    ∙ (λ i. e i ++ is i ∷ [])

pub numbered : (r : Result Symbol Memory) (words new : List (List ℕ)) (word : List ℕ) → None ≡ number_of words word → OnOk r (new ≡ words ++ word ∷ []) → IfOk r (λ symbol. symbol.0 ≡ length words) → IfOk r (λ symbol. number_of new word ≡ Some symbol.0)
numbered (Ok symbol) words new word none e is = ap (λ ws. number_of ws word) e ∙ position_push (bytes_eq word) words word none (bytes_eq_itself word) ∙ ap Some (sym is)
numbered (Err x) words new word none e is = tt
