-- How tokens go on after their first character, and that what is found is the longest.
use Rattle.std.proofs.Common.{◌≡◌, ℕ, ◌+◌, ◌<◌, true, false, List, [], ◌∷◌, ◌++◌, length, drop, refl, sym, subst, ◌∙◌, arith}
use Rattle.std.specs.Str.{all_scalars, encode_utf8_all, StartsWithNoChar}
use Rattle.std.specs.List.{list_all}
use Rattle.std.proofs.lemmas.Bool.{and_parts}
use Rattle.std.proofs.lemmas.List.{drop-drop}
use Rattle.std.proofs.lemmas.List.Folds.{list_all-append}
use Rattle.k_lexer.specs.declared.token.Kind.{Kind}
use Rattle.k_lexer.specs.declared.token.Kind.TheVariants.{Str}
use Rattle.k_lexer.specs.Characters.{starts, continues, goes_on, is_token}
use Rattle.k_lexer.specs.Tokens.{IsLongest}
use Rattle.k_lexer.specs.Fronts.{IsFirstChar, Begins, IsTail}
use Rattle.k_lexer.proofs.Chars.{both_true, scalar_among, longer, first_begins, begins_on, begins_nowhere, begins_is, begins_size, first_is}
use Rattle.k_lexer.proofs.Heads.{one_kind, goes_on_is}

-- ---- a run of characters that go on with a token

pub record IsRun (kind : Kind) (rest : List ℕ) (n : ℕ) : Type 0 where
  pub chars : List ℕ
  pub begins : Begins rest chars n
  pub all : list_all (continues kind) chars ≡ true

pub run_begins : (kind : Kind) (rest : List ℕ) → IsRun kind rest 0
run_begins kind rest = record { chars = []; begins = begins_nowhere rest; all = refl }

pub run_more : (kind : Kind) (rest : List ℕ) (n c size : ℕ) → IsRun kind rest n → IsFirstChar (drop n rest) c size → continues kind c ≡ true → IsRun kind rest (n + size)
run_more kind rest n c size run first goes = record {
  chars = run.chars ++ c ∷ [];
  begins = begins_on rest run.chars (c ∷ []) n size run.begins (first_begins (drop n rest) c size first);
  all = list_all-append (continues kind) run.chars (c ∷ []) ∙ both_true _ _ run.all (both_true _ true goes refl);
}

next_goes : (kind : Kind) (cs : List ℕ) (c : ℕ) (more : List ℕ) → (kind ≡ Str → ⊥) → goes_on kind (cs ++ c ∷ more) ≡ true → continues kind c ≡ true
next_goes kind cs c more other goes =
    let all : list_all (continues kind) (cs ++ c ∷ more) ≡ true = sym (goes_on_is kind other (cs ++ c ∷ more)) ∙ goes in
    let parts = and_parts (list_all (continues kind) cs) (list_all (continues kind) (c ∷ more)) (sym (list_all-append (continues kind) cs (c ∷ more)) ∙ all) in
    (and_parts (continues kind c) (list_all (continues kind) more) parts.1).0

-- a run ends before a byte that begins no character
pub run_ends : (kind : Kind) (rest : List ℕ) (n : ℕ) → (kind ≡ Str → ⊥) → IsRun kind rest n → StartsWithNoChar (drop n rest) → IsTail kind rest n
run_ends kind rest n other run none = record {
  chars = run.chars;
  begins = run.begins;
  goes = goes_on_is kind other run.chars ∙ run.all;
  ends = λ c more after scalar goes is. none c after scalar is;
}

-- and before a character that doesn't go on
pub run_stops : (kind : Kind) (rest : List ℕ) (n c size : ℕ) → (kind ≡ Str → ⊥) → IsRun kind rest n → IsFirstChar (drop n rest) c size → continues kind c ≡ false → IsTail kind rest n
run_stops kind rest n c size other run first ends = record {
  chars = run.chars;
  begins = run.begins;
  goes = goes_on_is kind other run.chars ∙ run.all;
  ends = λ d more after scalar goes is.
      let same : d ≡ c = first_is (drop n rest) after c size d first is in
      let yes : continues kind d ≡ true = next_goes kind run.chars d more other goes in
      let yes2 : continues kind c ≡ true = subst (λ x. continues kind x ≡ true) same yes in
      absurd (cc);
}

-- ---- the longest token

-- a token with more bytes would go on
no_longer : (kind other : Kind) (c : ℕ) (cs ds : List ℕ) (e : ℕ) (es : List ℕ) → starts kind c ≡ true → ds ≡ (c ∷ cs) ++ e ∷ es → is_token other ds ≡ true
    → goes_on kind (cs ++ e ∷ es) ≡ true
no_longer kind other c cs ds e es begins is token =
    let parts = and_parts (starts other c) (goes_on other (cs ++ e ∷ es)) (subst (λ t. is_token other t ≡ true) is token) in
    subst (λ k. goes_on k (cs ++ e ∷ es) ≡ true) (one_kind c other kind parts.0 begins) parts.1

token_begins : (kind : Kind) (rest : List ℕ) (c size n : ℕ) → IsFirstChar rest c size → (tail : IsTail kind (drop size rest) n) → Begins rest (c ∷ tail.chars) (size + n)
token_begins kind rest c size n first tail = begins_on rest (c ∷ []) tail.chars size n (first_begins rest c size first) tail.begins

pub is_longest : (kind : Kind) (rest : List ℕ) (c size n : ℕ) → IsFirstChar rest c size → starts kind c ≡ true → IsTail kind (drop size rest) n → IsLongest kind rest (size + n)
is_longest kind rest c size n first begins tail =
    let whole = token_begins kind rest c size n first tail in
    record {
      within = whole.within;
      token = record { chars = c ∷ tail.chars; scalars = whole.scalars; spelled = whole.spelled; is = both_true (starts kind c) (goes_on kind tail.chars) begins tail.goes };
      longest = λ other m less within token.
          let front : Begins rest token.chars m = record { within = within; scalars = token.scalars; spelled = token.spelled } in
          let sizes : length (encode_utf8_all (c ∷ tail.chars)) < length (encode_utf8_all token.chars) =
          omega (arith, less, begins_size rest (c ∷ tail.chars) (size + n) whole, begins_size rest token.chars m front) in
          let more = longer token.chars (c ∷ tail.chars) (drop m rest) (drop (size + n) rest)
          (sym (begins_is rest token.chars m front) ∙ begins_is rest (c ∷ tail.chars) (size + n) whole) sizes in
          tail.ends more.0 more.1 (encode_utf8_all more.1 ++ drop m rest) (scalar_among (c ∷ tail.chars) more.0 more.1 (subst (λ t. all_scalars t ≡ true) more.2 token.scalars))
          (no_longer kind other c tail.chars token.chars more.0 more.1 begins more.2 token.is) (drop-drop n size rest ∙ more.3);
    }
