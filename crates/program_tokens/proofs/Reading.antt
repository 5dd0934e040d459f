-- The words of base tokens, one after the other.
use Rattle.std.proofs.Common.{◌≡◌, ℕ, zero, suc, ◌+◌, ◌-◌, ◌<◌, ◌≤◌, Bool, true, false, ◌==◌, ◌&&◌, List, [], ◌∷◌, ◌++◌, length, take, drop, refl, slice_index, sym, ap, subst, ◌∙◌, arith, Option, Some, None, length-append, length-drop, drop_of_length-le}
use Rattle.std.specs.Prelude.{min, if◌then◌else◌, codes, unwrap_or, slice_get}
use Rattle.std.specs.Char.{encode_utf8}
use Rattle.std.specs.Str.{encode_utf8_all}
use Rattle.std.specs.List.{AllByRecursion}
use Rattle.std.proofs.lemmas.Bool.{and_parts}
use Rattle.std.proofs.lemmas.Bool.Decides.{nat_tests}
use Rattle.std.proofs.lemmas.List.{drop-drop}
use Rattle.std.proofs.lemmas.Str.{length-encode, len_utf8_bounds, byte_from_char}
use Rattle.k_lexer.specs.declared.token.Kind.{Kind}
use Rattle.k_lexer.specs.declared.token.Kind.TheVariants.{Word as WordToken, Int, Str, Mark}
use Rattle.k_lexer.specs.declared.token.Token.{Token}
use Rattle.k_lexer.specs.Characters.{is_token, is_mark as mark}
use Rattle.k_lexer.specs.Tokens.{IsToken}
use Rattle.k_lexer.specs.Before.{Stands, AllStand}
use Rattle.k_lexer.proofs.Stopping.{splits}
use Rattle.production_reader.specs.Allowed.{is_among, same_text}
use Rattle.grammar_terms.specs.declared.word.Word.{Word}
use Rattle.grammar_terms.specs.Values.{is_of_program, AreOfProgram}
use Rattle.program_tokens.specs.Terminals.{IsBound, longest}
use Rattle.program_tokens.specs.Base.{bytes_of}
use Rattle.program_tokens.specs.Words.{is_mark, adjacent, terminal, terminal_of, word_of, read_as, first_word, AreWords, IsInside}
use Rattle.program_tokens.proofs.Lookup.{longest-le, longest_bound}

-- ---- adjacent marks

chars_some : (kind : Kind) (chars : List ℕ) → is_token kind chars ≡ true → 0 < length (encode_utf8_all chars)
chars_some kind [] is = absurd (cc)
chars_some kind (c ∷ cs) is = omega (arith, length-append (encode_utf8 c) (encode_utf8_all cs), length-encode c, (len_utf8_bounds c).0)

some_taken : (n : ℕ) (bytes : List ℕ) → 0 < length (take n bytes) → 0 < n
some_taken zero bytes some = some
some_taken (suc n) bytes some = omega arith

token_some : (text : List ℕ) (token : Token) → Stands text token → token.start < token.end
token_some text token stands =
    let some : 0 < length (take (token.end - token.start) (drop token.start text)) =
    subst (λ bytes. 0 < length bytes) stands.is.spelled (chars_some token.kind stands.is.chars stands.is.is) in
    let apart = some_taken (token.end - token.start) (drop token.start text) some in
    omega (arith, apart)

pub marks_fit : (text : List ℕ) (at : ℕ) (tokens : List Token) → AllStand text tokens → at ≤ length text → adjacent at tokens + at ≤ length text
marks_fit text at [] stand within = omega (arith, within)
marks_fit text at (token ∷ tokens) stand within =
    elim (is_mark token.kind && (token.start == at)) as
    (λ b. (is_mark token.kind && (token.start == at)) ≡ b → (if b then suc (adjacent token.end tokens) else 0) + at ≤ length text) [
      | true ↦ λ here.
          let begins : (token.start == at) ≡ true = (and_parts (is_mark token.kind) (token.start == at) here).1 in
          let is : token.start ≡ at = grind (arith, nat_tests) in
          let more = marks_fit text token.end tokens stand.1 stand.0.within in
          let some = token_some text token stand.0 in
          omega (arith, more, some, is)
      | false ↦ λ other. omega (arith, within)
    ] refl

pub adjacent-le : (at : ℕ) (tokens : List Token) → adjacent at tokens ≤ length tokens
adjacent-le at [] = omega arith
adjacent-le at (token ∷ tokens) =
    elim (is_mark token.kind && (token.start == at)) as (λ b. (if b then suc (adjacent token.end tokens) else 0) ≤ suc (length tokens)) [
      | true ↦ omega (arith, adjacent-le token.end tokens)
      | false ↦ omega arith
    ]

no_token : {token : Token} → ◌≡◌ {A = Option Token} (Some token) None → ⊥
no_token e = cc

same_token : {one other : Token} → Some one ≡ Some other → one ≡ other
same_token {one} {other} e = ap (λ o. unwrap_or o one) e

pub first_fits : (text : List ℕ) (tokens : List Token) (token : Token) → AllStand text tokens → Some token ≡ slice_get tokens 0 → adjacent token.start tokens + token.start ≤ length text
first_fits text [] token stand is = absurd (no_token is)
first_fits text (first ∷ tokens) token stand is =
    let same : token ≡ first = same_token is in
    let within : first.start ≤ length text = omega (arith, stand.0.order, stand.0.within) in
    marks_fit text token.start (first ∷ tokens) stand (subst (λ t. t.start ≤ length text) (sym same) within)

mark_low : (c : ℕ) → mark c ≡ true → c < 128
mark_low c is = grind (arith, nat_tests)

mark_byte : (rest : List ℕ) (n : ℕ) → IsToken Mark (take n rest) → mark (slice_index rest 0) ≡ true
mark_byte rest n token =
    let s = splits Mark rest n token in
    ap mark (byte_from_char rest (encode_utf8_all s.tail ++ s.after) s.head s.is (mark_low s.head s.starts)) ∙ s.starts

pub first_mark : (text : List ℕ) (tokens : List Token) (token : Token) → AllStand text tokens → Some token ≡ slice_get tokens 0 → token.kind ≡ Mark
    → mark (slice_index (drop token.start text) 0) ≡ true
first_mark text [] token stand is kind = absurd (no_token is)
first_mark text (first ∷ tokens) token stand is kind =
    let stands : Stands text token = subst (Stands text) (sym (same_token is)) stand.0 in
    mark_byte (drop token.start text) (token.end - token.start) (subst (λ k. IsToken k (take (token.end - token.start) (drop token.start text))) kind stands.is)

-- ---- the terminal that they make

pub longest_is : (texts : List (List ℕ)) (text rest : List ℕ) (at run most size greatest : ℕ) → rest ≡ drop at text → IsBound texts greatest → mark (slice_index (drop at text) 0) ≡ true → run + at ≤ length text → at ≤ length text
    → most ≡ min run greatest → size ≡ longest texts rest most → size ≡ longest texts (drop at text) run
longest_is texts text rest at run most size greatest back bound begins fits within least is =
    is ∙ ap (λ t. longest texts t most) back ∙ ap (longest texts (drop at text)) least
    ∙ longest_bound texts (drop at text) greatest run bound begins (omega (arith, length-drop at text))

pub no_terminal : (text : List ℕ) (at size whole : ℕ) → size ≡ whole → size ≡ 0 → None ≡ terminal_of text at whole
no_terminal text at size whole is none = ap (terminal_of text at) (sym none ∙ is)

some_terminal : (text : List ℕ) (at size : ℕ) → (size ≡ 0 → ⊥) → Some (terminal at (at + size) (take size (drop at text)), size) ≡ terminal_of text at size
some_terminal text at zero some = absurd (some refl)
some_terminal text at (suc n) some = refl

pub a_terminal : (text rest front : List ℕ) (at size whole : ℕ) (word : Word) → size ≡ whole → (size ≡ 0 → ⊥) → rest ≡ drop at text → front ≡ take size rest
    → word ≡ terminal at (at + size) front → Some (word, size) ≡ terminal_of text at whole
a_terminal text rest front at size whole word is some back first made =
    ap (λ w. Some (w, size)) (made ∙ ap (terminal at (at + size)) (first ∙ ap (take size) back)) ∙ some_terminal text at size some ∙ ap (terminal_of text at) is

-- ---- one word

-- what is known of the first word
pub record IsFirst (text : List ℕ) (tokens : List Token) (word : Word) (size : ℕ) : Type 0 where
  pub some : 0 < size
  pub within : size ≤ length tokens
  pub inside : IsInside text word
  pub program : is_of_program word.kind word.sort ≡ true

abbrev pub taken : Word → ℕ → Option (Word × ℕ)
taken word size = Some (word, size)

pair_word : {one other : Word} {m n : ℕ} → taken one m ≡ taken other n → one ≡ other
pair_word {one} {other} {m} {n} e = ap (λ (o : Option (Word × ℕ)). (unwrap_or o (one, m)).0) e

pair_size : {one other : Word} {m n : ℕ} → taken one m ≡ taken other n → m ≡ n
pair_size {one} {other} {m} {n} e = ap (λ (o : Option (Word × ℕ)). (unwrap_or o (one, m)).1) e

pub no_pair : {word : Word} {n : ℕ} → ◌≡◌ {A = Option (Word × ℕ)} None (Some (word, n)) → ⊥
no_pair e = cc

pub same_word : {one other : Word} {m n : ℕ} → taken one m ≡ taken other n → (one ≡ other) × (m ≡ n)
same_word e = (pair_word e, pair_size e)

pub choose : {X : Type 0} (P : X → Type 0) (b : Bool) (x y : X) → P x → P y → P (if b then x else y)
choose P true x y p q = p
choose P false x y p q = q

-- a word from one token
abbrev FromOne : List ℕ → Token → Word → Type 0
FromOne text token word = (word.start ≡ token.start) × (word.end ≡ token.end) × (is_of_program word.kind word.sort ≡ true)

word_from : (terminals names : List (List ℕ)) (text : List ℕ) (token : Token) (bytes : List ℕ) → FromOne text token (word_of terminals names token bytes)
word_from terminals names text token bytes =
    choose (FromOne text token) (is_among terminals bytes) _ _ (refl, refl, refl)
    (choose (FromOne text token) (same_text bytes (codes "true")) _ _ (refl, refl, refl)
    (choose (FromOne text token) (same_text bytes (codes "false")) _ _ (refl, refl, refl) (refl, refl, refl)))

one_first : (text : List ℕ) (token : Token) (tokens : List Token) (made word : Word) (size : ℕ) → Stands text token → FromOne text token made → taken made 1 ≡ taken word size
    → IsFirst text (token ∷ tokens) word size
one_first text token tokens made word size stands from is =
    let one : 1 ≡ size = pair_size is in
    let same : made ≡ word = pair_word is in
    subst (λ w. IsFirst text (token ∷ tokens) w size) same (record {
      some = omega (arith, one);
      within = omega (arith, one);
      inside = (omega (arith, from.0, from.1, stands.order), omega (arith, from.1, stands.within));
      program = from.2;
    })

marks_first : (text : List ℕ) (at : ℕ) (tokens : List Token) (whole : ℕ) (word : Word) (size : ℕ) → whole ≤ adjacent at tokens → adjacent at tokens + at ≤ length text
    → terminal_of text at whole ≡ Some (word, size) → IsFirst text tokens word size
marks_first text at tokens zero word size less fits is = absurd (no_pair is)
marks_first text at tokens (suc n) word size less fits is =
    let same : suc n ≡ size = pair_size is in
    subst (λ w. IsFirst text tokens w size) (pair_word is) (record {
      some = omega (arith, same);
      within = omega (arith, same, less, adjacent-le at tokens);
      inside = (omega arith, omega (arith, less, fits));
      program = refl;
    })

kind_first : (kind : Kind) (terminals names : List (List ℕ)) (text : List ℕ) (token : Token) (tokens : List Token) (word : Word) (size : ℕ) → AllStand text (token ∷ tokens)
    → read_as kind terminals names text token (token ∷ tokens) ≡ Some (word, size) → IsFirst text (token ∷ tokens) word size
kind_first WordToken terminals names text token tokens word size stand is =
    one_first text token tokens _ word size stand.0 (word_from terminals names text token (bytes_of text token)) is
kind_first Int terminals names text token tokens word size stand is = one_first text token tokens _ word size stand.0 (refl, refl, refl) is
kind_first Str terminals names text token tokens word size stand is = one_first text token tokens _ word size stand.0 (refl, refl, refl) is
kind_first Mark terminals names text token tokens word size stand is =
    let within : token.start ≤ length text = omega (arith, stand.0.order, stand.0.within) in
    marks_first text token.start (token ∷ tokens) _ word size (longest-le terminals (drop token.start text) (adjacent token.start (token ∷ tokens)))
    (marks_fit text token.start (token ∷ tokens) stand within) is

pub first_is : (terminals names : List (List ℕ)) (text : List ℕ) (tokens : List Token) (word : Word) (size : ℕ) → AllStand text tokens
    → first_word terminals names text tokens ≡ Some (word, size) → IsFirst text tokens word size
first_is terminals names text [] word size stand is = absurd (no_pair is)
first_is terminals names text (token ∷ tokens) word size stand is = kind_first token.kind terminals names text token tokens word size stand is

-- ---- all words

pub drop_all : {X : Type 0} (P : X → Type 0) (n : ℕ) (xs : List X) → AllByRecursion P xs → AllByRecursion P (drop n xs)
drop_all P zero xs all = all
drop_all P (suc n) [] all = tt
drop_all P (suc n) (x ∷ xs) all = drop_all P n xs all.1

module _ (terminals names : List (List ℕ)) (text : List ℕ) where
  words_more : (words : List Word) (word : Word) (size : ℕ) (before after : List Token) → AreWords terminals names text words before after
      → first_word terminals names text after ≡ Some (word, size) → AreWords terminals names text (words ++ word ∷ []) before (drop size after)
  words_more [] word size before after is next = (size, ap (first_word terminals names text) is ∙ next, ap (drop size) is)
  words_more (first ∷ words) word size before after is next = (is.0, is.1, words_more words word size (drop is.0 before) after is.2 next)

  pub words_step : (words new : List Word) (word : Word) (size at : ℕ) (tokens : List Token) → AllStand text tokens → AreWords terminals names text words tokens (drop at tokens) → at ≤ length tokens
      → first_word terminals names text (drop at tokens) ≡ Some (word, size) → new ≡ words ++ word ∷ []
      → AreWords terminals names text new tokens (drop (at + size) tokens) × (at + size ≤ length tokens) × (0 < size)
  words_step words new word size at tokens stand are within next is =
      let first = first_is terminals names text (drop at tokens) word size (drop_all (Stands text) at tokens stand) next in
      let more = words_more words word size tokens (drop at tokens) are next in
      let places : drop size (drop at tokens) ≡ drop (at + size) tokens = drop-drop size at tokens in (
        subst (λ ws. AreWords terminals names text ws tokens (drop (at + size) tokens)) (sym is)
            (subst (λ ts. AreWords terminals names text (words ++ word ∷ []) tokens ts) places more),
        omega (arith, first.within, length-drop at tokens, within),
        first.some,
      )

  pub words_are : (words : List Word) (before after : List Token) → AllStand text before → AreWords terminals names text words before after
      → AllByRecursion (IsInside text) words × AreOfProgram words
  words_are [] before after stand are = (tt, tt)
  words_are (word ∷ words) before after stand are =
      let first = first_is terminals names text before word are.0 stand are.1 in
      let rest = words_are words (drop are.0 before) after (drop_all (Stands text) are.0 before stand) are.2 in
      ((first.inside, rest.0), (first.program, rest.1))

  pub at_end : (at : ℕ) (tokens : List Token) → length tokens ≤ at → first_word terminals names text (drop at tokens) ≡ None
  at_end at tokens past = ap (first_word terminals names text) (drop_of_length-le tokens past)
