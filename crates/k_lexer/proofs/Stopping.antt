-- Where no token begins.
use Rattle.std.proofs.Common.{◌≡◌, ℕ, ◌<◌, true, false, List, [], ◌∷◌, ◌++◌, length, take, drop, sym, ap, subst, ◌∙◌, arith, append_assoc, slice_index}
use Rattle.std.specs.Char.{IsScalar, encode_utf8}
use Rattle.std.specs.Str.{all_scalars, encode_utf8_all, StartsWithNoChar}
use Rattle.std.proofs.lemmas.Bool.{and_parts}
use Rattle.std.proofs.lemmas.Bool.Decides.{nat_tests}
use Rattle.std.proofs.lemmas.List.{take-append-drop}
use Rattle.std.proofs.lemmas.Str.{encode_same, byte_from_char}
use Rattle.k_lexer.specs.declared.token.Kind.{Kind}
use Rattle.k_lexer.specs.declared.token.Kind.TheVariants.{Str}
use Rattle.k_lexer.specs.declared.fault.LexFault.TheVariants.{BadByte, OpenString}
use Rattle.k_lexer.specs.Characters.{starts, goes_on, is_token, is_blank}
use Rattle.k_lexer.specs.Tokens.{IsToken, opens_comment}
use Rattle.k_lexer.specs.Fronts.{IsFirstChar, NoTail}
use Rattle.k_lexer.specs.Lexing.{Stops}
use Rattle.k_lexer.proofs.Chars.{first_is}
use Rattle.k_lexer.proofs.Strings.{byte_first}
use Rattle.k_lexer.proofs.Heads.{one_kind}

-- the first character of a token at the front, and what follows it
pub record Splits (kind : Kind) (rest : List ℕ) : Type 0 where
  pub head : ℕ
  pub tail : List ℕ
  pub after : List ℕ
  pub scalar : IsScalar head
  pub scalars : all_scalars tail ≡ true
  pub is : rest ≡ encode_utf8 head ++ (encode_utf8_all tail ++ after)
  pub starts : starts kind head ≡ true
  pub goes : goes_on kind tail ≡ true

split_at : (kind : Kind) (rest : List ℕ) (n : ℕ) (chars : List ℕ) → all_scalars chars ≡ true → encode_utf8_all chars ≡ take n rest → is_token kind chars ≡ true → Splits kind rest
split_at kind rest n [] scalars spelled token = absurd (cc)
split_at kind rest n (c ∷ cs) scalars spelled token =
    let all = and_parts _ (all_scalars cs) scalars in
    let parts = and_parts (starts kind c) (goes_on kind cs) token in
    record {
      head = c;
      tail = cs;
      after = drop n rest;
      scalar = all.0;
      scalars = all.1;
      is = sym (take-append-drop n rest) ∙ ap (λ t. t ++ drop n rest) (sym spelled) ∙ append_assoc (encode_utf8 c) (encode_utf8_all cs) (drop n rest);
      starts = parts.0;
      goes = parts.1;
    }

pub splits : (kind : Kind) (rest : List ℕ) (n : ℕ) → IsToken kind (take n rest) → Splits kind rest
splits kind rest n token = split_at kind rest n token.chars token.scalars token.spelled token.is

quote_starts : (c : ℕ) → starts Str c ≡ true → c ≡ 34
quote_starts c test = grind (arith, nat_tests)

starts_quote : (c : ℕ) → c ≡ 34 → starts Str c ≡ true
starts_quote c is = grind (arith, nat_tests)

pub stops_at_none : (rest : List ℕ) (at : ℕ) → 0 < length rest → is_blank (slice_index rest 0) ≡ false → opens_comment rest ≡ false → StartsWithNoChar rest → Stops rest (BadByte at)
stops_at_none rest at some blank comment none = (
  some,
  blank,
  comment,
  λ quote. let first = byte_first rest 34 quote (omega arith) (omega arith) in none 34 (drop 1 rest) first.scalar first.is,
  λ kind n token. let s = splits kind rest n token in none s.head (encode_utf8_all s.tail ++ s.after) s.scalar s.is,
)

pub stops_at_other : (rest : List ℕ) (at c size : ℕ) → 0 < length rest → is_blank (slice_index rest 0) ≡ false → opens_comment rest ≡ false → IsFirstChar rest c size
    → ((kind : Kind) → starts kind c ≡ false) → Stops rest (BadByte at)
stops_at_other rest at c size some blank comment first none = (
  some,
  blank,
  comment,
  λ quote.
      let other = byte_first rest 34 quote (omega arith) (omega arith) in
      let same : 34 ≡ c = first_is rest (drop 1 rest) c size 34 first other.is in
      let yes = starts_quote c (sym same) in
      let never = none Str in
      absurd (cc),
  λ kind n token.
      let s = splits kind rest n token in
      let same : s.head ≡ c = first_is rest (encode_utf8_all s.tail ++ s.after) c size s.head first s.is in
      let yes : starts kind c ≡ true = subst (λ x. starts kind x ≡ true) same s.starts in
      let never = none kind in
      absurd (cc),
)

pub stops_at_string : (rest : List ℕ) (at c size : ℕ) (kind : Kind) → IsFirstChar rest c size → starts kind c ≡ true → NoTail kind (drop size rest) → kind ≡ Str
    → Stops rest (OpenString at)
stops_at_string rest at c size kind first begins none is =
    let quote : c ≡ 34 = quote_starts c (subst (λ k. starts k c ≡ true) is begins) in (
      byte_from_char rest (drop size rest) c first.is (omega arith) ∙ quote,
      λ other n token.
          let s = splits other rest n token in
          let both = encode_same s.head c (encode_utf8_all s.tail ++ s.after) (drop size rest) (sym s.is ∙ first.is) in
          let same : other ≡ kind = one_kind c other kind (subst (λ x. starts other x ≡ true) both.0 s.starts) begins in
          none s.tail s.after s.scalars (subst (λ k. goes_on k s.tail ≡ true) same s.goes) (sym both.1),
    )
