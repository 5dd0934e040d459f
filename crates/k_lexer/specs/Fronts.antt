-- What the scanners of one token say of the front that they found.
use Rattle.std.specs.Prelude.{◌≡◌, ℕ, ◌+◌, ◌<◌, ◌≤◌, true, false, List, [], ◌∷◌, ◌++◌, length, take, drop, slice_index, Option, Some, None, ◌⊎◌}
use Rattle.std.specs.Char.{IsScalar, encode_utf8}
use Rattle.std.specs.Str.{all_scalars, encode_utf8_all}
use Rattle.k_lexer.specs.declared.token.Kind.{Kind}
use Rattle.k_lexer.specs.declared.token.Token.{Token}
use Rattle.k_lexer.specs.Characters.{is_blank, goes_on, ends_string}
use Rattle.k_lexer.specs.Tokens.{IsLongest, IsComment, opens_comment}

-- the character c stands first, in this many bytes
pub record IsFirstChar (rest : List ℕ) (c size : ℕ) : Type 0 where
  pub scalar : IsScalar c
  pub is : rest ≡ encode_utf8 c ++ drop size rest
  pub width : length (encode_utf8 c) ≡ size
  pub some : 0 < size
  pub within : size ≤ length rest

-- these characters stand in the first n bytes
pub record Begins (rest chars : List ℕ) (n : ℕ) : Type 0 where
  pub within : n ≤ length rest
  pub scalars : all_scalars chars ≡ true
  pub spelled : encode_utf8_all chars ≡ take n rest

-- the first n bytes go on with a token of this kind, and with the next character it is none any more
pub record IsTail (kind : Kind) (rest : List ℕ) (n : ℕ) : Type 0 where
  pub chars : List ℕ
  pub begins : Begins rest chars n
  pub goes : goes_on kind chars ≡ true
  pub ends : (c : ℕ) (more after : List ℕ) → IsScalar c → goes_on kind (chars ++ c ∷ more) ≡ true → drop n rest ≡ encode_utf8 c ++ after → ⊥

-- no front goes on with a token of this kind
abbrev pub NoTail : Kind → List ℕ → Type 0
NoTail kind rest = (chars after : List ℕ) → all_scalars chars ≡ true → goes_on kind chars ≡ true → rest ≡ encode_utf8_all chars ++ after → ⊥

-- the first n bytes are a part of a string: whether it ends well depends on what follows them
pub record IsPart (rest : List ℕ) (n : ℕ) : Type 0 where
  pub chars : List ℕ
  pub begins : Begins rest chars n
  pub keeps : (more : List ℕ) → ends_string (chars ++ more) ≡ ends_string more

-- no part of a string stands first: if a string goes on here, it ends with the first byte
abbrev pub NoPart : List ℕ → Type 0
NoPart rest = (chars after : List ℕ) → all_scalars chars ≡ true → ends_string chars ≡ true → rest ≡ encode_utf8_all chars ++ after → slice_index rest 0 ≡ 34

-- what is taken from the front: the longest token of a kind, or a blank or a comment
abbrev pub IsTaken : List ℕ → Option Kind → ℕ → Type 0
IsTaken rest (Some kind) n = (opens_comment rest ≡ false) × IsLongest kind rest n
IsTaken rest None n = ((is_blank (slice_index rest 0) ≡ true) × (n ≡ 1)) ⊎ IsComment rest n

-- the tokens that this makes at a place: one, or none
abbrev pub made : Option Kind → ℕ → ℕ → List Token
made (Some kind) at n = record { kind = kind; start = at; end = at + n } ∷ []
made None at n = []
