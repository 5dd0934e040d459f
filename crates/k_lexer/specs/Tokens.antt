-- What stands at the front of a text: blanks, comments and tokens.
use Rattle.std.specs.Prelude.{◌≡◌, ℕ, ◌+◌, ◌<◌, ◌≤◌, Bool, true, ◌&&◌, ◌||◌, ◌==◌, List, take, drop, length, slice_index, Option, Some, None, codes, unwrap_or, ◌⊎◌}
use Rattle.std.specs.Str.{all_scalars, encode_utf8_all}
use Rattle.memchr.specs.Find.{IsFirstByte, is_byte, FindsNeedle}
use Rattle.k_lexer.specs.declared.token.Kind.{Kind}
use Rattle.k_lexer.specs.Characters.{is_token}

-- the bytes are a token of this kind, in UTF-8
pub record IsToken (kind : Kind) (bytes : List ℕ) : Type 0 where
  pub chars : List ℕ
  pub scalars : all_scalars chars ≡ true
  pub spelled : encode_utf8_all chars ≡ bytes
  pub is : is_token kind chars ≡ true

-- the first n bytes are a token of this kind, and no longer front is a token of any kind
pub record IsLongest (kind : Kind) (rest : List ℕ) (n : ℕ) : Type 0 where
  pub within : n ≤ length rest
  pub token : IsToken kind (take n rest)
  pub longest : (other : Kind) (m : ℕ) → n < m → m ≤ length rest → IsToken other (take m rest) → ⊥

-- no front of the text is a token
abbrev pub BeginsNoToken : List ℕ → Type 0
BeginsNoToken rest = (kind : Kind) (n : ℕ) → IsToken kind (take n rest) → ⊥

-- a `/` stands first, and this byte second
abbrev pub opens : ℕ → List ℕ → Bool
opens second rest = slice_index rest 0 == 47 && slice_index rest 1 == second

-- `//` stands first
abbrev pub opens_line : List ℕ → Bool
opens_line rest = opens 47 rest

-- `/*` stands first
abbrev pub opens_block : List ℕ → Bool
opens_block rest = opens 42 rest

-- a comment begins here
abbrev pub opens_comment : List ℕ → Bool
opens_comment rest = opens_line rest || opens_block rest

-- the first n bytes are a comment up to a line feed, which is not in it, or up to the end
abbrev pub IsLineComment : List ℕ → ℕ → Type 0
IsLineComment rest n = (opens_line rest ≡ true) × ((feed : Option ℕ) × IsFirstByte (is_byte 10) rest feed × (n ≡ unwrap_or feed (length rest)))

-- the first n bytes are `/*`, what follows up to the next `*/`, and that
abbrev pub IsBlockComment : List ℕ → ℕ → Type 0
IsBlockComment rest n = (opens_block rest ≡ true) × ((body : ℕ) × FindsNeedle (drop 2 rest) (codes "*/") 0 (Some body) × (n ≡ body + 4))

-- after `/*` no `*/` follows
abbrev pub IsOpenComment : List ℕ → Type 0
IsOpenComment rest = (opens_block rest ≡ true) × FindsNeedle (drop 2 rest) (codes "*/") 0 None

abbrev pub IsComment : List ℕ → ℕ → Type 0
IsComment rest n = IsLineComment rest n ⊎ IsBlockComment rest n
