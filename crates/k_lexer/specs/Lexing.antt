-- The tokens of a text, and the fault of a text that has none.
use Rattle.std.specs.Prelude.{◌≡◌, ℕ, ◌+◌, ◌<◌, ◌≤◌, true, false, List, [], ◌∷◌, ◌++◌, length, drop, slice_index, ◌⊎◌}
use Rattle.std.specs.Str.{IsUtf8, IsValidUpTo}
use Rattle.k_lexer.specs.declared.token.Kind.{Kind}
use Rattle.k_lexer.specs.declared.token.Token.{Token}
use Rattle.k_lexer.specs.declared.fault.LexFault.{LexFault}
use Rattle.k_lexer.specs.declared.fault.LexFault.TheVariants.{BadByte, OpenString, OpenComment, Memory}
use Rattle.k_lexer.specs.Characters.{is_blank}
use Rattle.k_lexer.specs.Tokens.{IsLongest, BeginsNoToken, IsComment, IsOpenComment, opens_comment}

abbrev pub token_at : Kind → ℕ → ℕ → Token
token_at kind start end = record { kind = kind; start = start; end = end }

-- From the first byte of the text, blanks, comments and longest tokens lead to a place, with these tokens.
pub data Reaches (text : List ℕ) : List Token → ℕ → Type 0 where
  start : Reaches text [] 0
  blank : (tokens : List Token) (at : ℕ) → Reaches text tokens at → is_blank (slice_index text at) ≡ true → Reaches text tokens (at + 1)
  comment : (tokens : List Token) (at n : ℕ) → Reaches text tokens at → IsComment (drop at text) n → Reaches text tokens (at + n)
  token : (tokens : List Token) (at n : ℕ) (kind : Kind) → Reaches text tokens at → opens_comment (drop at text) ≡ false → IsLongest kind (drop at text) n
      → Reaches text (tokens ++ token_at kind at (at + n) ∷ []) (at + n)

-- the text is UTF-8, and these are its tokens
pub record AreTokens (text : List ℕ) (tokens : List Token) : Type 0 where
  pub utf8 : IsUtf8 text
  pub whole : Reaches text tokens (length text)

-- the place of a fault
abbrev pub place : LexFault → ℕ
place (BadByte at) = at
place (OpenString at) = at
place (OpenComment at) = at
place Memory = 0

-- Why nothing can be taken from the front of a text: a quote stands there and no string, a comment begins there and has
-- no end, or a byte stands there with which nothing begins.
abbrev pub Stops : List ℕ → LexFault → Type 0
Stops rest (OpenString _) = (slice_index rest 0 ≡ 34) × BeginsNoToken rest
Stops rest (OpenComment _) = IsOpenComment rest
Stops rest (BadByte _) =
    (0 < length rest) × (is_blank (slice_index rest 0) ≡ false) × (opens_comment rest ≡ false) × (slice_index rest 0 ≡ 34 → ⊥) × BeginsNoToken rest
Stops rest Memory = ⊥

-- a place is reached, and there nothing can be taken
pub record IsStop (text : List ℕ) (fault : LexFault) : Type 0 where
  pub tokens : List Token
  pub reached : Reaches text tokens (place fault)
  pub stops : Stops (drop (place fault) text) fault

-- the text is no UTF-8 from this place on
abbrev pub IsBadSequence : List ℕ → LexFault → Type 0
IsBadSequence text fault = IsValidUpTo text (place fault) × (fault ≡ BadByte (place fault))

-- what may be said to be wrong with the text
abbrev pub IsAnyFault : List ℕ → LexFault → Type 0
IsAnyFault text fault = IsStop text fault ⊎ IsBadSequence text fault

-- the fault of the text: of those that it has, the one with the least place
pub record IsFault (text : List ℕ) (fault : LexFault) : Type 0 where
  pub is : IsAnyFault text fault
  pub least : (other : LexFault) → IsAnyFault text other → place fault ≤ place other
