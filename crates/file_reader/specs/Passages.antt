-- The tokens of a text, up to a word that ends it.
use Rattle.std.specs.Prelude.{◌≡◌, ℕ, ◌-◌, ◌<◌, ◌≤◌, Bool, true, false, List, [], ◌∷◌, length, map, take, drop}
use Rattle.production_reader.specs.Lexemes.{Lexeme, Sign}
use Rattle.production_reader.specs.Allowed.{same_text, is_word_among}
use Rattle.file_reader.specs.Files.{ending_words}

-- the sign of a lexeme that may stand anywhere
abbrev pub plain_sign : Lexeme → Sign
plain_sign lexeme = record { kind = lexeme.kind; bytes = lexeme.bytes; joined = false }

abbrev pub signs_between : List Lexeme → ℕ → ℕ → List Sign
signs_between all from to = map plain_sign (take (to - from) (drop from all))

-- a word that ends a text stands first
abbrev pub ends_here : List Lexeme → Bool
ends_here [] = false
ends_here (lexeme ∷ lexemes) = is_word_among ending_words lexeme

-- these bytes stand first
abbrev pub stands_here : List ℕ → List Lexeme → Bool
stands_here bytes [] = false
stands_here bytes (lexeme ∷ lexemes) = same_text lexeme.bytes bytes

-- none of so many lexemes ends a text
abbrev pub IsFree : ℕ → List Lexeme → Type 0
IsFree n lexemes = (k : ℕ) → k < n → ends_here (drop k lexemes) ≡ false

-- from one place up to another nothing ends a text, and there something does, or the end stands there
pub record IsPassage (all : List Lexeme) (from to : ℕ) : Type 0 where
  pub order : from ≤ to
  pub within : to ≤ length all
  pub free : IsFree (to - from) (drop from all)
  pub ends : to < length all → ends_here (drop to all) ≡ true
