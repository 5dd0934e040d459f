-- The bound of terminals that are no words.
use Rattle.std.specs.Prelude.{◌≡◌, ◌≤◌, ℕ, List, length, true}
use Rattle.k_lexer.specs.declared.token.Kind.TheVariants.{Word}
use Rattle.k_lexer.specs.Tokens.{IsToken}
use Rattle.production_reader.specs.Allowed.{is_among}

-- the text is a word, or has no more bytes than this
abbrev pub IsBoundBy : ℕ → List ℕ → Type 0
IsBoundBy most text = (IsToken Word text → ⊥) → length text ≤ most

abbrev pub AreBoundBy : ℕ → List (List ℕ) → Type 0
AreBoundBy most texts = (text : List ℕ) → is_among texts text ≡ true → IsBoundBy most text
