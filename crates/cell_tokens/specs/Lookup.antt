-- The bound of terminals that are no words, and base tokens that are whole.
use Rattle.std.specs.Prelude.{◌≡◌, ◌≤◌, ℕ, ◌-◌, List, length, drop, true}
use Rattle.std.specs.List.{AllByRecursion}
use Rattle.k_lexer.specs.declared.token.Kind.TheVariants.{Word}
use Rattle.k_lexer.specs.declared.token.Token.{Token}
use Rattle.k_lexer.specs.Tokens.{IsToken, IsLongest}
use Rattle.production_reader.specs.Allowed.{is_among}

-- the text is a word, or has no more bytes than this
abbrev pub IsBoundBy : ℕ → List ℕ → Type 0
IsBoundBy most text = (IsToken Word text → ⊥) → length text ≤ most

abbrev pub AreBoundBy : ℕ → List (List ℕ) → Type 0
AreBoundBy most texts = (text : List ℕ) → is_among texts text ≡ true → IsBoundBy most text

-- no longer base token stands at the place of this one
abbrev pub IsWhole : List ℕ → Token → Type 0
IsWhole text token = IsLongest token.kind (drop token.start text) (token.end - token.start)

abbrev pub AllWhole : List ℕ → List Token → Type 0
AllWhole text tokens = AllByRecursion (IsWhole text) tokens
