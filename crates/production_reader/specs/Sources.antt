-- What the code sees of a list of lexemes.
use Rattle.std.specs.Prelude.{ℕ, ◌≤◌, zero, suc, List, [], ◌∷◌, length}
use Rattle.std.specs.List.{AllByRecursion}
use Rattle.k_lexer.specs.declared.token.Token.{Token}
use Rattle.production_reader.specs.Lexemes.{Lexeme}
use Rattle.production_reader.specs.declared.source.Lexeme as code

-- each token is a span of the text
abbrev pub AreWithin : List ℕ → List Token → Type 0
AreWithin text tokens = AllByRecursion (λ token. (token.start ≤ token.end) × (token.end ≤ length text)) tokens

-- what the code has of a lexeme
abbrev pub piece_of : code.Lexeme → Lexeme
piece_of lexeme = record { kind = lexeme.kind; bytes = lexeme.bytes.now; joined = lexeme.joined }

-- where the token before this one ends, the first of which comes after a place
abbrev pub last_end : ℕ → List Token → ℕ → ℕ
last_end last tokens zero = last
last_end last [] (suc at) = 0
last_end last (token ∷ tokens) (suc at) = last_end token.end tokens at
