-- What a list of lexemes begins with.
use Rattle.std.specs.Prelude.{List, [], ◌∷◌}
use Rattle.production_reader.specs.Lexemes.{Lexeme, Sign, Is}

-- the lexeme that stands first is what the sign asks for
abbrev pub Begins : Sign → List Lexeme → Type 0
Begins sign [] = ⊥
Begins sign (lexeme ∷ lexemes) = Is sign lexeme
