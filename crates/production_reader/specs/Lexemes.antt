-- The tokens of a text as lexemes, and the signs that a grammar asks for.
use Rattle.std.specs.Prelude.{◌≡◌, ℕ, ◌+◌, ◌-◌, ◌==◌, Bool, true, false, List, [], ◌∷◌, take, drop}
use Rattle.k_lexer.specs.declared.token.Kind.{Kind}
use Rattle.k_lexer.specs.declared.token.Kind.TheVariants.{Word, Int, Str, Mark}
use Rattle.k_lexer.specs.declared.token.Token.{Token}

-- a token with its bytes, and whether it begins where the one before it ends
pub record Lexeme : Type 0 where
  pub kind : Kind
  pub bytes : List ℕ
  pub joined : Bool

-- the bytes of a text from one place up to another
abbrev pub span : List ℕ → ℕ → ℕ → List ℕ
span text start end = take (end - start) (drop start text)

-- the lexeme of a token that comes after this place
abbrev pub lexeme_of : List ℕ → ℕ → Token → Lexeme
lexeme_of text last token = record { kind = token.kind; bytes = span text token.start token.end; joined = token.start == last }

-- the lexemes of tokens that come after this place
abbrev pub lexemes_after : List ℕ → ℕ → List Token → List Lexeme
lexemes_after text last [] = []
lexemes_after text last (token ∷ tokens) = lexeme_of text last token ∷ lexemes_after text token.end tokens

abbrev pub lexemes : List ℕ → List Token → List Lexeme
lexemes text tokens = lexemes_after text 0 tokens

-- What a grammar asks for at a place: a kind, the bytes, and whether nothing may stand before them.
pub record Sign : Type 0 where
  pub kind : Kind
  pub bytes : List ℕ
  pub joined : Bool

abbrev pub word : List ℕ → Sign
word bytes = record { kind = Word; bytes = bytes; joined = false }

abbrev pub mark : ℕ → Sign
mark byte = record { kind = Mark; bytes = byte ∷ []; joined = false }

abbrev pub digits : List ℕ → Sign
digits bytes = record { kind = Int; bytes = bytes; joined = false }

abbrev pub quoted : List ℕ → Sign
quoted bytes = record { kind = Str; bytes = bytes; joined = false }

abbrev pub joined_word : List ℕ → Sign
joined_word bytes = record { kind = Word; bytes = bytes; joined = true }

abbrev pub joined_mark : ℕ → Sign
joined_mark byte = record { kind = Mark; bytes = byte ∷ []; joined = true }

-- the lexeme is what the sign asks for
abbrev pub Is : Sign → Lexeme → Type 0
Is sign lexeme = (sign.kind ≡ lexeme.kind) × (sign.bytes ≡ lexeme.bytes) × (sign.joined ≡ true → lexeme.joined ≡ true)

-- The signs are read at the front of a list of lexemes, and leave the rest of it.
abbrev pub Reads : List Sign → List Lexeme → List Lexeme → Type 0
Reads [] before after = before ≡ after
Reads (sign ∷ signs) [] after = ⊥
Reads (sign ∷ signs) (lexeme ∷ lexemes) after = Is sign lexeme × Reads signs lexemes after

-- two lists are alike up to this place, and with the lexeme that stands there or their end
abbrev pub AreAlike : ℕ → List Lexeme → List Lexeme → Type 0
AreAlike at one other = take (at + 1) one ≡ take (at + 1) other
