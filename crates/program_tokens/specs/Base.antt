-- The base tokens of a text before its fault, and the names with their words.
use Rattle.std.specs.Prelude.{◌≡◌, ℕ, List, [], ◌∷◌, ◌++◌, true, Option, Some, None, is_some}
use Rattle.std.specs.List.{AllByRecursion}
use Rattle.k_terms.specs.Names.{number_of, with_word}
use Rattle.k_lexer.specs.declared.token.Kind.TheVariants.{Word, Int, Str, Mark}
use Rattle.k_lexer.specs.declared.token.Token.{Token}
use Rattle.k_lexer.specs.declared.fault.LexFault.{LexFault}
use Rattle.k_lexer.specs.Lexing.{AreTokens, IsFault, place}
use Rattle.k_lexer.specs.Before.{AreBefore}
use Rattle.production_reader.specs.Lexemes.{span}

-- the bytes of a token
abbrev pub bytes_of : List ℕ → Token → List ℕ
bytes_of text token = span text token.start token.end

-- The base tokens of a text: all where it has no fault, else those before the fault; and the fault's place.
abbrev pub IsBase : List ℕ → List Token → Option ℕ → Type 0
IsBase text tokens None = AreTokens text tokens
IsBase text tokens (Some at) = (fault : LexFault) × IsFault text fault × (place fault ≡ at) × AreBefore text at tokens

-- the names with a token, where it is a word
abbrev pub with_token : List ℕ → List (List ℕ) → Token → List (List ℕ)
with_token text names token = elim token.kind [ Word ↦ with_word names (bytes_of text token) | Int ↦ names | Str ↦ names | Mark ↦ names ]

-- the names with the words among tokens, in their order
abbrev pub with_tokens : List ℕ → List (List ℕ) → List Token → List (List ℕ)
with_tokens text names [] = names
with_tokens text names (token ∷ tokens) = with_tokens text (with_token text names token) tokens

-- names go on from other names
abbrev pub GoesOn : List (List ℕ) → List (List ℕ) → Type 0
GoesOn before after = (more : List (List ℕ)) × (after ≡ before ++ more)

-- a token that is a word has a number
abbrev pub IsNumbered : List ℕ → List (List ℕ) → Token → Type 0
IsNumbered text names token = elim token.kind [ Word ↦ is_some (number_of names (bytes_of text token)) ≡ true | Int ↦ Unit {0} | Str ↦ Unit {0} | Mark ↦ Unit {0} ]

abbrev pub AllNumbered : List ℕ → List (List ℕ) → List Token → Type 0
AllNumbered text names tokens = AllByRecursion (IsNumbered text names) tokens
