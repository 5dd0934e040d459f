-- What was read of a file up to a place.
use Rattle.std.specs.Prelude.{◌≡◌, ℕ, ◌≤◌, ◌⊎◌, true, List, [], ◌∷◌, ◌++◌, length, drop}
use Rattle.k_lexer.specs.declared.token.Token.{Token}
use Rattle.production_reader.specs.Lexemes.{Lexeme, Reads, AreAlike}
use Rattle.production_reader.specs.Reading.{IsRead}
use Rattle.file_reader.specs.Written.{Module, signs_of_header, signs_of_modules}
use Rattle.file_reader.specs.Files.{Context, IsName, EndsName, after_all, AreModules, names_of, are_different}
use Rattle.file_reader.specs.Meaning.{imports_by_module, sentences_by_module}
use Rattle.file_reader.specs.Reads.{SameHad}
use Rattle.file_reader.specs.declared.file.FileModules.{FileModules}

-- what the sorts have after modules
abbrev pub after_modules : Context → List Module → Context
after_modules context [] = context
after_modules context (one ∷ modules) = after_modules (after_all context one.sentences) modules

-- The modules ys are a front of those that were read up to a place, and where they end the header of the next one stands.
pub record IsFront (all other : List Lexeme) (at : ℕ) (xs ys : List Module) (after : List Lexeme) : Type 0 where
  pub one : Module
  pub rest : List Module
  pub is : xs ≡ ys ++ one ∷ rest
  pub place : ℕ
  pub past : ℕ
  pub header : IsRead IsName signs_of_header EndsName all place one.name past
  pub within : past ≤ at
  pub after_is : after ≡ drop place other

-- the modules ys go on from those that were read
pub record IsFurther (other : List Lexeme) (at : ℕ) (xs ys : List Module) (after : List Lexeme) : Type 0 where
  pub more : List Module
  pub is : ys ≡ xs ++ more
  pub reads : Reads (signs_of_modules more) (drop at other) after

-- The modules of a file up to a place, with what they say; modules that are written in a list alike are a front of them, or
-- go on from them.
pub record IsReading (tokens : List Token) (all : List Lexeme) (seen : List (List ℕ)) (now : Context) (found : FileModules) (at : ℕ) : Type 0 where
  pub modules : List Module
  pub within : at ≤ length all
  pub allowed : AreModules [] modules
  pub reads : Reads (signs_of_modules modules) all (drop at all)
  pub only : (other : List Lexeme) (ys : List Module) (after : List Lexeme) → AreAlike at other all → AreModules [] ys → Reads (signs_of_modules ys) other after
      → IsFront all other at modules ys after ⊎ IsFurther other at modules ys after
  pub different : are_different (names_of modules) ≡ true
  pub seen_are : seen ≡ names_of modules
  pub same : SameHad now (after_modules [] modules)
  pub names : found.names ≡ names_of modules
  pub imports : found.imports ≡ imports_by_module modules
  pub sentences : found.sentences ≡ sentences_by_module tokens 0 modules
