-- What the reader of sentences gives.
use Rattle.std.specs.Prelude.{◌≡◌, ℕ, ◌+◌, true, List, [], ◌∷◌, ◌++◌, length}
use Rattle.k_lexer.specs.declared.token.Token.{Token}
use Rattle.production_reader.specs.Lexemes.{Lexeme, Reads}
use Rattle.production_reader.specs.Allowed.{EndsSentence, is_among}
use Rattle.production_reader.specs.Meaning.{groups_of}
use Rattle.production_reader.specs.Reading.{IsRead, StopsAt}
use Rattle.production_reader.specs.declared.stop.Stop.{Stop}
use Rattle.production_reader.specs.declared.stop.Stop.TheVariants as part
use Rattle.file_reader.specs.Written.{Sentence, Module, signs_of_sentence, signs_of_body, signs_of_header, signs_of_modules, text_of_name}
use Rattle.file_reader.specs.Written.Sentence.{Imports, Syntax, Config, Rule}
use Rattle.file_reader.specs.Files.{Context, had, after, after_all, IsSentence, AreSentences, IsFile, IsName, IsEnd, EndsName, AreModules, AreOfFile, names_of, are_different}
use Rattle.file_reader.specs.Meaning.{start_of, counted, imports_of, sentences_of, imports_by_module, sentences_by_module}
use Rattle.file_reader.specs.declared.sentence.Sentence as code
use Rattle.file_reader.specs.declared.sentence.Sentence.TheVariants as sentence
use Rattle.file_reader.specs.declared.file.FileModules.{FileModules}
use Rattle.file_reader.specs.declared.file.FileStop.{FileStop}
use Rattle.file_reader.specs.declared.file.FileStop.TheVariants.{Expected, TwoModules, Memory}
use Rattle.file_reader.specs.declared.read.Read.{Read}
use Rattle.file_reader.specs.declared.read.Read.TheVariants as read

-- anything may follow
abbrev pub Anything : List Lexeme → Type 0
Anything lexemes = Unit {0}

-- each sort has the same in both
abbrev pub SameHad : Context → Context → Type 0
SameHad one other = (sort : List ℕ) → had one sort ≡ had other sort

-- what a sentence is whose first token has this number
abbrev pub read_of : List Token → ℕ → Sentence → Read
read_of tokens at (Imports name) = read.Import (text_of_name name)
read_of tokens at (Syntax sort groups) = read.Other (sentence.Syntax sort (groups_of groups))
read_of tokens at (Config text) = read.Other (sentence.Config (at + 1) (at + 1 + length text))
read_of tokens at (Rule text) = read.Other (sentence.Rule (start_of tokens at) (at + 1) (at + 1 + counted text))

-- a sentence is read, and the sorts have what they have after it
pub record IsSentenceRead (tokens : List Token) (all : List Lexeme) (from : ℕ) (old new : Context) (value : Read) (to : ℕ) : Type 0 where
  pub written : Sentence
  pub is : IsRead (IsSentence old) signs_of_sentence EndsSentence all from written to
  pub means : value ≡ read_of tokens from written
  pub same : SameHad new (after old written)

-- After whole modules of different names comes one that has the name of one of them.
pub record IsTwice (all : List Lexeme) (name : List ℕ) : Type 0 where
  pub before : List Module
  pub words : List (List ℕ)
  pub rest : List Lexeme
  pub allowed : AreModules [] before
  pub named : IsName words
  pub reads : Reads (signs_of_modules before ++ signs_of_header words) all rest
  pub ends : EndsName rest
  pub different : are_different (names_of before) ≡ true
  pub twice : is_among (names_of before) (text_of_name words) ≡ true
  pub is : name ≡ text_of_name words

-- the file that was read: its modules, which have different names, and no other modules are this file
pub record IsFileRead (tokens : List Token) (all : List Lexeme) (value : FileModules) : Type 0 where
  pub modules : List Module
  pub file : IsFile all modules
  pub different : are_different (names_of modules) ≡ true
  pub names : value.names ≡ names_of modules
  pub imports : value.imports ≡ imports_by_module modules
  pub sentences : value.sentences ≡ sentences_by_module tokens 0 modules
  pub only : (others : List Module) → IsFile all others → others ≡ modules
  pub once : (name : List ℕ) → IsTwice all name → ⊥

-- no file can go on with this token, and no module before it has the name of another
pub record IsStopped (all : List Lexeme) (at : ℕ) : Type 0 where
  pub stops : StopsAt AreOfFile signs_of_modules IsEnd all 0 at
  pub once : (name : List ℕ) → IsTwice all name → ⊥

-- a module has the name of one before it, this is the first such, and no file of modules of different names is this one
pub record IsFirstTwice (all : List Lexeme) (name : List ℕ) : Type 0 where
  pub twice : IsTwice all name
  pub only : (other : List ℕ) → IsTwice all other → other ≡ name
  pub alone : (modules : List Module) → IsFile all modules → are_different (names_of modules) ≡ true → ⊥

-- why no file was read
abbrev pub IsFileStop : List Lexeme → FileStop → Type 0
IsFileStop all (Expected at) = IsStopped all at
IsFileStop all (TwoModules name) = IsFirstTwice all name
IsFileStop all Memory = Unit {0}

-- the name that is imported, if one is
abbrev pub import_in : Read → List (List ℕ)
import_in (read.Import name) = name ∷ []
import_in (read.Other one) = []

-- the sentence that is no import, if it is one
abbrev pub sentence_in : Read → List code.Sentence
sentence_in (read.Import name) = []
sentence_in (read.Other one) = one ∷ []

-- the sentences of a module and the word that ends it are read, and the sorts have what they have after them
pub record IsBodyRead (tokens : List Token) (all : List Lexeme) (from : ℕ) (old new : Context) (imports : List (List ℕ)) (sentences : List code.Sentence) (to : ℕ) : Type 0 where
  pub written : List Sentence
  pub is : IsRead (AreSentences old) signs_of_body Anything all from written to
  pub imports_are : imports ≡ imports_of written
  pub sentences_are : sentences ≡ sentences_of tokens from written
  pub same : SameHad new (after_all old written)

-- the stop of a file's reader that comes from one of a part
abbrev pub file_stop : Stop → FileStop
file_stop (part.Expected at) = Expected at
file_stop part.Memory = Memory
