-- The laws of the modules of a text.
use Rattle.std.specs.Prelude.{◌≡◌, ℕ, List}
use Rattle.k_lexer.specs.declared.token.Token.{Token}
use Rattle.file_reader.specs.declared.sentence.Sentence.{Sentence}
use Rattle.module_reader.specs.Modules.{Imported, IsOrdered, IsModules, AreClosureOf}
use Rattle.module_reader.specs.Faults.{IsExpected}

-- at one place alone no file can go on
abbrev pub HasOnePlace : Type 0
HasOnePlace = (text : List ℕ) (tokens : List Token) (one other : ℕ) → IsExpected text tokens one → IsExpected text tokens other → one ≡ other

-- no text has modules and a place where no file can go on
abbrev pub HasNotBoth : Type 0
HasNotBoth = (text : List ℕ) (tokens : List Token) (modules : Imported) (at : ℕ) → IsModules text tokens modules → IsExpected text tokens at → ⊥

-- the modules of a text are one or more, and import one another without a cycle
abbrev pub AreInOrder : Type 0
AreInOrder = (text : List ℕ) (tokens : List Token) (modules : Imported) → IsModules text tokens modules → IsOrdered modules

-- modules have one list of sentences
abbrev pub HaveOneList : Type 0
HaveOneList = (modules : Imported) (one other : List Sentence) → AreClosureOf modules one → AreClosureOf modules other → one ≡ other
