-- The definition that a text is, before its configuration and its rules are read, and why it is none.
use Rattle.std.specs.Prelude.{◌≡◌, ℕ, List, []}
use Rattle.k_lexer.specs.declared.token.Token.{Token}
use Rattle.k_lexer.specs.Lexing.{AreTokens, IsFault as IsLexFault}
use Rattle.k_lexer.specs.declared.fault.LexFault.{LexFault}
use Rattle.k_lexer.specs.declared.fault.LexFault.TheVariants.{Memory as NoTokens}
use Rattle.module_reader.specs.declared.fault.ModuleFault.{ModuleFault}
use Rattle.module_reader.specs.declared.fault.ModuleFault.TheVariants.{Memory as NoModules}
use Rattle.sorted_grammar.specs.declared.fault.SortFault.{SortFault}
use Rattle.sorted_grammar.specs.declared.fault.SortFault.TheVariants.{Memory as NoSorts}
use Rattle.file_reader.specs.declared.sentence.Sentence.{Sentence}
use Rattle.module_reader.specs.Modules.{Imported, IsModules, AreClosureOf}
use Rattle.module_reader.specs.Faults.{IsFault as IsModuleFault}
use Rattle.sorted_grammar.specs.Sorting.{IsGrammar, IsFault as IsSortFault}
use Rattle.program_tokens.specs.Base.{with_tokens}
use Rattle.definition_syntax.specs.declared.syntax.Definition.{Definition}
use Rattle.definition_syntax.specs.declared.fault.SyntaxFault.{SyntaxFault}
use Rattle.definition_syntax.specs.declared.fault.SyntaxFault.TheVariants.{Lex, Module, Sort, Memory}

-- the sentences of a definition: those of the import closure of the last module
pub record AreSentences (text : List ℕ) (tokens : List Token) (sentences : List Sentence) : Type 0 where
  pub lexed : AreTokens text tokens
  pub modules : Imported
  pub are_modules : IsModules text tokens modules
  pub closure : AreClosureOf modules sentences

-- A definition: the tokens of its text, its sentences, their grammar, and its words in the order of the text.
pub record IsDefinition (text : List ℕ) (definition : Definition) : Type 0 where
  pub are : AreSentences text definition.tokens definition.sentences
  pub grammar : IsGrammar definition.sentences definition.grammar
  pub words : definition.names ≡ with_tokens text [] definition.tokens

-- Why a text is none: it has no tokens; or these are no modules that can be put together; or the sentences have no grammar.
abbrev pub IsSyntaxFault : List ℕ → SyntaxFault → Type 0
IsSyntaxFault text (Lex fault) = IsLexFault text fault
IsSyntaxFault text (Module fault) = (tokens : List Token) × AreTokens text tokens × IsModuleFault text tokens fault
IsSyntaxFault text (Sort fault) = (tokens : List Token) × (sentences : List Sentence) × AreSentences text tokens sentences × IsSortFault sentences fault
IsSyntaxFault text Memory = ⊥

-- a fault of the grammar
abbrev pub IsLate : SyntaxFault → Type 0
IsLate (Lex fault) = ⊥
IsLate (Module fault) = ⊥
IsLate (Sort fault) = Unit {0}
IsLate Memory = ⊥

-- these are the sentences, there are no others, and nothing is wrong with the tokens and modules
pub record AreOnlySentences (text : List ℕ) (tokens : List Token) (sentences : List Sentence) : Type 0 where
  pub are : AreSentences text tokens sentences
  pub only : (others : List Token) (more : List Sentence) → AreSentences text others more → (others ≡ tokens) × (more ≡ sentences)
  pub no_fault : (fault : SyntaxFault) → IsSyntaxFault text fault → IsLate fault

-- this is the fault, and there is no other and no definition
pub record IsOnlyFault (text : List ℕ) (fault : SyntaxFault) : Type 0 where
  pub is : IsSyntaxFault text fault
  pub only : (other : SyntaxFault) → IsSyntaxFault text other → other ≡ fault
  pub none : (definition : Definition) → IsDefinition text definition → ⊥

-- this is what the text defines, and there is no other and no fault
pub record IsOnlyDefinition (text : List ℕ) (definition : Definition) : Type 0 where
  pub is : IsDefinition text definition
  pub only : (other : Definition) → IsDefinition text other → other ≡ definition
  pub no_fault : (fault : SyntaxFault) → IsSyntaxFault text fault → ⊥

-- what a phase's want of memory or fault is told as
abbrev pub told_lex : LexFault → SyntaxFault
told_lex NoTokens = Memory
told_lex fault = Lex fault

abbrev pub told_module : ModuleFault → SyntaxFault
told_module NoModules = Memory
told_module fault = Module fault

abbrev pub told_sort : SortFault → SyntaxFault
told_sort NoSorts = Memory
told_sort fault = Sort fault
