-- The modules of a file that has no fault, and the sentences of a definition.
use Rattle.std.specs.Prelude.{◌≡◌, ℕ, ◌-◌, ◌<◌, true, List, [], length, slice_get, unwrap_or}
use Rattle.std.specs.List.{list_all, flat_map}
use Rattle.k_lexer.specs.declared.token.Token.{Token}
use Rattle.import_order.specs.Imports.{AreWithin, HasNoCycle}
use Rattle.import_order.specs.Order.{IsClosure}
use Rattle.production_reader.specs.Lexemes.{lexemes}
use Rattle.production_reader.specs.Allowed.{is_among}
use Rattle.file_reader.specs.Written.{Module}
use Rattle.file_reader.specs.Files.{IsFile, names_of, are_different}
use Rattle.file_reader.specs.Meaning.{imports_by_module, graph_of, sentences_by_module}
use Rattle.file_reader.specs.declared.sentence.Sentence.{Sentence}

-- the sentences of each module, and which modules each one imports
pub record Imported : Type 0 where
  pub sentences : List (List Sentence)
  pub graph : List (List ℕ)

-- one or more modules, which import one another without a cycle
pub record IsOrdered (modules : Imported) : Type 0 where
  pub some : 0 < length modules.graph
  pub same : length modules.sentences ≡ length modules.graph
  pub within : AreWithin modules.graph
  pub acyclic : HasNoCycle modules.graph

-- each import names one of these
abbrev pub AreFound : List (List ℕ) → List (List (List ℕ)) → Type 0
AreFound names imports = list_all (list_all (is_among names)) imports ≡ true

-- the tokens are a file of modules of different names, each import names one of them, and no module imports itself in the end
pub record IsModules (text : List ℕ) (tokens : List Token) (value : Imported) : Type 0 where
  pub modules : List Module
  pub file : IsFile (lexemes text tokens) modules
  pub different : are_different (names_of modules) ≡ true
  pub found : AreFound (names_of modules) (imports_by_module modules)
  pub acyclic : HasNoCycle (graph_of modules)
  pub sentences : value.sentences ≡ sentences_by_module tokens 0 modules
  pub graph : value.graph ≡ graph_of modules

-- the sentences of the last module and of all that it imports, in the order of its import closure
pub record AreClosureOf (modules : Imported) (sentences : List Sentence) : Type 0 where
  pub order : List ℕ
  pub closure : IsClosure modules.graph (length modules.graph - 1) order
  pub are : sentences ≡ flat_map (λ m. unwrap_or (slice_get modules.sentences m) []) order
