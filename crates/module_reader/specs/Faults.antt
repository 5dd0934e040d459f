-- Why a file is none, or has modules that can't be put together.
use Rattle.std.specs.Prelude.{◌≡◌, ℕ, ◌<◌, true, List, [], ◌∷◌, length, slice_get, Option, Some, None, if◌then◌else◌, ◌==◌}
use Rattle.std.specs.List.{flat_map}
use Rattle.k_lexer.specs.declared.token.Token.{Token}
use Rattle.import_order.specs.Imports.{Reaches}
use Rattle.production_reader.specs.Lexemes.{lexemes}
use Rattle.production_reader.specs.Allowed.{is_among}
use Rattle.production_reader.specs.Reading.{StopsAt}
use Rattle.file_reader.specs.Written.{Module, signs_of_modules}
use Rattle.file_reader.specs.Files.{IsFile, IsEnd, AreOfFile, names_of, are_different}
use Rattle.file_reader.specs.Meaning.{imports_by_module, graph_of, start_of}
use Rattle.file_reader.specs.Reads.{IsTwice}
use Rattle.file_reader.specs.declared.file.FileStop.{FileStop}
use Rattle.file_reader.specs.declared.file.FileStop.TheVariants as stop
use Rattle.module_reader.specs.Modules.{AreFound}
use Rattle.module_reader.specs.declared.fault.ModuleFault.{ModuleFault}
use Rattle.module_reader.specs.declared.fault.ModuleFault.TheVariants.{Expected, NoModule, ImportCycle, TwoModules, Memory}

-- the place of a token, and behind the last one the end of the text
abbrev pub place_of : List ℕ → List Token → ℕ → ℕ
place_of text tokens at = if at == length tokens then length text else start_of tokens at

-- the first name that is none of these
abbrev pub first_missing : List (List ℕ) → List (List ℕ) → Option (List ℕ)
first_missing names [] = None
first_missing names (name ∷ imports) = if is_among names name then first_missing names imports else Some name

-- up to this token it is a file, and with it none can go on
pub record IsExpected (text : List ℕ) (tokens : List Token) (at : ℕ) : Type 0 where
  pub token : ℕ
  pub stops : StopsAt AreOfFile signs_of_modules IsEnd (lexemes text tokens) 0 token
  pub place : at ≡ place_of text tokens token
  pub once : (name : List ℕ) → IsTwice (lexemes text tokens) name → ⊥

pub record IsMissing (text : List ℕ) (tokens : List Token) (name : List ℕ) : Type 0 where
  pub modules : List Module
  pub file : IsFile (lexemes text tokens) modules
  pub different : are_different (names_of modules) ≡ true
  pub first : first_missing (names_of modules) (flat_map (λ names. names) (imports_by_module modules)) ≡ Some name

-- the first module of the text that imports itself in the end
pub record IsCycle (text : List ℕ) (tokens : List Token) (name : List ℕ) : Type 0 where
  pub modules : List Module
  pub file : IsFile (lexemes text tokens) modules
  pub different : are_different (names_of modules) ≡ true
  pub found : AreFound (names_of modules) (imports_by_module modules)
  pub number : ℕ
  pub cycle : Reaches (graph_of modules) number number
  pub first : (m : ℕ) → m < number → Reaches (graph_of modules) m m → ⊥
  pub is : slice_get (names_of modules) number ≡ Some name

abbrev pub IsFault : List ℕ → List Token → ModuleFault → Type 0
IsFault text tokens (Expected at) = IsExpected text tokens at
IsFault text tokens (TwoModules name) = IsTwice (lexemes text tokens) name
IsFault text tokens (NoModule name) = IsMissing text tokens name
IsFault text tokens (ImportCycle name) = IsCycle text tokens name
IsFault text tokens Memory = ⊥

-- the fault that a file's stop is
abbrev pub fault_by : List ℕ → List Token → FileStop → ModuleFault
fault_by text tokens (stop.Expected at) = Expected (place_of text tokens at)
fault_by text tokens (stop.TwoModules name) = TwoModules name
fault_by text tokens stop.Memory = Memory
