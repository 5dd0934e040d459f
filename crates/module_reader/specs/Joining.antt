-- How the modules of a file are put together.
use Rattle.std.specs.Prelude.{◌≡◌, ℕ, ◌<◌, true, List, map, slice_get, Some, unwrap_or}
use Rattle.std.specs.List.{list_all, flat_map}
use Rattle.k_terms.specs.Names.{number_of}
use Rattle.import_order.specs.Imports.{HasNoCycle, Reaches}
use Rattle.production_reader.specs.Allowed.{is_among}
use Rattle.file_reader.specs.declared.file.FileModules.{FileModules}
use Rattle.module_reader.specs.Modules.{Imported, AreFound}
use Rattle.module_reader.specs.Faults.{first_missing}
use Rattle.module_reader.specs.declared.fault.ModuleFault.{ModuleFault}
use Rattle.module_reader.specs.declared.fault.ModuleFault.TheVariants.{NoModule, ImportCycle, Memory}

-- the number of the module of a name
abbrev pub module_number : List (List ℕ) → List ℕ → ℕ
module_number names name = unwrap_or (number_of names name) 0

abbrev pub graph_by : List (List ℕ) → List (List (List ℕ)) → List (List ℕ)
graph_by names imports = map (map (module_number names)) imports

-- each of these names a module, and these are their numbers
abbrev pub AreNumbers : List (List ℕ) → List (List ℕ) → List ℕ → Type 0
AreNumbers names imports numbers = (list_all (is_among names) imports ≡ true) × (numbers ≡ map (module_number names) imports)

abbrev pub IsGraph : List (List ℕ) → List (List (List ℕ)) → List (List ℕ) → Type 0
IsGraph names imports graph = AreFound names imports × (graph ≡ graph_by names imports)

-- the first of these that names no module, or want of memory
abbrev pub IsMissingAmong : List (List ℕ) → List (List ℕ) → ModuleFault → Type 0
IsMissingAmong names imports (NoModule name) = first_missing names imports ≡ Some name
IsMissingAmong names imports Memory = Unit {0}
IsMissingAmong names imports _ = ⊥

abbrev pub IsMissingIn : List (List ℕ) → List (List (List ℕ)) → ModuleFault → Type 0
IsMissingIn names imports fault = IsMissingAmong names (flat_map (λ names. names) imports) fault

-- this is the name of the first module that imports itself in the end
pub record IsFirstCycle (names : List (List ℕ)) (graph : List (List ℕ)) (name : List ℕ) : Type 0 where
  pub number : ℕ
  pub cycle : Reaches graph number number
  pub first : (m : ℕ) → m < number → Reaches graph m m → ⊥
  pub is : slice_get names number ≡ Some name

-- the first module that imports itself, or want of memory
abbrev pub IsCyclic : List (List ℕ) → List (List ℕ) → ModuleFault → Type 0
IsCyclic names graph (ImportCycle name) = IsFirstCycle names graph name
IsCyclic names graph Memory = Unit {0}
IsCyclic names graph _ = ⊥

-- the modules of a file whose imports all name modules, without a cycle
pub record IsJoined (file : FileModules) (value : Imported) : Type 0 where
  pub found : AreFound file.names file.imports
  pub acyclic : HasNoCycle (graph_by file.names file.imports)
  pub sentences : value.sentences ≡ file.sentences
  pub graph : value.graph ≡ graph_by file.names file.imports

-- why the modules of a file can't be put together: an import names none; where each names one, a cycle; or want of memory
abbrev pub IsRefused : List (List ℕ) → List (List (List ℕ)) → ModuleFault → Type 0
IsRefused names imports (NoModule name) = IsMissingIn names imports (NoModule name)
IsRefused names imports (ImportCycle name) = AreFound names imports × IsFirstCycle names (graph_by names imports) name
IsRefused names imports Memory = Unit {0}
IsRefused names imports _ = ⊥
