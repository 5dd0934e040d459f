-- The definition that a file holds, whole, or why there is none.
use Rattle.std.specs.Prelude.{◌≡◌, false, List, ℕ, Option, IfSome}
use Rattle.context_transform.specs.Assembling.{Assembly, IsOnlyAssembly, IsOnlyFault}
use Rattle.context_transform.specs.Told.{wants_memory}
use Rattle.krun.specs.declared.outcome.Outcome.{Outcome}
use Rattle.krun.specs.declared.outcome.Outcome.TheVariants.{Definition, ReadFault, Memory as NoMemoryLeft}
use Rattle.krun.specs.declared.outcome.Which.TheVariants.{Definition as TheDefinition}

-- a file defines this alone, where it is told
abbrev pub FileDefines : Option (List ℕ) → Assembly → Type 0
FileDefines file assembly = IfSome file (λ bytes. IsOnlyAssembly bytes assembly)

-- Why it defines nothing: its bytes are refused, with this fault alone; it could not be read; or memory was wanting.
abbrev pub IsUndefined : Option (List ℕ) → Type 0 → Outcome → Type 0
IsUndefined file rose (Definition fault) = IfSome file (λ bytes. IsOnlyFault bytes fault) × (wants_memory fault ≡ false)
IsUndefined file rose (ReadFault TheDefinition) = rose
IsUndefined file rose NoMemoryLeft = Unit {0}
IsUndefined file rose _ = ⊥
