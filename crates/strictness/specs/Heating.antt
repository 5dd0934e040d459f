-- Why a grammar has no rules of heating and cooling.
use Rattle.std.specs.Prelude.{◌≡◌, ◌⊎◌, ℕ, List}
use Rattle.grammar_terms.specs.declared.production.Production.{Production}
use Rattle.strictness.specs.declared.fault.StrictFault.{StrictFault}
use Rattle.strictness.specs.declared.fault.StrictFault.TheVariants.{BadStrict, Memory}
use Rattle.strictness.specs.Places.{IsLeastBad}

-- the least bad place
abbrev pub IsFault : List Production → StrictFault → Type 0
IsFault prods (BadStrict p place) = IsLeastBad prods p place
IsFault prods Memory = ⊥

-- want of memory, or the least bad place
abbrev pub IsRefusal : List Production → StrictFault → Type 0
IsRefusal prods fault = (fault ≡ Memory) ⊎ IsFault prods fault

-- the fault of this place of production p, or want of memory
abbrev pub IsBadAt : ℕ → ℕ → StrictFault → Type 0
IsBadAt p place (BadStrict q other) = (q ≡ p) × (other ≡ place)
IsBadAt p place Memory = Unit {0}
