-- What it means that the cells of a site are those of a rule's left side.
use Rattle.std.specs.Prelude.{◌≡◌, ◌<◌, ℕ, Bool, not, ◌&&◌, List, [], ◌∷◌, ◌++◌, length, filter, Option, Some, None}
use Rattle.std.specs.List.{list_all}
use Rattle.std.specs.Option.{option_and_then}
use Rattle.k_terms.specs.declared.value.Value.{Value}
use Rattle.rule_terms.specs.declared.pattern.Body.{Body, Cells'}
use Rattle.rule_terms.specs.Spots.{Spot, number_of}
use Rattle.rule_terms.specs.Substitution.{Subst}
use Rattle.live_config.specs.declared.cell.Cell.{Cell}
use Rattle.live_config.specs.Configuration.{Configuration, cell_at, parent_number, below}
use Rattle.rule_terms.specs.Numbers.{has_number}
use Rattle.rule_terms.specs.Sound.{has_no_operator, all_patterns, is_made}
use Rattle.live_config.specs.Firing.{numbers_of, further}
use Rattle.leaf_match.specs.Contents.{IsBodyAt}

-- where a body of cells has no rest, its cell has no further children
abbrev pub HasNoOthers : Configuration → List Spot → List ℕ → Body → ℕ → Type 0
HasNoOthers c ps ns (Cells' shape children None) n = further c ps ns (Cells' shape children None) n ≡ []
HasNoOthers c ps ns _ n = Unit {0}

-- The cell with a number is where a left cell stands: it is of the declared cell, it lies in the cell of the mark around, and has no
-- children that the left cell doesn't allow.
pub record StandsFor (c : Configuration) (ps : List Spot) (ns : List ℕ) (p : Spot) (n : ℕ) (cell : Cell) : Type 0 where
  pub there : cell_at c n ≡ Some cell
  pub kind : cell.kind ≡ p.cell
  pub parent : parent_number cell ≡ option_and_then (number_of ps ns) p.above
  pub closed : HasNoOthers c ps ns p.body n

-- such a cell, whose content is the body of the left cell under a substitution, with these keys
abbrev pub HoldsAt : Configuration → List Spot → List ℕ → Spot → ℕ → List Value → Subst → Type 0
HoldsAt c ps ns p n keys s = (cell : Cell) × StandsFor c ps ns p n cell × IsBodyAt p.body cell.content keys s

-- each of these left cells holds at its number, with its part of the keys
abbrev pub AllHold : Configuration → List Spot → List ℕ → List Spot → List ℕ → List Value → Subst → Type 0
AllHold c ps ns [] [] keys s = keys ≡ []
AllHold c ps ns [] (_ ∷ _) keys s = ⊥
AllHold c ps ns (_ ∷ _) [] keys s = ⊥
AllHold c ps ns (q ∷ qs) (m ∷ ms) keys s =
    (own : List Value) × (others : List Value) × (keys ≡ own ++ others) × HoldsAt c ps ns q m own s × AllHold c ps ns qs ms others s

-- each child of the cell with a number is one of those with these marks
abbrev pub AreNamed : Configuration → List Spot → List ℕ → List ℕ → ℕ → Type 0
AreNamed c ps ns marks n = filter (λ m. not (has_number (numbers_of ps ns marks) m)) (below c n) ≡ []

-- the cell that stands for a left cell, or that there is none
abbrev pub IsCellFor : Configuration → List Spot → List ℕ → Spot → ℕ → Option Cell → Type 0
IsCellFor c ps ns p n None = (cell : Cell) → StandsFor c ps ns p n cell → ⊥
IsCellFor c ps ns p n (Some cell) = StandsFor c ps ns p n cell

-- keys, parted behind the first ones, or that there are fewer
abbrev pub IsParted : List Value → ℕ → Option (List Value × List Value) → Type 0
IsParted keys count None = length keys < count
IsParted keys count (Some parts) = (keys ≡ parts.0 ++ parts.1) × (length parts.0 ≡ count)

-- no operator stands in these left cells, and no content is made by an expression
abbrev pub are_plain : List Spot → Bool
are_plain ps = list_all (λ (p : Spot). all_patterns has_no_operator p.body && not (is_made p.body)) ps
