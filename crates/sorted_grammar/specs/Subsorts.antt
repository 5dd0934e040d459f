-- Cycles of subsorts.
use Rattle.std.specs.Prelude.{◌≡◌, ◌≢◌, ℕ, ◌<◌, ◌⊎◌, List, [], ◌∷◌, length}
use Rattle.k_terms.specs.Sorts.{SortOrder, Below}
use Rattle.grammar_terms.specs.Cuts.{Has}
use Rattle.grammar_terms.specs.Grammar.{Syntax, order_of}
use Rattle.sorted_grammar.specs.Naming.{number_in}

-- another of so many sorts is above this one and below it
pub record IsBetween (order : SortOrder) (count sort : ℕ) : Type 0 where
  pub other : ℕ
  pub within : other < count
  pub differ : other ≢ sort
  pub above : Below order sort other
  pub below : Below order other sort

-- A sort lies on a cycle of subsorts: it is below and above another one, or a subsort step leads from it to itself.
abbrev pub IsAround : SortOrder → ℕ → ℕ → Type 0
IsAround order count sort = Has order.steps (sort, sort) ⊎ IsBetween order count sort

-- a sort of the grammar lies on a cycle of subsorts
abbrev pub IsOnCycle : Syntax → ℕ → Type 0
IsOnCycle g sort = IsAround (order_of g) (length g.names) sort

-- the first of some names that has a property
abbrev pub IsFirst : (List ℕ → Type 0) → List (List ℕ) → List ℕ → Type 0
IsFirst P [] name = ⊥
IsFirst P (first ∷ names) name = (P first × (first ≡ name)) ⊎ ((P first → ⊥) × IsFirst P names name)

-- the first of some names whose sort lies on a cycle
abbrev pub IsFirstOnCycle : Syntax → List (List ℕ) → List ℕ → Type 0
IsFirstOnCycle g names name = IsFirst (λ other. IsOnCycle g (number_in g.names other)) names name
