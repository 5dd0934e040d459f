-- What a module imports, and what it reaches by imports.
use Rattle.std.specs.Prelude.{◌≡◌, ℕ, ◌<◌, ◌⊎◌, List, [], ◌∷◌, length, slice_index_or}

-- x stands in the list
abbrev pub Has : List ℕ → ℕ → Type 0
Has [] x = ⊥
Has (y ∷ ys) x = (y ≡ x) ⊎ Has ys x

-- what a module imports, in the order of the text; past the end nothing
abbrev pub imports_of : List (List ℕ) → ℕ → List ℕ
imports_of graph m = slice_index_or graph m []

-- each import is the number of a module
abbrev pub AreWithin : List (List ℕ) → Type 0
AreWithin graph = (m x : ℕ) → Has (imports_of graph m) x → x < length graph

-- Imports lead from one module to another, by one of them or more. A module that reaches itself lies on a cycle.
pub data Reaches (graph : List (List ℕ)) : ℕ → ℕ → Type 0 where
  by_one : (m x : ℕ) → Has (imports_of graph m) x → Reaches graph m x
  by_more : (m y x : ℕ) → Has (imports_of graph m) y → Reaches graph y x → Reaches graph m x

-- imports lead from one of some modules to one that lies on a cycle, or it lies on one itself
pub record LeadsToCycle (graph : List (List ℕ)) (roots : List ℕ) : Type 0 where
  pub root : ℕ
  pub is_root : Has roots root
  pub at : ℕ
  pub leads : (at ≡ root) ⊎ Reaches graph root at
  pub cycle : Reaches graph at at

-- no module lies on a cycle
abbrev pub HasNoCycle : List (List ℕ) → Type 0
HasNoCycle graph = (m : ℕ) → Reaches graph m m → ⊥
