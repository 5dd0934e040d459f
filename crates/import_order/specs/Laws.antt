-- The laws of closures.
use Rattle.std.specs.Prelude.{◌≡◌, ℕ, ◌⊎◌, ◌↔◌, List, ◌∷◌, ◌++◌}
use Rattle.import_order.specs.Imports.{Has, imports_of, Reaches, LeadsToCycle}
use Rattle.import_order.specs.Order.{IsClosure, IsOrder}

-- a module has at most one closure
abbrev pub HasOneClosure : Type 0
HasOneClosure = (graph : List (List ℕ)) (m : ℕ) (one other : List ℕ) → IsClosure graph m one → IsClosure graph m other → one ≡ other

-- each module of a closure stands at one place alone
abbrev pub StandsOnce : Type 0
StandsOnce = (graph : List (List ℕ)) (m : ℕ) (order : List ℕ) → IsClosure graph m order
    → (front back : List ℕ) (x : ℕ) → order ≡ front ++ x ∷ back → Has (front ++ back) x → ⊥

-- what a module of a closure imports stands in front of it
abbrev pub StandsInFront : Type 0
StandsInFront = (graph : List (List ℕ)) (m : ℕ) (order : List ℕ) → IsClosure graph m order
    → (front back : List ℕ) (x y : ℕ) → order ≡ front ++ x ∷ back → Has (imports_of graph x) y → Has front y

-- the modules of a closure are its own and those that it reaches
abbrev pub HasWhatIsReached : Type 0
HasWhatIsReached = (graph : List (List ℕ)) (m : ℕ) (order : List ℕ) → IsClosure graph m order
    → (x : ℕ) → Has order x ↔ ((x ≡ m) ⊎ Reaches graph m x)

-- modules from which imports lead to a cycle have no order
abbrev pub HasNoOrder : Type 0
HasNoOrder = (graph : List (List ℕ)) (roots order : List ℕ) → IsOrder graph roots order → LeadsToCycle graph roots → ⊥

-- a module with a closure lies on no cycle
abbrev pub LiesOnNoCycle : Type 0
LiesOnNoCycle = (graph : List (List ℕ)) (m : ℕ) (order : List ℕ) → IsClosure graph m order → Reaches graph m m → ⊥
