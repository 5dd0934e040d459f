-- The order in which a module's import closure stands.
use Rattle.std.specs.Prelude.{◌≡◌, ℕ, ◌==◌, cond, List, [], ◌∷◌, ◌++◌}
use Rattle.std.specs.List.{concat}
use Rattle.import_order.specs.Imports.{imports_of}

-- the numbers other than x
abbrev pub without : ℕ → List ℕ → List ℕ
without x [] = []
without x (y ∷ ys) = cond (y == x) (without x ys) (y ∷ without x ys)

-- each number at its first place alone
abbrev pub firsts : List ℕ → List ℕ
firsts [] = []
firsts (x ∷ xs) = x ∷ without x (firsts xs)

mutual
  -- The closure of a module: the closures of those that it imports, in the order of the text, each module at its first
  -- place, and then the module itself. A module from which imports lead to a cycle has none.
  pub data IsClosure (graph : List (List ℕ)) : ℕ → List ℕ → Type 0 where
    closes : (m : ℕ) (order : List ℕ) (parts : List (List ℕ)) → AreClosures graph (imports_of graph m) parts → order ≡ firsts (concat parts ++ m ∷ []) → IsClosure graph m order

  -- the closures of several modules, one of each
  pub data AreClosures (graph : List (List ℕ)) : List ℕ → List (List ℕ) → Type 0 where
    none : AreClosures graph [] []
    next : (m : ℕ) (ms order : List ℕ) (parts : List (List ℕ)) → IsClosure graph m order → AreClosures graph ms parts → AreClosures graph (m ∷ ms) (order ∷ parts)

-- the order of several modules: their closures one after the other, each module at its first place
pub record IsOrder (graph : List (List ℕ)) (roots order : List ℕ) : Type 0 where
  pub parts : List (List ℕ)
  pub closures : AreClosures graph roots parts
  pub is : order ≡ firsts (concat parts)
