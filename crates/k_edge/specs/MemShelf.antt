-- What is seen of a shelf in memory.
use Rattle.std.specs.Prelude.{ℕ, List}
use Rattle.k_edge.specs.Faults.{Plan}

-- its files, by their names' bytes, and which calls fail
pub record ShelfState : Type 0 where
  pub files : List (List ℕ × List ℕ)
  pub plan : Plan
