-- What is seen of a sink in memory.
use Rattle.std.specs.Prelude.{ℕ, min, List}
use Rattle.k_edge.specs.Faults.{Plan}

-- the bytes taken so far, the room that is left, the most that a call takes, and which calls fail
pub record SinkState : Type 0 where
  pub bytes : List ℕ
  pub room : ℕ
  pub piece : ℕ
  pub plan : Plan

-- how many of so many bytes the next call takes
abbrev pub taken_at_once : SinkState → ℕ → ℕ
taken_at_once sink len = min (min len sink.piece) sink.room
