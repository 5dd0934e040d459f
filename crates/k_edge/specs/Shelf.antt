-- What a read puts into its buffer.
use Rattle.std.specs.Prelude.{◌≡◌, ℕ, ◌-◌, ◌≤◌, ◌↔◌, List, length, take, drop}

-- the first n bytes of buf are those of the file from `at` on, and none exactly where the file has none there
pub record IsPiece (file : List ℕ) (at n : ℕ) (buf : List ℕ) : Type 0 where
  pub within : n ≤ length file - at
  pub bytes : take n buf ≡ take n (drop at file)
  pub ended : (n ≡ 0) ↔ (length file ≤ at)
