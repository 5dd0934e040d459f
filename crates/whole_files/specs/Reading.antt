-- What is read of a file that has a limit.
use Rattle.std.specs.Prelude.{◌≡◌, ℕ, ◌-◌, ◌<◌, ◌≤◌, List, ◌++◌, length, take, drop}

-- the bytes are the front of the file: all of it where it is within the limit, and else more than the limit
pub record IsReading (file : List ℕ) (limit : ℕ) (bytes : List ℕ) : Type 0 where
  pub front : bytes ≡ take (length bytes) file
  pub all : length file ≤ limit → bytes ≡ file
  pub over : limit < length file → limit < length bytes

-- the next n bytes of the file were added to those that were read, and none only at its end
pub record IsNextPiece (file old : List ℕ) (n : ℕ) (new : List ℕ) : Type 0 where
  pub bytes : new ≡ old ++ take n (drop (length old) file)
  pub within : n ≤ length file - length old
  pub ended : n ≡ 0 → length file ≤ length old
