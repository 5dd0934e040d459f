use Rattle.std.proofs.Common.{◌≡◌, ℕ, ◌+◌, ◌-◌, ◌≤◌, List, take, vec_len, IfSome}
use Rattle.whole_files.proofs.read.read_file.Given as goal

-- what was read is the front of the file, and the shelf tells what it told
abbrev pub invariant-loop-buffer : goal.invariant-loop-buffer
invariant-loop-buffer g l = record {
  kept : (other : List ℕ) → g.H.Shelf.told l.shelf other ≡ g.H.Shelf.told l.initial.shelf other;
  later : (other : List ℕ) → g.H.Shelf.faults l.initial.shelf other ≤ g.H.Shelf.faults l.shelf other;
  front : IfSome (g.H.Shelf.told l.initial.shelf l.name) (λ file. l.bytes.items ≡ take (vec_len l.bytes) file);
  small : vec_len l.bytes ≤ l.limit + 4096;
}

abbrev pub decreases-loop-buffer : goal.decreases-loop-buffer
decreases-loop-buffer g l = l.limit + 1 - vec_len l.bytes
