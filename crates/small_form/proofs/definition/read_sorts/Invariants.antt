use Rattle.std.proofs.Common.{ℕ, List, [], ◌∷◌, ◌++◌, ◌≤◌, ◌+◌, length, IsTrue}
use Rattle.std.specs.Prelude.{codes, replicate}
use Rattle.small_form.specs.Pieces.{is_solid, Reads}
use Rattle.small_form.specs.Small.{separated}
use Rattle.small_form.proofs.Parts.{IsSorts}
use Rattle.small_form.proofs.definition.read_sorts.Given as goal

abbrev pub invariant-loop-count : goal.invariant-loop-count
invariant-loop-count l =
    record {
      read : Reads (separated (codes ",") (replicate l.count (l.sort ∷ []))) l.initial.reader l.reader;
      shorter : length l.reader ≤ length l.initial.reader;
      room : IsTrue (is_solid l.sort) → l.count + length l.reader ≤ length l.initial.reader;
      exact : (count : ℕ) (pieces : List (List ℕ)) (rest : List ℕ) → IsTrue (is_solid l.sort)
          → Reads (separated (codes ",") (replicate count (l.sort ∷ [])) ++ codes ")" ∷ pieces) l.initial.reader rest → IsSorts l.sort count l.count pieces l.reader rest;
    }
