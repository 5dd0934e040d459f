use Rattle.std.proofs.Common.{ℕ, List, ◌∷◌, ◌++◌, ◌+◌, ◌≤◌, length, IsTrue}
use Rattle.std.specs.Prelude.{codes}
use Rattle.small_form.specs.Pieces.{Reads}
use Rattle.small_form.specs.Small.{is_sort, HasNames}
use Rattle.small_form.proofs.Left.{IsScan}
use Rattle.small_form.proofs.names.left_names.Given as goal

abbrev pub invariant-loop-reader : goal.invariant-loop-reader
invariant-loop-reader l =
    record {
      few : length l.names.items + length l.reader ≤ length l.text;
      exact : (left : List (List ℕ)) (names : List (List ℕ)) (pieces : List (List ℕ)) (rest : List ℕ) → IsTrue (is_sort l.sort)
          → HasNames l.sort left names → Reads (left ++ codes "=>" ∷ pieces) l.text rest → IsScan l.sort l.names.items names pieces l.reader rest;
    }

abbrev pub decreases-loop-reader : goal.decreases-loop-reader
decreases-loop-reader l = length l.reader
