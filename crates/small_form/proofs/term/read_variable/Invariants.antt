use Rattle.std.proofs.Common.{◌≡◌, ℕ, List, ◌∷◌, ◌<◌, IsTrue}
use Rattle.small_form.specs.Pieces.{is_solid, Reads}
use Rattle.small_form.specs.Small.{at_number}
use Rattle.small_form.proofs.term.read_variable.Given as goal

abbrev pub invariant-loop-i : goal.invariant-loop-i
invariant-loop-i l =
    record {
      kept : l.reader ≡ l.initial.reader;
      others : (k : ℕ) → k < l.i → (pieces : List (List ℕ)) (rest : List ℕ) → IsTrue (is_solid (at_number l.variables k))
          → Reads (at_number l.variables k ∷ pieces) l.initial.reader rest → ⊥;
    }
