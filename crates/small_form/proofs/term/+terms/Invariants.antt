use Rattle.std.proofs.Common.{◌≡◌, ℕ, List, ◌++◌, ◌+◌, ◌*◌, ◌≤◌, length, map, IsTrue}
use Rattle.std.specs.Prelude.{codes}
use Rattle.std.specs.List.{list_all}
use Rattle.small_form.specs.Pieces.{Reads}
use Rattle.small_form.specs.Small.{separated, labels_of, term_pieces, is_term, HaveLabels, AreVariables}
use Rattle.rule_terms.specs.declared.pattern.Pattern.{Pattern}
use Rattle.small_form.proofs.Exact.{IsLeft}
use Rattle.small_form.proofs.term.+terms.Given as goal

abbrev pub decreases-read_application : goal.decreases-read_application
decreases-read_application l = 3 * length l.reader.now

abbrev pub decreases-read_term : goal.decreases-read_term
decreases-read_term l = 3 * length l.reader.now + 1

abbrev pub decreases-read_arguments : goal.decreases-read_arguments
decreases-read_arguments l = 3 * length l.reader.now + 2

abbrev pub invariant-read_arguments-loop-i : goal.invariant-read_arguments-loop-i
invariant-read_arguments-loop-i l =
    record {
      count : length l.arguments.items ≡ l.i;
      terms : IsTrue (list_all (is_term l.productions (length l.variables)) l.arguments.items);
      read : Reads (separated (codes ",") (map (term_pieces (labels_of l.productions) l.variables) l.arguments.items)) l.initial.reader l.reader;
      shorter : length l.reader ≤ length l.initial.reader;
      exact : (ps : List Pattern) (pieces : List (List ℕ)) (rest : List ℕ) → HaveLabels l.productions → AreVariables l.variables
          → length ps ≡ l.count → IsTrue (list_all (is_term l.productions (length l.variables)) ps)
          → Reads (separated (codes ",") (map (term_pieces (labels_of l.productions) l.variables) ps) ++ pieces) l.initial.reader rest
          → IsLeft (term_pieces (labels_of l.productions) l.variables) l.arguments.items ps l.i pieces l.reader rest;
    }
