use Rattle.std.proofs.Common.{ℕ, List, ◌∷◌, ◌++◌, ◌≤◌, ◌<◌, length, map, ◌^◌}
use Rattle.std.specs.Prelude.{codes, IsTrue}
use Rattle.std.specs.List.{list_all}
use Rattle.small_form.specs.declared.small.Production.{Production}
use Rattle.small_form.specs.Pieces.{Reads}
use Rattle.small_form.specs.Small.{separated, is_label, is_sort, labels_of, production_pieces}
use Rattle.small_form.proofs.Parts.{IsFurther}
use Rattle.small_form.proofs.definition.read_productions.Given as goal

abbrev pub invariant-loop-alloc : goal.invariant-loop-alloc
invariant-loop-alloc l =
    record {
      some : 0 < length l.productions.items;
      labels : IsTrue (list_all is_label (labels_of l.productions.items));
      read : Reads (separated (codes "|") (map (production_pieces l.sort) l.productions.items)) l.fn.reader l.reader;
      shorter : length l.reader ≤ length l.fn.reader;
      exact : (ps : List Production) (pieces : List (List ℕ)) (rest : List ℕ) → IsTrue (is_sort l.sort) → length l.fn.reader ≤ 2 ^ 32
          → 0 < length ps → IsTrue (list_all is_label (labels_of ps))
          → Reads (separated (codes "|") (map (production_pieces l.sort) ps) ++ codes "configuration" ∷ pieces) l.fn.reader rest
          → IsFurther l.sort l.productions.items ps pieces l.reader rest;
    }

abbrev pub decreases-loop-alloc : goal.decreases-loop-alloc
decreases-loop-alloc l = length l.reader
