use Rattle.std.proofs.Common.{ℕ, List, ◌∷◌, ◌++◌, ◌≤◌, ◌^◌, length, IsTrue}
use Rattle.std.specs.Prelude.{codes}
use Rattle.std.specs.List.{AllByRecursion}
use Rattle.small_form.specs.declared.small.SmallRule.{SmallRule}
use Rattle.small_form.specs.Pieces.{Reads}
use Rattle.small_form.specs.Small.{is_sort, HaveLabels, IsSmallRule, labels_of, rules_pieces}
use Rattle.small_form.proofs.Parts.{AreRulesLeft}
use Rattle.small_form.proofs.definition.read_rules.Given as goal

abbrev pub invariant-loop-alloc : goal.invariant-loop-alloc
invariant-loop-alloc l =
    record {
      small : AllByRecursion (IsSmallRule l.productions) l.rules.items;
      read : Reads (rules_pieces (labels_of l.productions) l.sort l.rules.items) l.initial.reader l.reader;
      shorter : length l.reader ≤ length l.initial.reader;
      exact : (rules : List SmallRule) (pieces : List (List ℕ)) (rest : List ℕ) → HaveLabels l.productions → IsTrue (is_sort l.sort)
          → length l.initial.reader ≤ 2 ^ 32 → AllByRecursion (IsSmallRule l.productions) rules
          → Reads (rules_pieces (labels_of l.productions) l.sort rules ++ codes "endmodule" ∷ pieces) l.initial.reader rest
          → AreRulesLeft l.productions l.sort l.rules.items rules pieces l.reader rest;
    }

abbrev pub decreases-loop-alloc : goal.decreases-loop-alloc
decreases-loop-alloc l = length l.reader
