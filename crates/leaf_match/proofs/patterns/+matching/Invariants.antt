use Rattle.std.proofs.Common.{◌≡◌, ◌≤◌, ◌+◌, ◌*◌, take, true}
use Rattle.std.specs.Prelude.{Some}
use Rattle.std.specs.List.{AllByRecursion, list_any}
use Rattle.k_terms.specs.Value.{depth_of}
use Rattle.k_terms.specs.Operators.{depth_limit}
use Rattle.rule_terms.specs.Patterns.{mentions}
use Rattle.rule_terms.specs.Eval.{eval_all}
use Rattle.leaf_match.specs.Bindings.{AreSuited, Tells, Reaches}
use Rattle.leaf_match.proofs.Sizes.{size, size_all}
use Rattle.leaf_match.proofs.patterns.+matching.Given as goal

-- the patterns that are left: those of a list count as a half of a level, and each function stands a step above the next
abbrev pub decreases-match_pattern : goal.decreases-match_pattern
decreases-match_pattern l = 4 * size l.pattern.now

abbrev pub decreases-match_node : goal.decreases-match_node
decreases-match_node l = 4 * size_all l.parts.now + 3

abbrev pub decreases-match_items : goal.decreases-match_items
decreases-match_items l = 4 * size_all l.parts.now + 3

abbrev pub decreases-match_sequence : goal.decreases-match_sequence
decreases-match_sequence l = 4 * size_all l.parts.now + 3

abbrev pub decreases-match_freezer : goal.decreases-match_freezer
decreases-match_freezer l = 4 * size_all l.parts.now + 3

abbrev pub decreases-match_members : goal.decreases-match_members
decreases-match_members l = 4 * size_all l.parts.now + 2

abbrev pub decreases-match_front : goal.decreases-match_front
decreases-match_front l = 4 * size_all l.parts.now + 2

abbrev pub decreases-match_all : goal.decreases-match_all
decreases-match_all l = 4 * size_all l.patterns.now + 1

-- so many have been matched
abbrev pub invariant-match_all-loop-i : goal.invariant-match_all-loop-i
invariant-match_all-loop-i l = record {
  suited : AreSuited l.variables.sorts.now l.variables.vars.now l.bindings;
  tells : AllByRecursion (λ v. depth_of v ≤ depth_limit) l.values → Tells l.variables.sorts.now l.variables.vars.now true l.initial.bindings l.bindings
      (λ s. eval_all (take l.i l.patterns) s ≡ Some (take l.i l.values));
  reaches : Reaches true l.initial.bindings l.bindings (λ x. list_any (mentions x) (take l.i l.patterns));
}
