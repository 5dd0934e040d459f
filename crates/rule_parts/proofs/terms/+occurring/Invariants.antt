use Rattle.std.proofs.Common.{◌≡◌, ◌++◌, drop}
use Rattle.rule_parts.specs.Terms.{all_occurrences}
use Rattle.rule_parts.proofs.terms.+occurring.Given as goal

abbrev pub invariant-add_terms-loop-index : goal.invariant-add_terms-loop-index
invariant-add_terms-loop-index l =
    l.found.items ++ all_occurrences l.grammar l.leaves l.is_left l.is_list l.is_sequence l.sorts l.index (drop l.index l.shapes)
    ≡ l.fn.found.items ++ all_occurrences l.grammar l.leaves l.is_left l.is_list l.is_sequence l.sorts 0 l.shapes
