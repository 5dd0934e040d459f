use Rattle.std.proofs.Common.{◌≡◌, ℕ, ◌<◌}
use Rattle.small_form.specs.Small.{at_number, labels_of}
use Rattle.small_form.proofs.term.find_label.Given as goal

abbrev pub invariant-loop-i : goal.invariant-loop-i
invariant-loop-i l = (k : ℕ) → k < l.i → at_number (labels_of l.productions) k ≡ l.label → ⊥
