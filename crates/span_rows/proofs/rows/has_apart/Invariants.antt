use Rattle.span_rows.proofs.rows.has_apart.Given as goal

abbrev pub invariant-loop-row : goal.invariant-loop-row
invariant-loop-row l = Unit {0}
