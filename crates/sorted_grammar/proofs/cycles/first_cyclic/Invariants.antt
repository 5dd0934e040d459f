use Rattle.sorted_grammar.specs.Marks.{NonePasses, is_cyclic}
use Rattle.sorted_grammar.proofs.cycles.first_cyclic.Given as goal

abbrev pub invariant-loop-place : goal.invariant-loop-place
invariant-loop-place l = NonePasses (is_cyclic l.row l.rows) l.prods l.place
