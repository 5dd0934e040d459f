use Rattle.front_run.specs.Front.{NoneRewrites}
use Rattle.front_run.proofs.runs.first_rewrite.Given as goal

abbrev pub invariant-loop-number : goal.invariant-loop-number
invariant-loop-number l = NoneRewrites l.defs l.values l.number
