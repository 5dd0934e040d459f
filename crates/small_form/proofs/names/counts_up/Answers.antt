use Rattle.std.proofs.Common.{rules}
use Rattle.small_form.proofs.Terms.{counts_further, counts_not}
use Rattle.small_form.proofs.names.counts_up.Goals as goal

pub returns-then-number-i : goal.returns-then-number-i
returns-then-number-i c = (λ e. cc, λ e. absurd (counts_not c.args.numbers.now c.loop-i.i (search rules) c.if-number-i.true e))

pub loop-i-preserved : goal.loop-i-preserved
loop-i-preserved c = counts_further c.args.numbers.now c.loop-i.i (search rules) c.loop-i.invariant c.if-number-i.false
