use Rattle.rule_tokens.proofs.Telling.{listed_more}
use Rattle.rule_tokens.proofs.sorts.listed.Goals as goal

pub loop-place-preserved : goal.loop-place-preserved
loop-place-preserved c = λ before tells.
    listed_more before c.args.table.now c.loop-place.place c.in-Some.name c.in-Some.written c.loop-place.found.items c.push.new.self.items tells c.in-Some.ensures.entry c.in-Some.ensures.own
    (c.loop-place.invariant before tells) c.in_ok-push.ensures.items
