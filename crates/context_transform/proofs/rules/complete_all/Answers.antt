use Rattle.std.proofs.Common.{◌+◌, drop, subst, sym}
use Rattle.std.proofs.lemmas.List.{drop_all}
use Rattle.context_transform.proofs.Rows.{IsCompletedUpTo, completed_one_more, completed_all}
use Rattle.context_transform.proofs.Telling.{left_at, unclear_first}
use Rattle.context_transform.proofs.rules.complete_all.Goals as goal

pub returns-in-Err-clause-fault : goal.returns-in-Err-clause-fault
returns-in-Err-clause-fault c =
    let l = c.loop-draft in
    unclear_first c.args.tree.now c.args.drafts.now c.args.rules.now.items l.draft-index c.draft-item.result c.loop-draft-test.true c.draft-item.is l.rules.items l.number l.invariant
    c.in-Err.refusal c.unclear_fault.result c.in-Err.ensures.fault c.unclear_fault.ensures

pub loop-draft-preserved : goal.loop-draft-preserved
loop-draft-preserved c =
    let l = c.loop-draft in
    subst (λ rs. IsCompletedUpTo c.args.tree.now c.args.drafts.now (drop (l.draft-index + 1) c.args.drafts.now) c.args.rules.now.items rs (l.number + 1)) (sym c.in-Ok-push.ensures.items)
    (completed_one_more c.args.tree.now c.args.drafts.now c.args.rules.now.items _ _ c.draft-item.result
    (left_at c.args.drafts.now l.draft-index c.draft-item.result c.loop-draft-test.true c.draft-item.is) l.rules.items l.number l.invariant c.in-Ok.rule c.in-Ok.ensures.ok)

pub returns-clause-ok : goal.returns-clause-ok
returns-clause-ok c =
    let l = c.loop-draft in
    completed_all c.args.tree.now c.args.drafts.now c.args.rules.now.items l.rules.items l.number _ (drop_all l.draft-index c.args.drafts.now c.loop-draft-test.false) l.invariant
