use Rattle.std.proofs.Common.{arith, ◌<◌, ◌++◌, [], ◌∷◌, take, length, get_or, set, true, sym, subst}
use Rattle.std.proofs.lemmas.List.{take_more}
use Rattle.import_order.specs.Reaching.{IsAdded}
use Rattle.import_order.proofs.Members.{has_at}
use Rattle.import_order.proofs.Searching.{added_none, added_seen, added_new}
use Rattle.sorted_grammar.proofs.reaching.add_unseen.Goals as goal

pub loop-target-init : goal.loop-target-init
loop-target-init c = added_none _ _

pub bounds-seen-target : goal.bounds-seen-target
bounds-seen-target c =
    let within = c.requires _ (has_at c.args.targets.now c.loop-target.target-index 0 c.loop-target-test.true) in omega (arith, within, c.loop-target.invariant.long)

pub loop-target-preserved-then-seen-target : goal.loop-target-preserved-then-seen-target
loop-target-preserved-then-seen-target c =
    subst (λ xs. IsAdded xs c.args.seen.now c.loop-target.seen c.args.work.now.items c.loop-target.work.items)
    (sym (take_more c.args.targets.now c.loop-target.target-index 0 c.loop-target-test.true))
    (added_seen _ _ _ _ _ _ c.loop-target.invariant c.if-seen-target.true)

pub bounds-seen-target-in-loop-target : goal.bounds-seen-target-in-loop-target
bounds-seen-target-in-loop-target c =
    let within = c.requires _ (has_at c.args.targets.now c.loop-target.target-index 0 c.loop-target-test.true) in omega (arith, within, c.loop-target.invariant.long)

pub loop-target-preserved : goal.loop-target-preserved
loop-target-preserved c =
    let x = get_or c.args.targets.now c.loop-target.target-index 0 in
    let within = c.requires x (has_at c.args.targets.now c.loop-target.target-index 0 c.loop-target-test.true) in
    let inside : x < length c.loop-target.seen = omega (arith, within, c.loop-target.invariant.long) in
    subst (λ xs. IsAdded xs c.args.seen.now (set c.loop-target.seen x true) c.args.work.now.items c.push.new.self.items)
    (sym (take_more c.args.targets.now c.loop-target.target-index 0 c.loop-target-test.true))
    (subst (IsAdded (take c.loop-target.target-index c.args.targets.now ++ x ∷ []) c.args.seen.now (set c.loop-target.seen x true) c.args.work.now.items)
    (sym c.in_ok-push.ensures.items)
    (added_new _ _ _ _ _ x c.loop-target.invariant c.if-seen-target.false inside))
