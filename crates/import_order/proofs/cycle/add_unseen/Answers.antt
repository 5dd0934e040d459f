use Rattle.std.proofs.Common.{arith, ◌<◌, ◌++◌, [], ◌∷◌, take, length, get_or, set, true, sym, subst}
use Rattle.std.proofs.lemmas.List.{take_more}
use Rattle.import_order.specs.Reaching.{IsAdded}
use Rattle.import_order.proofs.Members.{has_at}
use Rattle.import_order.proofs.Searching.{added_none, added_seen, added_new}
use Rattle.import_order.proofs.cycle.add_unseen.Goals as goal

pub loop-import-init : goal.loop-import-init
loop-import-init c = added_none _ _

pub bounds-seen-import : goal.bounds-seen-import
bounds-seen-import c =
    let within = c.requires _ (has_at c.args.imports.now c.loop-import.import-index 0 c.loop-import-test.true) in omega (arith, within, c.loop-import.invariant.long)

pub loop-import-preserved-then-seen-import : goal.loop-import-preserved-then-seen-import
loop-import-preserved-then-seen-import c =
    subst (λ xs. IsAdded xs c.args.seen.now c.loop-import.seen c.args.work.now.items c.loop-import.work.items)
    (sym (take_more c.args.imports.now c.loop-import.import-index 0 c.loop-import-test.true))
    (added_seen _ _ _ _ _ _ c.loop-import.invariant c.if-seen-import.true)

pub bounds-seen-import-in-loop-import : goal.bounds-seen-import-in-loop-import
bounds-seen-import-in-loop-import c =
    let within = c.requires _ (has_at c.args.imports.now c.loop-import.import-index 0 c.loop-import-test.true) in omega (arith, within, c.loop-import.invariant.long)

pub loop-import-preserved : goal.loop-import-preserved
loop-import-preserved c =
    let x = get_or c.args.imports.now c.loop-import.import-index 0 in
    let within = c.requires x (has_at c.args.imports.now c.loop-import.import-index 0 c.loop-import-test.true) in
    let inside : x < length c.loop-import.seen = omega (arith, within, c.loop-import.invariant.long) in
    subst (λ xs. IsAdded xs c.args.seen.now (set c.loop-import.seen x true) c.args.work.now.items c.push.new.self.items)
    (sym (take_more c.args.imports.now c.loop-import.import-index 0 c.loop-import-test.true))
    (subst (IsAdded (take c.loop-import.import-index c.args.imports.now ++ x ∷ []) c.args.seen.now (set c.loop-import.seen x true) c.args.work.now.items)
    (sym c.in_ok-push.ensures.items)
    (added_new _ _ _ _ _ x c.loop-import.invariant c.if-seen-import.false inside))
