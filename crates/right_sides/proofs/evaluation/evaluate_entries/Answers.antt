use Rattle.std.proofs.Common.{◌+◌, drop, sym, ap, ◌∙◌}
use Rattle.std.specs.Prelude.{Some}
use Rattle.rule_terms.specs.Options.{joined}
use Rattle.rule_terms.specs.Eval.{eval_entry, eval_entries}
use Rattle.right_sides.proofs.Lists.{each_next}
use Rattle.right_sides.proofs.evaluation.evaluate_entries.Goals as goal

pub loop-entry-preserved : goal.loop-entry-preserved
loop-entry-preserved c = λ s seen.
    each_next (λ e. eval_entry e s) c.args.entries.now c.loop-entry.entry-index c.entry-item.result c.in-Some.value c.loop-entry.values.items (eval_entries c.args.entries.now s)
    c.loop-entry-test.true c.entry-item.is (sym c.in-Some.is ∙ c.in_ok-value.ensures s seen) (c.loop-entry.invariant s seen)
    ∙ ap (λ ys. joined (Some ys) (eval_entries (drop (c.loop-entry.entry-index + 1) c.args.entries.now) s)) (sym c.in_ok-push.ensures.items)
