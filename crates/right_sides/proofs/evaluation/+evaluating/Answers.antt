use Rattle.std.proofs.Common.{◌+◌, drop, sym, ap, ◌∙◌}
use Rattle.std.specs.Prelude.{Some}
use Rattle.rule_terms.specs.declared.pattern.Pattern.{Node as NodeP, Items as ItemsP, Seq as SeqP, Freezer as FreezerP, Apply}
use Rattle.rule_terms.specs.Options.{joined}
use Rattle.rule_terms.specs.Eval.{eval, eval_all}
use Rattle.leaf_match.specs.Bindings.{items_at, sequence_at}
use Rattle.right_sides.proofs.Lists.{each_next, each_stops}
use Rattle.right_sides.proofs.Expressions.{under_var, under_literal, under_node, under_items, under_sequence, under_freezer, under_operator}
use Rattle.right_sides.proofs.evaluation.+evaluating.Goals as goal
use Rattle.right_sides.proofs.evaluation.+evaluating.Goals.{evaluate-in-Var+in_ok-variable_value-in-Var, evaluate-in-Lit+in_ok-copy-in-Lit, evaluate-in-Node+in_ok-parts-in-Node, evaluate-in-Items+in_ok-front-in-Items+in_ok-back-in-Items+in_ok-joined-in-Items, evaluate-in-Seq+in_ok-front-in-Seq+in_ok-back-in-Seq+in_ok-joined-in-Seq, evaluate-in-Freezer+in_ok-parts-in-Freezer, evaluate-in-Apply+in_ok-arguments-in-Apply+in_ok-applied-in-Apply}

-- ---- a pattern

pub evaluate-returns : goal.evaluate-returns
evaluate-returns t c =
    elim c.match-pattern.branch [
      | evaluate-in-Var+in_ok-variable_value-in-Var w ↦ λ s seen.
          w.result-is ∙ under_var c.args.bindings.now c.args.pattern.now w.in-Var.var w.in_ok-variable_value-in-Var.field-0 w.in-Var.is w.in_ok-variable_value-in-Var.ensures s seen
      | evaluate-in-Lit+in_ok-copy-in-Lit w ↦ λ s seen.
          w.result-is ∙ ap Some w.in_ok-copy-in-Lit.ensures.ok ∙ under_literal c.args.bindings.now c.args.pattern.now w.in-Lit.value w.in-Lit.is s seen
      | evaluate-in-Node+in_ok-parts-in-Node w ↦ λ s seen.
          w.result-is ∙ w.node.ensures
          ∙ under_node c.args.bindings.now c.args.pattern.now w.in-Node.production w.as_slice.result.now w.in_ok-parts-in-Node.parts
          (w.in-Node.is ∙ ap (NodeP w.in-Node.production) (sym w.as_slice.ensures)) w.in_ok-parts-in-Node.ensures s seen
      | evaluate-in-Items+in_ok-front-in-Items+in_ok-back-in-Items+in_ok-joined-in-Items w ↦ λ s seen.
          w.result-is ∙ w.production_list.ensures ∙ ap (items_at w.in-Items.production) w.in_ok-joined-in-Items.ensures
          ∙ under_items c.args.bindings.now c.args.pattern.now w.in-Items.production w.as_slice-in-Items.result.now w.in-Items.rest w.in_ok-front-in-Items.front w.in_ok-back-in-Items.back
          (w.in-Items.is ∙ ap (λ ps. ItemsP w.in-Items.production ps w.in-Items.rest) (sym w.as_slice-in-Items.ensures)) w.in_ok-front-in-Items.ensures w.in_ok-back-in-Items.ensures s seen
      | evaluate-in-Seq+in_ok-front-in-Seq+in_ok-back-in-Seq+in_ok-joined-in-Seq w ↦ λ s seen.
          w.result-is ∙ w.sequence.ensures ∙ ap sequence_at w.in_ok-joined-in-Seq.ensures
          ∙ under_sequence c.args.bindings.now c.args.pattern.now w.as_slice-in-Seq.result.now w.in-Seq.rest w.in_ok-front-in-Seq.front w.in_ok-back-in-Seq.back
          (w.in-Seq.is ∙ ap (λ ps. SeqP ps w.in-Seq.rest) (sym w.as_slice-in-Seq.ensures)) w.in_ok-front-in-Seq.ensures w.in_ok-back-in-Seq.ensures s seen
      | evaluate-in-Freezer+in_ok-parts-in-Freezer w ↦ λ s seen.
          w.result-is ∙ w.freezer.ensures
          ∙ under_freezer c.args.bindings.now c.args.pattern.now w.in-Freezer.production w.in-Freezer.place w.as_slice-in-Freezer.result.now w.in_ok-parts-in-Freezer.parts
          (w.in-Freezer.is ∙ ap (FreezerP w.in-Freezer.production w.in-Freezer.place) (sym w.as_slice-in-Freezer.ensures)) w.in_ok-parts-in-Freezer.ensures s seen
      | evaluate-in-Apply+in_ok-arguments-in-Apply+in_ok-applied-in-Apply w ↦ λ s seen.
          w.result-is ∙ w.in_ok-applied-in-Apply.ensures
          ∙ under_operator c.args.bindings.now c.args.pattern.now w.in-Apply.op w.as_slice-in-Apply.result.now w.in_ok-arguments-in-Apply.arguments
          (w.in-Apply.is ∙ ap (Apply w.in-Apply.op) (sym w.as_slice-in-Apply.ensures)) w.in_ok-arguments-in-Apply.ensures s seen
    ]

-- ---- several

pub evaluate_all-returns-in_default : goal.evaluate_all-returns-in_default
evaluate_all-returns-in_default t c = λ s seen.
    each_stops (λ q. eval q s) c.args.patterns.now c.loop-pattern.pattern-index c.pattern-item.result c.loop-pattern.values.items (eval_all c.args.patterns.now s)
    c.loop-pattern-test.true c.pattern-item.is (sym c.in_default.is ∙ c.in_ok-value.ensures s seen) (c.loop-pattern.invariant s seen)

pub evaluate_all-loop-pattern-preserved : goal.evaluate_all-loop-pattern-preserved
evaluate_all-loop-pattern-preserved t c = λ s seen.
    each_next (λ q. eval q s) c.args.patterns.now c.loop-pattern.pattern-index c.pattern-item.result c.in-Some.value c.loop-pattern.values.items (eval_all c.args.patterns.now s)
    c.loop-pattern-test.true c.pattern-item.is (sym c.in-Some.is ∙ c.in_ok-value.ensures s seen) (c.loop-pattern.invariant s seen)
    ∙ ap (λ ys. joined (Some ys) (eval_all (drop (c.loop-pattern.pattern-index + 1) c.args.patterns.now) s)) (sym c.in_ok-push.ensures.items)
