use Rattle.std.proofs.Common.{sym, ap, ◌∙◌, refl}
use Rattle.k_terms.specs.declared.value.Content.TheVariants.{Seq as SeqContent, List as ListContent, One as OneContent}
use Rattle.k_terms.specs.Operators.{as_members}
use Rattle.rule_terms.specs.declared.pattern.Body.{Seq, List as Listed}
use Rattle.rule_terms.specs.Options.{joined}
use Rattle.rule_terms.specs.Substitution.{rest_of, as_sequence}
use Rattle.rule_terms.specs.Eval.{eval, eval_all}
use Rattle.rule_terms.specs.Fill.{content_of}
use Rattle.leaf_match.proofs.ToldBodies.{told_content, sequences_differ, lists_differ, values_differ}
use Rattle.leaf_match.proofs.bodies.match_leaf.Goals as goal

pub returns-in_ok-found-in-Seq-Seq-clause-tells : goal.returns-in_ok-found-in-Seq-Seq-clause-tells
returns-in_ok-found-in-Seq-Seq-clause-tells c = λ _.
    told_content c.args.variables.now.sorts.now c.args.variables.now.vars.now SeqContent sequences_differ c.in_ok-found-in-Seq-Seq.found c.args.bindings.now c.match_sequence.new.bindings
    (λ s. joined (eval_all c.as_slice.result.now s) (rest_of as_sequence c.in-Seq-Seq.rest s)) c.in-Seq-Seq.values c.as_slice-in-Seq-Seq.result.now c.args.body.now c.args.content.now
    (λ s. ap (λ b. content_of b s) (c.in-Seq-Seq.is-0 ∙ ap (λ ps. Seq ps c.in-Seq-Seq.rest) (sym c.as_slice.ensures))) c.in-Seq-Seq.is-1 c.as_slice-in-Seq-Seq.ensures
    c.in_ok-found-in-Seq-Seq.ensures.tells

pub returns-in_ok-found-in-List-List-clause-tells : goal.returns-in_ok-found-in-List-List-clause-tells
returns-in_ok-found-in-List-List-clause-tells c = λ _.
    told_content c.args.variables.now.sorts.now c.args.variables.now.vars.now ListContent lists_differ c.in_ok-found-in-List-List.found c.args.bindings.now c.match_list.new.bindings
    (λ s. joined (joined (eval_all c.as_slice-before.result.now s) (rest_of as_members c.in-List-List.rest s)) (eval_all c.as_slice-after.result.now s))
    c.in-List-List.values c.as_slice-in-List-List.result.now c.args.body.now c.args.content.now
    (λ s. ap (λ b. content_of b s) (c.in-List-List.is-0 ∙ ap (λ ps. Listed ps c.in-List-List.rest c.in-List-List.after) (sym c.as_slice-before.ensures)
    ∙ ap (λ ps. Listed c.as_slice-before.result.now c.in-List-List.rest ps) (sym c.as_slice-after.ensures))) c.in-List-List.is-1 c.as_slice-in-List-List.ensures
    c.in_ok-found-in-List-List.ensures.tells

pub returns-in_ok-found-in-One-One-clause-tells : goal.returns-in_ok-found-in-One-One-clause-tells
returns-in_ok-found-in-One-One-clause-tells c = λ _.
    told_content c.args.variables.now.sorts.now c.args.variables.now.vars.now OneContent values_differ c.in_ok-found-in-One-One.found c.args.bindings.now c.match_value.new.bindings
    (λ s. eval c.in-One-One.pattern s) c.in-One-One.value c.in-One-One.value c.args.body.now c.args.content.now
    (λ s. ap (λ b. content_of b s) c.in-One-One.is-0) c.in-One-One.is-1 refl
    c.in_ok-found-in-One-One.ensures.tells
