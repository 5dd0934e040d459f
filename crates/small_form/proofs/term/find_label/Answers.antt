use Rattle.std.proofs.Common.{sym, ◌∙◌, ap, rules, below_more, ◌≡◌, true}
use Rattle.std.specs.Prelude.{Some, nat_eq}
use Rattle.std.specs.Cmp.Lexicographic.{bytes_decides, pointwise}
use Rattle.small_form.specs.Small.{at_number, labels_of}
use Rattle.small_form.proofs.Terms.{label_at}
use Rattle.small_form.proofs.Exact.{same_label}
use Rattle.small_form.proofs.term.find_label.Goals as goal

pub returns-then-eq-clause-label : goal.returns-then-eq-clause-label
returns-then-eq-clause-label c =
    label_at c.args.productions.now c.loop-i.i c.index-productions-i.result (search rules) c.index-productions-i.is
    ∙ sym c.as_slice.ensures ∙ (bytes_decides c.as_slice.result.now c.args.label.now).0 (sym c.if-eq.ensures)

pub returns-then-eq-clause-exact : goal.returns-then-eq-clause-exact
returns-then-eq-clause-exact c = λ i different within there.
    let here : at_number (labels_of c.args.productions.now) c.loop-i.i ≡ c.args.label.now =
    label_at c.args.productions.now c.loop-i.i c.index-productions-i.result (search rules) c.index-productions-i.is
    ∙ sym c.as_slice.ensures ∙ (bytes_decides c.as_slice.result.now c.args.label.now).0 (sym c.if-eq.ensures) in
    ap Some (same_label c.args.productions.now c.loop-i.i i c.args.label.now different (search rules) within here there)

pub loop-i-preserved : goal.loop-i-preserved
loop-i-preserved c = below_more (λ k. at_number (labels_of c.args.productions.now) k ≡ c.args.label.now → ⊥) c.loop-i.i c.loop-i.invariant
    (λ here.
    let label = label_at c.args.productions.now c.loop-i.i c.index-productions-i.result (search rules) c.index-productions-i.is in
    let same : pointwise nat_eq c.as_slice.result.now c.args.label.now ≡ true = (bytes_decides c.as_slice.result.now c.args.label.now).1 (c.as_slice.ensures ∙ sym label ∙ here) in
    let other = c.if-eq.ensures in
    cc)
