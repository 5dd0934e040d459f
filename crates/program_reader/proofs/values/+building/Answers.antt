use Rattle.std.proofs.Common.{◌≡◌, ◌∷◌, ◌++◌, [], IfOk, sym, ap, ◌∙◌, subst}
use Rattle.k_terms.specs.declared.value.Value.{Node as NodeV}
use Rattle.grammar_terms.specs.Values.{at_sort, list_value, value_of, values_by, elements_by, first_or_item}
use Rattle.grammar_terms.proofs.ShapeValues.{value-Node, value-Items}
use Rattle.program_reader.proofs.Valuing.{value-Leaf, values_more, no_values, first_is}
use Rattle.program_reader.proofs.values.+building.Goals as goal

pub value-returns-in_ok-literal-in-Leaf : goal.value-returns-in_ok-literal-in-Leaf
value-returns-in_ok-literal-in-Leaf t c =
    subst (λ v. IfOk c.at_sort.result (λ it. it ≡ v))
    (ap (at_sort c.args.sort) c.in_ok-literal-in-Leaf.ensures
    ∙ sym (ap (value_of c.args.grammar.now.prods c.args.words.now c.args.sort) c.in-Leaf.is ∙ value-Leaf c.args.grammar.now.prods c.args.words.now c.args.sort c.in-Leaf.at))
    c.at_sort.ensures

pub value-returns-in_ok-values-in-Node : goal.value-returns-in_ok-values-in-Node
value-returns-in_ok-values-in-Node t c =
    subst (λ v. IfOk c.at_sort-in-Node.result (λ it. it ≡ v))
    (ap (λ vs. at_sort c.args.sort (NodeV c.in-Node.prod vs))
    (c.in_ok-values-in-Node.ensures
    ∙ (λ i. values_by c.args.grammar.now.prods c.args.words.now ((c.deref.ensures.value ∙ c.in_ok-sorts-in-Node.ensures) i) (c.as_slice.ensures i)))
    ∙ sym (ap (value_of c.args.grammar.now.prods c.args.words.now c.args.sort) c.in-Node.is
    ∙ value-Node c.args.grammar.now.prods c.args.words.now c.args.sort c.in-Node.prod c.in-Node.shapes))
    c.at_sort-in-Node.ensures

pub value-returns-in_ok-values-in-Items : goal.value-returns-in_ok-values-in-Items
value-returns-in_ok-values-in-Items t c =
    subst (λ v. IfOk c.list_value.result (λ it. it ≡ v))
    (ap (list_value c.args.sort c.in-Items.prod)
    (c.in_ok-values-in-Items.ensures
    ∙ (λ i. elements_by c.args.grammar.now.prods c.args.words.now
    ((c.sort_at-element.ensures ∙ first_is c.deref-in-Items.result.now ∙ ap first_or_item (c.deref-in-Items.ensures.value ∙ c.in_ok-sorts-in-Items.ensures)) i)
    (c.as_slice-in-Items.ensures i)))
    ∙ sym (ap (value_of c.args.grammar.now.prods c.args.words.now c.args.sort) c.in-Items.is
    ∙ value-Items c.args.grammar.now.prods c.args.words.now c.args.sort c.in-Items.prod c.in-Items.shapes c.in-Items.field-2))
    c.list_value.ensures

pub values-loop-index-init : goal.values-loop-index-init
values-loop-index-init t c = c.in_ok-values.ensures.items ∙ no_values c.args.grammar.now.prods c.args.words.now c.args.sorts.now

pub values-loop-index-preserved : goal.values-loop-index-preserved
values-loop-index-preserved t c =
    c.in_ok-push.ensures.items
    ∙ (λ i. c.loop-index.invariant i
    ++ (c.in_ok-value.ensures
    ∙ (λ j. value_of c.args.grammar.now.prods c.args.words.now (c.sort_at-sort.ensures j) (c.index-shapes-index.is j))) i ∷ [])
    ∙ sym (values_more c.args.grammar.now.prods c.args.words.now c.args.sorts.now c.args.shapes.now c.loop-index.index c.index-shapes-index.result c.loop-index-test.true)
