use Rattle.std.proofs.Common.{rules, true, false, ◌≡◌, ◌++◌, [], ◌∷◌, IfOk, sym, ap, ◌∙◌, subst}
use Rattle.rule_parts.specs.Terms.{pattern_of, all_patterns, at_place, built, items_of, sorts_of}
use Rattle.rule_parts.proofs.Lists.{none_left}
use Rattle.rule_parts.proofs.TermLayers.{pattern-Leaf, pattern-Node, pattern-Items, patterns_more, no_patterns}
use Rattle.rule_parts.proofs.patterns.+patterning.Goals as goal

pub pattern_of-returns-in_ok-part-in-Leaf : goal.pattern_of-returns-in_ok-part-in-Leaf
pattern_of-returns-in_ok-part-in-Leaf t c =
    let g = c.args.grammar.now in
    let leaves = c.args.leaves.now in
    let vars = c.args.vars.now in
    subst (λ v. IfOk c.at_place.result (λ it. it ≡ v))
    (ap (at_place vars c.args.sort) c.in_ok-part-in-Leaf.ensures ∙ sym (ap (pattern_of g leaves vars c.args.sort) c.in-Leaf.is ∙ pattern-Leaf g leaves vars c.args.sort c.in-Leaf.at))
    c.at_place.ensures

pub pattern_of-returns-in_ok-parts-in-Node : goal.pattern_of-returns-in_ok-parts-in-Node
pattern_of-returns-in_ok-parts-in-Node t c =
    let g = c.args.grammar.now in
    let leaves = c.args.leaves.now in
    let vars = c.args.vars.now in
    let parts : c.from_vec.result ≡ all_patterns g leaves vars false (sorts_of g c.in-Node.prod) 0 c.in-Node.shapes =
    c.from_vec.ensures ∙ c.in_ok-parts-in-Node.ensures ∙ (λ i. all_patterns g leaves vars false (c.sorts_of-sorts.ensures i) 0 (c.as_slice.ensures i)) in
    subst (λ v. IfOk c.at_place-in-Node.result (λ it. it ≡ v))
    (ap (at_place vars c.args.sort) (c.built.ensures ∙ ap (built g c.in-Node.prod) parts)
    ∙ sym (ap (pattern_of g leaves vars c.args.sort) c.in-Node.is ∙ pattern-Node g leaves vars c.args.sort c.in-Node.prod c.in-Node.shapes))
    c.at_place-in-Node.ensures

pub pattern_of-returns-in_ok-rest-in-Items : goal.pattern_of-returns-in_ok-rest-in-Items
pattern_of-returns-in_ok-rest-in-Items t c =
    let g = c.args.grammar.now in
    let leaves = c.args.leaves.now in
    let vars = c.args.vars.now in
    let parts : c.in_ok-parts-in-Items.parts.items ≡ all_patterns g leaves vars true (sorts_of g c.in-Items.prod) 0 c.in-Items.shapes =
    c.in_ok-parts-in-Items.ensures ∙ (λ i. all_patterns g leaves vars true (c.sorts_of-sorts-in-Items.ensures i) 0 (c.as_slice-in-Items.ensures i)) in
    subst (λ v. IfOk c.at_place-in-Items.result (λ it. it ≡ v))
    (ap (at_place vars c.args.sort) (c.items_of.ensures ∙ (λ i. items_of vars c.in-Items.prod (parts i) (c.in_ok-rest-in-Items.ensures i)))
    ∙ sym (ap (pattern_of g leaves vars c.args.sort) c.in-Items.is ∙ pattern-Items g leaves vars c.args.sort c.in-Items.prod c.in-Items.shapes c.in-Items.rest))
    c.at_place-in-Items.ensures

pub patterns_of-loop-index-preserved : goal.patterns_of-loop-index-preserved
patterns_of-loop-index-preserved t c =
    patterns_more c.args.grammar.now c.args.leaves.now c.args.vars.now c.args.is_list c.args.sorts.now c.args.shapes.now
    c.loop-index.index c.index-shapes-index.result c.place_sort-sort.result c.loop-index.parts.items c.push.new.self.items _
    (search rules) c.index-shapes-index.is c.place_sort-sort.ensures
    (c.in_ok-push.ensures.items ∙ ap (λ part. c.loop-index.parts.items ++ part ∷ []) c.in_ok-pattern_of.ensures) c.loop-index.invariant

pub patterns_of-returns : goal.patterns_of-returns
patterns_of-returns t c =
    none_left (all_patterns c.args.grammar.now c.args.leaves.now c.args.vars.now c.args.is_list c.args.sorts.now c.loop-index.index)
    c.args.shapes.now c.loop-index.index c.loop-index.parts.items _
    (no_patterns c.args.grammar.now c.args.leaves.now c.args.vars.now c.args.is_list c.args.sorts.now c.loop-index.index)
    (search rules) c.loop-index.invariant
