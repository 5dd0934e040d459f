use Rattle.std.proofs.Common.{rules, true, false, ◌≡◌, ◌++◌, IfOk, sym, ap, ◌∙◌, subst}
use Rattle.rule_parts.specs.Terms.{occurrences, all_occurrences, rest_occurrence, place_sort, is_sequence, sorts_of}
use Rattle.rule_parts.proofs.Lists.{none_left}
use Rattle.rule_parts.proofs.TermLayers.{occurrences-Leaf, occurrences-Node, occurrences-Items, occurrences_more, no_occurrences, added_twice}
use Rattle.rule_parts.proofs.terms.+occurring.Goals as goal

pub add_term-returns-in-Leaf : goal.add_term-returns-in-Leaf
add_term-returns-in-Leaf t c =
    subst (λ v. IfOk c.add_leaf.result (λ _. c.add_leaf.new.found.items ≡ c.args.found.now.items ++ v))
    (sym (ap (occurrences c.args.grammar.now c.args.leaves.now c.args.is_left c.args.sort c.args.whole) c.in-Leaf.is
    ∙ occurrences-Leaf c.args.grammar.now c.args.leaves.now c.args.is_left c.args.sort c.args.whole c.in-Leaf.at))
    c.add_leaf.ensures

pub add_term-returns-in-Node : goal.add_term-returns-in-Node
add_term-returns-in-Node t c =
    subst (λ v. IfOk c.add_terms.result (λ _. c.add_terms.new.found.items ≡ c.args.found.now.items ++ v))
    ((λ i. all_occurrences c.args.grammar.now c.args.leaves.now c.args.is_left false false (c.sorts_of-sorts.ensures i) 0 (c.as_slice.ensures i))
    ∙ sym (ap (occurrences c.args.grammar.now c.args.leaves.now c.args.is_left c.args.sort c.args.whole) c.in-Node.is
    ∙ occurrences-Node c.args.grammar.now c.args.leaves.now c.args.is_left c.args.sort c.args.whole c.in-Node.prod c.in-Node.shapes))
    c.add_terms.ensures

pub add_term-returns-in_ok-add_terms-in-Items : goal.add_term-returns-in_ok-add_terms-in-Items
add_term-returns-in_ok-add_terms-in-Items t c =
    let g = c.args.grammar.now in
    let leaves = c.args.leaves.now in
    let is_left = c.args.is_left in
    let front = all_occurrences g leaves is_left true (is_sequence c.in-Items.prod) c.sorts_of-sorts-in-Items.result.now 0 c.as_slice-in-Items.result.now in
    let back = rest_occurrence leaves is_left c.place_sort.result c.in-Items.rest in
    let parts : front ++ back ≡ all_occurrences g leaves is_left true (is_sequence c.in-Items.prod) (sorts_of g c.in-Items.prod) 0 c.in-Items.shapes
    ++ rest_occurrence leaves is_left (place_sort true (sorts_of g c.in-Items.prod) 0) c.in-Items.rest =
    (λ i. all_occurrences g leaves is_left true (is_sequence c.in-Items.prod) (c.sorts_of-sorts-in-Items.ensures i) 0 (c.as_slice-in-Items.ensures i)
    ++ rest_occurrence leaves is_left ((c.place_sort.ensures ∙ ap (λ sorts. place_sort true sorts 0) c.sorts_of-sorts-in-Items.ensures) i) c.in-Items.rest) in
    let whole : front ++ back ≡ occurrences g leaves is_left c.args.sort c.args.whole c.args.shape.now =
    parts ∙ sym (ap (occurrences g leaves is_left c.args.sort c.args.whole) c.in-Items.is
    ∙ occurrences-Items g leaves is_left c.args.sort c.args.whole c.in-Items.prod c.in-Items.shapes c.in-Items.rest) in
    subst (λ v. IfOk c.add_rest.result (λ _. c.add_rest.new.found.items ≡ v))
    (added_twice c.args.found.now.items c.add_terms-in-Items.new.found.items front back c.in_ok-add_terms-in-Items.ensures ∙ ap (λ v. c.args.found.now.items ++ v) whole)
    c.add_rest.ensures

pub add_terms-loop-index-preserved : goal.add_terms-loop-index-preserved
add_terms-loop-index-preserved t c =
    occurrences_more c.args.grammar.now c.args.leaves.now c.args.is_left c.args.is_list c.args.is_sequence c.args.sorts.now c.args.shapes.now
    c.loop-index.index c.index-shapes-index.result c.place_sort-sort.result _ c.takes_sequence-whole.result
    c.loop-index.found.items c.add_term.new.found.items _ (search rules) c.index-shapes-index.is c.place_sort-sort.ensures (search rules) c.takes_sequence-whole.ensures
    c.in_ok-add_term.ensures c.loop-index.invariant

pub add_terms-returns : goal.add_terms-returns
add_terms-returns t c =
    none_left (all_occurrences c.args.grammar.now c.args.leaves.now c.args.is_left c.args.is_list c.args.is_sequence c.args.sorts.now c.loop-index.index)
    c.args.shapes.now c.loop-index.index c.loop-index.found.items _
    (no_occurrences c.args.grammar.now c.args.leaves.now c.args.is_left c.args.is_list c.args.is_sequence c.args.sorts.now c.loop-index.index)
    (search rules) c.loop-index.invariant
