use Rattle.std.proofs.Common.{rules, arith, ◌<◌, length, subst, sym}
use Rattle.std.proofs.lemmas.Option.{slice_get_within}
use Rattle.import_order.specs.Imports.{AreWithin}
use Rattle.sorted_grammar.specs.Marks.{AreReached, IsFirstAt, is_cyclic}
use Rattle.sorted_grammar.proofs.Turning.{are_within, none_cyclic, first_cyclic, none_moved, first_moved}
use Rattle.sorted_grammar.proofs.cycles.refuse_cyclic_production.Goals.{In-Some}
use Rattle.sorted_grammar.proofs.cycles.refuse_cyclic_production.Goals as goal

the_first : (c : In-Some) → IsFirstAt (is_cyclic c.in_ok-row.row.items c.in_ok-rows.rows.items) c.args.grammar.now.prods c.in-Some.place
the_first c = first_moved c.deref-3.ensures.value c.deref-4.ensures.value c.prods.ensures c.in-Some.place (rw c.in-Some.is at c.in_ok-place.ensures)

pub reached_rows-requires : goal.reached_rows-requires
reached_rows-requires c = subst AreWithin (sym c.deref-2.ensures.value) (are_within c.args.grammar.now c.requires.inside c.in_ok-graph.graph.items c.in_ok-graph.ensures)

pub returns-in_default : goal.returns-in_default
returns-in_default c =
    none_cyclic c.args.grammar.now c.requires.inside c.in_ok-graph.graph.items c.in_ok-graph.ensures c.in_ok-rows.rows.items
    (subst (λ graph. AreReached graph c.in_ok-rows.rows.items) c.deref-2.ensures.value c.in_ok-rows.ensures) c.in_ok-row.row.items c.in_ok-row.ensures
    (none_moved c.deref-3.ensures.value c.deref-4.ensures.value c.prods.ensures (rw c.in_default.is at c.in_ok-place.ensures))

pub overflow_cast-result : goal.overflow_cast-result
overflow_cast-result c =
    let first = the_first c in
    let within : c.in-Some.place < length c.args.grammar.now.prods = slice_get_within c.args.grammar.now.prods c.in-Some.place first.production first.is in
    let small : c.in-Some.place < 1024 = omega (arith, within, c.requires.few) in
    search rules

pub overflow_add-result : goal.overflow_add-result
overflow_add-result c =
    let first = the_first c in
    let within : c.in-Some.place < length c.args.grammar.now.prods = slice_get_within c.args.grammar.now.prods c.in-Some.place first.production first.is in
    let small : c.in-Some.place < 1024 = omega (arith, within, c.requires.few) in
    search rules

pub returns : goal.returns
returns c =
    first_cyclic c.args.grammar.now c.requires.inside c.in_ok-graph.graph.items c.in_ok-graph.ensures c.in_ok-rows.rows.items
    (subst (λ graph. AreReached graph c.in_ok-rows.rows.items) c.deref-2.ensures.value c.in_ok-rows.ensures) c.in_ok-row.row.items c.in_ok-row.ensures c.in-Some.place
    (the_first (goal.at.returns c).In-Some)
