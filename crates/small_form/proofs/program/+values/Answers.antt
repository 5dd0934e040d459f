use Rattle.std.proofs.Common.{sym, subst, IsTrue}
use Rattle.std.specs.List.{list_all}
use Rattle.small_form.specs.Small.{is_term}
use Rattle.small_form.proofs.Values.{term_of-Node}
use Rattle.small_form.proofs.Grounds.{ground_node, ground_parts}
use Rattle.small_form.proofs.program.+values.Goals as goal

pub value_of-returns-clause-term : goal.value_of-returns-clause-term
value_of-returns-clause-term t c =
    let parts = rw c.in-Some.is at c.in_ok-values.ensures.terms in
    rw (c.from_vec.ensures, term_of-Node c.in-Node.production c.in-Some.values.items, parts, c.as_slice.ensures) (sym c.in-Node.is)

pub value_of-returns-in_default : goal.value_of-returns-in_default
value_of-returns-in_default t c = record {
  term = tt;
  ground = λ productions holds. absurd (ground_node productions c.args.pattern.now holds c.in_default.not-Node);
}

pub value_of-returns-in_default-2-clause-ground : goal.value_of-returns-in_default-2-clause-ground
value_of-returns-in_default-2-clause-ground t c = λ productions holds.
    let parts = ground_parts productions c.args.pattern.now c.in-Node.production c.in-Node.parts holds c.in-Node.is in
    let some = c.in_ok-values.ensures.ground productions (subst (λ ps. IsTrue (list_all (is_term productions 0) ps)) (sym c.as_slice.ensures) parts) in
    rw c.in_default-2.is at some
