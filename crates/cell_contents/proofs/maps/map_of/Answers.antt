use Rattle.std.proofs.Common.{◌≡◌, length, Some, sym, ap, ◌∙◌, arith}
use Rattle.std.specs.Prelude.{is_some}
use Rattle.std.specs.FinMap.{find}
use Rattle.k_terms.specs.Value.{value_cmp}
use Rattle.cell_contents.proofs.Behind.{no_length}
use Rattle.cell_contents.proofs.Entering.{left_first, left_odd, left_twice, left_more, left_end}
use Rattle.cell_contents.proofs.maps.map_of.Goals as goal

pub loop-value-init : goal.loop-value-init
loop-value-init c =
    left_first c.args.values c.into_vec-values.result.items c.new-entries.result.items c.into_vec-values.ensures c.new-entries.ensures.items

pub returns-in_default-pop : goal.returns-in_default-pop
returns-in_default-pop c = λ pairs is.
    let size = c.pop.new.self.ok.0 in
    let zero = c.in_default-pop.ensures.cases.0 in
    let none : length c.pop.new.self.items ≡ 0 = omega (arith, size, zero) in
    absurd (left_odd c.args.values c.loop-value.values.items c.pop.new.self.items c.loop-value.entries.items c.in-Some.value
    c.loop-value.invariant c.in-Some.ensures.items (no_length c.pop.new.self.items none) pairs is)

pub returns-then-has_key : goal.returns-then-has_key
returns-then-has_key c = λ pairs is.
    left_twice c.args.values c.loop-value.values.items c.pop.new.self.items c.pop-in-Some.new.self.items c.loop-value.entries.items c.in-Some-pop.key c.in-Some.value
    c.loop-value.invariant c.in-Some.ensures.items c.in-Some-pop.ensures.items
    (ap (λ es. is_some (find value_cmp c.in-Some-pop.key es)) (sym c.deref.ensures.value) ∙ sym c.has_key.ensures ∙ c.if-has_key.true) pairs is

pub loop-value-preserved : goal.loop-value-preserved
loop-value-preserved c =
    left_more c.args.values c.loop-value.values.items c.pop.new.self.items c.pop-in-Some.new.self.items c.loop-value.entries.items _ c.in-Some-pop.key c.in-Some.value
    c.loop-value.invariant c.in-Some.ensures.items c.in-Some-pop.ensures.items
    (ap (λ es. is_some (find value_cmp c.in-Some-pop.key es)) (sym c.deref.ensures.value) ∙ sym c.has_key.ensures ∙ c.if-has_key.false) c.in_ok-put.ensures

pub returns : goal.returns
returns c = λ pairs is.
    let size = c.loop-value.values.ok.0 in
    let zero = c.in_default.ensures.cases.0 in
    let none : length c.loop-value.values.items ≡ 0 = omega (arith, size, zero) in
    ap Some c.from_vec.ensures
    ∙ left_end c.args.values c.loop-value.values.items c.loop-value.entries.items c.loop-value.invariant (no_length c.loop-value.values.items none) pairs is
