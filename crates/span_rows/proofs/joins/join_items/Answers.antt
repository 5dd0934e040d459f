use Rattle.std.proofs.Common.{refl, subst}
use Rattle.span_rows.specs.Rows.{IsMade, Extends}
use Rattle.span_rows.specs.Slots.{IsSlotOf}
use Rattle.span_rows.specs.Steps.{count_after}
use Rattle.span_rows.proofs.Adding.{adds_none}
use Rattle.span_rows.proofs.joins.join_items.Goals as goal

pub returns-in_default : goal.returns-in_default
returns-in_default c =
    adds_none (IsMade (Extends c.args.grammar.now c.args.front.now) c.args.children.now) c.args.rows.now.items
    (λ x made. let e = made.makes in
    subst (IsSlotOf c.args.grammar.now c.args.front.now.key) c.in_default.is c.in_ok-slot.ensures
    (record { prod = e.p; count = e.count; after = count_after e.production e.count; held = e.held; sort = e.sort })
    (record { production = e.production; key_is = e.front_is; is_there = e.is_there; wanted = e.wanted; after_is = refl }))
