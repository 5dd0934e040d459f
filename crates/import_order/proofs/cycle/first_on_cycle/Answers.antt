use Rattle.std.proofs.Common.{arith, false, length, ◌≤◌, ◌≡◌, ℕ, true, Option, Some, None, Vec, Global, MatchOption, sym, subst, ◌∙◌}
use Rattle.std.specs.Option.{is_some}
use Rattle.import_order.specs.Imports.{Has, LeadsToCycle}
use Rattle.import_order.specs.Order.{IsOrder}
use Rattle.import_order.proofs.Sequences.{no_cycle_of, none_below}
use Rattle.import_order.proofs.cycle.first_on_cycle.Goals as goal

-- what is said of a value that was found
found_of : {X : Type 0} (P : X → Type 0) (Q : Type 0) (found : Option X) → MatchOption found Q P → is_some found ≡ true → (x : X) × P x
found_of P Q None told is = absurd (cc)
found_of P Q (Some x) told is = (x, told)

-- what is said where none was found
none_found : {X : Type 0} (P : X → Type 0) (Q : Type 0) (found : Option X) → MatchOption found Q P → is_some found ≡ false → Q
none_found P Q None told is = told
none_found P Q (Some x) told is = absurd (cc)

pub returns-then-is_some : goal.returns-then-is_some
returns-then-is_some c =
    let graph = c.args.graph.now in
    let all = c.deref.result.now in
    let found =
    found_of (λ (order : Vec ℕ Global). IsOrder graph all order.items) (LeadsToCycle graph all) c.in_ok-order.field-0 c.in_ok-order.ensures (sym c.is_some.ensures ∙ c.if-is_some.true) in
    no_cycle_of graph all found.0.items (λ m below. subst (λ l. Has l m) (sym c.deref.ensures.value) ((c.in_ok-all.ensures m).1 below)) found.1

pub unreachable-requires : goal.unreachable-requires
unreachable-requires c =
    let graph = c.args.graph.now in
    let all = c.deref.result.now in
    let some =
    none_found (λ (order : Vec ℕ Global). IsOrder graph all order.items) (LeadsToCycle graph all) c.in_ok-order.field-0 c.in_ok-order.ensures (sym c.is_some.ensures ∙ c.if-is_some.false) in
    let over : length graph ≤ c.loop-number.number = c.loop-number-test.false in
    none_below graph all some (λ m below. c.loop-number.invariant m (omega (arith, below, over)))
