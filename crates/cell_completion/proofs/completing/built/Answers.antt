use Rattle.std.proofs.Common.{◌≡◌, ℕ, suc, ◌-◌, ◌<◌, false, drop, length, sym, ap, ◌∙◌, arith}
use Rattle.std.specs.Prelude.{None, get_or}
use Rattle.std.specs.Option.{option_map, option_and_then}
use Rattle.std.proofs.lemmas.List.Elements.{Contains-get_or}
use Rattle.cell_completion.specs.declared.tree.Written.{Written}
use Rattle.cell_completion.specs.Building.{with_cell, built}
use Rattle.cell_completion.proofs.Stages.{built_step, built_none}
use Rattle.cell_completion.proofs.completing.built.Goals as goal

abbrev nothing : Written
nothing = record { mark = 0; cell = 0; above = None; both = false }

pub with_cell-requires-clause-declared : goal.with_cell-requires-clause-declared
with_cell-requires-clause-declared c =
    let within = c.loop-place.auto.place in
    let some = c.loop-place-test.true in
    let less : c.loop-place.place - 1 < length c.args.written.now = omega (arith, within, some) in
    c.requires.declared (get_or c.args.written.now (c.loop-place.place - 1) nothing) (Contains-get_or c.args.written.now (c.loop-place.place - 1) nothing less)

pub returns-in-None : goal.returns-in-None
returns-in-None c =
    let within = c.loop-place.auto.place in
    let some = c.loop-place-test.true in
    let less : c.loop-place.place - 1 < length c.args.written.now = omega (arith, within, some) in
    let next : suc (c.loop-place.place - 1) ≡ c.loop-place.place = omega (arith, some) in
    let w = get_or c.args.written.now (c.loop-place.place - 1) nothing in
    sym (built_none c.args.shapes.now c.args.written.now (c.loop-place.place - 1)
    (built_step c.args.shapes.now c.args.written.now (c.loop-place.place - 1) nothing less
    ∙ ap (option_and_then (with_cell c.args.shapes.now (get_or c.args.written.now (c.loop-place.place - 1) nothing)))
    (ap (λ (n : ℕ). built c.args.shapes.now (drop n c.args.written.now)) next ∙ c.loop-place.invariant)
    ∙ sym c.in_ok-new.ensures ∙ ap (option_map (λ v. v.items)) c.in-None.is))
