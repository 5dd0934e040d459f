use Rattle.std.proofs.Common.{arith, ap, ◌∙◌, ◌+◌}
use Rattle.std.specs.Prelude.{if◌then◌else◌}
use Rattle.cell_tokens.proofs.Runs.{stops_past, goes_on, token_at}
use Rattle.cell_tokens.proofs.first.further_size.Goals as goal

pub returns-then-token-first-clause-size : goal.returns-then-token-first-clause-size
returns-then-token-first-clause-size c =
    stops_past c.args.terminals.now c.args.text.now c.args.first c.greatest-most.result c.greatest-most.ensures c.requires.stand c.requires.whole
    c.loop-place.size c.loop-place.place c.loop-place.end _ c.args.rest.now _ c.requires.rest c.loop-place-test.true c.if-token-end.false c.loop-place.invariant.past c.if-token-first.true
    c.loop-place.invariant.sofar

pub loop-place-preserved : goal.loop-place-preserved
loop-place-preserved c =
    let stands = token_at c.args.text.now c.args.rest.now _ c.loop-place.place c.requires.rest c.loop-place-test.true in
    let fewer = c.size_with-size.ensures.fewer c.loop-place.invariant.fewer in
    record {
      sofar = goes_on c.args.terminals.now c.args.text.now c.args.first c.greatest-most.result c.greatest-most.ensures c.requires.stand c.requires.whole
          c.loop-place.size c.loop-place.place c.loop-place.end _ c.size_with-size.result c.args.rest.now _ c.loop-place-test.true c.if-token-end.false c.loop-place.invariant.sofar
          (c.size_with-size.ensures.size ∙ ap (λ b. if b then c.loop-place.place + 1 else c.loop-place.size) c.has.ensures);
      past = omega (arith, c.if-token-end.false, stands.order);
      inside = stands.within;
      fewer = fewer;
    }
