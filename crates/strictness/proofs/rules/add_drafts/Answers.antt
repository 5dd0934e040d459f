use Rattle.std.proofs.Common.{◌≡◌, ◌+◌, ap, sym, ◌∙◌, arith}
use Rattle.grammar_terms.specs.Values.{sorts_in}
use Rattle.strictness.specs.Places.{is_named}
use Rattle.strictness.proofs.Ranges.{place_strict, place_lazy, named_here}
use Rattle.strictness.proofs.rules.add_drafts.Goals as goal
use Rattle.strictness.proofs.rules.add_drafts.Goals.{then-is_named+in_ok-add_pair, else-is_named}

pub loop-index-preserved : goal.loop-index-preserved
loop-index-preserved c =
    let production = c.args.production.now in
    let here : c.is_named.result ≡ is_named production (c.loop-index.index + 1) =
    named_here production c.in_ok-named.named.items c.in_ok-sorts.sorts.items c.deref.result.now (c.loop-index.index + 1) c.len.result c.is_named.result c.is_named.ensures
    c.deref.ensures.value c.in_ok-named.ensures (omega (arith, c.len.ensures, c.in_ok-sorts.sorts.ok.0)) (c.in_ok-sorts.ensures ∙ ap sorts_in c.as_slice.ensures) in
    elim c.if-is_named.branch [
      | then-is_named+in_ok-add_pair w ↦
          place_strict c.args.cell c.args.prod production c.loop-index.index c.if-is_named.drafts.items c.loop-index.drafts.items c.args.drafts.now.items c.loop-index.invariant
          (sym here ∙ w.if-is_named.true) (ap (λ drafts. drafts.items) w.drafts-is ∙ w.in_ok-add_pair.ensures)
      | else-is_named w ↦
          place_lazy c.args.cell c.args.prod production c.loop-index.index c.if-is_named.drafts.items c.loop-index.drafts.items c.args.drafts.now.items c.loop-index.invariant
          (sym here ∙ w.if-is_named.false) (ap (λ drafts. drafts.items) w.drafts-is)
    ]
