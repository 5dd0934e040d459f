use Rattle.std.proofs.Common.{◌≡◌, ◌<◌, length, vec_len, true≢false, arith, [], ◌∷◌, sym, ap, subst, ◌∙◌}
use Rattle.span_rows.specs.declared.sign.Sign.TheVariants.{Open}
use Rattle.span_table.specs.Codes.{code_of}
use Rattle.span_table.specs.ReadBack.{IsReadOn}
use Rattle.span_table.proofs.ReadingBack.{code_goes_on, code_ends, last_of_one}
use Rattle.span_table.proofs.codes.shape_of.Goals as goal

pub unreachable-requires : goal.unreachable-requires
unreachable-requires c =
    code_goes_on c.args.code.now c.loop-sign.sign-index Open c.loop-sign.parts c.loop-sign-test.true c.requires c.loop-sign.invariant
    (subst (IsReadOn _ c.loop-sign.parts) c.in_default.is c.in_ok-more.ensures)

pub unreachable-requires-in_default-pop : goal.unreachable-requires-in_default-pop
unreachable-requires-in_default-pop c =
    let items : c.into_vec.result.items ≡ c.requires.shape ∷ [] =
    c.into_vec.ensures ∙ code_ends c.args.code.now c.loop-sign.sign-index c.loop-sign.parts c.loop-sign-test.false c.requires c.loop-sign.invariant in
    let long : 0 < vec_len c.into_vec.result = omega (arith, ap length items, c.into_vec.result.ok.0) in
    true≢false (sym (c.in_default-pop.ensures.variant.1 long))

pub returns : goal.returns
returns c =
    let items = c.into_vec.ensures ∙ code_ends c.args.code.now c.loop-sign.sign-index c.loop-sign.parts c.loop-sign-test.false c.requires c.loop-sign.invariant in
    c.requires.is ∙ ap code_of (last_of_one c.pop.new.self.items c.requires.shape c.in-Some-pop.shape (sym items ∙ c.in-Some-pop.ensures.items))
