use Rattle.std.proofs.Common.{length, refl, sym, ◌∙◌}
use Rattle.std.proofs.lemmas.Option.{slice_get_read}
use Rattle.sorted_grammar.specs.Marks.{is_cyclic}
use Rattle.sorted_grammar.proofs.Turning.{none_further}
use Rattle.sorted_grammar.proofs.cycles.first_cyclic.Goals as goal

pub returns-then-branch : goal.returns-then-branch
returns-then-branch c = record {
  production = c.index-prods-place.result;
  is = slice_get_read c.args.prods.now (length c.args.prods.now) c.loop-place.place c.index-prods-place.result refl c.loop-place-test.true c.index-prods-place.is;
  passes = sym c.in_ok-is_cyclic.ensures ∙ c.if-branch.true;
  first = c.loop-place.invariant;
}

pub loop-place-preserved : goal.loop-place-preserved
loop-place-preserved c =
    none_further (is_cyclic c.args.row.now c.args.rows.now) c.args.prods.now c.loop-place.place c.index-prods-place.result
    (slice_get_read c.args.prods.now (length c.args.prods.now) c.loop-place.place c.index-prods-place.result refl c.loop-place-test.true c.index-prods-place.is)
    (sym c.in_ok-is_cyclic.ensures ∙ c.if-branch.false) c.loop-place.invariant
