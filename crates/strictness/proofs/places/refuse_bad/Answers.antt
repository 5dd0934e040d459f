use Rattle.std.proofs.Common.{◌≡◌, length, refl, subst, MatchOption}
use Rattle.std.specs.Prelude.{Some, slice_get}
use Rattle.std.proofs.lemmas.Option.{slice_get_read}
use Rattle.strictness.specs.Places.{is_bad, IsLeast, NonePasses}
use Rattle.strictness.proofs.Searching.{good_further, all_good, told}
use Rattle.strictness.proofs.places.refuse_bad.Goals as goal

pub returns-in-Some : goal.returns-in-Some
returns-in-Some c =
    let prods = c.args.prods.now in
    let production = c.index-prods-index.result in
    let at : slice_get prods c.loop-index.index ≡ Some production =
    slice_get_read prods (length prods) c.loop-index.index production refl c.loop-index-test.true c.index-prods-index.is in
    told prods c.loop-index.index c.in-Some.place production c.bad_strict.result at
    (subst (λ o. MatchOption o (NonePasses (is_bad production)) (IsLeast (is_bad production))) c.in-Some.is c.in_ok-place.ensures) c.loop-index.invariant c.bad_strict.ensures

pub loop-index-preserved : goal.loop-index-preserved
loop-index-preserved c =
    let prods = c.args.prods.now in
    let production = c.index-prods-index.result in
    let at : slice_get prods c.loop-index.index ≡ Some production =
    slice_get_read prods (length prods) c.loop-index.index production refl c.loop-index-test.true c.index-prods-index.is in
    good_further prods c.loop-index.index production at
    (subst (λ o. MatchOption o (NonePasses (is_bad production)) (IsLeast (is_bad production))) c.in_default.is c.in_ok-place.ensures) c.loop-index.invariant

pub returns : goal.returns
returns c = all_good c.args.prods.now c.loop-index.index c.loop-index-test.false c.loop-index.invariant
