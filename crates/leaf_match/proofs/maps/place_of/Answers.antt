use Rattle.std.proofs.Common.{length, refl, sym, ap, ◌∙◌}
use Rattle.std.specs.Prelude.{Some}
use Rattle.std.proofs.lemmas.Option.{slice_get_read}
use Rattle.leaf_match.proofs.maps.place_of.Goals as goal

pub returns-then-equal : goal.returns-then-equal
returns-then-equal c =
    let entry = c.index-entries-place.result in (
      entry.1,
      slice_get_read c.args.entries.now (length c.args.entries.now) c.loop-place.place entry refl c.loop-place-test.true c.index-entries-place.is
          ∙ ap (λ k. Some (k, entry.1)) (sym (c.equal.ensures.same.0 c.if-equal.true)),
    )
