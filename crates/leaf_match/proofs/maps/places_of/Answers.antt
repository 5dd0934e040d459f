use Rattle.std.proofs.Common.{take, ◌+◌, sym, ap, subst, ◌∙◌}
use Rattle.std.specs.Prelude.{Some}
use Rattle.rule_terms.specs.Numbers.{has_number}
use Rattle.leaf_match.specs.Maps.{IsKeyAt, ArePlaces}
use Rattle.leaf_match.proofs.Kept.{one_place}
use Rattle.leaf_match.proofs.KeyPlaces.{no_place, place_again, places_more}
use Rattle.leaf_match.proofs.maps.places_of.Goals as goal

pub returns-in-None : goal.returns-in-None
returns-in-None c =
    no_place c.args.entries.now c.args.keys.now c.loop-key.key-index c.key-item.result c.loop-key-test.true c.key-item.is
    (subst (IsKeyAt c.args.entries.now c.key-item.result) c.in-None.is c.place_of.ensures)

pub returns-then-has_place : goal.returns-then-has_place
returns-then-has_place c =
    place_again c.args.entries.now c.args.keys.now c.loop-key.key-index c.key-item.result c.loop-key.places.items c.in-Some.place c.loop-key-test.true c.key-item.is
    c.loop-key.invariant (subst (IsKeyAt c.args.entries.now c.key-item.result) c.in-Some.is c.place_of.ensures)
    (ap (λ ps. has_number ps c.in-Some.place) (sym c.deref.ensures.value) ∙ sym c.has_place.ensures ∙ c.if-has_place.true)

pub loop-key-preserved : goal.loop-key-preserved
loop-key-preserved c =
    subst (λ ps. ArePlaces c.args.entries.now (take (c.loop-key.key-index + 1) c.args.keys.now) (Some ps)) (sym c.in_ok-push.ensures.items)
    (places_more c.args.entries.now c.args.keys.now c.loop-key.key-index c.key-item.result c.loop-key.places.items c.in-Some.place c.loop-key-test.true c.key-item.is
    (λ i j e f one two same. one_place c.args.entries.now i j e f c.requires one two same)
    c.loop-key.invariant (subst (IsKeyAt c.args.entries.now c.key-item.result) c.in-Some.is c.place_of.ensures)
    (ap (λ ps. has_number ps c.in-Some.place) (sym c.deref.ensures.value) ∙ sym c.has_place.ensures ∙ c.if-has_place.false))
