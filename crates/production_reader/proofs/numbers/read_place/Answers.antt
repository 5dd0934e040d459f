use Rattle.production_reader.proofs.PlaceReading.{no_place, great_place, some_place}
use Rattle.production_reader.proofs.numbers.read_place.Goals as goal

pub returns-in_default : goal.returns-in_default
returns-in_default c = no_place c.args.source.now c.args.from c.requires c.in_default.ensures

pub returns-in_default-place_of : goal.returns-in_default-place_of
returns-in_default-place_of c = great_place c.args.source.now c.args.from c.in-Some.digits.now c.requires c.in-Some.ensures.0 c.in_default-place_of.ensures

pub returns : goal.returns
returns c =
    some_place c.args.source.now c.args.from c.in-Some.digits.now c.in-Some-place_of.number c.in-Some.ensures.0 c.in-Some-place_of.ensures.1 c.in-Some-place_of.ensures.0
