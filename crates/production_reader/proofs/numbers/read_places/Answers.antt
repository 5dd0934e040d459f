use Rattle.std.proofs.Common.{sym}
use Rattle.production_reader.proofs.PlaceReading.{places_begin, places_stop, places_go, places_end}
use Rattle.production_reader.proofs.numbers.read_places.Goals as goal

pub places-init : goal.places-init
places-init c = places_begin c.args.source.now c.args.from c.new-found.result c.new-found.ensures c.requires

pub returns-in-Err : goal.returns-in-Err
returns-in-Err c = places_stop c.args.source.now c.args.from c.places.found c.places.at c.places.invariant c.in-Err.stop c.in-Err.ensures

pub returns-then-not-is_mark : goal.returns-then-not-is_mark
returns-then-not-is_mark c =
    places_end c.args.source.now c.args.from c.places.found c.places.at c.places.invariant c.in-Ok.read.0 c.in-Ok.read.1 c.push.new.self c.in_default.ensures.ok c.in-Ok.ensures
    (sym c.if-not-is_mark.ensures.is)

pub places-preserved : goal.places-preserved
places-preserved c =
    places_go c.args.source.now c.args.from c.places.found c.places.at c.places.invariant c.in-Ok.read.0 c.in-Ok.read.1 c.push.new.self c.in_default.ensures.ok c.in-Ok.ensures
    (sym c.if-not-is_mark.ensures.is)
