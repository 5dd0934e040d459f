use Rattle.std.proofs.Common.{sym, ◌+◌}
use Rattle.production_reader.specs.Written.Attribute.{Strict}
use Rattle.production_reader.proofs.AttributeReading.{as_written, strict_read, places_stops, places_open, places_closed}
use Rattle.production_reader.proofs.attributes.read_strict.Goals as goal

pub returns-then-not-is_mark : goal.returns-then-not-is_mark
returns-then-not-is_mark c = λ b.
    as_written b c.args.source.now c.args.from Strict (c.args.from + 1)
    (strict_read b c.args.source.now c.args.from c.requires.within c.requires.there (sym c.if-not-is_mark.ensures.is))

pub returns-in-Err : goal.returns-in-Err
returns-in-Err c = λ b.
    places_stops b c.args.source.now c.args.from c.in-Err.stop c.requires.within c.requires.there (sym c.if-not-is_mark.ensures.is) c.in-Err.ensures

pub returns-then-not-is_mark-2 : goal.returns-then-not-is_mark-2
returns-then-not-is_mark-2 c = λ b.
    places_open b c.args.source.now c.args.from c.in-Ok.read.0 c.in-Ok.read.1 c.requires.within c.requires.there (sym c.if-not-is_mark.ensures.is) c.in-Ok.ensures
    (sym c.if-not-is_mark-2.ensures.is)

pub returns : goal.returns
returns c = λ b.
    places_closed b c.args.source.now c.args.from c.in-Ok.read.0 c.in-Ok.read.1 c.requires.within c.requires.there (sym c.if-not-is_mark.ensures.is) c.in-Ok.ensures
    (sym c.if-not-is_mark-2.ensures.is)
