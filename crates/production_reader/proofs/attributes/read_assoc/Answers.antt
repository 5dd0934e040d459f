use Rattle.std.proofs.Common.{sym}
use Rattle.production_reader.proofs.AttributeReading.{no_dash, no_assoc, assoc_read}
use Rattle.production_reader.proofs.attributes.read_assoc.Goals as goal

pub returns-then-not-is_mark : goal.returns-then-not-is_mark
returns-then-not-is_mark c = λ b. no_dash b c.args.source.now c.args.from c.requires.within c.requires.there (sym c.if-not-is_mark.ensures.is)

pub returns-then-not-is_assoc : goal.returns-then-not-is_assoc
returns-then-not-is_assoc c = λ b.
    no_assoc b c.args.source.now c.args.from c.requires.within c.requires.there (sym c.if-not-is_mark.ensures.is) c.if-not-is_assoc.ensures.no

pub returns : goal.returns
returns c = λ b. assoc_read b c.args.source.now c.args.from c.requires.within c.requires.there (sym c.if-not-is_mark.ensures.is) c.if-not-is_assoc.ensures.yes.0
