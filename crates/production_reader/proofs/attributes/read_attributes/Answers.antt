use Rattle.std.proofs.Common.{sym, []}
use Rattle.production_reader.proofs.AttributeLists.{no_attributes, list_stops, list_open, list_closed}
use Rattle.production_reader.proofs.attributes.read_attributes.Goals as goal

pub returns-then-not-is_mark : goal.returns-then-not-is_mark
returns-then-not-is_mark c =
    record { written = []; read = no_attributes c.args.brackets c.args.source.now c.args.from c.requires (sym c.if-not-is_mark.ensures.is); means = c.no_attrs.ensures }

pub returns-in-Err : goal.returns-in-Err
returns-in-Err c = list_stops c.args.brackets c.args.source.now c.args.from c.in-Err.stop c.requires (sym c.if-not-is_mark.ensures.is) c.in-Err.ensures

pub returns-then-not-is_mark-2 : goal.returns-then-not-is_mark-2
returns-then-not-is_mark-2 c =
    list_open c.args.brackets c.args.source.now c.args.from c.in-Ok.read.0 c.in-Ok.read.1 c.requires (sym c.if-not-is_mark.ensures.is) c.in-Ok.ensures (sym c.if-not-is_mark-2.ensures.is)

pub returns : goal.returns
returns c =
    list_closed c.args.brackets c.args.source.now c.args.from c.in-Ok.read.0 c.in-Ok.read.1 c.requires (sym c.if-not-is_mark.ensures.is) c.in-Ok.ensures (sym c.if-not-is_mark-2.ensures.is)
