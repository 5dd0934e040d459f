use Rattle.std.proofs.Common.{sym, [], append-nil}
use Rattle.production_reader.proofs.SortReading.{no_arguments, arguments_stop, arguments_open, arguments_closed}
use Rattle.production_reader.proofs.prefixes.read_arguments.Goals as goal

pub returns-then-is_mark : goal.returns-then-is_mark
returns-then-is_mark c = record { written = []; read = no_arguments c.args.source.now c.args.from c.requires (sym c.if-is_mark.ensures.is); means = sym (append-nil c.args.before) }

pub returns-in-Err : goal.returns-in-Err
returns-in-Err c = arguments_stop c.args.source.now c.args.from c.requires c.in-Err.stop (sym c.if-is_mark.ensures.is) c.in-Err.ensures

pub returns-then-not-is_mark : goal.returns-then-not-is_mark
returns-then-not-is_mark c =
    arguments_open c.args.source.now c.args.from c.requires c.args.before c.in-Ok.read.0 c.in-Ok.read.1 (sym c.if-is_mark.ensures.is) c.in-Ok.ensures (sym c.if-not-is_mark.ensures.is)

pub returns : goal.returns
returns c =
    arguments_closed c.args.source.now c.args.from c.requires c.args.before c.in-Ok.read.0 c.in-Ok.read.1 (sym c.if-is_mark.ensures.is) c.in-Ok.ensures (sym c.if-not-is_mark.ensures.is)
