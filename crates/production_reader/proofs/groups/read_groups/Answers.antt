use Rattle.std.proofs.Common.{sym, []}
use Rattle.production_reader.proofs.GroupReading.{closed_read, none_read, open_goes, no_second, no_equals, groups_stop, groups_read}
use Rattle.production_reader.proofs.groups.read_groups.Goals as goal

pub returns-then-is_closed : goal.returns-then-is_closed
returns-then-is_closed c = record { written = []; read = closed_read c.args.sort.now c.args.had c.args.source.now c.args.from c.requires (sym c.if-is_closed.ensures); means = c.new.ensures }

pub returns-then-not-is_mark : goal.returns-then-not-is_mark
returns-then-not-is_mark c = record { written = []; read = none_read c.args.sort.now c.args.had c.args.source.now c.args.from c.requires (sym c.if-not-is_mark.ensures.is); means = c.new-then-not-is_mark.ensures }

pub returns-then-not-is_mark-2 : goal.returns-then-not-is_mark-2
returns-then-not-is_mark-2 c = no_second c.args.sort.now c.args.had c.args.source.now c.args.from c.requires (open_goes c.args.had (sym c.if-is_closed.ensures)) (sym c.if-not-is_mark.ensures.is) (sym c.if-not-is_mark-2.ensures.is)

pub returns-then-not-is_mark-3 : goal.returns-then-not-is_mark-3
returns-then-not-is_mark-3 c =
    no_equals c.args.sort.now c.args.had c.args.source.now c.args.from c.requires (open_goes c.args.had (sym c.if-is_closed.ensures)) (sym c.if-not-is_mark.ensures.is) (sym c.if-not-is_mark-2.ensures.is)
    (sym c.if-not-is_mark-3.ensures.is)

pub read_some-requires-clause-goes : goal.read_some-requires-clause-goes
read_some-requires-clause-goes c = open_goes c.args.had (sym c.if-is_closed.ensures)

pub returns-in-Ok : goal.returns-in-Ok
returns-in-Ok c =
    groups_read c.args.sort.now c.args.had c.args.source.now c.args.from c.requires (open_goes c.args.had (sym c.if-is_closed.ensures)) (sym c.if-not-is_mark.ensures.is) (sym c.if-not-is_mark-2.ensures.is)
    (sym c.if-not-is_mark-3.ensures.is) c.in-Ok.found.0 c.in-Ok.found.1 c.in-Ok.ensures

pub returns-in-Err : goal.returns-in-Err
returns-in-Err c =
    groups_stop c.args.sort.now c.args.had c.args.source.now c.args.from c.requires (open_goes c.args.had (sym c.if-is_closed.ensures)) (sym c.if-not-is_mark.ensures.is) (sym c.if-not-is_mark-2.ensures.is)
    (sym c.if-not-is_mark-3.ensures.is) c.in-Err.stop c.in-Err.ensures
