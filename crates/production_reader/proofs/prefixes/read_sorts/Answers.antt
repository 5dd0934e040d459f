use Rattle.std.proofs.Common.{sym}
use Rattle.production_reader.proofs.SortReading.{sorts_begin, sorts_stop, sorts_go, sorts_end}
use Rattle.production_reader.proofs.prefixes.read_sorts.Goals as goal

pub sorts-init : goal.sorts-init
sorts-init c = sorts_begin c.args.source.now c.args.from c.args.before c.requires

pub returns-in-Err : goal.returns-in-Err
returns-in-Err c = sorts_stop c.args.source.now c.args.from c.args.before c.sorts.items c.sorts.at c.sorts.invariant c.in-Err.stop c.in-Err.ensures

pub returns-then-not-is_mark : goal.returns-then-not-is_mark
returns-then-not-is_mark c =
    sorts_end c.args.source.now c.args.from c.args.before c.sorts.items c.sorts.at c.sorts.invariant c.in-Ok.read.0 c.in-Ok.read.1 c.in-Ok.ensures c.in-Some.more c.in-Some.ensures
    (sym c.if-not-is_mark.ensures.is)

pub sorts-preserved : goal.sorts-preserved
sorts-preserved c =
    sorts_go c.args.source.now c.args.from c.args.before c.sorts.items c.sorts.at c.sorts.invariant c.in-Ok.read.0 c.in-Ok.read.1 c.in-Ok.ensures c.in-Some.more c.in-Some.ensures
    c.in-Some-with_mark.pending c.in-Some-with_mark.ensures (sym c.if-not-is_mark.ensures.is)
