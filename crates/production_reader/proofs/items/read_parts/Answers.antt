use Rattle.std.proofs.Common.{sym, arith, ◌<◌, ◌≤◌, length}
use Rattle.production_reader.proofs.PartReading.{parts_end, parts_stop, parts_more, part_less}
use Rattle.production_reader.proofs.items.read_parts.Goals as goal

pub returns-then-not-is_part : goal.returns-then-not-is_part
returns-then-not-is_part c =
    parts_end c.args.source.now c.args.from c.args.before c.parts.items c.parts.at c.parts.invariant (sym c.if-not-is_part.ensures)

pub returns-in-Err : goal.returns-in-Err
returns-in-Err c =
    parts_stop c.args.source.now c.args.from c.args.before c.parts.items c.parts.at c.parts.invariant (sym c.if-not-is_part.ensures) c.in-Err.stop c.in-Err.ensures

pub parts-smaller : goal.parts-smaller
parts-smaller c =
    let less : c.parts.at < c.in-Ok.read.1 = part_less c.args.source.now c.parts.at c.in-Ok.read.0 c.in-Ok.read.1 c.in-Ok.ensures in
    let within : c.in-Ok.read.1 ≤ length c.args.source.now = (let read = c.in-Ok.ensures in read.read.within) in
    omega arith

pub parts-preserved : goal.parts-preserved
parts-preserved c =
    parts_more c.args.source.now c.args.from c.args.before c.parts.items c.push.new.self c.parts.at c.parts.invariant (sym c.if-not-is_part.ensures) c.in-Ok.read.0 c.in-Ok.read.1 c.in-Ok.ensures
    c.in_default.ensures.ok
