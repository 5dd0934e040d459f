use Rattle.std.proofs.Common.{sym}
use Rattle.production_reader.proofs.GroupReading.{group_begins, group_stops, group_closed, group_done, group_goes}
use Rattle.production_reader.proofs.groups.read_group.Goals as goal

pub productions-init : goal.productions-init
productions-init c = (group_begins c.args.sort.now c.args.had c.args.source.now c.args.from c.new-found.result c.new-found.ensures c.requires.within, c.requires.goes)

pub returns-in-Err : goal.returns-in-Err
returns-in-Err c = group_stops c.args.sort.now c.args.had c.args.source.now c.args.from c.productions.now c.productions.found c.productions.at c.productions.invariant.0 c.in-Err.stop c.in-Err.ensures

pub returns-then-last : goal.returns-then-last
returns-then-last c = group_closed c.args.sort.now c.args.had c.args.source.now c.args.from c.productions.now c.productions.found c.productions.at c.productions.invariant.0
    c.in-Ok.read.0 c.in-Ok.read.1 c.in-Ok.ensures c.push.new.self c.in_default.ensures.ok c.is_list-last.result c.is_list-last.ensures c.if-last.true

pub returns-then-not-is_mark : goal.returns-then-not-is_mark
returns-then-not-is_mark c = group_done c.args.sort.now c.args.had c.args.source.now c.args.from c.productions.now c.productions.found c.productions.at c.productions.invariant.0
    c.in-Ok.read.0 c.in-Ok.read.1 c.in-Ok.ensures c.push.new.self c.in_default.ensures.ok c.is_list-last.result c.is_list-last.ensures (sym c.if-not-is_mark.ensures.is)

pub productions-preserved : goal.productions-preserved
productions-preserved c = group_goes c.args.sort.now c.args.had c.args.source.now c.args.from c.productions.now c.productions.found c.productions.at c.productions.invariant.0
    c.in-Ok.read.0 c.in-Ok.read.1 c.in-Ok.ensures c.push.new.self c.in_default.ensures.ok c.is_list-last.result c.is_list-last.ensures c.if-last.false (sym c.if-not-is_mark.ensures.is)
