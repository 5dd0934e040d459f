use Rattle.std.proofs.Common.{sym, ap, ◌∙◌}
use Rattle.production_reader.specs.Next.{had_after_prods}
use Rattle.production_reader.proofs.GroupReading.{some_begin, some_stop, some_closed, some_done, some_go}
use Rattle.production_reader.proofs.groups.read_some.Goals as goal

pub groups-init : goal.groups-init
groups-init c = (some_begin c.args.sort.now c.args.had c.args.source.now c.args.from c.new-found.result c.new-found.ensures c.requires.within, c.requires.goes)

pub returns-in-Err : goal.returns-in-Err
returns-in-Err c = some_stop c.args.sort.now c.args.had c.args.source.now c.args.from c.groups.now c.groups.found c.groups.at c.groups.invariant.0 c.in-Err.stop c.in-Err.ensures

pub returns-then-is_closed : goal.returns-then-is_closed
returns-then-is_closed c = some_closed c.args.sort.now c.args.had c.args.source.now c.args.from c.groups.now c.groups.found c.groups.at c.groups.invariant.0
    c.in-Ok.read.0 c.in-Ok.read.1 c.in-Ok.ensures c.push.new.self c.in_default.ensures.ok c.had_after-then.result (c.had_after-then.ensures ∙ ap (λ t. had_after_prods c.groups.now t) c.as_slice.ensures) (sym c.if-is_closed.ensures)

pub returns-then-not-is_mark : goal.returns-then-not-is_mark
returns-then-not-is_mark c = some_done c.args.sort.now c.args.had c.args.source.now c.args.from c.groups.now c.groups.found c.groups.at c.groups.invariant.0
    c.in-Ok.read.0 c.in-Ok.read.1 c.in-Ok.ensures c.push.new.self c.in_default.ensures.ok c.had_after-then.result (c.had_after-then.ensures ∙ ap (λ t. had_after_prods c.groups.now t) c.as_slice.ensures) (sym c.if-not-is_mark.ensures.is)

pub groups-preserved : goal.groups-preserved
groups-preserved c = some_go c.args.sort.now c.args.had c.args.source.now c.args.from c.groups.now c.groups.found c.groups.at c.groups.invariant.0
    c.in-Ok.read.0 c.in-Ok.read.1 c.in-Ok.ensures c.push.new.self c.in_default.ensures.ok c.had_after-then.result (c.had_after-then.ensures ∙ ap (λ t. had_after_prods c.groups.now t) c.as_slice.ensures) (sym c.if-is_closed.ensures) (sym c.if-not-is_mark.ensures.is)
