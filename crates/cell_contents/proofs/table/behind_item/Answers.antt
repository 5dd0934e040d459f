use Rattle.std.proofs.Common.{◌≡◌, ◌<◌, length, arith}
use Rattle.std.specs.Prelude.{codes}
use Rattle.cell_contents.specs.declared.ways.Way.TheVariants as way
use Rattle.cell_contents.proofs.Behind.{behind_end, behind_stop, behind_more, mark_some, mark_none, no_length, some_length}
use Rattle.cell_contents.proofs.table.behind_item.Goals as goal

pub returns-then-is_empty : goal.returns-then-is_empty
returns-then-is_empty c =
    let none : length c.args.words.now ≡ 0 = grind arith in
    behind_end way.Item c.args.words.now c.args.table.now (no_length c.args.words.now none)

pub returns-in-Some : goal.returns-in-Some
returns-in-Some c =
    let some : 0 < length c.args.words.now = grind arith in
    behind_more way.Item c.args.words.now c.in-Some.rest.now c.args.table.now c.found_at.result.now
    (mark_some c.as_slice.result.now (codes "~>") c.args.words.now c.in-Some.rest.now c.as_slice.ensures c.in-Some.ensures)
    (some_length c.args.words.now some) c.found_at.ensures

pub returns-in-None : goal.returns-in-None
returns-in-None c =
    let some : 0 < length c.args.words.now = grind arith in
    behind_stop way.Item c.args.words.now c.args.table.now (some_length c.args.words.now some)
    (mark_none c.as_slice.result.now (codes "~>") c.args.words.now c.as_slice.ensures c.in-None.ensures)
