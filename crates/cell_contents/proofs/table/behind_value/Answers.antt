use Rattle.std.proofs.Common.{◌≡◌, ◌<◌, length, refl, arith}
use Rattle.cell_contents.specs.declared.ways.Way.TheVariants as way
use Rattle.cell_contents.proofs.Behind.{behind_end, behind_more, no_length, some_length}
use Rattle.cell_contents.proofs.table.behind_value.Goals as goal

pub returns-then-is_empty : goal.returns-then-is_empty
returns-then-is_empty c =
    let none : length c.args.words.now ≡ 0 = grind arith in
    behind_end way.Value c.args.words.now c.args.table.now (no_length c.args.words.now none)

pub returns : goal.returns
returns c =
    let some : 0 < length c.args.words.now = grind arith in
    behind_more way.Value c.args.words.now c.args.words.now c.args.table.now c.found_at.result.now refl (some_length c.args.words.now some) c.found_at.ensures
