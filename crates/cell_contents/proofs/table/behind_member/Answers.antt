use Rattle.std.proofs.Common.{◌≡◌, ◌<◌, [], ◌∷◌, length, arith}
use Rattle.std.specs.Prelude.{codes}
use Rattle.cell_contents.specs.declared.ways.Way.TheVariants as way
use Rattle.cell_contents.specs.Tails.{list_item, opening}
use Rattle.cell_contents.proofs.Behind.{behind_end, behind_stop, behind_more, member_ends, member_not_end, member_further, member_stops, mark_some, mark_none, no_length, some_length}
use Rattle.cell_contents.proofs.table.behind_member.Goals as goal

pub returns-in_default : goal.returns-in_default
returns-in_default c =
    let none = mark_none c.as_slice.result.now (codes ")") c.args.words.now c.as_slice.ensures c.in_default.ensures in
    behind_stop way.Member c.args.words.now c.args.table.now (λ e. none [] e) (λ start e. none (list_item ∷ opening ∷ start) e)

pub returns-then-is_empty : goal.returns-then-is_empty
returns-then-is_empty c =
    let none : length c.in-Some.further.now ≡ 0 = grind arith in
    let e = mark_some c.as_slice.result.now (codes ")") c.args.words.now c.in-Some.further.now c.as_slice.ensures c.in-Some.ensures in
    behind_end way.Member c.args.words.now c.args.table.now (member_ends c.args.words.now c.in-Some.further.now e (no_length c.in-Some.further.now none))

pub returns-in-Some-behind_opening : goal.returns-in-Some-behind_opening
returns-in-Some-behind_opening c =
    let some : 0 < length c.in-Some.further.now = grind arith in
    let e = mark_some c.as_slice.result.now (codes ")") c.args.words.now c.in-Some.further.now c.as_slice.ensures c.in-Some.ensures in
    behind_more way.Member c.args.words.now c.in-Some-behind_opening.rest.now c.args.table.now c.found_at.result.now
    (member_further c.args.words.now c.in-Some.further.now c.in-Some-behind_opening.rest.now e c.in-Some-behind_opening.ensures)
    (member_not_end c.args.words.now c.in-Some.further.now e (some_length c.in-Some.further.now some)) c.found_at.ensures

pub returns-in-None : goal.returns-in-None
returns-in-None c =
    let some : 0 < length c.in-Some.further.now = grind arith in
    let e = mark_some c.as_slice.result.now (codes ")") c.args.words.now c.in-Some.further.now c.as_slice.ensures c.in-Some.ensures in
    behind_stop way.Member c.args.words.now c.args.table.now
    (member_not_end c.args.words.now c.in-Some.further.now e (some_length c.in-Some.further.now some))
    (member_stops c.args.words.now c.in-Some.further.now e c.in-None.ensures)
