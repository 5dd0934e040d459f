use Rattle.std.specs.Prelude.{codes}
use Rattle.cell_contents.specs.declared.ways.Way.TheVariants as way
use Rattle.cell_contents.proofs.Behind.{behind_stop, behind_more, mark_some, mark_none}
use Rattle.cell_contents.proofs.table.behind_key.Goals as goal

pub returns-in-Some : goal.returns-in-Some
returns-in-Some c =
    behind_more way.Key c.args.words.now c.in-Some.rest.now c.args.table.now c.found_at.result.now
    (mark_some c.as_slice.result.now (codes "|->") c.args.words.now c.in-Some.rest.now c.as_slice.ensures c.in-Some.ensures)
    (λ e. e) c.found_at.ensures

pub returns-in-None : goal.returns-in-None
returns-in-None c =
    behind_stop way.Key c.args.words.now c.args.table.now (λ e. e)
    (mark_none c.as_slice.result.now (codes "|->") c.args.words.now c.as_slice.ensures c.in-None.ensures)
