use Rattle.std.proofs.Common.{sym, subst}
use Rattle.cell_contents.specs.Tails.{AreMembers}
use Rattle.cell_contents.specs.Tables.{Finds}
use Rattle.cell_contents.proofs.Behind.{members_found}
use Rattle.cell_contents.proofs.chosen.found_members.Goals as goal

pub returns : goal.returns
returns c = λ g t.
    subst (Finds g (AreMembers g c.args.words.now)) (sym c.in_ok-found.ensures)
    (members_found g c.args.words.now c.in-Some.rest.now c.args.table.now c.found_at.result.now c.in-Some.ensures c.found_at.ensures t)
