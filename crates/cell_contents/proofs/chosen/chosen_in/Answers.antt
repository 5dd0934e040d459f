use Rattle.std.proofs.Common.{sym, subst}
use Rattle.cell_contents.specs.Choices.{IsChosen}
use Rattle.cell_contents.proofs.Choosing.{chosen_by}
use Rattle.cell_contents.proofs.chosen.chosen_in.Goals as goal

pub returns : goal.returns
returns c =
    subst (IsChosen c.args.grammar.now c.args.words.now) (sym c.choose.ensures)
    (chosen_by c.args.grammar.now c.args.words.now c.in_ok-sequence.sequence c.in_ok-entries.entries c.in_ok-members.members
    c.in_ok-sequence.ensures c.in_ok-entries.ensures (c.in_ok-members.ensures c.args.grammar.now c.in_ok-table.ensures))
