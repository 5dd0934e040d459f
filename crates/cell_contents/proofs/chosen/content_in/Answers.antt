use Rattle.std.proofs.Common.{subst}
use Rattle.std.specs.List.{AllByRecursion}
use Rattle.cell_contents.specs.Readings.{IsShallow}
use Rattle.cell_contents.specs.Choices.{IsChosen}
use Rattle.cell_contents.proofs.Choosing.{content_made}
use Rattle.cell_contents.proofs.chosen.content_in.Goals as goal

pub returns : goal.returns
returns c =
    content_made c.args.grammar.now c.args.words.now c.in-Some.chosen c.in_ok-found.found
    (subst (IsChosen c.args.grammar.now c.args.words.now) c.in-Some.is c.in_ok-only.ensures)
    (subst (AllByRecursion IsShallow) c.values_of.ensures (c.are_shallow.ensures.0 c.if-not-are_shallow.false))
    c.in_ok-found.ensures
