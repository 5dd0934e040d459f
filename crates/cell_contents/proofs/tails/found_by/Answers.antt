use Rattle.cell_contents.specs.Tails.{Follows}
use Rattle.cell_contents.proofs.Finding.{first_before}
use Rattle.cell_contents.proofs.tails.found_by.Goals as goal

pub returns : goal.returns
returns c =
    first_before c.args.grammar.now (Follows c.args.grammar.now c.args.way c.args.behind.now) c.args.words.now c.found_behind-rest.result.now c.in_ok-found.found
    c.requires.some (c.found_behind-rest.ensures c.args.grammar.now c.requires.table) c.in_ok-found.ensures
