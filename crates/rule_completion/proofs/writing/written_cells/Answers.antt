use Rattle.std.proofs.Common.{rules}
use Rattle.rule_completion.proofs.Written.{written_is}
use Rattle.rule_completion.proofs.writing.written_cells.Goals as goal

pub returns : goal.returns
returns c = written_is c.args.draft.now c.add_cells.new.cells.items c.add_cells-2.new.cells.items c.add_new.new.all.items c.in_ok-all.all.items (search rules) (search rules) (search rules) (search rules)
