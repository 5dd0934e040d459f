use Rattle.std.proofs.Common.{rules}
use Rattle.cell_completion.proofs.Sample.{sample_is_declared, sample_is_written}
use Rattle.cell_tests.proofs.completions.shown.Goals as goal

pub complete_cells-requires-clause-tree : goal.complete_cells-requires-clause-tree
complete_cells-requires-clause-tree c = sample_is_declared _ (search rules)

pub complete_cells-requires-clause-written : goal.complete_cells-requires-clause-written
complete_cells-requires-clause-written c = sample_is_written _ _ c.args.one c.args.other c.args.both (search rules) c.requires.one c.requires.other (search rules)
