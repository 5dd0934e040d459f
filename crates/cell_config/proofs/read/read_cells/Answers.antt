use Rattle.std.proofs.Common.{sym, ap, ◌∙◌}
use Rattle.cell_config.specs.Refusals.{refusal_of}
use Rattle.cell_config.specs.Cells.{bases_of}
use Rattle.cell_config.proofs.Making.{one_tree_made}
use Rattle.cell_config.proofs.read.read_cells.Goals as goal

pub only_tree-requires : goal.only_tree-requires
only_tree-requires c =
    one_tree_made c.tree.ensures c.args.grammar.now c.args.text.now c.args.names.now c.read_divisions.new.names (bases_of c.args.tokens.now c.args.sentences.now) c.in-Ok.divisions
    c.in-Ok.ensures.ok (ap refusal_of (sym c.as_slice.ensures) ∙ sym c.in-Ok-None.ensures ∙ c.in-Ok-None.field-0-is)
