use Rattle.std.proofs.Common.{subst, ◌++◌}
use Rattle.program_tokens.specs.Terminals.{AreSame, terminals_in, separators_of}
use Rattle.program_tokens.proofs.Lookup.{same_more}
use Rattle.cell_tokens.proofs.terminals.Terminals.add_all.Goals as goal

pub returns : goal.returns
returns c =
    same_more c.add_separator.new.self c.add_items.new.self (separators_of c.args.production.now.form) c.args.self.now (terminals_in c.args.production.now.items)
    c.in_ok-add_separator.ensures (subst (λ items. AreSame c.add_items.new.self (c.args.self.now ++ terminals_in items)) c.as_slice.ensures c.in_ok-add_items.ensures)
