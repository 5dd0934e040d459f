use Rattle.program_tokens.proofs.Lookup.{found}
use Rattle.cell_tokens.proofs.terminals.Terminals.has.Goals as goal

pub returns : goal.returns
returns c = found c.self.inside.texts.keys c.args.self.now c.args.text.now c.contains.result c.self.view_is c.contains.ensures
