use Rattle.program_tokens.proofs.Lookup.{added}
use Rattle.program_tokens.proofs.terminals.Terminals.add.Goals as goal

pub returns : goal.returns
returns c = added c.self.inside.texts.keys c.insert.new.self.keys c.args.self.now c.args.text c.self.view_is c.in_ok-insert.ensures.keys
