use Rattle.std.proofs.Common.{◌≤◌, arith}
use Rattle.program_tokens.proofs.Lookup.{added}
use Rattle.cell_tokens.proofs.Bounds.{still_bound}
use Rattle.cell_tokens.proofs.terminals.Terminals.add.Goals as goal

pub invariant_of-self-2 : goal.invariant_of-self-2
invariant_of-self-2 c =
    let less : c.self.inside.greatest ≤ c.max-self-inside.result = omega (arith, c.max-self-inside.ensures) in
    let least : c.other_size.result ≤ c.max-self-inside.result = omega (arith, c.max-self-inside.ensures) in
    still_bound c.self.inside.texts.keys c.insert.new.self.keys c.args.text c.self.inside.greatest c.other_size.result c.max-self-inside.result c.self.invariant c.other_size.ensures less least
    c.in_ok-insert.ensures.keys

pub returns : goal.returns
returns c = added c.self.inside.texts.keys c.insert.new.self.keys c.args.self.now c.args.text c.self.view_is c.in_ok-insert.ensures.keys
