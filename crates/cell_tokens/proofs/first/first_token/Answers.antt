use Rattle.std.proofs.Common.{Some, None}
use Rattle.cell_tokens.specs.CellTokens.{lexicon_with}
use Rattle.cell_tokens.proofs.Finding.{first_found}
use Rattle.cell_tokens.proofs.first.first_token.Goals as goal

pub returns-in_default-longer : goal.returns-in_default-longer
returns-in_default-longer c =
    first_found (lexicon_with c.args.terminals.now c.args.grammar.now c.args.names.now) c.args.text.now c.in-Some.first.now c.in-Some.rest.now c.args.tokens.now
    c.in_ok-terminal.terminal c.in_ok-other.other None c.in-Some.ensures.cases.0 c.in_ok-terminal.ensures (c.in_ok-other.ensures c.args.terminals.now) c.in_default-longer.ensures

pub returns : goal.returns
returns c =
    first_found (lexicon_with c.args.terminals.now c.args.grammar.now c.args.names.now) c.args.text.now c.in-Some.first.now c.in-Some.rest.now c.args.tokens.now
    c.in_ok-terminal.terminal c.in_ok-other.other (Some c.in-Some-longer.found) c.in-Some.ensures.cases.0 c.in_ok-terminal.ensures (c.in_ok-other.ensures c.args.terminals.now)
    c.in-Some-longer.ensures
