use Rattle.std.proofs.Common.{sym, subst}
use Rattle.program_tokens.specs.Base.{AllNumbered, GoesOn}
use Rattle.program_tokens.proofs.Naming.{all_numbered, tokens_go}
use Rattle.cell_tokens.proofs.Splitting.{is_split}
use Rattle.cell_tokens.proofs.split.split_cells_by.Goals as goal

pub read_tokens-requires-clause-numbered : goal.read_tokens-requires-clause-numbered
read_tokens-requires-clause-numbered c =
    subst (λ names. AllNumbered c.args.text.now names c.args.tokens.now) (sym c.in_ok-number_tokens.ensures.ok) (all_numbered c.args.text.now c.args.names.now c.args.tokens.now)

pub returns-clause-names : goal.returns-clause-names
returns-clause-names c = subst (GoesOn c.args.names.now) (sym c.in_ok-number_tokens.ensures.ok) (tokens_go c.args.text.now c.args.names.now c.args.tokens.now)

pub returns-in_err-found-clause-names : goal.returns-in_err-found-clause-names
returns-in_err-found-clause-names c = subst (GoesOn c.args.names.now) (sym c.in_ok-number_tokens.ensures.ok) (tokens_go c.args.text.now c.args.names.now c.args.tokens.now)

pub returns-clause-ok : goal.returns-clause-ok
returns-clause-ok c =
    is_split c.args.grammar.now c.args.names.now c.number_tokens.new.names c.args.terminals.now c.args.text.now c.args.tokens.now c.in_ok-found.found c.requires.same
    c.in_ok-number_tokens.ensures.ok c.in_ok-found.ensures
