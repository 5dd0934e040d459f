use Rattle.std.proofs.Common.{ap, sym, ◌∙◌}
use Rattle.std.specs.Prelude.{if◌then◌else◌}
use Rattle.production_reader.specs.Allowed.{is_among}
use Rattle.cell_tokens.proofs.Runs.{further_terminal, one_terminal}
use Rattle.cell_tokens.proofs.first.terminal_size.Goals as goal

pub returns-then-further-gt0 : goal.returns-then-further-gt0
returns-then-further-gt0 c =
    further_terminal c.args.terminals.now c.args.text.now c.args.first c.args.rest.now c.further_size-further.result c.further_size-further.ensures.size c.if-further-gt0.true

pub returns-then-has : goal.returns-then-has
returns-then-has c =
    ap (λ b. if b then 1 else 0) (sym c.if-has.true)
    ∙ one_terminal c.args.terminals.now c.args.text.now c.args.first c.args.rest.now c.further_size-further.result c.has.result c.further_size-further.ensures.size c.if-further-gt0.false
    (c.has.ensures ∙ ap (is_among c.args.terminals.now) c.bytes_of.ensures)

pub returns : goal.returns
returns c =
    ap (λ b. if b then 1 else 0) (sym c.if-has.false)
    ∙ one_terminal c.args.terminals.now c.args.text.now c.args.first c.args.rest.now c.further_size-further.result c.has.result c.further_size-further.ensures.size c.if-further-gt0.false
    (c.has.ensures ∙ ap (is_among c.args.terminals.now) c.bytes_of.ensures)
