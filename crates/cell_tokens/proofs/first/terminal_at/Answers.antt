use Rattle.std.proofs.Common.{arith}
use Rattle.cell_tokens.proofs.Runs.{terminal_inside}
use Rattle.cell_tokens.proofs.first.terminal_at.Goals as goal

pub span_of-bytes-requires : goal.span_of-bytes-requires
span_of-bytes-requires c =
    let inside = terminal_inside c.args.terminals.now c.args.text.now c.args.first c.args.rest.now c.args.tokens.now c.terminal_size-size.result c.requires.stand c.requires.parts
    c.terminal_size-size.ensures c.if-size-eq0.false in
    record {
      order = omega (arith, inside.0, c.end_at-end.ensures);
      within = omega (arith, inside.1, c.end_at-end.ensures);
    }
