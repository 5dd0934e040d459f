use Rattle.std.proofs.Common.{◌≡◌, ◌-◌, ap, ◌∙◌, arith, length, length-drop}
use Rattle.program_tokens.specs.Words.{adjacent}
use Rattle.program_tokens.proofs.Lookup.{longest-le}
use Rattle.program_tokens.proofs.Reading.{longest_is, no_terminal, a_terminal}
use Rattle.program_tokens.proofs.words.terminal_at.Goals as goal

pub returns-then-size-eq0 : goal.returns-then-size-eq0
returns-then-size-eq0 c =
    no_terminal c.args.text.now c.args.at c.longest-size.result _
    (longest_is c.args.terminals.now c.args.text.now c.split_at.result.1.now c.args.at (adjacent c.args.at c.args.tokens.now) c.adjacent-most.result
    c.longest-size.result c.greatest.result c.split_at.ensures.back c.greatest.ensures c.requires.begins c.requires.fits c.requires.within c.adjacent-most.ensures c.longest-size.ensures)
    c.if-size-eq0.true

pub split_at-requires-2 : goal.split_at-requires-2
split_at-requires-2 c =
    let size : length c.split_at.result.1.now ≡ length c.args.text.now - c.args.at = ap length c.split_at.ensures.back ∙ length-drop c.args.at c.args.text.now in
    let least = longest-le c.args.terminals.now c.split_at.result.1.now c.adjacent-most.result in
    omega (arith, size, least, c.longest-size.ensures, c.adjacent-most.ensures, c.requires.fits, c.requires.within)

pub returns : goal.returns
returns c =
    a_terminal c.args.text.now c.split_at.result.1.now c.split_at-2.result.0.now c.args.at c.longest-size.result _ c.in_ok-terminal.field-0
    (longest_is c.args.terminals.now c.args.text.now c.split_at.result.1.now c.args.at (adjacent c.args.at c.args.tokens.now) c.adjacent-most.result
    c.longest-size.result c.greatest.result c.split_at.ensures.back c.greatest.ensures c.requires.begins c.requires.fits c.requires.within c.adjacent-most.ensures c.longest-size.ensures)
    c.if-size-eq0.false c.split_at.ensures.back c.split_at-2.ensures.front c.in_ok-terminal.ensures
