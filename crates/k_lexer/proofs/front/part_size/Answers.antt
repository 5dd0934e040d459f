use Rattle.std.proofs.Common.{sym, ap, ◌∙◌}
use Rattle.k_lexer.specs.Characters.{is_escape}
use Rattle.k_lexer.proofs.Strings.{no_part_none, plain_part, no_part_other, escape_part, no_part_escape}
use Rattle.k_lexer.proofs.front.part_size.Goals as goal

pub returns-then-is_plain : goal.returns-then-is_plain
returns-then-is_plain c = plain_part c.args.rest.now c.in-Some.first c.in-Some.size c.in-Some.ensures (sym c.if-is_plain.ensures)

pub returns-then-first-ne92 : goal.returns-then-first-ne92
returns-then-first-ne92 c =
    no_part_other c.args.rest.now c.in-Some.first c.in-Some.size c.in-Some.ensures (sym c.if-is_plain.ensures) c.if-first-ne92.true

pub returns-then-is_escape : goal.returns-then-is_escape
returns-then-is_escape c =
    escape_part c.args.rest.now c.in-Some.first c.in-Some.size c.in-Some.ensures c.if-first-ne92.false (sym (c.if-is_escape.ensures ∙ ap is_escape c.byte_at.ensures))

pub returns : goal.returns
returns c = no_part_escape c.args.rest.now c.in-Some.first c.in-Some.size c.in-Some.ensures c.if-first-ne92.false (sym (c.if-is_escape.ensures ∙ ap is_escape c.byte_at.ensures))

pub returns-in_default : goal.returns-in_default
returns-in_default c = no_part_none c.args.rest.now c.in_default.ensures
