use Rattle.std.proofs.Common.{sym, ap, ◌∙◌}
use Rattle.production_reader.specs.Allowed.{same_text}
use Rattle.production_reader.specs.Sources.{piece_of}
use Rattle.production_reader.specs.Heads.{is_mark_of}
use Rattle.production_reader.proofs.Places.{heads_none, other_mark, some_mark}
use Rattle.production_reader.proofs.signs.is_mark.Goals as goal

pub returns-in_default-clause-is : goal.returns-in_default-clause-is
returns-in_default-clause-is c = sym (heads_none (is_mark_of c.args.byte) c.args.source.now c.args.at c.in_default.ensures)

pub returns-in-Mark-clause-is : goal.returns-in-Mark-clause-is
returns-in-Mark-clause-is c = c.eq.ensures ∙ ap (λ t. same_text c.in-Some.lexeme.bytes.now t) c.as_slice.ensures ∙ sym (some_mark c.args.source.now c.args.at (piece_of c.in-Some.lexeme) c.in-Some.ensures.0 c.args.byte c.in-Mark.is)

pub returns-in_default-kind-clause-is : goal.returns-in_default-kind-clause-is
returns-in_default-kind-clause-is c = sym (other_mark c.args.source.now c.args.at (piece_of c.in-Some.lexeme) c.in-Some.ensures.0 c.args.byte c.in_default-kind.not-Mark)
