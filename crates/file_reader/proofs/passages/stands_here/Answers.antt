use Rattle.std.proofs.Common.{sym, ap, ◌∙◌}
use Rattle.std.specs.Prelude.{option_map}
use Rattle.production_reader.specs.Allowed.{same_text}
use Rattle.production_reader.specs.Sources.{piece_of}
use Rattle.file_reader.proofs.Passing.{stands_at, stands_not}
use Rattle.file_reader.proofs.passages.stands_here.Goals as goal

pub returns-in-Some : goal.returns-in-Some
returns-in-Some c =
    c.eq.ensures ∙ ap (same_text c.in-Some.lexeme.bytes.now) c.as_bytes.ensures.value
    ∙ sym (stands_at c.args.text.now c.args.source.now c.args.at (piece_of c.in-Some.lexeme) (sym c.lexeme.ensures ∙ ap (option_map piece_of) c.in-Some.is))

pub returns-in-None : goal.returns-in-None
returns-in-None c = sym (stands_not c.args.text.now c.args.source.now c.args.at (sym c.lexeme.ensures ∙ ap (option_map piece_of) c.in-None.is))
