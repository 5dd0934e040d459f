use Rattle.std.proofs.Common.{refl, sym, ap, ◌∙◌}
use Rattle.std.specs.Prelude.{option_map}
use Rattle.production_reader.specs.Lexemes.{word}
use Rattle.production_reader.specs.Sources.{piece_of}
use Rattle.file_reader.proofs.Heads.{begins_at, begins_is, begins_none, no_true}
use Rattle.file_reader.proofs.words.word_at.Goals as goal

pub returns-in_default : goal.returns-in_default
returns-in_default c = λ bytes is. begins_none (word bytes) c.args.source.now c.args.at (sym c.lexeme.ensures ∙ ap (option_map piece_of) c.in_default.is) is

pub returns-in_default-kind : goal.returns-in_default-kind
returns-in_default-kind c = λ bytes is. c.in_default-kind.not-Word (sym (begins_is (word bytes) c.args.source.now c.args.at (piece_of c.in-Some.lexeme) (sym c.lexeme.ensures ∙ ap (option_map piece_of) c.in-Some.is) is).0)

pub returns-in-Word : goal.returns-in-Word
returns-in-Word c = begins_at (word c.in-Some.lexeme.bytes.now) c.args.source.now c.args.at (piece_of c.in-Some.lexeme) (sym c.lexeme.ensures ∙ ap (option_map piece_of) c.in-Some.is) (sym c.in-Word.is, refl, λ e. absurd (no_true e))
