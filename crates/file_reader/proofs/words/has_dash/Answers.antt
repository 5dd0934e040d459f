use Rattle.std.proofs.Common.{refl, sym, ap, ◌∙◌}
use Rattle.std.specs.Prelude.{option_map}
use Rattle.std.specs.Cmp.Lexicographic.{bytes_decides}
use Rattle.production_reader.specs.Lexemes.{joined_mark}
use Rattle.production_reader.specs.Sources.{piece_of}
use Rattle.file_reader.proofs.Heads.{begins_at, begins_is, begins_none, no_true}
use Rattle.file_reader.proofs.words.has_dash.Goals as goal

pub returns-in_default : goal.returns-in_default
returns-in_default c = ((λ no. absurd (no_true no)), λ is. absurd (begins_none (joined_mark 45) c.args.source.now c.args.at (sym c.lexeme.ensures ∙ ap (option_map piece_of) c.in_default.is) is))

pub returns-then-not-lexeme : goal.returns-then-not-lexeme
returns-then-not-lexeme c = ((λ no. absurd (no_true no)), λ is. absurd (no_true (sym c.if-not-lexeme.true ∙ (begins_is (joined_mark 45) c.args.source.now c.args.at (piece_of c.in-Some.lexeme) (sym c.lexeme.ensures ∙ ap (option_map piece_of) c.in-Some.is) is).2 refl)))

pub returns-in-Mark : goal.returns-in-Mark
returns-in-Mark c = (
  (λ yes. begins_at (joined_mark 45) c.args.source.now c.args.at (piece_of c.in-Some.lexeme) (sym c.lexeme.ensures ∙ ap (option_map piece_of) c.in-Some.is) (sym c.in-Mark.is, sym ((bytes_decides c.in-Some.lexeme.bytes.now c.as_bytes.result.now).0 (sym c.eq.ensures ∙ yes) ∙ c.as_bytes.ensures.value), λ e. c.if-not-lexeme.false)),
  λ is. c.eq.ensures ∙ (bytes_decides c.in-Some.lexeme.bytes.now c.as_bytes.result.now).1 (sym (begins_is (joined_mark 45) c.args.source.now c.args.at (piece_of c.in-Some.lexeme) (sym c.lexeme.ensures ∙ ap (option_map piece_of) c.in-Some.is) is).1 ∙ sym c.as_bytes.ensures.value),
)

pub returns-in_default-kind : goal.returns-in_default-kind
returns-in_default-kind c = ((λ no. absurd (no_true no)), λ is. absurd (c.in_default-kind.not-Mark (sym (begins_is (joined_mark 45) c.args.source.now c.args.at (piece_of c.in-Some.lexeme) (sym c.lexeme.ensures ∙ ap (option_map piece_of) c.in-Some.is) is).0)))
