use Rattle.k_lexer.specs.declared.token.Kind.TheVariants.{Word}
use Rattle.production_reader.specs.Sources.{piece_of}
use Rattle.production_reader.specs.Heads.{is_any_word}
use Rattle.production_reader.proofs.Places.{heads_none, other_word, some_stands}
use Rattle.production_reader.proofs.signs.word_at.Goals as goal

pub returns-in_default : goal.returns-in_default
returns-in_default c = heads_none is_any_word c.args.source.now c.args.at c.in_default.ensures

pub returns-in-Word : goal.returns-in-Word
returns-in-Word c = (some_stands c.args.source.now c.args.at (piece_of c.in-Some.lexeme) c.in-Some.ensures.0 Word c.in-Word.is, c.in-Some.ensures.1)

pub returns-in_default-kind : goal.returns-in_default-kind
returns-in_default-kind c = other_word c.args.source.now c.args.at (piece_of c.in-Some.lexeme) c.in-Some.ensures.0 c.in_default-kind.not-Word
