use Rattle.k_lexer.specs.declared.token.Kind.TheVariants.{Int}
use Rattle.production_reader.specs.Sources.{piece_of}
use Rattle.production_reader.specs.Heads.{is_number}
use Rattle.production_reader.proofs.Places.{heads_none, other_number, some_stands}
use Rattle.production_reader.proofs.signs.digits_at.Goals as goal

pub returns-in_default : goal.returns-in_default
returns-in_default c = heads_none is_number c.args.source.now c.args.at c.in_default.ensures

pub returns-in-Int : goal.returns-in-Int
returns-in-Int c = (some_stands c.args.source.now c.args.at (piece_of c.in-Some.lexeme) c.in-Some.ensures.0 Int c.in-Int.is, c.in-Some.ensures.1)

pub returns-in_default-kind : goal.returns-in_default-kind
returns-in_default-kind c = other_number c.args.source.now c.args.at (piece_of c.in-Some.lexeme) c.in-Some.ensures.0 c.in_default-kind.not-Int
