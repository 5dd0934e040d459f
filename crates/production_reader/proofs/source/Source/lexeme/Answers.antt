use Rattle.std.proofs.Common.{sym, ap, ◌∙◌, Some}
use Rattle.std.specs.Prelude.{slice_get, option_map}
use Rattle.production_reader.specs.Lexemes.{lexeme_of}
use Rattle.production_reader.specs.Sources.{last_end}
use Rattle.production_reader.proofs.Sources.{lexeme_is, token_within}
use Rattle.production_reader.proofs.source.Source.lexeme.Goals as goal

pub returns-in_default : goal.returns-in_default
returns-in_default c =
    ap (λ o. option_map (lexeme_of c.self.inside.text.now (last_end 0 c.self.inside.tokens.now c.args.at)) o) (sym c.in_default.is ∙ c.token_at.ensures)
    ∙ sym (lexeme_is c.self.inside.text.now 0 c.self.inside.tokens.now c.args.at)
    ∙ ap (λ all. slice_get all c.args.at) c.self.view_is

pub lexeme_of-requires-clause-order : goal.lexeme_of-requires-clause-order
lexeme_of-requires-clause-order c =
    (token_within c.self.inside.text.now c.self.inside.tokens.now c.args.at c.in-Some.token c.self.invariant (sym c.token_at.ensures ∙ c.in-Some.is)).0

pub lexeme_of-requires-clause-within : goal.lexeme_of-requires-clause-within
lexeme_of-requires-clause-within c =
    (token_within c.self.inside.text.now c.self.inside.tokens.now c.args.at c.in-Some.token c.self.invariant (sym c.token_at.ensures ∙ c.in-Some.is)).1

pub returns : goal.returns
returns c =
    ap Some c.lexeme_of.ensures
    ∙ ap (λ last. Some (lexeme_of c.self.inside.text.now last c.in-Some.token)) c.end_before.ensures
    ∙ ap (λ o. option_map (lexeme_of c.self.inside.text.now (last_end 0 c.self.inside.tokens.now c.args.at)) o) (sym c.in-Some.is ∙ c.token_at.ensures)
    ∙ sym (lexeme_is c.self.inside.text.now 0 c.self.inside.tokens.now c.args.at)
    ∙ ap (λ all. slice_get all c.args.at) c.self.view_is
