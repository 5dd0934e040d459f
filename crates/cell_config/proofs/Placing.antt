-- Base tokens behind others.
use Rattle.std.proofs.Common.{◌≡◌, ℕ, ◌-◌, List, [], ◌∷◌, drop, sym, subst}
use Rattle.k_lexer.specs.declared.token.Token.{Token}
use Rattle.k_lexer.specs.Before.{Stands, AllStand}
use Rattle.program_tokens.proofs.Reading.{drop_all}
use Rattle.cell_tokens.specs.declared.token.CellToken.{CellToken}
use Rattle.k_lexer.specs.Lexing.{AreTokens}
use Rattle.cell_tokens.specs.Lookup.{AllWhole}
use Rattle.cell_tokens.proofs.Whole.{whole_tokens}
use Rattle.cell_config.specs.Divisions.{between, base_behind}

rest_stands : (text : List ℕ) (base : List Token) (tokens : List CellToken) → AllStand text base → AllStand text (base_behind base tokens)
rest_stands text base [] all = all
rest_stands text base (token ∷ tokens) all = rest_stands text (drop token.size base) tokens (drop_all (Stands text) token.size base all)

pub behind_stands : (text : List ℕ) (base rest : List Token) (tokens : List CellToken) → AllStand text base → rest ≡ base_behind base tokens → AllStand text rest
behind_stands text base rest tokens all is = subst (AllStand text) (sym is) (rest_stands text base tokens all)

-- a part of the tokens of a text
pub part_stands : (text : List ℕ) (tokens base : List Token) (first past : ℕ) → AreTokens text tokens → base ≡ between tokens first past → AllStand text base × AllWhole text base
part_stands text tokens base first past are is =
    let whole = whole_tokens text tokens first (past - first) are in
    (subst (AllStand text) (sym is) whole.0, subst (AllWhole text) (sym is) whole.1)
