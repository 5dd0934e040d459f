-- The first token, from what stands at its place.
use Rattle.std.proofs.Common.{◌≡◌, ℕ, List, ◌∷◌, sym, ap, ◌∙◌, Option, Some}
use Rattle.std.specs.Prelude.{unwrap_or}
use Rattle.k_lexer.specs.declared.token.Token.{Token}
use Rattle.cell_tokens.specs.declared.token.CellToken.{CellToken}
use Rattle.cell_tokens.specs.Forms.{Lexicon, terminal_at, other_at, longer, stands_at, bad_token}
use Rattle.cell_tokens.specs.CellTokens.{first_token}

pub first_found : (l : Lexicon) (text : List ℕ) (first : Token) (rest base : List Token) (terminal other whole : Option CellToken) → base ≡ first ∷ rest
    → terminal ≡ terminal_at l.terminals text first.start base → other ≡ other_at l text first.start base → whole ≡ longer terminal other → Some (unwrap_or whole bad_token) ≡ first_token l text base
first_found l text first rest base terminal other whole parts front behind is =
    ap (λ (o : Option CellToken). Some (unwrap_or o bad_token)) (is ∙ (λ i. longer (front i) (behind i)))
    ∙ ap (λ (tokens : List Token). Some (unwrap_or (stands_at l text first.start tokens) bad_token)) parts ∙ ap (first_token l text) (sym parts)
