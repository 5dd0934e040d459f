-- Base tokens of some signs.
use Rattle.std.proofs.Common.{◌≡◌, ℕ, ◌+◌, ◌<◌, ◌≤◌, Bool, false, ◌==◌, ◌&&◌, List, ◌∷◌, length, drop, get_or, sym, ap, ◌∙◌, rules, drop_of_length-le}
use Rattle.std.proofs.lemmas.Bool.Decides.{nat_tests}
use Rattle.k_lexer.specs.declared.token.Token.{Token}
use Rattle.cell_tokens.specs.declared.signs.Sign.{Sign}
use Rattle.cell_tokens.specs.declared.signs.Sign.TheVariants.{Word}
use Rattle.cell_tokens.specs.Signs.{is_sign, fits}
use Rattle.cell_tokens.proofs.Runs.{drop_here}

-- where a token is wanting
pub fits_end : (text : List ℕ) (signs : List Sign) (place end : ℕ) (tokens : List Token) (whole : Bool) → place < length signs → length tokens ≤ place
    → whole ≡ fits text (drop place signs) end (drop place tokens) → false ≡ whole
fits_end text signs place end tokens whole within past is =
    sym (is ∙ ap (λ ss. fits text ss end (drop place tokens)) (drop_here signs Word place within)
    ∙ ap (fits text (get_or signs place Word ∷ drop (place + 1) signs) end) (drop_of_length-le tokens past))

other_place : (one other : ℕ) → (one ≡ other → ⊥) → (one == other) ≡ false
other_place one other apart = search (rules, nat_tests)

-- where a token begins elsewhere
pub fits_apart : (text : List ℕ) (signs : List Sign) (place end : ℕ) (tokens : List Token) (token : Token) (whole : Bool) → place < length signs → place < length tokens → token ≡ get_or tokens place token
    → (token.start ≡ end → ⊥) → whole ≡ fits text (drop place signs) end (drop place tokens) → false ≡ whole
fits_apart text signs place end tokens token whole within inside here apart is =
    let front : drop place tokens ≡ token ∷ drop (place + 1) tokens = drop_here tokens token place inside ∙ ap (λ t. t ∷ drop (place + 1) tokens) (sym here) in
    sym (is ∙ ap (λ ss. fits text ss end (drop place tokens)) (drop_here signs Word place within)
    ∙ ap (fits text (get_or signs place Word ∷ drop (place + 1) signs) end) front
    ∙ ap (λ b. b && is_sign text (get_or signs place Word) token && fits text (drop (place + 1) signs) token.end (drop (place + 1) tokens)) (other_place token.start end apart))
