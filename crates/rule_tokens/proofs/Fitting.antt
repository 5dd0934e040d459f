-- Base tokens of some signs.
use Rattle.std.proofs.Common.{◌≡◌, ℕ, ◌+◌, ◌<◌, ◌≤◌, Bool, true, false, ◌==◌, ◌&&◌, List, ◌∷◌, map, length, drop, get_or, sym, ap, ◌∙◌, arith, rules, Some, drop_of_length-le}
use Rattle.std.specs.List.{position_from}
use Rattle.std.specs.Str.{bytes_eq}
use Rattle.std.proofs.lemmas.Bool.Decides.{nat_tests}
use Rattle.std.proofs.lemmas.List.{get_or-map, length-map}
use Rattle.k_lexer.specs.declared.token.Token.{Token}
use Rattle.grammar_terms.proofs.Numbering.{found_here, found_later}
use Rattle.rule_terms.specs.declared.defs.CellShape.{CellShape}
use Rattle.rule_tokens.specs.declared.signs.Sign.{Sign}
use Rattle.rule_tokens.specs.declared.signs.Sign.TheVariants.{Word}
use Rattle.rule_tokens.specs.Signs.{is_sign, fits}
use Rattle.rule_tokens.specs.Forms.{cell_number}
use Rattle.rule_tokens.proofs.Runs.{drop_here}

-- where a token is wanting
pub fits_end : (text : List ℕ) (signs : List Sign) (place end : ℕ) (tokens : List Token) (whole : Bool) → place < length signs → length tokens ≤ place
    → whole ≡ fits text (drop place signs) end (drop place tokens) → false ≡ whole
fits_end text signs place end tokens whole within past is =
    sym (is ∙ ap (λ ss. fits text ss end (drop place tokens)) (drop_here signs Word place within)
    ∙ ap (fits text (get_or signs place Word ∷ drop (place + 1) signs) end) (drop_of_length-le tokens past))

other_place : (one other : ℕ) → (one ≡ other → ⊥) → (one == other) ≡ false
other_place one other apart = search (rules, nat_tests)

-- where a token begins elsewhere
pub fits_apart : (text : List ℕ) (signs : List Sign) (place end : ℕ) (tokens : List Token) (token : Token) (whole : Bool) → place < length signs → place < length tokens → token ≡ get_or tokens place token
    → (token.start ≡ end → ⊥) → whole ≡ fits text (drop place signs) end (drop place tokens) → false ≡ whole
fits_apart text signs place end tokens token whole within inside here apart is =
    let front : drop place tokens ≡ token ∷ drop (place + 1) tokens = drop_here tokens token place inside ∙ ap (λ t. t ∷ drop (place + 1) tokens) (sym here) in
    sym (is ∙ ap (λ ss. fits text ss end (drop place tokens)) (drop_here signs Word place within)
    ∙ ap (fits text (get_or signs place Word ∷ drop (place + 1) signs) end) front
    ∙ ap (λ b. b && is_sign text (get_or signs place Word) token && fits text (drop (place + 1) signs) token.end (drop (place + 1) tokens)) (other_place token.start end apart))

-- ---- declared cells

abbrev pub names_of : List CellShape → List (List ℕ)
names_of cells = map (λ cell. cell.name) cells

name_at : (cells : List CellShape) (place : ℕ) (cell : CellShape) → place < length cells → cell ≡ get_or cells place cell → get_or (names_of cells) place cell.name ≡ cell.name
name_at cells place cell within is = get_or-map (λ (c : CellShape). c.name) cells place cell cell.name within ∙ ap (λ (c : CellShape). c.name) (sym is)

passes_at : (cells : List CellShape) (place : ℕ) (cell : CellShape) (name bytes : List ℕ) (b : Bool) → place < length cells → cell ≡ get_or cells place cell → bytes ≡ cell.name
    → b ≡ bytes_eq bytes name → bytes_eq (get_or (names_of cells) place cell.name) name ≡ b
passes_at cells place cell name bytes b within is made test =
    ap (λ n. bytes_eq n name) (name_at cells place cell within is ∙ sym made) ∙ sym test

pub cell_found : (cells : List CellShape) (place : ℕ) (cell : CellShape) (name bytes : List ℕ) (b : Bool) → place < length cells → cell ≡ get_or cells place cell → bytes ≡ cell.name
    → b ≡ bytes_eq bytes name → b ≡ true → cell_number (names_of cells) name ≡ position_from (λ other. bytes_eq other name) place (drop place (names_of cells))
    → Some place ≡ cell_number (names_of cells) name
cell_found cells place cell name bytes b within is made test true_is sofar =
    found_here (λ other. bytes_eq other name) (names_of cells) cell.name place _ (let size = length-map cells (λ (c : CellShape). c.name) in omega (arith, size, within))
    (passes_at cells place cell name bytes b within is made test ∙ true_is) sofar

pub cell_later : (cells : List CellShape) (place : ℕ) (cell : CellShape) (name bytes : List ℕ) (b : Bool) → place < length cells → cell ≡ get_or cells place cell → bytes ≡ cell.name
    → b ≡ bytes_eq bytes name → b ≡ false → cell_number (names_of cells) name ≡ position_from (λ other. bytes_eq other name) place (drop place (names_of cells))
    → cell_number (names_of cells) name ≡ position_from (λ other. bytes_eq other name) (place + 1) (drop (place + 1) (names_of cells))
cell_later cells place cell name bytes b within is made test false_is sofar =
    found_later (λ other. bytes_eq other name) (names_of cells) cell.name place _ (let size = length-map cells (λ (c : CellShape). c.name) in omega (arith, size, within))
    (passes_at cells place cell name bytes b within is made test ∙ false_is) sofar
