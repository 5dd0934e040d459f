-- The tokens of a text are spans of it.
use Rattle.std.proofs.Common.{◌≡◌, ℕ, suc, zero, ◌+◌, ◌<◌, ◌≤◌, true, List, [], ◌∷◌, ◌++◌, length, drop, arith, rules, slice_index, ⊎_elim, length-drop}
use Rattle.std.specs.List.{AllByRecursion}
use Rattle.k_lexer.specs.declared.token.Token.{Token}
use Rattle.k_lexer.specs.Characters.{is_blank}
use Rattle.k_lexer.specs.Tokens.{IsLineComment, IsBlockComment}
use Rattle.k_lexer.specs.Lexing.{Reaches, AreTokens, start, blank, comment, token}
use Rattle.production_reader.specs.Sources.{AreWithin}

blank_within : (text : List ℕ) (at : ℕ) → is_blank (slice_index text at) ≡ true → at < length text
blank_within [] zero is = absurd (cc)
blank_within [] (suc at) is = absurd (cc)
blank_within (b ∷ text) zero is = omega arith
blank_within (b ∷ text) (suc at) is = let before : at < length text = blank_within text at is in omega arith

line_within : (rest : List ℕ) (n : ℕ) → IsLineComment rest n → n ≤ length rest
line_within rest n is = search rules

block_within : (rest : List ℕ) (n : ℕ) → IsBlockComment rest n → n ≤ length rest
block_within rest n is = search rules

all_more : (P : Token → Type 0) (xs : List Token) (x : Token) → AllByRecursion P xs → P x → AllByRecursion P (xs ++ x ∷ [])
all_more P [] x all one = (one, tt)
all_more P (y ∷ xs) x all one = (all.0, all_more P xs x all.1 one)

reaches_within : (text : List ℕ) (tokens : List Token) (at : ℕ) → Reaches text tokens at → (at ≤ length text) × AreWithin text tokens
reaches_within text tokens at start = (omega arith, tt)
reaches_within text tokens at (blank ts p before is) = let less : p < length text = blank_within text p is in (omega arith, (reaches_within text ts p before).1)
reaches_within text tokens at (comment ts p n before is) =
    let sofar = reaches_within text ts p before in
    let size : n ≤ length (drop p text) = ⊎_elim (line_within (drop p text) n) (block_within (drop p text) n) is in
    (omega (arith, sofar.0, length-drop p text), sofar.1)
reaches_within text tokens at (token ts p n kind before none is) =
    let sofar = reaches_within text ts p before in
    let size : n ≤ length (drop p text) = is.within in
    let end : p + n ≤ length text = omega (arith, sofar.0, length-drop p text) in
    (end, all_more (λ t. (t.start ≤ t.end) × (t.end ≤ length text)) ts _ sofar.1 (omega arith, end))

-- where a text has these tokens
pub tokens_within : (text : List ℕ) (tokens : List Token) → AreTokens text tokens → AreWithin text tokens
tokens_within text tokens are = (reaches_within text tokens (length text) are.whole).1
