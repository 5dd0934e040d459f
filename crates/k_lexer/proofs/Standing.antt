-- Tokens that lead somewhere stand in the text.
use Rattle.std.proofs.Common.{◌≡◌, ℕ, suc, zero, ◌+◌, ◌-◌, ◌<◌, ◌≤◌, true, List, [], ◌∷◌, ◌++◌, length, take, drop, arith, rules, subst, slice_index, ⊎_elim, length-drop}
use Rattle.k_lexer.specs.declared.token.Kind.{Kind}
use Rattle.k_lexer.specs.declared.token.Token.{Token}
use Rattle.k_lexer.specs.Characters.{is_blank}
use Rattle.k_lexer.specs.Tokens.{IsToken, IsLongest, IsLineComment, IsBlockComment}
use Rattle.k_lexer.specs.Lexing.{Reaches, token_at, start, blank, comment, token}
use Rattle.k_lexer.specs.Before.{Stands, AllStand}

blank_within : (text : List ℕ) (at : ℕ) → is_blank (slice_index text at) ≡ true → at < length text
blank_within [] zero is = absurd (cc)
blank_within [] (suc at) is = absurd (cc)
blank_within (b ∷ text) zero is = omega arith
blank_within (b ∷ text) (suc at) is = let before : at < length text = blank_within text at is in omega arith

line_within : (rest : List ℕ) (n : ℕ) → IsLineComment rest n → n ≤ length rest
line_within rest n is = search rules

block_within : (rest : List ℕ) (n : ℕ) → IsBlockComment rest n → n ≤ length rest
block_within rest n is = search rules

all_more : (text : List ℕ) (tokens : List Token) (one : Token) → AllStand text tokens → Stands text one → AllStand text (tokens ++ one ∷ [])
all_more text [] one all this = (this, tt)
all_more text (t ∷ tokens) one all this = (all.0, all_more text tokens one all.1 this)

token_stands : (text : List ℕ) (kind : Kind) (at n : ℕ) → at + n ≤ length text → IsLongest kind (drop at text) n → Stands text (token_at kind at (at + n))
token_stands text kind at n end is =
    let size : n ≡ at + n - at = omega arith in
    record { order = omega arith; within = end; is = subst (λ k. IsToken kind (take k (drop at text))) size is.token }

reaches_within : (text : List ℕ) (tokens : List Token) (at : ℕ) → Reaches text tokens at → (at ≤ length text) × AllStand text tokens
reaches_within text tokens at start = (omega arith, tt)
reaches_within text tokens at (blank ts p before is) = let less : p < length text = blank_within text p is in (omega arith, (reaches_within text ts p before).1)
reaches_within text tokens at (comment ts p n before is) =
    let sofar = reaches_within text ts p before in
    let size : n ≤ length (drop p text) = ⊎_elim (line_within (drop p text) n) (block_within (drop p text) n) is in
    (omega (arith, sofar.0, length-drop p text), sofar.1)
reaches_within text tokens at (token ts p n kind before none is) =
    let sofar = reaches_within text ts p before in
    let size : n ≤ length (drop p text) = is.within in
    let end : p + n ≤ length text = omega (arith, sofar.0, length-drop p text) in
    (end, all_more text ts _ sofar.1 (token_stands text kind p n end is))

pub all_stand : (text : List ℕ) (tokens : List Token) (at : ℕ) → Reaches text tokens at → AllStand text tokens
all_stand text tokens at reached = (reaches_within text tokens at reached).1
