-- The tokens of a text are spans of it.
use Rattle.std.proofs.Common.{ℕ, ◌+◌, ◌≤◌, List, [], ◌∷◌, ◌++◌, length, arith}
use Rattle.std.specs.List.{AllByRecursion}
use Rattle.k_lexer.specs.declared.token.Token.{Token}
use Rattle.k_lexer.specs.Lexing.{Reaches, start, blank, comment, token, AreTokens, token_at}
use Rattle.production_reader.specs.Sources.{AreWithin}

all_push : {X : Type 0} (P : X → Type 0) (xs : List X) (x : X) → AllByRecursion P xs → P x → AllByRecursion P (xs ++ x ∷ [])
all_push P [] x all last = (last, tt)
all_push P (y ∷ xs) x all last = (all.0, all_push P xs x all.1 last)

reached_within : (text : List ℕ) (limit : ℕ) (tokens : List Token) (at : ℕ) → Reaches text tokens at → at ≤ limit → AllByRecursion (λ token. (token.start ≤ token.end) × (token.end ≤ limit)) tokens
reached_within text limit tokens at start below = tt
reached_within text limit tokens at (blank ts p before is) below = reached_within text limit ts p before (omega (arith, below))
reached_within text limit tokens at (comment ts p n before is) below = reached_within text limit ts p before (omega (arith, below))
reached_within text limit tokens at (token ts p n kind before none is) below =
    all_push (λ token. (token.start ≤ token.end) × (token.end ≤ limit)) ts (token_at kind p (p + n)) (reached_within text limit ts p before (omega (arith, below))) (omega arith, below)

pub tokens_within : (text : List ℕ) (tokens : List Token) → AreTokens text tokens → AreWithin text tokens
tokens_within text tokens are = reached_within text (length text) tokens (length text) are.whole (omega arith)
