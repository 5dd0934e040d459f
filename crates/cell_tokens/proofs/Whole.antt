-- The tokens of a text are the longest at their places.
use Rattle.std.proofs.Common.{◌≡◌, ℕ, zero, suc, ◌+◌, ◌-◌, List, [], ◌∷◌, ◌++◌, length, take, drop, sym, subst, arith}
use Rattle.std.specs.List.{AllByRecursion}
use Rattle.k_lexer.specs.declared.token.Token.{Token}
use Rattle.k_lexer.specs.Tokens.{IsLongest}
use Rattle.k_lexer.specs.Lexing.{Reaches, AreTokens, token_at, start, blank, comment, token}
use Rattle.k_lexer.specs.Before.{Stands, AllStand}
use Rattle.k_lexer.proofs.Standing.{all_stand}
use Rattle.program_tokens.proofs.Reading.{drop_all}
use Rattle.cell_tokens.specs.Lookup.{IsWhole, AllWhole}

all_more : (text : List ℕ) (tokens : List Token) (one : Token) → AllWhole text tokens → IsWhole text one → AllWhole text (tokens ++ one ∷ [])
all_more text [] one all this = (this, tt)
all_more text (t ∷ tokens) one all this = (all.0, all_more text tokens one all.1 this)

all_whole : (text : List ℕ) (tokens : List Token) (at : ℕ) → Reaches text tokens at → AllWhole text tokens
all_whole text tokens at start = tt
all_whole text tokens at (blank ts p before is) = all_whole text ts p before
all_whole text tokens at (comment ts p n before is) = all_whole text ts p before
all_whole text tokens at (token ts p n kind before none is) =
    let size : n ≡ p + n - p = omega arith in
    all_more text ts (token_at kind p (p + n)) (all_whole text ts p before) (subst (IsLongest kind (drop p text)) size is)

take_all : {X : Type 0} (P : X → Type 0) (n : ℕ) (xs : List X) → AllByRecursion P xs → AllByRecursion P (take n xs)
take_all P zero xs all = tt
take_all P (suc n) [] all = tt
take_all P (suc n) (x ∷ xs) all = (all.0, take_all P n xs all.1)

pub whole_tokens : (text : List ℕ) (tokens : List Token) (first size : ℕ) → AreTokens text tokens
    → AllStand text (take size (drop first tokens)) × AllWhole text (take size (drop first tokens))
whole_tokens text tokens first size are = (
  take_all (Stands text) size (drop first tokens) (drop_all (Stands text) first tokens (all_stand text tokens (length text) are.whole)),
  take_all (IsWhole text) size (drop first tokens) (drop_all (IsWhole text) first tokens (all_whole text tokens (length text) are.whole)),
)

-- all of them
pub text_tokens : (text : List ℕ) (tokens seen : List Token) → AreTokens text tokens → seen ≡ tokens → AllStand text seen × AllWhole text seen
text_tokens text tokens seen are is = (
  subst (AllStand text) (sym is) (all_stand text tokens (length text) are.whole),
  subst (AllWhole text) (sym is) (all_whole text tokens (length text) are.whole),
)
