-- The bytes of base tokens are UTF-8.
use Rattle.std.proofs.Common.{◌≡◌, ℕ, zero, suc, List, [], ◌∷◌, refl, sym, subst}
use Rattle.std.specs.Str.{IsUtf8}
use Rattle.k_lexer.specs.declared.token.Token.{Token}
use Rattle.k_lexer.specs.Before.{AllStand}
use Rattle.cell_tokens.specs.Signs.{bytes_at}

bytes_utf8 : (text : List ℕ) (tokens : List Token) (place : ℕ) → AllStand text tokens → IsUtf8 (bytes_at text tokens place)
bytes_utf8 text [] place stand = ([], (refl, refl))
bytes_utf8 text (token ∷ tokens) zero stand = (stand.0.is.chars, (stand.0.is.scalars, stand.0.is.spelled))
bytes_utf8 text (token ∷ tokens) (suc place) stand = bytes_utf8 text tokens place stand.1

pub word_utf8 : (text : List ℕ) (tokens : List Token) (place : ℕ) (word : List ℕ) → AllStand text tokens → word ≡ bytes_at text tokens place → IsUtf8 word
word_utf8 text tokens place word stand is = subst IsUtf8 (sym is) (bytes_utf8 text tokens place stand)
