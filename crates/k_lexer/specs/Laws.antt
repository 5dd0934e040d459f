-- The laws of the tokens of a text.
use Rattle.std.specs.Prelude.{◌≡◌, ◌↔◌, ℕ, List, length}
use Rattle.k_lexer.specs.declared.token.Token.{Token}
use Rattle.k_lexer.specs.declared.fault.LexFault.{LexFault}
use Rattle.k_lexer.specs.Lexing.{Reaches, AreTokens, IsStop, IsFault, place}
use Rattle.k_lexer.specs.Before.{AreBefore, AllStand}

abbrev pub HasOneList : Type 0
HasOneList = (text : List ℕ) (one other : List Token) → AreTokens text one → AreTokens text other → one ≡ other

abbrev pub HasOneFault : Type 0
HasOneFault = (text : List ℕ) (one other : LexFault) → IsFault text one → IsFault text other → one ≡ other

abbrev pub HasNotBoth : Type 0
HasNotBoth = (text : List ℕ) (tokens : List Token) (fault : LexFault) → AreTokens text tokens → IsFault text fault → ⊥

-- some list is the text's tokens
pub record HasTokens (text : List ℕ) : Type 0 where
  pub tokens : List Token
  pub are : AreTokens text tokens

-- some tokens lead to this place
pub record IsReached (text : List ℕ) (at : ℕ) : Type 0 where
  pub tokens : List Token
  pub reached : Reaches text tokens at

abbrev pub HasOneFront : Type 0
HasOneFront = (text : List ℕ) (at : ℕ) (one other : List Token) → AreBefore text at one → AreBefore text at other → one ≡ other

-- where a text has tokens, those before its end are all
abbrev pub HasWholeFront : Type 0
HasWholeFront = (text : List ℕ) (tokens : List Token) → HasTokens text → AreBefore text (length text) tokens ↔ AreTokens text tokens

-- the tokens before a place where nothing can be taken are those that lead there
abbrev pub HasStoppedFront : Type 0
HasStoppedFront = (text : List ℕ) (fault : LexFault) (tokens : List Token) → IsStop text fault → AreBefore text (place fault) tokens ↔ Reaches text tokens (place fault)

-- tokens that lead somewhere stand in the text
abbrev pub HasStanding : Type 0
HasStanding = (text : List ℕ) (tokens : List Token) (at : ℕ) → Reaches text tokens at → AllStand text tokens
