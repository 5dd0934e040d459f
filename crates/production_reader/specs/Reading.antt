-- What a reader says of a place in a list of lexemes: what is written there, or where nothing can go on.
use Rattle.std.specs.Prelude.{◌≡◌, ℕ, ◌≤◌, List, ◌++◌, length, drop}
use Rattle.production_reader.specs.Lexemes.{Lexeme, Sign, Reads, AreAlike}
use Rattle.production_reader.specs.declared.stop.Stop.{Stop}
use Rattle.production_reader.specs.declared.stop.Stop.TheVariants.{Expected, Memory}

-- Such a thing is written from one place up to another, and in each list that is alike up to there, with the lexeme that
-- follows, it is the only one that can be written there.
pub record IsRead {X : Type 0} (Allowed : X → Type 0) (signs : X → List Sign) (Ends : List Lexeme → Type 0) (all : List Lexeme) (from : ℕ) (x : X) (to : ℕ) : Type 0 where
  pub order : from ≤ to
  pub within : to ≤ length all
  pub allowed : Allowed x
  pub reads : Reads (signs x) (drop from all) (drop to all)
  pub only : (other : List Lexeme) (y : X) (after : List Lexeme) → AreAlike to other all → Allowed y → Reads (signs y) (drop from other) after → Ends after
      → (y ≡ x) × (after ≡ drop to other)

-- Such a thing can be begun up to this place, and in no list that is alike up to there, with the lexeme that stands there
-- or the end, is it written.
pub record StopsAt {X : Type 0} (Allowed : X → Type 0) (signs : X → List Sign) (Ends : List Lexeme → Type 0) (all : List Lexeme) (from at : ℕ) : Type 0 where
  pub order : from ≤ at
  pub within : at ≤ length all
  pub none : (other : List Lexeme) (y : X) (after : List Lexeme) → AreAlike at other all → Allowed y → Reads (signs y) (drop from other) after → Ends after → ⊥
  pub begun : X
  pub allowed : Allowed begun
  pub done : List Sign
  pub left : List Sign
  pub parts : signs begun ≡ done ++ left
  pub reads : Reads done (drop from all) (drop at all)

-- what was read means this
pub record IsReadAs {X Y : Type 0} (Allowed : X → Type 0) (signs : X → List Sign) (Ends : List Lexeme → Type 0) (meaning : X → Y) (all : List Lexeme) (from : ℕ) (y : Y) (to : ℕ) : Type 0 where
  pub written : X
  pub read : IsRead Allowed signs Ends all from written to
  pub means : y ≡ meaning written

-- why a reader stops
abbrev pub Stops : {X : Type 0} (Allowed : X → Type 0) (signs : X → List Sign) (Ends : List Lexeme → Type 0) (all : List Lexeme) (from : ℕ) → Stop → Type 0
Stops Allowed signs Ends all from (Expected at) = StopsAt Allowed signs Ends all from at
Stops Allowed signs Ends all from Memory = Unit {0}
