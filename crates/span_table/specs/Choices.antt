-- What the rows of all tokens tell.
use Rattle.std.specs.Prelude.{◌≡◌, ℕ, List, Option, Some, None}
use Rattle.grammar_terms.specs.declared.shape.Shape.{Shape}
use Rattle.grammar_terms.specs.declared.shape.Readings.{Readings}
use Rattle.grammar_terms.specs.declared.shape.Readings.TheVariants.{Zero, One, Two}
use Rattle.grammar_terms.specs.Cuts.{Has}
use Rattle.grammar_terms.specs.Grammar.{Syntax}
use Rattle.span_rows.specs.declared.row.Row.{Row}
use Rattle.span_rows.specs.declared.sign.Sign.{Sign}
use Rattle.span_table.specs.Codes.{code_of}
use Rattle.span_rows.specs.Rows.{Stands}

-- a row that may stand at a sort, or that there is none
abbrev pub IsFirst : Syntax → ℕ → List Row → Option Row → Type 0
IsFirst g sort rows None = (made : Row) → Has rows made → Stands g None sort made.key → ⊥
IsFirst g sort rows (Some one) = Has rows one × Stands g None sort one.key

-- such a row with another code, or that there is none
abbrev pub IsOther : Syntax → ℕ → List Row → List Sign → Option Row → Type 0
IsOther g sort rows code None = (made : Row) → Has rows made → Stands g None sort made.key → made.code ≡ code
IsOther g sort rows code (Some other) = Has rows other × Stands g None sort other.key × (other.code ≡ code → ⊥)

-- one of the rows may stand at a sort, and tells of the shape
pub record IsShown (g : Syntax) (sort : ℕ) (rows : List Row) (shape : Shape) : Type 0 where
  pub made : Row
  pub has : Has rows made
  pub stands : Stands g None sort made.key
  pub code_is : made.code ≡ code_of shape

abbrev pub TellsOf : Syntax → ℕ → List Row → Readings → Type 0
TellsOf g sort rows Zero = (made : Row) → Has rows made → Stands g None sort made.key → ⊥
TellsOf g sort rows (One only) = IsShown g sort rows only × ((made : Row) → Has rows made → Stands g None sort made.key → made.code ≡ code_of only)
TellsOf g sort rows (Two first second) = IsShown g sort rows first × IsShown g sort rows second × (first ≡ second → ⊥)
