-- What the tokens of a program are at a sort.
use Rattle.std.specs.Prelude.{◌≡◌, ℕ, List}
use Rattle.std.specs.declared.cmp.Ordering.TheVariants.{Less}
use Rattle.k_terms.specs.declared.value.Value.{Value}
use Rattle.k_terms.specs.Value.{value_cmp}
use Rattle.grammar_terms.specs.declared.shape.Shape.{Shape}
use Rattle.grammar_terms.specs.declared.shape.Readings.TheVariants.{Zero, One}
use Rattle.grammar_terms.specs.declared.word.Word.{Word}
use Rattle.grammar_terms.specs.Cuts.{Tells}
use Rattle.grammar_terms.specs.Grammar.{Syntax}
use Rattle.grammar_terms.specs.Reading.{IsReading}
use Rattle.grammar_terms.specs.Values.{value_of, AreOfProgram}
use Rattle.program_reader.specs.declared.refusal.ReadRefusal.{ReadRefusal}
use Rattle.program_reader.specs.declared.refusal.ReadRefusal.TheVariants.{NoReading, Ambiguous}

-- all readings of the tokens have this shape, and it is one
abbrev pub IsOnlyReading : Syntax → ℕ → List Word → Shape → Type 0
IsOnlyReading g sort words shape = Tells (IsReading g sort words) (One shape)

abbrev pub HasNoReading : Syntax → ℕ → List Word → Type 0
HasNoReading g sort words = Tells (IsReading g sort words) Zero

-- Two different readings have these values; of a program's tokens, the first is the lesser.
pub record AreAmbiguous (g : Syntax) (sort : ℕ) (words : List Word) (first second : Value) : Type 0 where
  pub one : Shape
  pub other : Shape
  pub is_one : IsReading g sort words one
  pub is_other : IsReading g sort words other
  pub differ : one ≡ other → ⊥
  pub value_one : first ≡ value_of g.prods words sort one
  pub value_other : second ≡ value_of g.prods words sort other
  pub ordered : AreOfProgram words → value_cmp first second ≡ Less

-- why tokens have no one reading
abbrev pub IsUnread : Syntax → ℕ → List Word → ReadRefusal → Type 0
IsUnread g sort words (NoReading at) = (at ≡ 0) × HasNoReading g sort words
IsUnread g sort words (Ambiguous first second) = AreAmbiguous g sort words first second
IsUnread g sort words _ = ⊥
