-- What a content is read as.
use Rattle.std.specs.Prelude.{◌≡◌, ◌⊎◌, ℕ, ◌+◌, Bool, cond, List, length, Option, Some, None, option_map}
use Rattle.k_terms.specs.Sorts.{sort_k, sort_map, sort_list}
use Rattle.grammar_terms.specs.declared.shape.Shape.{Shape}
use Rattle.grammar_terms.specs.declared.shape.Readings.TheVariants.{Zero, One as OneReading}
use Rattle.grammar_terms.specs.declared.word.Word.{Word}
use Rattle.grammar_terms.specs.Cuts.{Tells}
use Rattle.grammar_terms.specs.Grammar.{Syntax}
use Rattle.grammar_terms.specs.Reading.{IsReading}
use Rattle.rule_terms.specs.declared.defs.Kind.{Kind}
use Rattle.rule_terms.specs.declared.defs.Kind.TheVariants.{Cells, Seq, Map, List as Listed, One}
use Rattle.rule_contents.specs.declared.reading.Form.{Form}
use Rattle.rule_contents.specs.declared.reading.Form.TheVariants.{Sides, Made, Expression}
use Rattle.rule_contents.specs.declared.reading.ContentFault.{ContentFault}
use Rattle.rule_contents.specs.declared.reading.ContentFault.TheVariants.{NoReading, Ambiguous, Memory}

-- ---- readings at a sort

-- all readings have this shape, and it is one
abbrev pub IsOnly : Syntax → ℕ → List Word → Shape → Type 0
IsOnly g sort words shape = Tells (IsReading g sort words) (OneReading shape)

abbrev pub HasNone : Syntax → ℕ → List Word → Type 0
HasNone g sort words = Tells (IsReading g sort words) Zero

-- there are two different ones
pub record HasTwo (g : Syntax) (sort : ℕ) (words : List Word) : Type 0 where
  pub one : Shape
  pub other : Shape
  pub is_one : IsReading g sort words one
  pub is_other : IsReading g sort words other
  pub differ : one ≡ other → ⊥

-- why there is no one reading
abbrev pub IsFault : Syntax → ℕ → List Word → ContentFault → Type 0
IsFault g sort words NoReading = HasNone g sort words
IsFault g sort words Ambiguous = HasTwo g sort words
IsFault g sort words Memory = ⊥

-- ---- contents

-- the sort of contents, and that of those whose right side is an expression
abbrev pub content_sort : Syntax → ℕ
content_sort g = length g.names + 2

abbrev pub made_sort : Syntax → ℕ
made_sort g = length g.names + 3

-- the sort of the expressions that may be the whole of a content or of its right side
abbrev pub whole_sort : Kind → Option ℕ
whole_sort Cells = None
whole_sort Seq = Some sort_k
whole_sort Map = Some sort_map
whole_sort Listed = Some sort_list
whole_sort (One sort) = None

-- The sort that a content of a form is read at. A cell that is new has no left side: its whole content may be an expression; in
-- any other the right side may.
abbrev pub sort_of_form : Syntax → Kind → Bool → Form → Option ℕ
sort_of_form g kind is_new Sides = Some (content_sort g)
sort_of_form g kind is_new Made = cond is_new None (option_map (λ sort. made_sort g) (whole_sort kind))
sort_of_form g kind is_new Expression = cond is_new (whole_sort kind) None

-- the form is asked for: another one than sides only where these have no reading
abbrev pub IsAsked : Syntax → List Word → Form → Type 0
IsAsked g words form = (form ≡ Sides) ⊎ HasNone g (content_sort g) words

-- a content of this form, with its one reading
pub record IsContent (g : Syntax) (kind : Kind) (is_new : Bool) (words : List Word) (form : Form) (shape : Shape) : Type 0 where
  pub sort : ℕ
  pub sort_is : sort_of_form g kind is_new form ≡ Some sort
  pub asked : IsAsked g words form
  pub only : IsOnly g sort words shape

-- the form that is asked for first with any reading has two different ones
pub record IsAmbiguous (g : Syntax) (kind : Kind) (is_new : Bool) (words : List Word) : Type 0 where
  pub form : Form
  pub sort : ℕ
  pub sort_is : sort_of_form g kind is_new form ≡ Some sort
  pub asked : IsAsked g words form
  pub two : HasTwo g sort words

-- no form has a reading
abbrev pub IsNoContent : Syntax → Kind → Bool → List Word → Type 0
IsNoContent g kind is_new words = (form : Form) (sort : ℕ) → sort_of_form g kind is_new form ≡ Some sort → HasNone g sort words

-- why a content is none
abbrev pub IsContentFault : Syntax → Kind → Bool → List Word → ContentFault → Type 0
IsContentFault g kind is_new words NoReading = IsNoContent g kind is_new words
IsContentFault g kind is_new words Ambiguous = IsAmbiguous g kind is_new words
IsContentFault g kind is_new words Memory = ⊥
