-- Programs of the small form: one ground term.
use Rattle.std.specs.Prelude.{ℕ, ◌≤◌, List, [], ◌∷◌, IsTrue, length}
use Rattle.k_terms.specs.declared.value.Value.{Value, Node', Row_of-Value, end_of-Value, more_of-Value}
use Rattle.k_terms.specs.Value.{depth_of}
use Rattle.k_terms.specs.Operators.{depth_limit}
use Rattle.rule_terms.specs.declared.pattern.Pattern.{Pattern, Node, Lit}
use Rattle.small_form.specs.declared.small.Production.{Production}
use Rattle.small_form.specs.Pieces.{Spells}
use Rattle.small_form.specs.Small.{term_pieces, is_term, labels_of}

-- a value of productions alone as the term that it is
unfoldable mutual
  pub term_of : Value → Pattern
  term_of (Node' p _ parts) = Node p (row_terms parts)
  term_of v = Lit v

  pub row_terms : {n : _} → Row_of-Value n → List Pattern
  row_terms end_of-Value = []
  row_terms (more_of-Value v vs) = term_of v ∷ row_terms vs

-- the greatest length of a program, in bytes
abbrev pub program_limit : ℕ
program_limit = 4096

-- the text is this value: one ground term of the declared productions, not too deep
pub record IsTermText (productions : List Production) (text : List ℕ) (v : Value) : Type 0 where
  pub short : length text ≤ program_limit
  pub term : IsTrue (is_term productions 0 (term_of v))
  pub spelled : Spells (term_pieces (labels_of productions) [] (term_of v)) text
  pub shallow : depth_of v ≤ depth_limit
