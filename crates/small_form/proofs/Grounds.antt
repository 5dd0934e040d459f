-- A term without variables is the term of one value.
use Rattle.std.proofs.Common.{◌≡◌, ℕ, List, [], ◌∷◌, map, length, refl, sym, ap, ◌∙◌, subst, ◌++◌, arith}
use Rattle.std.specs.Prelude.{IsTrue}
use Rattle.std.specs.List.{list_all}
use mathlib.Core.Former.{Count, arity, this}
use denote.Hole.Carrier.{out, roll}
use Rattle.k_terms.specs.formers.many.Many.{the_former}
use Rattle.k_terms.specs.declared.value.Value.{Value, Int, Bool as Truth, Str, Id, Node, Node', Items', Seq', Map', List' as Listed', Freezer', Row_of-Value, end_of-Value, more_of-Value, items-the_row-Value, items_shown-the_row-Value-0, roll-Value, out-Value, roll-out-Value}
use Rattle.k_terms.specs.declared.value.Value.TheBlock.{shown-the_row-Value-0}
use Rattle.rule_terms.specs.declared.pattern.Pattern.{Pattern, Lit, Node as NodeP, Node' as NodeP', Row_of-Pattern, end_of-Pattern, more_of-Pattern, items-the_row-Pattern, items_hidden-the_row-Pattern-0}
use Rattle.rule_terms.specs.declared.pattern.Pattern.TheBlock.{hidden-the_row-Pattern-0}
use Rattle.small_form.specs.declared.small.Production.{Production}
use Rattle.small_form.specs.Pieces.{Reads}
use Rattle.small_form.specs.Small.{is_term, arity_of, has_arity, labels_of, term_pieces, AreVariables}
use Rattle.std.proofs.lemmas.List.{append-nil}
use Rattle.small_form.specs.Program.{term_of, row_terms, IsTermText}
use Rattle.small_form.proofs.Terms.{is_term-Node}
use Rattle.small_form.proofs.Unique.{second_true}
use Rattle.small_form.proofs.Nodes.{term_by}

-- the value that a term is
unfoldable mutual
  value_at : Pattern → Value
  value_at (NodeP' p _ parts) = Node p (row_values parts)
  value_at (Lit v) = v
  value_at p = Node 0 []

  row_values : {n : _} → Row_of-Pattern n → List Value
  row_values end_of-Pattern = []
  row_values (more_of-Pattern p ps) = value_at p ∷ row_values ps

row_values_is : {n : Count} (r : Row_of-Pattern n) → row_values r ≡ map value_at (items-the_row-Pattern n r)
unfolding row_values
row_values_is end_of-Pattern = refl
row_values_is (more_of-Pattern p ps) = ap (λ t. value_at p ∷ t) (row_values_is ps)

value_at-Node : (p : ℕ) (ps : List Pattern) → value_at (NodeP p ps) ≡ Node p (map value_at ps)
unfolding value_at
value_at-Node p ps = ap (Node p) (row_values_is (hidden-the_row-Pattern-0 ps) ∙ ap (map value_at) (items_hidden-the_row-Pattern-0 ps))

value_shown : (p : ℕ) (s : (the_former this).Shape) (r : Row_of-Value (arity (the_former this) s)) → Node p (shown-the_row-Value-0 s r) ≡ Node' p s r
unfolding out-Value roll-Value out roll
value_shown p s r = roll-out-Value (Node' p s r)

mutual
  unfolding term_of row_terms value_at row_values

  value_back : (v : Value) → value_at (term_of v) ≡ v
  value_back (Node' p s r) = value_at-Node p (row_terms r) ∙ ap (Node p) (row_back r) ∙ ap (Node p) (sym (items_shown-the_row-Value-0 s r)) ∙ value_shown p s r
  value_back (Int x) = refl
  value_back (Truth x) = refl
  value_back (Str x) = refl
  value_back (Id x) = refl
  value_back (Items' _ _ _) = refl
  value_back (Seq' _ _) = refl
  value_back (Map' _ _) = refl
  value_back (Listed' _ _) = refl
  value_back (Freezer' _ _ _ _) = refl

  row_back : {n : Count} (r : Row_of-Value n) → map value_at (row_terms r) ≡ items-the_row-Value n r
  row_back end_of-Value = refl
  row_back (more_of-Value v vs) = (λ i. value_back v i ∷ row_back vs i)

-- two values of one term are one
pub one_value : (v w : Value) (p q : Pattern) → term_of v ≡ p → p ≡ q → q ≡ term_of w → v ≡ w
one_value v w p q first same second = sym (value_back v) ∙ ap value_at (first ∙ same ∙ second) ∙ value_back w

-- a term without variables is a term of a production
pub ground_node : (productions : List Production) (p : Pattern) → IsTrue (is_term productions 0 p) → ((n : ℕ) (ps : List Pattern) → p ≡ NodeP n ps → ⊥) → ⊥
ground_node productions p holds other =
    term_by productions 0 (λ q. q ≡ p → ⊥) (λ x less e. absurd (omega arith)) (λ n ps is e. other n ps (sym e)) p holds refl

-- its parts are terms without variables
pub ground_parts : (productions : List Production) (p : Pattern) (n : ℕ) (ps : List Pattern) → IsTrue (is_term productions 0 p) → p ≡ NodeP n ps
    → IsTrue (list_all (is_term productions 0) ps)
ground_parts productions p n ps holds is =
    second_true (has_arity (arity_of productions n) (length ps)) _ (sym (is_term-Node productions 0 n ps) ∙ ap (is_term productions 0) (sym is) ∙ holds)

-- ---- a program

pub no_variables : AreVariables []
no_variables = record { capitals = refl; apart = λ i j text a b one other first second. absurd (omega arith); few = omega arith }

-- how a program stands in its text
pub program_read : (productions : List Production) (text : List ℕ) (v : Value) → (is : IsTermText productions text v)
    → Reads (term_pieces (labels_of productions) [] (term_of v) ++ []) text is.spelled.0
program_read productions text v is =
    subst (λ t. Reads t text is.spelled.0) (sym (append-nil (term_pieces (labels_of productions) [] (term_of v)))) is.spelled.1
