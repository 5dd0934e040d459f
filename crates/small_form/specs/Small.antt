-- The small form: how a definition of it is written, and the language that it defines.
use Rattle.std.specs.Prelude.{◌≡◌, ℕ, suc, zero, Bool, true, false, ◌&&◌, ◌||◌, ◌==◌, not, nat_lt, List, [], ◌∷◌, ◌++◌, Option, Some, None, IsTrue, map, length, codes, replicate, slice_get, unwrap_or, nat_eq, ◌<◌, ◌≤◌, ◌^◌}
use Rattle.std.specs.Option.{option_map, option_to_list}
use Rattle.std.specs.List.{list_all, list_any, AllByRecursion}
use Rattle.std.specs.Cmp.Lexicographic.{pointwise}
use Rattle.k_terms.specs.Sorts.{sort_k}
use Rattle.rule_terms.specs.declared.pattern.Pattern.{Pattern, Var, Node', Row_of-Pattern, end_of-Pattern, more_of-Pattern}
use Rattle.rule_terms.specs.declared.pattern.Body.{Seq as SeqBody}
use Rattle.rule_terms.specs.declared.pattern.CellPat.{CellPat}
use Rattle.rule_terms.specs.declared.rule.Rule.{Rule}
use Rattle.rule_terms.specs.declared.rule.Origin.TheVariants.{Written}
use Rattle.rule_terms.specs.declared.defs.Kind.TheVariants.{Seq as SeqKind}
use Rattle.rule_terms.specs.declared.defs.CellShape.{CellShape}
use Rattle.rule_terms.specs.Language.{Language}
use Rattle.small_form.specs.declared.small.Production.{Production}
use Rattle.small_form.specs.declared.small.SmallRule.{SmallRule}
use Rattle.small_form.specs.declared.small.Small.{Small}
use Rattle.small_form.specs.Pieces.{is_word, is_capital, is_small, Reads, Spells}

-- ---- how it is written

-- lists of pieces with a mark between
abbrev pub separated : List ℕ → List (List (List ℕ)) → List (List ℕ)
separated mark [] = []
separated mark (x ∷ []) = x
separated mark (x ∷ y ∷ zs) = x ++ mark ∷ separated mark (y ∷ zs)

-- a label with its arguments in parentheses
abbrev pub applied : List ℕ → List (List (List ℕ)) → List (List ℕ)
applied label arguments = label ∷ codes "(" ∷ separated (codes ",") arguments ++ codes ")" ∷ []

abbrev pub at_number : List (List ℕ) → ℕ → List ℕ
at_number texts n = unwrap_or (slice_get texts n) []

-- the label of a production by its number, from 1
abbrev pub label_of : List (List ℕ) → ℕ → List ℕ
label_of labels zero = []
label_of labels (suc p) = at_number labels p

-- a term, where each variable is written as this list says
unfoldable mutual
  pub term_pieces : List (List ℕ) → List (List ℕ) → Pattern → List (List ℕ)
  term_pieces labels variables (Var x) = at_number variables x ∷ []
  term_pieces labels variables (Node' p _ arguments) = applied (label_of labels p) (row_pieces labels variables arguments)
  term_pieces labels variables _ = []

  pub row_pieces : {n : _} → List (List ℕ) → List (List ℕ) → Row_of-Pattern n → List (List (List ℕ))
  row_pieces labels variables end_of-Pattern = []
  row_pieces labels variables (more_of-Pattern p ps) = term_pieces labels variables p ∷ row_pieces labels variables ps

-- a variable of a left side, with its sort
abbrev pub typed : List ℕ → List ℕ → List ℕ
typed sort name = name ++ (codes ":" ++ sort)

abbrev pub labels_of : List Production → List (List ℕ)
labels_of productions = map (λ (p : Production). p.label) productions

abbrev pub production_pieces : List ℕ → Production → List (List ℕ)
production_pieces sort p = applied p.label (replicate p.arity (sort ∷ []))

abbrev pub rule_pieces : List (List ℕ) → List ℕ → SmallRule → List (List ℕ)
rule_pieces labels sort r =
    codes "rule" ∷ term_pieces labels (map (typed sort) r.names) r.left ++ codes "=>" ∷ term_pieces labels r.names r.right

abbrev pub rules_pieces : List (List ℕ) → List ℕ → List SmallRule → List (List ℕ)
rules_pieces labels sort [] = []
rules_pieces labels sort (r ∷ rs) = rule_pieces labels sort r ++ rules_pieces labels sort rs

abbrev pub head_pieces : List ℕ → List ℕ → List (List ℕ)
head_pieces name sort = codes "module" ∷ name ∷ codes "syntax" ∷ sort ∷ codes ":" ∷ codes ":" ∷ codes "=" ∷ []

abbrev pub configuration_pieces : List ℕ → List (List ℕ)
configuration_pieces sort = codes "configuration" ∷ codes "<k>" ∷ (codes "$PGM:" ++ sort) ∷ codes "</k>" ∷ []

abbrev pub pieces_of : Small → List (List ℕ)
pieces_of d =
    head_pieces d.name d.sort
    ++ separated (codes "|") (map (production_pieces d.sort) d.productions)
    ++ configuration_pieces d.sort
    ++ rules_pieces (labels_of d.productions) d.sort d.rules
    ++ codes "endmodule" ∷ []

-- ---- what it asks of its names

abbrev pub same_text : List ℕ → List ℕ → Bool
same_text = pointwise nat_eq

abbrev pub is_among : List (List ℕ) → List ℕ → Bool
is_among texts text = list_any (same_text text) texts

abbrev pub are_different : List (List ℕ) → Bool
are_different [] = true
are_different (t ∷ ts) = not (is_among ts t) && are_different ts

abbrev pub reserved_words : List (List ℕ)
reserved_words =
    codes "module" ∷ codes "endmodule" ∷ codes "imports" ∷ codes "syntax" ∷ codes "configuration" ∷ codes "rule" ∷ codes "when"
    ∷ codes "requires" ∷ codes "true" ∷ codes "false" ∷ []

abbrev pub built_in_sorts : List (List ℕ)
built_in_sorts =
    codes "K" ∷ codes "KItem" ∷ codes "KResult" ∷ codes "Int" ∷ codes "Bool" ∷ codes "String" ∷ codes "Id" ∷ codes "Map" ∷ codes "List"
    ∷ codes "Bag" ∷ []

abbrev pub begins_by : (ℕ → Bool) → List ℕ → Bool
begins_by test [] = false
begins_by test (b ∷ bs) = test b

abbrev pub is_label : List ℕ → Bool
is_label text = is_word text && begins_by is_small text && not (is_among reserved_words text)

abbrev pub is_variable : List ℕ → Bool
is_variable text = is_word text && begins_by is_capital text

abbrev pub is_sort : List ℕ → Bool
is_sort text = is_variable text && not (is_among built_in_sorts text)

abbrev pub arity_of : List Production → ℕ → Option ℕ
arity_of productions zero = None
arity_of productions (suc p) = option_map (λ (q : Production). q.arity) (slice_get productions p)

abbrev pub row_length : {n : _} → Row_of-Pattern n → ℕ
row_length end_of-Pattern = 0
row_length (more_of-Pattern _ ps) = suc (row_length ps)

abbrev pub has_arity : Option ℕ → ℕ → Bool
has_arity None n = false
has_arity (Some m) n = m == n

-- a term of declared labels, each with its number of arguments, and of so many variables
unfoldable mutual
  pub is_term : List Production → ℕ → Pattern → Bool
  is_term productions variables (Var x) = nat_lt x variables
  is_term productions variables (Node' p _ arguments) = has_arity (arity_of productions p) (row_length arguments) && row_is_term productions variables arguments
  is_term productions variables _ = false

  pub row_is_term : {n : _} → List Production → ℕ → Row_of-Pattern n → Bool
  row_is_term productions variables end_of-Pattern = true
  row_is_term productions variables (more_of-Pattern p ps) = is_term productions variables p && row_is_term productions variables ps

abbrev pub is_applied : Pattern → Bool
is_applied (Node' _ _ _) = true
is_applied _ = false

-- the variables of a term, in the order in which they stand
unfoldable mutual
  pub variables_of : Pattern → List ℕ
  variables_of (Var x) = x ∷ []
  variables_of (Node' _ _ arguments) = row_variables arguments
  variables_of _ = []

  pub row_variables : {n : _} → Row_of-Pattern n → List ℕ
  row_variables end_of-Pattern = []
  row_variables (more_of-Pattern p ps) = variables_of p ++ row_variables ps

-- the numbers from `first` on, so many
abbrev pub numbers_from : ℕ → ℕ → List ℕ
numbers_from first zero = []
numbers_from first (suc n) = first ∷ numbers_from (suc first) n

-- Each variable stands once on the left, and is numbered by its place there; the left side is no variable.
pub record IsSmallRule (productions : List Production) (r : SmallRule) : Type 0 where
  pub names : IsTrue (list_all is_variable r.names)
  pub left : IsTrue (is_term productions (length r.names) r.left)
  pub applied_left : IsTrue (is_applied r.left)
  pub once : variables_of r.left ≡ numbers_from 0 (length r.names)
  pub different : IsTrue (are_different r.names)
  pub right : IsTrue (is_term productions (length r.names) r.right)

pub record IsSmall (d : Small) : Type 0 where
  pub name : IsTrue (is_word d.name)
  pub sort : IsTrue (is_sort d.sort)
  pub some : 0 < length d.productions
  pub labels : IsTrue (list_all is_label (labels_of d.productions))
  pub different : IsTrue (are_different (labels_of d.productions))
  pub rules : AllByRecursion (IsSmallRule d.productions) d.rules

-- the greatest length of a definition, in bytes
abbrev pub definition_limit : ℕ
definition_limit = 4096

-- the text is this definition of the small form
pub record IsSmallText (text : List ℕ) (d : Small) : Type 0 where
  pub short : length text ≤ definition_limit
  pub small : IsSmall d
  pub spelled : Spells (pieces_of d) text

-- ---- what a text leaves open

-- a rule but for the byte where it stands
abbrev pub unplaced_rule : SmallRule → SmallRule
unplaced_rule r = record { at = 0; names = r.names; left = r.left; right = r.right }

-- a definition but for the bytes where its rules stand
abbrev pub unplaced : Small → Small
unplaced d = record { name = d.name; sort = d.sort; productions = d.productions; rules = map unplaced_rule d.rules }

-- ---- what can be read in one way only

-- where two of these texts are read at one place, they are one
abbrev pub AreToldApart : List (List ℕ) → Type 0
AreToldApart texts =
    (i j : ℕ) (text a b : List ℕ) → i < length texts → j < length texts → Reads (at_number texts i ∷ []) text a → Reads (at_number texts j ∷ []) text b → i ≡ j

-- variables as they are written: each begins with a capital
pub record AreVariables (variables : List (List ℕ)) : Type 0 where
  pub capitals : IsTrue (list_all (begins_by is_capital) variables)
  pub apart : AreToldApart variables
  pub few : length variables ≤ 2 ^ 32

-- labels that are labels and differ
pub record HaveLabels (productions : List Production) : Type 0 where
  pub labels : IsTrue (list_all is_label (labels_of productions))
  pub different : IsTrue (are_different (labels_of productions))
  pub few : length productions < 2 ^ 32

-- a piece of a left side: a variable with its sort, which has a name, or a label, a parenthesis or a comma, which has none
abbrev pub IsLeftPiece : List ℕ → List ℕ → Option (List ℕ) → Type 0
IsLeftPiece sort piece (Some name) = IsTrue (is_variable name) × (piece ≡ typed sort name)
IsLeftPiece sort piece None = IsTrue (is_label piece || is_among (codes "(" ∷ codes "," ∷ codes ")" ∷ []) piece)

-- the names of the variables among the pieces of a left side, in the order in which they stand
abbrev pub HasNames : List ℕ → List (List ℕ) → List (List ℕ) → Type 0
HasNames sort [] names = names ≡ []
HasNames sort (piece ∷ pieces) names =
    (name : Option (List ℕ)) × (more : List (List ℕ)) × IsLeftPiece sort piece name × (names ≡ option_to_list name ++ more) × HasNames sort pieces more

-- the comma before an argument, unless it is the first
abbrev pub comma_before : ℕ → List (List ℕ)
comma_before zero = []
comma_before (suc place) = codes "," ∷ []

-- ---- the language that it defines

-- the number of the first declared sort
abbrev pub first_sort : ℕ
first_sort = 10

-- the front of the cell k, with a rest
abbrev pub front : ℕ → Pattern → CellPat
front rest p = record { cell = 0; mark = 0; body = SeqBody (p ∷ []) (Some rest) }

abbrev pub rule_of : SmallRule → Rule
rule_of r = record {
  origin = Written r.at;
  vars = replicate (length r.names) first_sort ++ sort_k ∷ [];
  left = front (length r.names) r.left;
  right = front (length r.names) r.right;
  when = [];
}

abbrev pub cell_k : CellShape
cell_k = record { name = codes "k"; parent = None; many = false; kind = SeqKind }

abbrev pub language_of : Small → Language
language_of d = record {
  sorts = record { steps = []; productions = replicate (length d.productions) first_sort };
  cells = cell_k ∷ [];
  rules = map rule_of d.rules;
  labels = labels_of d.productions;
}
