-- Rewriting at the front of the one cell k.
use Rattle.std.specs.Prelude.{◌≡◌, ℕ, suc, Bool, true, false, ◌==◌, ◌&&◌, nat_lt, cond, List, [], ◌∷◌, ◌++◌, length, ◌<◌, Option, Some, None, IsTrue, Contains}
use Rattle.std.specs.Option.{option_and_then}
use Rattle.k_terms.specs.declared.value.Value.{Value}
use Rattle.k_terms.specs.declared.value.Content.TheVariants.{Seq as SeqContent}
use Rattle.k_terms.specs.Sorts.{SortOrder, Below, sort_k}
use Rattle.rule_terms.specs.declared.pattern.Pattern.{Pattern, Var, Node', Row_of-Pattern, end_of-Pattern, more_of-Pattern}
use Rattle.rule_terms.specs.declared.pattern.Body.{Seq as SeqBody}
use Rattle.rule_terms.specs.declared.pattern.CellPat.{CellPat}
use Rattle.rule_terms.specs.declared.rule.Rule.{Rule}
use Rattle.rule_terms.specs.Substitution.{Subst}
use Rattle.rule_terms.specs.Fill.{content_of}
use Rattle.rule_terms.specs.Language.{Language, rule_at}
use Rattle.rule_terms.specs.Rewriting.{Suits}
use Rattle.live_config.specs.declared.cell.Cell.{Cell}
use Rattle.live_config.specs.declared.site.Fired.{Fired}
use Rattle.live_config.specs.Configuration.{Configuration}

-- the configuration of the one cell k, whose number is 1, with this sequence
abbrev pub cell_of : List Value → Cell
cell_of values = record { kind = 0; parent = None; content = SeqContent values }

abbrev pub one_cell : List Value → Configuration
one_cell values = record { cells = (1, cell_of values) ∷ [] }

-- a side over the one cell k, whose mark is 0
pub record IsFront (p : CellPat) (parts : List Pattern) (rest : Option ℕ) : Type 0 where
  pub cell : p.cell ≡ 0
  pub mark : p.mark ≡ 0
  pub body : p.body ≡ SeqBody parts rest

-- the rule rewrites one sequence in the cell k to another under the substitution
pub record Rewrites (o : SortOrder) (r : Rule) (s : Subst) (values new : List Value) : Type 0 where
  pub left_parts : List Pattern
  pub right_parts : List Pattern
  pub left_rest : Option ℕ
  pub right_rest : Option ℕ
  pub left_front : IsFront r.left left_parts left_rest
  pub right_front : IsFront r.right right_parts right_rest
  pub suits : Suits o r s
  pub left : content_of r.left.body s ≡ Some (SeqContent values)
  pub right : content_of r.right.body s ≡ Some (SeqContent new)

-- the entry of the log for a rule that fires there
abbrev pub front_entry : ℕ → Fired
front_entry number = record { site = record { rule = number; cells = 1 ∷ []; keys = [] }; births = []; by = 0 }

-- ---- the rules that are run there

-- The number after the variables of a term, where they are numbered from `first` on in the order in which they stand. A
-- term has variables and productions alone.
unfoldable mutual
  pub after_variables : ℕ → Pattern → Option ℕ
  after_variables first (Var x) = cond (x == first) (Some (suc first)) None
  after_variables first (Node' _ _ parts) = row_after_variables first parts
  after_variables first _ = None

  pub row_after_variables : {n : _} → ℕ → Row_of-Pattern n → Option ℕ
  row_after_variables first end_of-Pattern = Some first
  row_after_variables first (more_of-Pattern p ps) = option_and_then (λ next. row_after_variables next ps) (after_variables first p)

-- the same for several terms, one after the other
abbrev pub after_all : ℕ → List Pattern → Option ℕ
after_all first [] = Some first
after_all first (p ∷ ps) = option_and_then (λ next. after_all next ps) (after_variables first p)

-- a term of so many variables
unfoldable mutual
  pub is_front_term : ℕ → Pattern → Bool
  is_front_term variables (Var x) = nat_lt x variables
  is_front_term variables (Node' _ _ parts) = row_is_front_term variables parts
  is_front_term variables _ = false

  pub row_is_front_term : {n : _} → ℕ → Row_of-Pattern n → Bool
  row_is_front_term variables end_of-Pattern = true
  row_is_front_term variables (more_of-Pattern p ps) = is_front_term variables p && row_is_front_term variables ps

abbrev pub is_applied : Pattern → Bool
is_applied (Node' _ _ _) = true
is_applied _ = false

-- The rule makes another term of one at the front, and keeps the rest. The last variable is the rest; the others have these
-- sorts. There is no condition.
pub record HasParts (o : SortOrder) (r : Rule) (left right : Pattern) (variables : List ℕ) : Type 0 where
  pub left_front : IsFront r.left (left ∷ []) (Some (length variables))
  pub right_front : IsFront r.right (right ∷ []) (Some (length variables))
  pub rest_sort : ℕ
  pub sorts : r.vars ≡ variables ++ rest_sort ∷ []
  pub rest : Below o sort_k rest_sort
  pub unconditional : r.when ≡ []

-- such a rule, where each variable stands once on the left, which is no variable itself, and those of the right stand there
pub record IsFrontRule (o : SortOrder) (r : Rule) : Type 0 where
  pub left : Pattern
  pub right : Pattern
  pub variables : List ℕ
  pub parts : HasParts o r left right variables
  pub applied : IsTrue (is_applied left)
  pub numbered : after_variables 0 left ≡ Some (length variables)
  pub known : IsTrue (is_front_term (length variables) right)

-- all rules of a definition are such rules
abbrev pub AreFrontRules : Language → Type 0
AreFrontRules d = (r : Rule) → Contains d.rules r → IsFrontRule d.sorts r

-- no rule below a number that is such a rule rewrites the sequence
abbrev pub NoneRewrites : Language → List Value → ℕ → Type 0
NoneRewrites d values number =
    (n : ℕ) (r : Rule) (s : Subst) (new : List Value) → n < number → rule_at d n ≡ Some r → IsFrontRule d.sorts r → ¬ Rewrites d.sorts r s values new
