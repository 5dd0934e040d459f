-- The value of an expression under a substitution, and what it means that a condition is met.
use Rattle.std.specs.Prelude.{◌≡◌, true, List, [], ◌∷◌, Option, Some, IsSomeAnd, map}
use Rattle.std.specs.Option.{option_map, option_and_then}
use Rattle.k_terms.specs.declared.value.Value.{Value, Bool as Truth, Node, Items, Seq, Freezer}
use Rattle.k_terms.specs.Sorts.{SortOrder, Below, least_sort}
use Rattle.k_terms.specs.Operators.{table, bounded}
use Rattle.rule_terms.specs.declared.pattern.Pattern.{Pattern, Var, Lit, Node' as NodeP', Items' as ItemsP', Seq' as SeqP', Freezer' as FreezerP', Apply', Row_of-Pattern, end_of-Pattern, more_of-Pattern}
use Rattle.rule_terms.specs.declared.rule.Cond.{Cond}
use Rattle.rule_terms.specs.declared.rule.Cond.TheVariants.{Holds, IsSort, NotSort}
use Rattle.rule_terms.specs.Options.{each_some, joined}
use Rattle.rule_terms.specs.Substitution.{Subst, value_at, rest_of, as_sequence, as_items_of}

-- The value of a pattern: a variable has its value, a constructor builds from the values of its parts, and an operator
-- is that of the table. It is undefined where a part is, where the table says so, and where a built value is too deep.
unfoldable mutual
  pub eval : Pattern → Subst → Option Value
  eval (Var x) s = value_at s x
  eval (Lit v) s = Some v
  eval (NodeP' p _ parts) s = option_and_then (λ vs. bounded (Node p vs)) (eval_row parts s)
  eval (ItemsP' p _ parts rest) s = option_and_then (λ vs. bounded (Items p vs)) (joined (eval_row parts s) (rest_of (as_items_of p) rest s))
  eval (SeqP' _ parts rest) s = option_and_then (λ vs. bounded (Seq vs)) (joined (eval_row parts s) (rest_of as_sequence rest s))
  eval (FreezerP' p i _ parts) s = option_and_then (λ vs. bounded (Freezer p i vs)) (eval_row parts s)
  eval (Apply' op _ arguments) s = option_and_then (table op) (eval_row arguments s)

  pub eval_row : {n : _} → Row_of-Pattern n → Subst → Option (List Value)
  eval_row end_of-Pattern s = Some []
  eval_row (more_of-Pattern part parts) s = option_and_then (λ v. option_map (λ vs. v ∷ vs) (eval_row parts s)) (eval part s)

-- the values of several patterns
abbrev pub eval_all : List Pattern → Subst → Option (List Value)
eval_all ps s = each_some (map (λ p. eval p s) ps)

-- the key and the value of each entry
abbrev pub eval_entry : Pattern × Pattern → Subst → Option (Value × Value)
eval_entry e s = option_and_then (λ key. option_map (λ value. (key, value)) (eval e.1 s)) (eval e.0 s)

abbrev pub eval_entries : List (Pattern × Pattern) → Subst → Option (List (Value × Value))
eval_entries es s = each_some (map (λ e. eval_entry e s) es)

-- a condition is met: an expression is true, or the least sort of a variable's value is below a sort, or is not
abbrev pub IsMet : SortOrder → Subst → Cond → Type 0
IsMet o s (Holds e) = eval e s ≡ Some (Truth true)
IsMet o s (IsSort x sort) = IsSomeAnd (value_at s x) (λ v. Below o (least_sort o v) sort)
IsMet o s (NotSort x sort) = IsSomeAnd (value_at s x) (λ v. ¬ Below o (least_sort o v) sort)
