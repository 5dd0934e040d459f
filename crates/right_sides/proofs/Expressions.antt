-- The values of patterns and contents of bodies under what is bound, by their parts.
use Rattle.std.proofs.Common.{◌≡◌, ℕ, List, [], ◌∷◌, refl, sym, ap, ◌∙◌}
use Rattle.std.specs.Prelude.{Option, Some, None, slice_get}
use Rattle.std.specs.Option.{option_map, option_and_then}
use Rattle.k_terms.specs.declared.op.Op.{Op}
use Rattle.k_terms.specs.declared.value.Value.{Value}
use Rattle.k_terms.specs.Operators.{table}
use Rattle.rule_terms.specs.declared.pattern.Pattern.{Pattern, Var, Lit, Node as NodeP, Items as ItemsP, Seq as SeqP, Freezer as FreezerP, Apply, Row_of-Pattern, end_of-Pattern, more_of-Pattern, items-the_row-Pattern, items_hidden-the_row-Pattern-0}
use Rattle.rule_terms.specs.declared.pattern.Pattern.TheBlock.{hidden-the_row-Pattern-0}
use Rattle.rule_terms.specs.Options.{joined}
use Rattle.rule_terms.specs.Substitution.{Subst, value_at, rest_of, as_sequence, as_items_of}
use Rattle.rule_terms.specs.Eval.{eval, eval_row, eval_all}
use Rattle.leaf_match.specs.Bindings.{Partial, node_at, items_at, sequence_at, freezer_at}
use Rattle.leaf_match.proofs.Equations.{eval-Var, eval-Lit, eval-Node, eval-Items, eval-Seq, eval-Freezer}
use Rattle.right_sides.specs.Bound.{IsUnder}
use mathlib.Core.Former.{Count}

row_is : {n : Count} (r : Row_of-Pattern n) (s : Subst) → eval_row r s ≡ eval_all (items-the_row-Pattern n r) s
unfolding eval_row
row_is end_of-Pattern s = refl
row_is (more_of-Pattern p ps) s = ap (λ rest. option_and_then (λ v. option_map (λ vs. v ∷ vs) rest) (eval p s)) (row_is ps s)

eval-Apply : (op : Op) (ps : List Pattern) (s : Subst) → eval (Apply op ps) s ≡ option_and_then (table op) (eval_all ps s)
unfolding eval
eval-Apply op ps s = ap (option_and_then (table op)) (row_is (hidden-the_row-Pattern-0 ps) s ∙ ap (λ qs. eval_all qs s) (items_hidden-the_row-Pattern-0 ps))

module _ (p : Partial) where
  -- a variable that is bound, and one that isn't
  pub under_bound : (x : ℕ) (v : Value) → Some v ≡ option_and_then (λ known. known) (slice_get p x) → IsUnder p (λ s. value_at s x) (Some v)
  under_bound x v is = λ s seen. is ∙ sym (seen x)

  pub under_free : (x : ℕ) → None ≡ option_and_then (λ (known : Option Value). known) (slice_get p x) → IsUnder p (λ s. value_at s x) None
  under_free x is = λ s seen. is ∙ sym (seen x)

  -- a rest, read by its kind
  pub under_rest : {A : Type 0} (kind : Value → Option (List A)) (rest : Option ℕ) (x : ℕ) (v : Option Value) → rest ≡ Some x → IsUnder p (λ s. value_at s x) v
      → IsUnder p (rest_of kind rest) (option_and_then kind v)
  under_rest kind rest x v is known = λ s seen. ap (option_and_then kind) (known s seen) ∙ ap (λ r. rest_of kind r s) (sym is)

  pub under_no_rest : {A : Type 0} (kind : Value → Option (List A)) (rest : Option ℕ) → rest ≡ None → IsUnder p (rest_of kind rest) (Some [])
  under_no_rest kind rest is = λ s seen. ap (λ r. rest_of kind r s) (sym is)

  -- each form of a pattern
  module _ (pattern : Pattern) where
    pub under_var : (x : ℕ) (v : Option Value) → pattern ≡ Var x → IsUnder p (λ s. value_at s x) v → IsUnder p (eval pattern) v
    under_var x v is known = λ s seen. known s seen ∙ sym (ap (λ q. eval q s) is ∙ eval-Var x s)

    pub under_literal : (v : Value) → pattern ≡ Lit v → IsUnder p (eval pattern) (Some v)
    under_literal v is = λ s seen. sym (ap (λ q. eval q s) is ∙ eval-Lit v s)

    pub under_node : (production : ℕ) (parts : List Pattern) (values : Option (List Value)) → pattern ≡ NodeP production parts
        → IsUnder p (eval_all parts) values → IsUnder p (eval pattern) (node_at production values)
    under_node production parts values is known = λ s seen. ap (node_at production) (known s seen) ∙ sym (ap (λ q. eval q s) is ∙ eval-Node production parts s)

    pub under_items : (production : ℕ) (parts : List Pattern) (rest : Option ℕ) (front back : Option (List Value)) → pattern ≡ ItemsP production parts rest
        → IsUnder p (eval_all parts) front → IsUnder p (rest_of (as_items_of production) rest) back → IsUnder p (eval pattern) (items_at production (joined front back))
    under_items production parts rest front back is known left = λ s seen.
        (λ k. items_at production (joined (known s seen k) (left s seen k))) ∙ sym (ap (λ q. eval q s) is ∙ eval-Items production parts rest s)

    pub under_sequence : (parts : List Pattern) (rest : Option ℕ) (front back : Option (List Value)) → pattern ≡ SeqP parts rest
        → IsUnder p (eval_all parts) front → IsUnder p (rest_of as_sequence rest) back → IsUnder p (eval pattern) (sequence_at (joined front back))
    under_sequence parts rest front back is known left = λ s seen.
        (λ k. sequence_at (joined (known s seen k) (left s seen k))) ∙ sym (ap (λ q. eval q s) is ∙ eval-Seq parts rest s)

    pub under_freezer : (production place : ℕ) (parts : List Pattern) (values : Option (List Value)) → pattern ≡ FreezerP production place parts
        → IsUnder p (eval_all parts) values → IsUnder p (eval pattern) (freezer_at production place values)
    under_freezer production place parts values is known = λ s seen.
        ap (freezer_at production place) (known s seen) ∙ sym (ap (λ q. eval q s) is ∙ eval-Freezer production place parts s)

    pub under_operator : (op : Op) (arguments : List Pattern) (values : Option (List Value)) → pattern ≡ Apply op arguments
        → IsUnder p (eval_all arguments) values → IsUnder p (eval pattern) (option_and_then (table op) values)
    under_operator op arguments values is known = λ s seen.
        ap (option_and_then (table op)) (known s seen) ∙ sym (ap (λ q. eval q s) is ∙ eval-Apply op arguments s)

-- three lists, two of them joined first
pub joined_three : {A : Type 0} (front middle back first : Option (List A)) (f m b : Option (List A)) → first ≡ joined front middle → front ≡ f → middle ≡ m → back ≡ b
    → joined first back ≡ joined (joined f m) b
joined_three front middle back first f m b is front_is middle_is back_is =
    (λ k. joined (is k) (back_is k)) ∙ (λ k. joined (joined (front_is k) (middle_is k)) b)
