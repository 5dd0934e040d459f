-- The values of patterns by their parts, and the patterns without operators.
use Rattle.std.proofs.Common.{◌≡◌, ℕ, false, ◌&&◌, List, ◌∷◌, refl, ap, ◌∙◌}
use Rattle.std.specs.Prelude.{Option, Some}
use Rattle.std.specs.Option.{option_map, option_and_then}
use Rattle.std.specs.List.{list_all}
use mathlib.Core.Former.{Count}
use Rattle.k_terms.specs.declared.op.Op.{Op}
use Rattle.k_terms.specs.declared.value.Value.{Value, Node, Items, Seq, Freezer}
use Rattle.k_terms.specs.Operators.{bounded}
use Rattle.rule_terms.specs.declared.pattern.Pattern.{Pattern, Var, Lit, Node as NodeP, Items as ItemsP, Seq as SeqP, Freezer as FreezerP, Apply, Row_of-Pattern, end_of-Pattern, more_of-Pattern, items-the_row-Pattern, items_hidden-the_row-Pattern-0}
use Rattle.rule_terms.specs.declared.pattern.Pattern.TheBlock.{hidden-the_row-Pattern-0}
use Rattle.rule_terms.specs.Options.{joined}
use Rattle.rule_terms.specs.Substitution.{Subst, value_at, rest_of, as_sequence, as_items_of}
use Rattle.rule_terms.specs.Eval.{eval, eval_row, eval_all}
use Rattle.rule_terms.specs.Sound.{has_no_operator, row_has_no_operator}

row_is : {n : Count} (r : Row_of-Pattern n) (s : Subst) → eval_row r s ≡ eval_all (items-the_row-Pattern n r) s
unfolding eval_row
row_is end_of-Pattern s = refl
row_is (more_of-Pattern p ps) s = ap (λ rest. option_and_then (λ v. option_map (λ vs. v ∷ vs) rest) (eval p s)) (row_is ps s)

parts_are : (ps : List Pattern) (s : Subst) → eval_row (hidden-the_row-Pattern-0 ps) s ≡ eval_all ps s
parts_are ps s = row_is (hidden-the_row-Pattern-0 ps) s ∙ ap (λ qs. eval_all qs s) (items_hidden-the_row-Pattern-0 ps)

pub eval-Var : (x : ℕ) (s : Subst) → eval (Var x) s ≡ value_at s x
unfolding eval
eval-Var x s = refl

pub eval-Lit : (v : Value) (s : Subst) → eval (Lit v) s ≡ Some v
unfolding eval
eval-Lit v s = refl

pub eval-Node : (p : ℕ) (ps : List Pattern) (s : Subst) → eval (NodeP p ps) s ≡ option_and_then (λ vs. bounded (Node p vs)) (eval_all ps s)
unfolding eval
eval-Node p ps s = ap (option_and_then (λ vs. bounded (Node p vs))) (parts_are ps s)

pub eval-Items : (p : ℕ) (ps : List Pattern) (rest : Option ℕ) (s : Subst)
    → eval (ItemsP p ps rest) s ≡ option_and_then (λ vs. bounded (Items p vs)) (joined (eval_all ps s) (rest_of (as_items_of p) rest s))
unfolding eval
eval-Items p ps rest s = ap (λ vs. option_and_then (λ ws. bounded (Items p ws)) (joined vs (rest_of (as_items_of p) rest s))) (parts_are ps s)

pub eval-Seq : (ps : List Pattern) (rest : Option ℕ) (s : Subst)
    → eval (SeqP ps rest) s ≡ option_and_then (λ vs. bounded (Seq vs)) (joined (eval_all ps s) (rest_of as_sequence rest s))
unfolding eval
eval-Seq ps rest s = ap (λ vs. option_and_then (λ ws. bounded (Seq ws)) (joined vs (rest_of as_sequence rest s))) (parts_are ps s)

pub eval-Freezer : (p i : ℕ) (ps : List Pattern) (s : Subst) → eval (FreezerP p i ps) s ≡ option_and_then (λ vs. bounded (Freezer p i vs)) (eval_all ps s)
unfolding eval
eval-Freezer p i ps s = ap (option_and_then (λ vs. bounded (Freezer p i vs))) (parts_are ps s)

-- ---- no operator

plain_row_is : {n : Count} (r : Row_of-Pattern n) → row_has_no_operator r ≡ list_all has_no_operator (items-the_row-Pattern n r)
unfolding row_has_no_operator
plain_row_is end_of-Pattern = refl
plain_row_is (more_of-Pattern p ps) = ap (λ b. has_no_operator p && b) (plain_row_is ps)

plain_parts : (ps : List Pattern) → row_has_no_operator (hidden-the_row-Pattern-0 ps) ≡ list_all has_no_operator ps
plain_parts ps = plain_row_is (hidden-the_row-Pattern-0 ps) ∙ ap (list_all has_no_operator) (items_hidden-the_row-Pattern-0 ps)

pub plain-Node : (p : ℕ) (ps : List Pattern) → has_no_operator (NodeP p ps) ≡ list_all has_no_operator ps
unfolding has_no_operator
plain-Node p ps = plain_parts ps

pub plain-Items : (p : ℕ) (ps : List Pattern) (rest : Option ℕ) → has_no_operator (ItemsP p ps rest) ≡ list_all has_no_operator ps
unfolding has_no_operator
plain-Items p ps rest = plain_parts ps

pub plain-Seq : (ps : List Pattern) (rest : Option ℕ) → has_no_operator (SeqP ps rest) ≡ list_all has_no_operator ps
unfolding has_no_operator
plain-Seq ps rest = plain_parts ps

pub plain-Freezer : (p i : ℕ) (ps : List Pattern) → has_no_operator (FreezerP p i ps) ≡ list_all has_no_operator ps
unfolding has_no_operator
plain-Freezer p i ps = plain_parts ps

pub operator-Apply : (op : Op) (ps : List Pattern) → has_no_operator (Apply op ps) ≡ false
unfolding has_no_operator
operator-Apply op ps = refl
