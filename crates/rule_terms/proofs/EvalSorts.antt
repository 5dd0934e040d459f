-- The value of a pattern is of the pattern's sort.
use Rattle.std.proofs.Common.{◌≡◌, ℕ, zero, suc, ◌<◌, List, [], ◌∷◌, length, sym, ap, subst, ◌∙◌, arith}
use Rattle.std.specs.Prelude.{Some, slice_get}
use Rattle.k_terms.specs.declared.value.Value.{Value, Node, Items, Seq, Freezer}
use Rattle.k_terms.specs.declared.value.Value.TheVariants.{outs-Node, outs-Items, outs-Seq, outs-Freezer}
use Rattle.k_terms.specs.Sorts.{SortOrder, Below, same, least_sort, production_sort, sort_k, sort_kitem}
use Rattle.k_terms.specs.Operators.{table, bounded}
use Rattle.rule_terms.specs.declared.pattern.Pattern.{Pattern, Var, Lit, Node' as NodeP', Items' as ItemsP', Seq' as SeqP', Freezer' as FreezerP', Apply'}
use Rattle.rule_terms.specs.Substitution.{Subst, Whole, Bag, value_at, rest_of, as_sequence, as_items_of, AreOfSorts}
use Rattle.rule_terms.specs.Options.{joined}
use Rattle.rule_terms.specs.Eval.{eval, eval_row}
use Rattle.rule_terms.specs.Sound.{sort_of}
use Rattle.rule_terms.proofs.Defined.{same_some, let_through, and_then_gives}
use Rattle.rule_terms.proofs.Table.{level_sort, least_sort_levels, table_sort}

-- the value of a variable is of the variable's sort
pub value_sort : (o : SortOrder) (sorts : List ℕ) (s : Subst) (x sort : ℕ) (v : Value) → slice_get sorts x ≡ Some sort → AreOfSorts o sorts s → value_at s x ≡ Some v → Below o (least_sort o v) sort
value_sort o [] s x sort v e all g = cc
value_sort o (t ∷ sorts) [] x sort v e all g = absurd all
value_sort o (t ∷ sorts) (Whole w ∷ s) zero sort v e all g = subst (λ u. Below o (least_sort o u) sort) (same_some w v g) (subst (Below o (least_sort o w)) (same_some t sort e) all.0)
value_sort o (t ∷ sorts) (Bag cells ∷ s) zero sort v e all g = cc
value_sort o (t ∷ sorts) (b ∷ s) (suc x) sort v e all g = value_sort o sorts s x sort v e all.1 g

-- a variable that has a value is one of those that have a sort
pub value_within : (o : SortOrder) (sorts : List ℕ) (s : Subst) (x : ℕ) (v : Value) → AreOfSorts o sorts s → value_at s x ≡ Some v → x < length sorts
value_within o [] [] x v all g = cc
value_within o [] (b ∷ s) x v all g = absurd all
value_within o (t ∷ sorts) [] x v all g = absurd all
value_within o (t ∷ sorts) (b ∷ s) zero v all g = omega arith
value_within o (t ∷ sorts) (b ∷ s) (suc x) v all g = let h : x < length sorts = value_within o sorts s x v all.1 g in omega arith

-- a value that is built is of the sort of what builds it
built_sort : (o : SortOrder) (w v : Value) (sort least : ℕ) → least_sort o w ≡ sort → bounded w ≡ Some v → Some sort ≡ Some least → Below o (least_sort o v) least
built_sort o w v sort least is e g = subst (λ n. Below o n least) (sym (sym (ap (least_sort o) (let_through _ _ _ e)) ∙ is ∙ same_some sort least g)) (same least)

pub eval_sort : (o : SortOrder) (vars : List ℕ) (p : Pattern) (s : Subst) (v : Value) (least : ℕ) → sort_of o vars p ≡ Some least → AreOfSorts o vars s → eval p s ≡ Some v → Below o (least_sort o v) least
unfolding eval
eval_sort o vars (Var x) s v least is sorts e = value_sort o vars s x least v is sorts e
eval_sort o vars (Lit w) s v least is sorts e = subst (λ n. Below o n least) (sym (sym (ap (least_sort o) (same_some w v e)) ∙ same_some _ least is)) (same least)
eval_sort o vars (NodeP' p n parts) s v least is sorts e =
    let g = and_then_gives (λ vs. bounded (Node p vs)) (eval_row parts s) v e in
    built_sort o (Node p g.0) v (production_sort o p) least (least_sort_levels o _ ∙ ap (level_sort o) (outs-Node p g.0)) g.2 is
eval_sort o vars (ItemsP' p n parts rest) s v least is sorts e =
    let g = and_then_gives (λ vs. bounded (Items p vs)) (joined (eval_row parts s) (rest_of (as_items_of p) rest s)) v e in
    built_sort o (Items p g.0) v (production_sort o p) least (least_sort_levels o _ ∙ ap (level_sort o) (outs-Items p g.0)) g.2 is
eval_sort o vars (SeqP' n parts rest) s v least is sorts e =
    let g = and_then_gives (λ vs. bounded (Seq vs)) (joined (eval_row parts s) (rest_of as_sequence rest s)) v e in
    built_sort o (Seq g.0) v sort_k least (least_sort_levels o _ ∙ ap (level_sort o) (outs-Seq g.0)) g.2 is
eval_sort o vars (FreezerP' p i n parts) s v least is sorts e =
    let g = and_then_gives (λ vs. bounded (Freezer p i vs)) (eval_row parts s) v e in
    built_sort o (Freezer p i g.0) v sort_kitem least (least_sort_levels o _ ∙ ap (level_sort o) (outs-Freezer p i g.0)) g.2 is
eval_sort o vars (Apply' op n arguments) s v least is sorts e =
    let g = and_then_gives (table op) (eval_row arguments s) v e in
    subst (λ n. Below o n least) (sym (table_sort o op g.0 v least is g.2)) (same least)
