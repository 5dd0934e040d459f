-- Substitutions that are equal up to the order of cells in a rest: patterns, contents and conditions are the same under both,
-- and what is filled under one is filled under the other.
use Rattle.std.proofs.Common.{◌≡◌, ℕ, zero, suc, List, [], ◌∷◌, Option, Some, None, refl, sym, ap, subst, ◌∙◌}
use Rattle.std.specs.Prelude.{IsSomeAnd}
use Rattle.std.specs.Option.{option_map, option_and_then}
use Rattle.std.specs.List.{AllByRecursion}
use mathlib.Core.Former.{Count}
use Rattle.k_terms.specs.declared.value.Value.{Value, Node, Items, Seq, Freezer}
use Rattle.k_terms.specs.declared.value.Content.TheVariants.{Seq as SeqContent, Map as MapContent, List as ListContent, One as OneContent}
use Rattle.k_terms.specs.Operators.{table, bounded, as_entries, as_members}
use Rattle.k_terms.specs.Sorts.{SortOrder, Below, least_sort}
use Rattle.rule_terms.specs.declared.pattern.Pattern.{Pattern, Var, Lit, Node' as NodeP', Items' as ItemsP', Seq' as SeqP', Freezer' as FreezerP', Apply', Row_of-Pattern, end_of-Pattern, more_of-Pattern}
use Rattle.rule_terms.specs.declared.pattern.Body.{Body, Cells', Seq as SeqBody, Map as MapBody, List as Listed, One, Made}
use Rattle.rule_terms.specs.declared.rule.Cond.{Cond}
use Rattle.rule_terms.specs.declared.rule.Cond.TheVariants.{Holds, IsSort, NotSort}
use Rattle.rule_terms.specs.Options.{joined}
use Rattle.rule_terms.specs.Substitution.{Bound, Whole, Bag, Subst, value_at, rest_of, as_sequence, as_items_of, IsOfSort, AreOfSorts}
use Rattle.rule_terms.specs.Eval.{eval, eval_row, eval_all, eval_entry, eval_entries, IsMet}
use Rattle.rule_terms.specs.Fill.{put_new, content_from, content_of}
use Rattle.live_config.specs.Steps.{BoundAlike, SubstAlike}

-- the same values stand for the variables
abbrev pub SameValues : Subst → Subst → Type 0
SameValues s t = (x : ℕ) → value_at s x ≡ value_at t x

pub same_values : (s t : Subst) → SubstAlike s t → SameValues s t
same_values [] [] like x = refl
same_values [] (c ∷ t) like x = absurd like
same_values (b ∷ s) [] like x = absurd like
same_values (Whole v ∷ s) (Whole w ∷ t) like zero = ap Some like.0
same_values (Whole v ∷ s) (Bag us ∷ t) like zero = absurd like.0
same_values (Bag ts ∷ s) (Whole w ∷ t) like zero = absurd like.0
same_values (Bag ts ∷ s) (Bag us ∷ t) like zero = refl
same_values (b ∷ s) (c ∷ t) like (suc x) = same_values s t like.1 x

module _ (s t : Subst) (same : SameValues s t) where
  pub rest_same : {A : Type 0} (kind : Value → Option (List A)) (rest : Option ℕ) → rest_of kind rest s ≡ rest_of kind rest t
  rest_same kind None = refl
  rest_same kind (Some x) = ap (option_and_then kind) (same x)

  mutual
    unfolding eval eval_row

    pub eval_same : (p : Pattern) → eval p s ≡ eval p t
    eval_same (Var x) = same x
    eval_same (Lit v) = refl
    eval_same (NodeP' p _ parts) = ap (option_and_then (λ vs. bounded (Node p vs))) (row_same parts)
    eval_same (ItemsP' p _ parts rest) = λ i. option_and_then (λ vs. bounded (Items p vs)) (joined (row_same parts i) (rest_same (as_items_of p) rest i))
    eval_same (SeqP' _ parts rest) = λ i. option_and_then (λ vs. bounded (Seq vs)) (joined (row_same parts i) (rest_same as_sequence rest i))
    eval_same (FreezerP' p place _ parts) = ap (option_and_then (λ vs. bounded (Freezer p place vs))) (row_same parts)
    eval_same (Apply' op _ arguments) = ap (option_and_then (table op)) (row_same arguments)

    pub row_same : {n : Count} (parts : Row_of-Pattern n) → eval_row parts s ≡ eval_row parts t
    row_same end_of-Pattern = refl
    row_same (more_of-Pattern part parts) = λ i. option_and_then (λ v. option_map (λ vs. v ∷ vs) (row_same parts i)) (eval_same part i)

  pub eval_all_same : (ps : List Pattern) → eval_all ps s ≡ eval_all ps t
  eval_all_same [] = refl
  eval_all_same (p ∷ ps) = λ i. option_and_then (λ v. option_map (λ vs. v ∷ vs) (eval_all_same ps i)) (eval_same p i)

  entry_same : (e : Pattern × Pattern) → eval_entry e s ≡ eval_entry e t
  entry_same e = λ i. option_and_then (λ key. option_map (λ value. (key, value)) (eval_same e.1 i)) (eval_same e.0 i)

  entries_same : (es : List (Pattern × Pattern)) → eval_entries es s ≡ eval_entries es t
  entries_same [] = refl
  entries_same (e ∷ es) = λ i. option_and_then (λ v. option_map (λ vs. v ∷ vs) (entries_same es i)) (entry_same e i)

  pub content_same : (body : Body) → content_of body s ≡ content_of body t
  content_same (Cells' _ _ _) = refl
  content_same (SeqBody parts rest) = λ i. option_map SeqContent (joined (eval_all_same parts i) (rest_same as_sequence rest i))
  content_same (MapBody entries rest) =
      λ i. option_map MapContent (option_and_then (λ es. option_and_then (put_new es) (rest_same as_entries rest i)) (entries_same entries i))
  content_same (Listed before rest after) =
      λ i. option_map ListContent (joined (joined (eval_all_same before i) (rest_same as_members rest i)) (eval_all_same after i))
  content_same (One p) = ap (option_map OneContent) (eval_same p)
  content_same (Made p) = ap (option_map content_from) (eval_same p)

  pub met_same : (o : SortOrder) (c : Cond) → IsMet o s c → IsMet o t c
  met_same o (Holds e) met = sym (eval_same e) ∙ met
  met_same o (IsSort x sort) met = subst (λ v. IsSomeAnd v (λ v. Below o (least_sort o v) sort)) (same x) met
  met_same o (NotSort x sort) met = subst (λ v. IsSomeAnd v (λ v. ¬ Below o (least_sort o v) sort)) (same x) met

  pub all_met_same : (o : SortOrder) (cs : List Cond) → AllByRecursion (IsMet o s) cs → AllByRecursion (IsMet o t) cs
  all_met_same o [] met = tt
  all_met_same o (c ∷ cs) met = (met_same o c met.0, all_met_same o cs met.1)

-- ---- the sorts

of_sort : (o : SortOrder) (sort : ℕ) (b c : Bound) → BoundAlike b c → IsOfSort o sort b → IsOfSort o sort c
of_sort o sort (Whole v) (Whole w) like is = subst (λ u. Below o (least_sort o u) sort) like is
of_sort o sort (Whole v) (Bag us) like is = absurd like
of_sort o sort (Bag ts) (Whole w) like is = absurd like
of_sort o sort (Bag ts) (Bag us) like is = is

pub sorts_same : (o : SortOrder) (sorts : List ℕ) (s t : Subst) → SubstAlike s t → AreOfSorts o sorts s → AreOfSorts o sorts t
sorts_same o [] [] [] like are = tt
sorts_same o [] [] (c ∷ t) like are = absurd like
sorts_same o [] (b ∷ s) t like are = absurd are
sorts_same o (sort ∷ sorts) [] t like are = absurd are
sorts_same o (sort ∷ sorts) (b ∷ s) [] like are = absurd like
sorts_same o (sort ∷ sorts) (b ∷ s) (c ∷ t) like are = (of_sort o sort b c like.0 are.0, sorts_same o sorts s t like.1 are.1)
