-- What a constructor builds is not too deep.
use Rattle.std.proofs.Common.{arith, ◌≡◌, ◌↔◌, ◌≤◌, ℕ, IsTrue, Bool, true, false, cond, List, refl, subst}
use Rattle.std.specs.Prelude.{Option, Some, None, nat_le}
use Rattle.std.specs.Option.{option_and_then}
use Rattle.std.proofs.lemmas.Bool.Decides.{nat_tests}
use Rattle.k_terms.specs.declared.value.Value.{Value, Node, Items, Seq, Freezer}
use Rattle.k_terms.specs.Value.{depth_of}
use Rattle.k_terms.specs.Operators.{bounded, depth_limit}
use Rattle.k_terms.specs.Sorts.{SortOrder}
use Rattle.rule_terms.specs.declared.pattern.Pattern.{Pattern, Node as NodeP, Items as ItemsP, Seq as SeqP, Freezer as FreezerP, Node', Items', Seq', Freezer'}
use Rattle.rule_terms.specs.Options.{joined}
use Rattle.rule_terms.specs.Substitution.{Subst, rest_of, as_sequence, as_items_of}
use Rattle.rule_terms.specs.Eval.{eval, eval_row}
use Rattle.rule_terms.proofs.Defined.{and_then_gives}
use Rattle.leaf_match.specs.Bindings.{Partial, Tells, Reaches}
use Rattle.leaf_match.specs.Depths.{is_constructor, IsWithinDepth}

bounded_within : (w v : Value) → bounded w ≡ Some v → depth_of v ≤ depth_limit
bounded_within w v e =
    elim (nat_le (depth_of w) depth_limit) as (λ b. nat_le (depth_of w) depth_limit ≡ b → cond b (Some w) None ≡ Some v → depth_of v ≤ depth_limit) [
      | true ↦ λ test is. let same : w ≡ v = cc in let within : depth_of w ≤ depth_limit = search (arith, nat_tests) in subst (λ x. depth_of x ≤ depth_limit) same within
      | false ↦ λ test is. absurd cc
    ] refl e

built_within : {A : Type 0} (make : A → Value) (parts : Option A) (v : Value) → option_and_then (λ vs. bounded (make vs)) parts ≡ Some v → depth_of v ≤ depth_limit
built_within make parts v e = let found = and_then_gives (λ vs. bounded (make vs)) parts v e in bounded_within (make found.0) v found.2

pub value_within : (pattern : Pattern) (s : Subst) (v : Value) → eval pattern s ≡ Some v → IsWithinDepth pattern v
unfolding eval
value_within (Node' p _ parts) s v e = λ built. built_within (Node p) (eval_row parts s) v e
value_within (Items' p _ parts rest) s v e = λ built. built_within (Items p) (joined (eval_row parts s) (rest_of (as_items_of p) rest s)) v e
value_within (Seq' _ parts rest) s v e = λ built. built_within Seq (joined (eval_row parts s) (rest_of as_sequence rest s)) v e
value_within (Freezer' p i _ parts) s v e = λ built. built_within (Freezer p i) (eval_row parts s) v e
value_within _ s v e = λ built. let no : false ≡ true = built in absurd cc

-- what is told of a value that isn't too deep, and whether it is
module _ (o : SortOrder) (vars : List ℕ) (before after : Partial) (pattern : Pattern) (v : Value) where
  pub told_unfound : (IsWithinDepth pattern v → Tells o vars false before after (λ s. eval pattern s ≡ Some v)) → Tells o vars false before after (λ s. eval pattern s ≡ Some v)
  told_unfound tells = λ s sorts agrees holds. tells (value_within pattern s v holds) s sorts agrees holds

  pub told_within : (within : Bool) → (IsTrue within ↔ IsWithinDepth pattern v) → (IsWithinDepth pattern v → Tells o vars true before after (λ s. eval pattern s ≡ Some v))
      → Tells o vars within before after (λ s. eval pattern s ≡ Some v)
  told_within true is tells = tells (is.0 refl)
  told_within false is tells = λ s sorts agrees holds. let no : false ≡ true = is.1 (value_within pattern s v holds) in cc

pub reach_within : (within : Bool) (before after : Partial) (stands : ℕ → Bool) → Reaches true before after stands → Reaches within before after stands
reach_within within before after stands reaches = λ e x. reaches refl x

-- ---- constructors

pub constructor-Node : (p : ℕ) (ps : List Pattern) → is_constructor (NodeP p ps) ≡ true
constructor-Node p ps = refl

pub constructor-Items : (p : ℕ) (ps : List Pattern) (rest : Option ℕ) → is_constructor (ItemsP p ps rest) ≡ true
constructor-Items p ps rest = refl

pub constructor-Seq : (ps : List Pattern) (rest : Option ℕ) → is_constructor (SeqP ps rest) ≡ true
constructor-Seq ps rest = refl

pub constructor-Freezer : (p i : ℕ) (ps : List Pattern) → is_constructor (FreezerP p i ps) ≡ true
constructor-Freezer p i ps = refl
