-- What it takes to show that a pattern is a value under the values that are bound.
use Rattle.std.proofs.Common.{◌≡◌, ℕ, suc, zero, ◌≤◌, ◌<◌, ◌+◌, List, [], ◌∷◌, ◌++◌, map, take, length, get_or, refl, sym, ap, ◌∙◌, subst, arith, append_assoc, true}
use Rattle.std.specs.Prelude.{Option, Some, None, nat_le, cond, Bool}
use Rattle.std.specs.Option.{option_map, option_and_then}
use Rattle.std.specs.List.{AllByRecursion}
use Rattle.std.specs.Borrow.{Bor}
use Rattle.std.proofs.lemmas.List.{map-append, take_more, take_all}
use Rattle.std.specs.Bool.{OnTrue}
use Rattle.std.proofs.Common.{false}
use Rattle.std.proofs.lemmas.Bool.Decides.{nat_tests}
use mathlib.Core.Former.{Count}
use Rattle.k_terms.specs.declared.value.Value.{Value, Node}
use Rattle.k_terms.specs.Value.{depth_of}
use Rattle.k_terms.specs.Operators.{bounded, depth_limit}
use Rattle.k_terms.specs.Parts.{greatest_depth}
use Rattle.k_terms.proofs.Layers.{depth_of-Node}
use Rattle.rule_terms.specs.declared.pattern.Pattern.{Pattern, Var, Node as NodeP, Row_of-Pattern, end_of-Pattern, more_of-Pattern, items-the_row-Pattern, items_hidden-the_row-Pattern-0}
use Rattle.rule_terms.specs.declared.pattern.Pattern.TheBlock.{hidden-the_row-Pattern-0}
use Rattle.rule_terms.specs.Options.{each_some}
use Rattle.k_terms.specs.Sorts.{SortOrder, Below, least_sort}
use Rattle.rule_terms.specs.Substitution.{Bound, Whole, Subst, value_at, IsOfSort, AreOfSorts}
use Rattle.rule_terms.specs.Eval.{eval, eval_row, eval_all}
use Rattle.front_run.specs.Bindings.{wholes, IsAt, AreAt, Extends}

eval_row_is : {n : Count} (r : Row_of-Pattern n) (s : Subst) → eval_row r s ≡ eval_all (items-the_row-Pattern n r) s
unfolding eval_row
eval_row_is end_of-Pattern s = refl
eval_row_is (more_of-Pattern p ps) s = ap (λ rest. option_and_then (λ v. option_map (λ vs. v ∷ vs) rest) (eval p s)) (eval_row_is ps s)

pub eval-Node : (p : ℕ) (ps : List Pattern) (s : Subst) → eval (NodeP p ps) s ≡ option_and_then (λ vs. bounded (Node p vs)) (eval_all ps s)
unfolding eval
eval-Node p ps s =
    ap (option_and_then (λ vs. bounded (Node p vs)))
    (eval_row_is (hidden-the_row-Pattern-0 ps) s ∙ ap (λ qs. eval_all qs s) (items_hidden-the_row-Pattern-0 ps))

pub eval-Var : (x : ℕ) (s : Subst) → eval (Var x) s ≡ value_at s x
unfolding eval
eval-Var x s = refl

pub bounded_shallow : (v : Value) → depth_of v ≤ depth_limit → bounded v ≡ Some v
bounded_shallow v shallow = let test : nat_le (depth_of v) depth_limit ≡ true = search (arith, nat_tests) in ap (λ b. cond b (Some v) None) test

-- the parts of a value that isn't too deep are not too deep
shallow_parts : (vs : List Value) → greatest_depth vs ≤ depth_limit → AllByRecursion (λ v. depth_of v ≤ depth_limit) vs
shallow_parts [] h = tt
shallow_parts (v ∷ vs) h = (omega (arith, h), shallow_parts vs (omega (arith, h)))

pub parts_shallow : (p : ℕ) (vs : List Value) → depth_of (Node p vs) ≤ depth_limit → AllByRecursion (λ v. depth_of v ≤ depth_limit) vs
parts_shallow p vs h = shallow_parts vs (let deep : suc (greatest_depth vs) ≤ depth_limit = subst (λ d. d ≤ depth_limit) (depth_of-Node p vs) h in omega arith)

-- further bound values change nothing that is bound
pub wholes_extend : (before more : List (Bor Value)) (tail : Subst) → wholes (before ++ more) ++ tail ≡ wholes before ++ (wholes more ++ tail)
wholes_extend before more tail = ap (λ s. s ++ tail) (map-append (λ (b : Bor Value). Whole b.now) before more) ∙ append_assoc (wholes before) (wholes more) tail

pub AreAt-extends : (before after : List (Bor Value)) (ps : List Pattern) (vs : List Value) → Extends before after → AreAt before ps vs → AreAt after ps vs
AreAt-extends before after ps vs extends at =
    λ tail. ap (λ bound. eval_all ps (wholes bound ++ tail)) extends.1 ∙ ap (eval_all ps) (wholes_extend before extends.0 tail) ∙ at (wholes extends.0 ++ tail)

pub Extends-then : (a b c : List (Bor Value)) → Extends a b → Extends b c → Extends a c
Extends-then a b c first second =
    (first.0 ++ second.0, second.1 ∙ ap (λ t. t ++ second.0) first.1 ∙ append_assoc a first.0 second.0)

-- a variable is what is bound next
bound_last : (before : List (Bor Value)) (b : Bor Value) (tail : Subst) → value_at (wholes (before ++ b ∷ []) ++ tail) (length before) ≡ Some b.now
bound_last [] b tail = refl
bound_last (c ∷ before) b tail = bound_last before b tail

pub var_at : (before after : List (Bor Value)) (b : Bor Value) (p : Pattern) (number : ℕ) → p ≡ Var number → number ≡ length before → after ≡ before ++ b ∷ [] → IsAt after p b.now
var_at before after b p number is count pushed =
    λ tail. ap (λ q. eval q (wholes after ++ tail)) is ∙ eval-Var number (wholes after ++ tail)
    ∙ ap (λ bound. value_at (wholes bound ++ tail) number) pushed ∙ ap (value_at (wholes (before ++ b ∷ []) ++ tail)) count ∙ bound_last before b tail

-- a term of a production is the value of its parts
pub node_at : (bound : List (Bor Value)) (p : Pattern) (v : Value) (n : ℕ) (ps : List Pattern) (vs : List Value)
    → p ≡ NodeP n ps → v ≡ Node n vs → depth_of v ≤ depth_limit → AreAt bound ps vs → IsAt bound p v
node_at bound p v n ps vs is value shallow at =
    λ tail. ap (λ t. eval t (wholes bound ++ tail)) is ∙ eval-Node n ps (wholes bound ++ tail)
    ∙ ap (option_and_then (λ ws. bounded (Node n ws))) (at tail) ∙ ap bounded (sym value) ∙ bounded_shallow v shallow

each_some-append : {A : Type 0} (os : List (Option A)) (x : A) (xs : List A) → each_some os ≡ Some xs → each_some (os ++ Some x ∷ []) ≡ Some (xs ++ x ∷ [])
each_some-append [] x xs e = ap (option_map (λ ys. ys ++ x ∷ [])) e
each_some-append (None ∷ os) x xs e = cc
each_some-append {A} (Some o ∷ os) x xs e =
    elim (each_some os) as (λ r. each_some os ≡ r → option_map (λ ys. o ∷ ys) r ≡ Some xs → each_some (Some o ∷ os ++ Some x ∷ []) ≡ Some (xs ++ x ∷ [])) [
      | None ↦ λ was f. cc
      | Some ys ↦ λ was f. ap (option_map (λ zs. o ∷ zs)) (each_some-append os x ys was) ∙ ap (option_map (λ zs. zs ++ x ∷ [])) f
    ] refl e

pub AreAt-more : (bound : List (Bor Value)) (ps : List Pattern) (vs : List Value) (p : Pattern) (v : Value) → AreAt bound ps vs → IsAt bound p v → AreAt bound (ps ++ p ∷ []) (vs ++ v ∷ [])
AreAt-more bound ps vs p v before here =
    λ tail. let s = wholes bound ++ tail in
    ap each_some (map-append (λ q. eval q s) ps (p ∷ [])) ∙ ap (λ o. each_some (map (λ q. eval q s) ps ++ o ∷ [])) (here tail)
    ∙ each_some-append (map (λ q. eval q s) ps) v vs (before tail)

pub node_holds : (found : Bool) (bound : List (Bor Value)) (p : Pattern) (v : Value) (n : ℕ) (ps : List Pattern) (vs : List Value)
    → p ≡ NodeP n ps → v ≡ Node n vs → depth_of v ≤ depth_limit → OnTrue found (AreAt bound ps vs) → OnTrue found (IsAt bound p v)
node_holds false bound p v n ps vs is value shallow at = tt
node_holds true bound p v n ps vs is value shallow at = node_at bound p v n ps vs is value shallow at

pub at_next : (before after : List (Bor Value)) (ps : List Pattern) (vs : List Value) (i : ℕ) (p : Pattern) (v : Value)
    → i < length ps → i < length vs → p ≡ get_or ps i p → v ≡ get_or vs i v → Extends before after
    → AreAt before (take i ps) (take i vs) → IsAt after p v → AreAt after (take (i + 1) ps) (take (i + 1) vs)
at_next before after ps vs i p v in_ps in_vs is_p is_v extends at here =
    let first : take (i + 1) ps ≡ take i ps ++ p ∷ [] = take_more ps i p in_ps ∙ ap (λ q. take i ps ++ q ∷ []) (sym is_p) in
    let second : take (i + 1) vs ≡ take i vs ++ v ∷ [] = take_more vs i v in_vs ∙ ap (λ w. take i vs ++ w ∷ []) (sym is_v) in
    subst (λ qs. AreAt after qs (take (i + 1) vs)) (sym first)
    (subst (λ ws. AreAt after (take i ps ++ p ∷ []) ws) (sym second)
    (AreAt-more after (take i ps) (take i vs) p v (AreAt-extends before after (take i ps) (take i vs) extends at) here))

pub at_whole : (bound : List (Bor Value)) (ps : List Pattern) (vs : List Value) (i : ℕ)
    → length ps ≤ i → length ps ≡ length vs → AreAt bound (take i ps) (take i vs) → AreAt bound ps vs
at_whole bound ps vs i past count at =
    subst (λ qs. AreAt bound qs vs) (take_all i ps past) (subst (λ ws. AreAt bound (take i ps) ws) (take_all i vs (omega arith)) at)

-- each part of a list that isn't too deep
pub shallow_at : (vs : List Value) (i : ℕ) (v : Value) → AllByRecursion (λ v. depth_of v ≤ depth_limit) vs → i < length vs → v ≡ get_or vs i v → depth_of v ≤ depth_limit
shallow_at [] i v all within is = absurd (omega arith)
shallow_at (w ∷ vs) zero v all within is = subst (λ u. depth_of u ≤ depth_limit) (sym is) all.0
shallow_at (w ∷ vs) (suc i) v all within is = shallow_at vs i v all.1 (omega arith) is

-- a variable stands for the value at its number
bound_get : (bound : List (Bor Value)) (x : ℕ) (d : Bor Value) (tail : Subst) → x < length bound → value_at (wholes bound ++ tail) x ≡ Some (get_or bound x d).now
bound_get [] x d tail within = absurd (omega arith)
bound_get (b ∷ bound) zero d tail within = refl
bound_get (b ∷ bound) (suc x) d tail within = bound_get bound x d tail (omega arith)

pub bound_at : (bound : List (Bor Value)) (b : Bor Value) (p : Pattern) (x : ℕ) (v : Value) → p ≡ Var x → x < length bound → b ≡ get_or bound x b → v ≡ b.now → IsAt bound p v
bound_at bound b p x v is within at copy =
    λ tail. ap (λ q. eval q (wholes bound ++ tail)) is ∙ eval-Var x (wholes bound ++ tail) ∙ bound_get bound x b tail within
    ∙ ap (λ (c : Bor Value). Some c.now) (sym at) ∙ ap Some (sym copy)

pub AreOfSorts-append : (o : SortOrder) (xs : List ℕ) (s : Subst) (x : ℕ) (b : Bound) → AreOfSorts o xs s → IsOfSort o x b → AreOfSorts o (xs ++ x ∷ []) (s ++ b ∷ [])
AreOfSorts-append o [] [] x b before here = (here, tt)
AreOfSorts-append o [] (c ∷ s) x b before here = absurd before
AreOfSorts-append o (y ∷ xs) [] x b before here = absurd before
AreOfSorts-append o (y ∷ xs) (c ∷ s) x b before here = (before.0, AreOfSorts-append o xs s x b before.1 here)

pub AreOfSorts-more : (o : SortOrder) (xs : List ℕ) (bs : List (Bor Value)) (i : ℕ) (b : Bor Value) → i < length xs → i < length bs → b ≡ get_or bs i b
    → AreOfSorts o (take i xs) (wholes (take i bs)) → Below o (least_sort o b.now) (get_or xs i 0) → AreOfSorts o (take (i + 1) xs) (wholes (take (i + 1) bs))
AreOfSorts-more o xs bs i b in_xs in_bs at before here =
    let first : take (i + 1) xs ≡ take i xs ++ get_or xs i 0 ∷ [] = take_more xs i 0 in_xs in
    let second : wholes (take (i + 1) bs) ≡ wholes (take i bs) ++ Whole b.now ∷ [] =
    ap wholes (take_more bs i b in_bs ∙ ap (λ c. take i bs ++ c ∷ []) (sym at)) ∙ map-append (λ (c : Bor Value). Whole c.now) (take i bs) (b ∷ []) in
    subst (λ ys. AreOfSorts o ys (wholes (take (i + 1) bs))) (sym first)
    (subst (λ s. AreOfSorts o (take i xs ++ get_or xs i 0 ∷ []) s) (sym second)
    (AreOfSorts-append o (take i xs) (wholes (take i bs)) (get_or xs i 0) (Whole b.now) before here))

pub at_next_pushed : (bound : List (Bor Value)) (ps : List Pattern) (vs ws : List Value) (i : ℕ) (p : Pattern) (v : Value)
    → i < length ps → p ≡ get_or ps i p → ws ≡ vs ++ v ∷ [] → AreAt bound (take i ps) vs → IsAt bound p v → AreAt bound (take (i + 1) ps) ws
at_next_pushed bound ps vs ws i p v within is pushed at here =
    let first : take (i + 1) ps ≡ take i ps ++ p ∷ [] = take_more ps i p within ∙ ap (λ q. take i ps ++ q ∷ []) (sym is) in
    subst (λ qs. AreAt bound qs ws) (sym first) (subst (λ us. AreAt bound (take i ps ++ p ∷ []) us) (sym pushed) (AreAt-more bound (take i ps) vs p v at here))

pub at_all : (bound : List (Bor Value)) (ps : List Pattern) (vs : List Value) (i : ℕ) → length ps ≤ i → AreAt bound (take i ps) vs → AreAt bound ps vs
at_all bound ps vs i past at = subst (λ qs. AreAt bound qs vs) (take_all i ps past) at
