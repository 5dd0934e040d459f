-- What it takes to show that a substitution which gives a pattern a value is found.
use Rattle.std.proofs.Common.{◌≡◌, ℕ, suc, zero, ◌≤◌, ◌<◌, ◌+◌, List, [], ◌∷◌, ◌++◌, drop, length, get_or, refl, sym, ap, ◌∙◌, subst, arith, length-append, drop-cons, true, false, Bool, add-one}
use Rattle.std.specs.Prelude.{Option, Some, None, nat_le, cond, ◌==◌, ◌&&◌, IsTrue}
use Rattle.std.specs.Option.{option_map, option_and_then}
use Rattle.std.specs.List.{list_all}
use Rattle.std.specs.Borrow.{Bor}
use mathlib.Core.Former.{Count, arity, this}
use denote.Hole.Carrier.{out, roll}
use Rattle.k_terms.specs.formers.many.Many.{the_former}
use mathlib.Core.Logic.{⊎_elim}
use borrow.Author.Tests.{lt-leb, ltb-true}
use Rattle.std.proofs.lemmas.Bool.Decides.{eqb_tells}
use Rattle.std.proofs.lemmas.List.{drop_all}
use Rattle.k_terms.specs.declared.value.Value.{Value, Node, out-Value}
use Rattle.k_terms.specs.declared.value.Value.TheVariants.{outs-Node}
use Rattle.k_terms.specs.declared.value.Value.TheOpen.{Value-F, Node as Node-F}
use Rattle.k_terms.specs.Value.{depth_of}
use Rattle.k_terms.specs.Operators.{bounded, depth_limit}
use Rattle.rule_terms.specs.declared.pattern.Pattern.{Pattern, Var, Lit, Node as NodeP, Node', Items', Seq', Freezer', Apply', out-Pattern, roll-Pattern, roll-out-Pattern, Row_of-Pattern, end_of-Pattern, more_of-Pattern, items-the_row-Pattern, items_hidden-the_row-Pattern-0}
use Rattle.rule_terms.specs.declared.pattern.Pattern.TheBlock.{hidden-the_row-Pattern-0, shown-the_row-Pattern-0}
use Rattle.rule_terms.specs.Substitution.{Whole, Bag, Subst, value_at}
use Rattle.rule_terms.specs.Eval.{eval, eval_all}
use Rattle.rule_terms.proofs.Defined.{both, let_through, and_then_gives, map_gives}
use Rattle.front_run.specs.Bindings.{wholes, StartsBy, IsFound, Finds, FindsAll, IsUndefined, AreUndefined}
use Rattle.front_run.specs.Front.{after_variables, row_after_variables, after_all, is_front_term, row_is_front_term}
use Rattle.front_run.proofs.Binding.{eval-Node, eval-Var, wholes_extend}

-- ---- terms

after_row_is : {n : Count} (r : Row_of-Pattern n) (first : ℕ) → row_after_variables first r ≡ after_all first (items-the_row-Pattern n r)
unfolding row_after_variables
after_row_is end_of-Pattern first = refl
after_row_is (more_of-Pattern p ps) first = ap (λ (f : ℕ → Option ℕ). option_and_then f (after_variables first p)) (λ i next. after_row_is ps next i)

pub after-Node : (p : ℕ) (ps : List Pattern) (first : ℕ) → after_variables first (NodeP p ps) ≡ after_all first ps
unfolding after_variables
after-Node p ps first = after_row_is (hidden-the_row-Pattern-0 ps) first ∙ ap (after_all first) (items_hidden-the_row-Pattern-0 ps)

pub after-Var : (x first : ℕ) → after_variables first (Var x) ≡ cond (x == first) (Some (suc first)) None
unfolding after_variables
after-Var x first = refl

front_row_is : {n : Count} (r : Row_of-Pattern n) (variables : ℕ) → row_is_front_term variables r ≡ list_all (is_front_term variables) (items-the_row-Pattern n r)
unfolding row_is_front_term
front_row_is end_of-Pattern variables = refl
front_row_is (more_of-Pattern p ps) variables = elim (is_front_term variables p) as (λ b. (b && row_is_front_term variables ps) ≡ (b && list_all (is_front_term variables) (items-the_row-Pattern _ ps))) [ true ↦ front_row_is ps variables | false ↦ refl ]

pub is_front_term-Node : (variables p : ℕ) (ps : List Pattern) → is_front_term variables (NodeP p ps) ≡ list_all (is_front_term variables) ps
unfolding is_front_term
is_front_term-Node variables p ps = front_row_is (hidden-the_row-Pattern-0 ps) variables ∙ ap (list_all (is_front_term variables)) (items_hidden-the_row-Pattern-0 ps)

-- ---- steps that may be undefined

pub eval_all_more : (p : Pattern) (ps : List Pattern) (s : Subst) (vs : List Value) → eval_all (p ∷ ps) s ≡ Some vs
    → (v : Value) × (ws : List Value) × (eval p s ≡ Some v) × (eval_all ps s ≡ Some ws) × (vs ≡ v ∷ ws)
eval_all_more p ps s vs e =
    let first = and_then_gives (λ v. option_map (λ ws. v ∷ ws) (eval_all ps s)) (eval p s) vs e in
    let rest = map_gives (λ ws. first.0 ∷ ws) (eval_all ps s) vs first.2 in
    (first.0, rest.0, first.1, rest.1, sym rest.2)

pub eval_all_length : (ps : List Pattern) (s : Subst) (vs : List Value) → eval_all ps s ≡ Some vs → length ps ≡ length vs
eval_all_length [] s vs e = let none : [] ≡ vs = cc in ap length none
eval_all_length (p ∷ ps) s vs e =
    let parts = eval_all_more p ps s vs e in
    ap suc (eval_all_length ps s parts.1 parts.3) ∙ ap length (sym parts.4)

bounded_is : (v w : Value) → bounded v ≡ Some w → v ≡ w
bounded_is v w e = let_through (nat_le (depth_of v) depth_limit) v w e

number_of_node : Value-F Value → ℕ
number_of_node v = elim v [ Node-F p _ ↦ p | _ ↦ 0 ]

parts_of_node : Value-F Value → List Value
parts_of_node v = elim v [ Node-F _ vs ↦ vs | _ ↦ [] ]

node_injective : (p q : ℕ) (vs ws : List Value) → Node p vs ≡ Node q ws → (p ≡ q) × (vs ≡ ws)
unfolding number_of_node parts_of_node
node_injective p q vs ws e =
    let opened : ◌≡◌ {A = Value-F Value} (Node-F p vs) (Node-F q ws) = sym (outs-Node p vs) ∙ ap out-Value e ∙ outs-Node q ws in
    (ap number_of_node opened, ap parts_of_node opened)

-- a term of a production has the values of such a one
pub node_value : (p : ℕ) (ps : List Pattern) (s : Subst) (v : Value) → eval (NodeP p ps) s ≡ Some v → (vs : List Value) × (eval_all ps s ≡ Some vs) × (v ≡ Node p vs)
node_value p ps s v e =
    let parts = and_then_gives (λ vs. bounded (Node p vs)) (eval_all ps s) v (sym (eval-Node p ps s) ∙ e) in
    (parts.0, parts.1, sym (bounded_is (Node p parts.0) v parts.2))

pub node_parts : (p q : ℕ) (ps : List Pattern) (s : Subst) (vs : List Value) → eval (NodeP p ps) s ≡ Some (Node q vs) → (p ≡ q) × (eval_all ps s ≡ Some vs)
node_parts p q ps s vs e =
    let value = node_value p ps s (Node q vs) e in
    let same = node_injective q p vs value.0 value.2 in
    (sym same.0, value.1 ∙ ap Some (sym same.1))

-- ---- what is found

value_past : (before : List (Bor Value)) (tail : Subst) → value_at (wholes before ++ tail) (length before) ≡ value_at tail 0
value_past [] tail = refl
value_past (b ∷ before) tail = value_past before tail

first_whole : (tail : Subst) (v : Value) → value_at tail 0 ≡ Some v → (more : Subst) × (tail ≡ Whole v ∷ more)
first_whole [] v e = cc
first_whole (Whole w ∷ tail) v e = let same : w ≡ v = cc in (tail, ap (λ u. Whole u ∷ tail) same)
first_whole (Bag cells ∷ tail) v e = cc

starts_more : (before after : List (Bor Value)) (b : Bor Value) (s : Subst) → after ≡ before ++ b ∷ [] → StartsBy before s → value_at s (length before) ≡ Some b.now → StartsBy after s
starts_more before after b s pushed starts is =
    let here : value_at starts.0 0 ≡ Some b.now = sym (value_past before starts.0) ∙ ap (λ t. value_at t (length before)) (sym starts.1) ∙ is in
    let first = first_whole starts.0 b.now here in
    (first.0, starts.1 ∙ ap (λ t. wholes before ++ t) first.1 ∙ sym (wholes_extend before (b ∷ []) first.0) ∙ ap (λ bs. wholes bs ++ first.0) (sym pushed))

next_of_variable : (x first next : ℕ) → after_variables first (Var x) ≡ Some next → (x ≡ first) × (next ≡ suc first)
next_of_variable x first next e =
    let stated : cond (x == first) (Some (suc first)) None ≡ Some next = sym (after-Var x first) ∙ e in
    ⊎_elim (λ h. (h.1, let same : Some (suc first) ≡ Some next = ap (λ b. cond b (Some (suc first)) None) (sym h.0) ∙ stated in cc))
    (λ h. let same : None ≡ Some next = ap (λ b. cond b (Some (suc first)) None) (sym h.0) ∙ stated in cc)
    (eqb_tells x first)

pub variable_found : (before after : List (Bor Value)) (b : Bor Value) (p : Pattern) (x : ℕ) → p ≡ Var x → after ≡ before ++ b ∷ [] → Finds before after p b.now true
variable_found before after b p x is pushed = λ s next starts numbered value.
    let number = next_of_variable x (length before) next (ap (after_variables (length before)) (sym is) ∙ numbered) in
    record {
      yes = refl;
      starts = starts_more before after b s pushed starts
          (ap (value_at s) (sym number.0) ∙ sym (eval-Var x s) ∙ ap (λ q. eval q s) (sym is) ∙ value);
      count = ap length pushed ∙ length-append before (b ∷ []) ∙ add-one (length before) ∙ sym number.1;
    }

pub variable_missed : (before after : List (Bor Value)) (p : Pattern) (x : ℕ) (v : Value) → p ≡ Var x → (x ≡ length before → ⊥) → Finds before after p v false
variable_missed before after p x v is other = λ s next starts numbered value.
    absurd (other (next_of_variable x (length before) next (ap (after_variables (length before)) (sym is) ∙ numbered)).0)

pub node_found : (before after : List (Bor Value)) (p : Pattern) (v : Value) (n : ℕ) (ps : List Pattern) (vs : List Value) (found : Bool)
    → p ≡ NodeP n ps → v ≡ Node n vs → FindsAll before after ps vs found → Finds before after p v found
node_found before after p v n ps vs found is value_is all = λ s next starts numbered value.
    all s next starts (sym (after-Node n ps (length before)) ∙ ap (after_variables (length before)) (sym is) ∙ numbered)
    (node_parts n n ps s vs (ap (λ q. eval q s) (sym is) ∙ value ∙ ap Some value_is)).1

pub node_missed : (before after : List (Bor Value)) (p : Pattern) (v : Value) (n m : ℕ) (ps : List Pattern) (vs : List Value)
    → p ≡ NodeP n ps → v ≡ Node m vs → (n ≡ m → ⊥) → Finds before after p v false
node_missed before after p v n m ps vs is value_is other = λ s next starts numbered value.
    absurd (other (node_parts n m ps s vs (ap (λ q. eval q s) (sym is) ∙ value ∙ ap Some value_is)).0)

pub other_value_missed : (before after : List (Bor Value)) (p : Pattern) (v : Value) (n : ℕ) (ps : List Pattern)
    → p ≡ NodeP n ps → ((m : ℕ) (vs : List Value) → v ≡ Node m vs → ⊥) → Finds before after p v false
other_value_missed before after p v n ps is other = λ s next starts numbered value.
    let node = node_value n ps s v (ap (λ q. eval q s) (sym is) ∙ value) in
    absurd (other n node.0 node.2)

node_shown : (p : ℕ) (s : (the_former this).Shape) (r : Row_of-Pattern (arity (the_former this) s)) → NodeP p (shown-the_row-Pattern-0 s r) ≡ Node' p s r
unfolding out-Pattern roll-Pattern out roll
node_shown p s r = roll-out-Pattern (Node' p s r)

-- neither a variable nor a production
after-other : (first : ℕ) (q : Pattern) → ((x : ℕ) → q ≡ Var x → ⊥) → ((n : ℕ) (ps : List Pattern) → q ≡ NodeP n ps → ⊥) → after_variables first q ≡ None
unfolding after_variables
after-other first (Var x) no_variable no_node = absurd (no_variable x refl)
after-other first (Node' p s r) no_variable no_node = absurd (no_node p (shown-the_row-Pattern-0 s r) (sym (node_shown p s r)))
after-other first (Lit _) no_variable no_node = refl
after-other first (Items' _ _ _ _) no_variable no_node = refl
after-other first (Seq' _ _ _) no_variable no_node = refl
after-other first (Freezer' _ _ _ _) no_variable no_node = refl
after-other first (Apply' _ _ _) no_variable no_node = refl

front_term-other : (variables : ℕ) (q : Pattern) → ((x : ℕ) → q ≡ Var x → ⊥) → ((n : ℕ) (ps : List Pattern) → q ≡ NodeP n ps → ⊥) → is_front_term variables q ≡ false
unfolding is_front_term
front_term-other variables (Var x) no_variable no_node = absurd (no_variable x refl)
front_term-other variables (Node' p s r) no_variable no_node = absurd (no_node p (shown-the_row-Pattern-0 s r) (sym (node_shown p s r)))
front_term-other variables (Lit _) no_variable no_node = refl
front_term-other variables (Items' _ _ _ _) no_variable no_node = refl
front_term-other variables (Seq' _ _ _) no_variable no_node = refl
front_term-other variables (Freezer' _ _ _ _) no_variable no_node = refl
front_term-other variables (Apply' _ _ _) no_variable no_node = refl

pub other_missed : (before after : List (Bor Value)) (p : Pattern) (v : Value) → ((x : ℕ) → p ≡ Var x → ⊥) → ((n : ℕ) (ps : List Pattern) → p ≡ NodeP n ps → ⊥) → Finds before after p v false
other_missed before after p v no_variable no_node = λ s next starts numbered value.
    let none : None ≡ Some next = sym (after-other (length before) p no_variable no_node) ∙ numbered in cc

-- ---- lists of patterns

-- what is still to be found from place i on
abbrev pub GoesOn : List (Bor Value) → List Pattern → List Value → ℕ → Subst → ℕ → Type 0
GoesOn bound ps vs i s next = StartsBy bound s × (after_all (length bound) (drop i ps) ≡ Some next) × (eval_all (drop i ps) s ≡ Some (drop i vs))

pub goes_on : (bound after : List (Bor Value)) (ps : List Pattern) (vs : List Value) (i : ℕ) (p : Pattern) (v : Value) (found : Bool) (s : Subst) (next : ℕ)
    → i < length ps → i < length vs → p ≡ get_or ps i p → v ≡ get_or vs i v → Finds bound after p v found → GoesOn bound ps vs i s next
    → (found ≡ true) × GoesOn after ps vs (i + 1) s next
goes_on bound after ps vs i p v found s next in_ps in_vs is_p is_v finds on =
    let first : drop i ps ≡ p ∷ drop (i + 1) ps = rw (add-one, drop-cons ps i p) (ap (λ q. q ∷ drop (suc i) ps) (sym is_p)) in
    let second : drop i vs ≡ v ∷ drop (i + 1) vs = rw (add-one, drop-cons vs i v) (ap (λ w. w ∷ drop (suc i) vs) (sym is_v)) in
    let numbered = and_then_gives (λ n. after_all n (drop (i + 1) ps)) (after_variables (length bound) p) next (ap (after_all (length bound)) (sym first) ∙ on.1) in
    let values = eval_all_more p (drop (i + 1) ps) s (drop i vs) (ap (λ qs. eval_all qs s) (sym first) ∙ on.2) in
    let same : v ∷ drop (i + 1) vs ≡ values.0 ∷ values.1 = sym second ∙ values.4 in
    let first_value : values.0 ≡ v = cc in
    let here = finds s numbered.0 on.0 numbered.1 (values.2 ∙ ap Some first_value) in
    let further : values.1 ≡ drop (i + 1) vs = cc in
    (here.yes, (here.starts, ap (λ n. after_all n (drop (i + 1) ps)) here.count ∙ numbered.2, values.3 ∙ ap Some further))

pub goes_to_end : (bound : List (Bor Value)) (ps : List Pattern) (vs : List Value) (i : ℕ) (s : Subst) (next : ℕ) → length ps ≤ i → GoesOn bound ps vs i s next → IsFound true bound s next
goes_to_end bound ps vs i s next past on =
    let none : drop i ps ≡ [] = drop_all i ps past in
    record { yes = refl; starts = on.0; count = let counted : Some (length bound) ≡ Some next = ap (after_all (length bound)) (sym none) ∙ on.1 in cc }

-- ---- what is undefined

pub node_undefined : (bound : List (Bor Value)) (p : Pattern) (n : ℕ) (ps : List Pattern) → p ≡ NodeP n ps → AreUndefined bound ps → IsUndefined bound p
node_undefined bound p n ps is undefined = λ tail.
    ap (λ q. eval q (wholes bound ++ tail)) is ∙ eval-Node n ps (wholes bound ++ tail) ∙ ap (option_and_then (λ vs. bounded (Node n vs))) (undefined tail)

-- where one of several is undefined, they are
pub all_undefined : (bound : List (Bor Value)) (ps : List Pattern) (i : ℕ) (p : Pattern) → i < length ps → p ≡ get_or ps i p → IsUndefined bound p → AreUndefined bound ps
all_undefined bound [] i p within is undefined = absurd (omega arith)
all_undefined bound (q ∷ ps) zero p within is undefined = λ tail.
    ap (λ o. option_and_then (λ v. option_map (λ vs. v ∷ vs) (eval_all ps (wholes bound ++ tail))) o) (ap (λ r. eval r (wholes bound ++ tail)) (sym is) ∙ undefined tail)
all_undefined bound (q ∷ ps) (suc i) p within is undefined = λ tail.
    let rest = all_undefined bound ps i p (omega arith) is undefined tail in
    elim (eval q (wholes bound ++ tail)) as (λ o. option_and_then (λ v. option_map (λ vs. v ∷ vs) (eval_all ps (wholes bound ++ tail))) o ≡ None) [
      | None ↦ refl
      | Some v ↦ ap (option_map (λ vs. v ∷ vs)) rest
    ]

-- a term that is too deep is undefined
pub deep_undefined : (bound : List (Bor Value)) (p : Pattern) (n : ℕ) (ps : List Pattern) (vs : List Value) → p ≡ NodeP n ps → (tail : Subst) → eval_all ps (wholes bound ++ tail) ≡ Some vs
    → depth_limit < depth_of (Node n vs) → eval p (wholes bound ++ tail) ≡ None
deep_undefined bound p n ps vs is tail values deep =
    let test : nat_le (depth_of (Node n vs)) depth_limit ≡ false = lt-leb (depth_of (Node n vs)) depth_limit deep in
    ap (λ q. eval q (wholes bound ++ tail)) is ∙ eval-Node n ps (wholes bound ++ tail) ∙ ap (option_and_then (λ ws. bounded (Node n ws))) values
    ∙ ap (λ b. cond b (Some (Node n vs)) None) test

pub front_at : (variables : ℕ) (ps : List Pattern) (i : ℕ) (p : Pattern) → i < length ps → p ≡ get_or ps i p → IsTrue (list_all (is_front_term variables) ps) → IsTrue (is_front_term variables p)
front_at variables [] i p within is all = absurd (omega arith)
front_at variables (q ∷ ps) zero p within is all = subst (λ r. IsTrue (is_front_term variables r)) (sym is) (both (is_front_term variables q) (list_all (is_front_term variables) ps) all).0
front_at variables (q ∷ ps) (suc i) p within is all = front_at variables ps i p (omega arith) is (both (is_front_term variables q) (list_all (is_front_term variables) ps) all).1

variable_below : (variables x : ℕ) → IsTrue (is_front_term variables (Var x)) → x < variables
unfolding is_front_term
variable_below variables x h = ltb-true x variables h

pub variable_known : (variables : ℕ) (p : Pattern) (x : ℕ) → p ≡ Var x → variables ≤ x → IsTrue (is_front_term variables p) → ⊥
variable_known variables p x is past known =
    let below : x < variables = variable_below variables x (subst (λ q. IsTrue (is_front_term variables q)) is known) in omega arith

pub parts_known : (variables : ℕ) (p : Pattern) (n : ℕ) (ps : List Pattern) → p ≡ NodeP n ps → IsTrue (is_front_term variables p) → IsTrue (list_all (is_front_term variables) ps)
parts_known variables p n ps is known = sym (is_front_term-Node variables n ps) ∙ ap (is_front_term variables) (sym is) ∙ known

pub no_other_term : (variables : ℕ) (p : Pattern) → ((x : ℕ) → p ≡ Var x → ⊥) → ((n : ℕ) (ps : List Pattern) → p ≡ NodeP n ps → ⊥) → IsTrue (is_front_term variables p) → ⊥
no_other_term variables p no_variable no_node known = let none : false ≡ true = sym (front_term-other variables p no_variable no_node) ∙ known in cc
