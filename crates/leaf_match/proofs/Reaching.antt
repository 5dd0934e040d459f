-- Which variables are bound after a match.
use Rattle.std.proofs.Common.{arith, ◌≡◌, ◌==◌, ◌||◌, inl, inr, ℕ, zero, suc, ◌+◌, ◌<◌, Bool, true, false, List, [], ◌∷◌, take, length, get_or, set, refl, sym, ap, ◌∙◌}
use Rattle.std.specs.Prelude.{Option, Some, None, slice_get}
use Rattle.std.specs.Option.{option_map}
use Rattle.std.specs.List.{list_any}
use Rattle.std.proofs.lemmas.Bool.{eqb-true, eq-eqb}
use mathlib.Core.Former.{Count}
use Rattle.k_terms.specs.declared.value.Value.{Value}
use Rattle.rule_terms.specs.declared.pattern.Pattern.{Pattern, Var, Lit, Node as NodeP, Items as ItemsP, Seq as SeqP, Freezer as FreezerP, Row_of-Pattern, end_of-Pattern, more_of-Pattern, items-the_row-Pattern, items_hidden-the_row-Pattern-0}
use Rattle.rule_terms.specs.declared.pattern.Pattern.TheBlock.{hidden-the_row-Pattern-0}
use Rattle.rule_terms.specs.Patterns.{mentions, row_mentions, is_rest}
use Rattle.leaf_match.specs.declared.bound.Bound.{Bound as Lent}
use Rattle.leaf_match.specs.Bindings.{Partial, meaning, partial_of, IsCompared, has_value, is_bound, Reaches}
use Rattle.leaf_match.proofs.Binding.{set_map, set_here, set_other, same_or_not, get_within}

-- ---- where a variable stands in a pattern

row_is : {n : Count} (x : ℕ) (row : Row_of-Pattern n) → row_mentions x row ≡ list_any (mentions x) (items-the_row-Pattern n row)
unfolding row_mentions
row_is x end_of-Pattern = refl
row_is x (more_of-Pattern p ps) = ap (λ b. mentions x p || b) (row_is x ps)

parts_are : (x : ℕ) (ps : List Pattern) → row_mentions x (hidden-the_row-Pattern-0 ps) ≡ list_any (mentions x) ps
parts_are x ps = row_is x (hidden-the_row-Pattern-0 ps) ∙ ap (list_any (mentions x)) (items_hidden-the_row-Pattern-0 ps)

pub mentions-Var : (x y : ℕ) → mentions x (Var y) ≡ (x == y)
unfolding mentions
mentions-Var x y = refl

pub mentions-Lit : (x : ℕ) (v : Value) → mentions x (Lit v) ≡ false
unfolding mentions
mentions-Lit x v = refl

pub mentions-Node : (x p : ℕ) (ps : List Pattern) → mentions x (NodeP p ps) ≡ list_any (mentions x) ps
unfolding mentions
mentions-Node x p ps = parts_are x ps

pub mentions-Items : (x p : ℕ) (ps : List Pattern) (rest : Option ℕ) → mentions x (ItemsP p ps rest) ≡ (list_any (mentions x) ps || is_rest x rest)
unfolding mentions
mentions-Items x p ps rest = ap (λ b. b || is_rest x rest) (parts_are x ps)

pub mentions-Seq : (x : ℕ) (ps : List Pattern) (rest : Option ℕ) → mentions x (SeqP ps rest) ≡ (list_any (mentions x) ps || is_rest x rest)
unfolding mentions
mentions-Seq x ps rest = ap (λ b. b || is_rest x rest) (parts_are x ps)

pub mentions-Freezer : (x p i : ℕ) (ps : List Pattern) → mentions x (FreezerP p i ps) ≡ list_any (mentions x) ps
unfolding mentions
mentions-Freezer x p i ps = parts_are x ps

-- ---- one after the other

or_none : (a b : Bool) → b ≡ false → a ≡ (a || b)
or_none true b e = refl
or_none false b e = sym e

or_joined : (a b c : Bool) → ((a || b) || c) ≡ (a || (b || c))
or_joined true b c = refl
or_joined false b c = refl

-- the same told of another test
pub reach_alike : (found : Bool) (before after : Partial) (one other : ℕ → Bool) → ((x : ℕ) → other x ≡ one x) → Reaches found before after one → Reaches found before after other
reach_alike found before after one other same reaches = λ e x. reaches e x ∙ ap (λ b. is_bound before x || b) (sym (same x))

pub reach_none : (found : Bool) (before : Partial) (stands : ℕ → Bool) → ((x : ℕ) → stands x ≡ false) → Reaches found before before stands
reach_none found before stands none = λ e x. or_none (is_bound before x) (stands x) (none x)

pub reach_both : (found : Bool) (before between after : Partial) (one other : ℕ → Bool) → Reaches true before between one → Reaches found between after other → Reaches found before after (λ x. one x || other x)
reach_both found before between after one other first second = λ e x.
    second e x ∙ ap (λ b. b || other x) (first refl x) ∙ or_joined (is_bound before x) (one x) (other x)

-- ---- a variable

or_held : (a b : Bool) → (b ≡ true → a ≡ true) → a ≡ (a || b)
or_held true b h = refl
or_held false true h = let no : false ≡ true = h refl in cc
or_held false false h = refl

-- it was bound before
pub reach_held : (p : Partial) (y : ℕ) (v : Value) (same : Bool) → IsCompared p y v (Some same) → Reaches same p p (λ x. x == y)
reach_held p y v true is = λ e x. or_held (is_bound p x) (x == y) (λ at. ap (is_bound p) (eqb-true x y at) ∙ ap has_value is)
reach_held p y v false is = λ e. let no : false ≡ true = e in absurd cc

not_same : (x y : ℕ) → ((x ≡ y) → ⊥) → (x == y) ≡ false
not_same x y differ = told (x == y) refl
  where
    told : (b : Bool) → (x == y) ≡ b → (x == y) ≡ false
    told true e = absurd (differ (eqb-true x y e))
    told false e = e

or_true : (a b : Bool) → b ≡ true → (a || b) ≡ true
or_true true b e = refl
or_true false b e = e

-- it is bound now
pub reach_now : (bounds : List (Option Lent)) (y : ℕ) (lent : Lent) → slice_get (partial_of bounds) y ≡ Some None → Reaches true (partial_of bounds) (partial_of (set bounds y (Some lent))) (λ x. x == y)
reach_now bounds y lent free = λ e x.
    ap (λ p. is_bound p x) (set_map (option_map meaning) bounds y (Some lent))
    ∙ elim (same_or_not x y) [
      | inl is ↦ ap (is_bound (set (partial_of bounds) y (Some (meaning lent)))) is
          ∙ ap has_value (set_here (partial_of bounds) y (Some (meaning lent)) (get_within (partial_of bounds) y None free))
          ∙ sym (or_true (is_bound (partial_of bounds) x) (x == y) (eq-eqb x y is))
      | inr differ ↦ ap has_value (set_other (partial_of bounds) y x (Some (meaning lent)) differ) ∙ or_none (is_bound (partial_of bounds) x) (x == y) (not_same x y differ)
    ]

-- ---- several patterns

or_last : (a b : Bool) → (a || (b || false)) ≡ (a || b)
or_last a true = refl
or_last a false = refl

any_next : {A : Type 0} (test : A → Bool) (xs : List A) (i : ℕ) (x : A) → i < length xs → x ≡ get_or xs i x → list_any test (take (suc i) xs) ≡ (list_any test (take i xs) || test x)
any_next test [] i x within is = absurd (omega (arith, within))
any_next test (y ∷ ys) zero x within is = only (test y) ∙ ap test (sym is)
  where
    only : (b : Bool) → (b || false) ≡ b
    only true = refl
    only false = refl
any_next test (y ∷ ys) (suc i) x within is = ap (λ b. test y || b) (any_next test ys i x (omega (arith, within)) is) ∙ sym (or_joined (test y) (list_any test (take i ys)) (test x))

one_more : (i : ℕ) → i + 1 ≡ suc i
one_more i = omega arith

pub reach_next : {A : Type 0} (test : ℕ → A → Bool) (before between after : Partial) (xs : List A) (i : ℕ) (one : A) → i < length xs → one ≡ get_or xs i one
    → Reaches true before between (λ x. list_any (test x) (take i xs)) → Reaches true between after (λ x. test x one) → Reaches true before after (λ x. list_any (test x) (take (i + 1) xs))
reach_next test before between after xs i one within is first second =
    reach_alike true before after (λ x. list_any (test x) (take i xs) || test x one) (λ x. list_any (test x) (take (i + 1) xs))
    (λ x. ap (λ n. list_any (test x) (take n xs)) (one_more i) ∙ any_next (test x) xs i one within is)
    (reach_both true before between after (λ x. list_any (test x) (take i xs)) (λ x. test x one) first second)
