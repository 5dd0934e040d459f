-- The derived tests decide whether patterns, bodies and cell patterns are equal.
use Rattle.std.proofs.Common.{◌≡◌, ℕ, Bool, true, false, ◌&&◌, ◌==◌, List, [], ◌∷◌, map, Option, Some, None, refl, sym, ap, ◌∙◌}
use Rattle.std.specs.Prelude.{unwrap_or}
use Rattle.std.specs.Bool.{Decides}
use Rattle.std.specs.Option.{option_eq}
use Rattle.std.specs.Cmp.Lexicographic.{pointwise}
use Rattle.std.proofs.lemmas.Bool.Decides.{Decides-eqb}
use denote.Enum.Bare.{same_true, true_same}
use Rattle.k_terms.specs.declared.op.Op.{Op}
use Rattle.k_terms.specs.contracts.op.Op as op_type
use Rattle.k_terms.specs.contracts.op.OpPartialEq.TheImpl as op
use Rattle.k_terms.specs.declared.value.Value.{Value}
use Rattle.k_terms.specs.contracts.value.ValuePartialEq.TheImpl as value
use Rattle.k_terms.proofs.OrderLaws.{derived_eq-is, is_eq-value_cmp}
use Rattle.rule_terms.specs.declared.pattern.Pattern.{Pattern, Pattern-F, out-Pattern, roll-Pattern, out-roll-Pattern, roll-out-Pattern, ind-Pattern, map-Pattern}
use Rattle.rule_terms.specs.declared.pattern.Pattern.TheOpen.{Var, Lit, Node, Items, Seq, Freezer, Apply}
use Rattle.rule_terms.specs.contracts.pattern.PatternPartialEq.TheImpl as pattern
use Rattle.rule_terms.specs.contracts.pattern.PatternPartialEq.TheImpl.Laws as pattern_laws

-- ---- tests and equations

-- two tests, the second where the first has passed
pub both_decide : (p q : Bool) {A B C : Type 0} → Decides p A → Decides q B → (A → B → C) → (C → A) → (C → B) → Decides (p && q) C
both_decide true q a b make first second = (λ t. make (a.0 refl) (b.0 t), λ c. b.1 (second c))
both_decide false q a b make first second = (λ t. absurd (let f : false ≡ true = t in cc), λ c. absurd (let f : false ≡ true = a.1 (first c) in cc))

pub decides_by : (p : Bool) {A B : Type 0} → Decides p A → (A → B) → (B → A) → Decides p B
decides_by p a make back = (λ t. make (a.0 t), λ b. a.1 (back b))

-- two lists, of which the first one's items are told by another list
module _ {A B : Type 0} (f : A → B) (R : A → B → Bool) (decides : (a : A) (b : B) → Decides (R a b) (f a ≡ b)) where
  pub lists_decide : (xs : List A) (ys : List B) → Decides (pointwise R xs ys) (map f xs ≡ ys)
  lists_decide [] [] = (λ t. refl, λ e. refl)
  lists_decide [] (y ∷ ys) = (λ t. cc, λ e. cc)
  lists_decide (x ∷ xs) [] = (λ t. cc, λ e. cc)
  lists_decide (x ∷ xs) (y ∷ ys) =
      both_decide (R x y) (pointwise R xs ys) (decides x y) (lists_decide xs ys) (λ e g i. e i ∷ g i)
      (ap (λ (zs : List B). elim zs [ [] ↦ f x | z ∷ _ ↦ z ])) (ap (λ (zs : List B). elim zs [ [] ↦ [] | _ ∷ more ↦ more ]))

pub rest_decides : (a b : Option ℕ) → Decides (option_eq ◌==◌ a b) (a ≡ b)
rest_decides None None = (λ t. refl, λ e. refl)
rest_decides None (Some y) = (λ t. cc, λ e. cc)
rest_decides (Some x) None = (λ t. cc, λ e. cc)
rest_decides (Some x) (Some y) = decides_by (x == y) (Decides-eqb x y) (ap Some) (ap (λ o. unwrap_or o x))

value_decides : (v w : Value) → Decides (value.ghosts.eq v w) (v ≡ w)
value_decides v w = is_eq-value_cmp v w (value.ghosts.eq v w) (derived_eq-is v w)

op_decides : (a b : Op) → Decides (op.ghosts.eq a b) (a ≡ b)
op_decides a b = (same_true op_type.the_type tt a b, true_same op_type.the_type a b)

-- ---- patterns

module _ {A B : Type 0} where
  -- two patterns, where R compares their parts
  abbrev level_eq : (A → B → Bool) → Pattern-F A → Pattern-F B → Bool
  level_eq R (Var x) (Var y) = x == y
  level_eq R (Lit v) (Lit w) = value.ghosts.eq v w
  level_eq R (Node p xs) (Node q ys) = p == q && pointwise R xs ys
  level_eq R (Items p xs x) (Items q ys y) = p == q && (pointwise R xs ys && option_eq ◌==◌ x y)
  level_eq R (Seq xs x) (Seq ys y) = pointwise R xs ys && option_eq ◌==◌ x y
  level_eq R (Freezer p i xs) (Freezer q j ys) = p == q && (i == j && pointwise R xs ys)
  level_eq R (Apply o xs) (Apply p ys) = op.ghosts.eq o p && pointwise R xs ys
  level_eq R x y = false

-- the test of changed parts
module _ {A B C : Type 0} (f : A → B) (R : B → C → Bool) where
  pub pointwise-map : (xs : List A) (ys : List C) → pointwise R (map f xs) ys ≡ pointwise (λ x y. R (f x) y) xs ys
  pointwise-map [] [] = refl
  pointwise-map [] (y ∷ ys) = refl
  pointwise-map (x ∷ xs) [] = refl
  pointwise-map (x ∷ xs) (y ∷ ys) = ap (λ b. R (f x) y && b) (pointwise-map xs ys)

  level_eq-map : (x : Pattern-F A) (y : Pattern-F C) → level_eq R (map-Pattern A B f x) y ≡ level_eq (λ u v. R (f u) v) x y
  level_eq-map (Node p xs) (Node q ys) = ap (λ b. p == q && b) (pointwise-map xs ys)
  level_eq-map (Items p xs x) (Items q ys y) = ap (λ b. p == q && (b && option_eq ◌==◌ x y)) (pointwise-map xs ys)
  level_eq-map (Seq xs x) (Seq ys y) = ap (λ b. b && option_eq ◌==◌ x y) (pointwise-map xs ys)
  level_eq-map (Freezer p i xs) (Freezer q j ys) = ap (λ b. p == q && (i == j && b)) (pointwise-map xs ys)
  level_eq-map (Apply o xs) (Apply p ys) = ap (λ b. op.ghosts.eq o p && b) (pointwise-map xs ys)
  level_eq-map x y = refl

pattern_seen : (a b : Pattern) (x y : Pattern-F Pattern) → out-Pattern a ≡ x → out-Pattern b ≡ y → pattern_laws.unfolded a b ≡ level_eq pattern.ghosts.eq x y
pattern_seen a b (Var x) (Var y) e f = rw (e, f)
pattern_seen a b (Lit v) (Lit w) e f = rw (e, f)
pattern_seen a b (Node p xs) (Node q ys) e f = rw (e, f)
pattern_seen a b (Items p xs x) (Items q ys y) e f = rw (e, f)
pattern_seen a b (Seq xs x) (Seq ys y) e f = rw (e, f)
pattern_seen a b (Freezer p i xs) (Freezer q j ys) e f = rw (e, f)
pattern_seen a b (Apply o xs) (Apply p ys) e f = rw (e, f)
pattern_seen a b x y e f = rw (e, f)

module _ {A B : Type 0} (f : A → B) (R : A → B → Bool) (decides : (a : A) (b : B) → Decides (R a b) (f a ≡ b)) where
  level_decides : (x : Pattern-F A) (y : Pattern-F B) → Decides (level_eq R x y) (map-Pattern A B f x ≡ y)
  level_decides (Var x) (Var y) = decides_by (x == y) (Decides-eqb x y) (ap Var) (ap (λ (z : Pattern-F B). elim z [ Var n ↦ n | _ ↦ x ]))
  level_decides (Lit v) (Lit w) = decides_by (value.ghosts.eq v w) (value_decides v w) (ap Lit) (ap (λ (z : Pattern-F B). elim z [ Lit u ↦ u | _ ↦ v ]))
  level_decides (Node p xs) (Node q ys) =
      both_decide (p == q) (pointwise R xs ys) (Decides-eqb p q) (lists_decide f R decides xs ys) (λ e g i. Node (e i) (g i))
      (ap (λ (z : Pattern-F B). elim z [ Node n _ ↦ n | _ ↦ p ])) (ap (λ (z : Pattern-F B). elim z [ Node _ zs ↦ zs | _ ↦ map f xs ]))
  level_decides (Items p xs x) (Items q ys y) =
      both_decide (p == q) (pointwise R xs ys && option_eq ◌==◌ x y) (Decides-eqb p q)
      (both_decide (pointwise R xs ys) (option_eq ◌==◌ x y) {C = (map f xs ≡ ys) × (x ≡ y)} (lists_decide f R decides xs ys) (rest_decides x y) (λ e g. (e, g)) (λ e. e.0) (λ e. e.1))
      (λ e g i. Items (e i) (g.0 i) (g.1 i))
      (ap (λ (z : Pattern-F B). elim z [ Items n _ _ ↦ n | _ ↦ p ]))
      (λ e. (ap (λ (z : Pattern-F B). elim z [ Items _ zs _ ↦ zs | _ ↦ map f xs ]) e, ap (λ (z : Pattern-F B). elim z [ Items _ _ rest ↦ rest | _ ↦ x ]) e))
  level_decides (Seq xs x) (Seq ys y) =
      both_decide (pointwise R xs ys) (option_eq ◌==◌ x y) (lists_decide f R decides xs ys) (rest_decides x y) (λ e g i. Seq (e i) (g i))
      (ap (λ (z : Pattern-F B). elim z [ Seq zs _ ↦ zs | _ ↦ map f xs ])) (ap (λ (z : Pattern-F B). elim z [ Seq _ rest ↦ rest | _ ↦ x ]))
  level_decides (Freezer p i xs) (Freezer q j ys) =
      both_decide (p == q) (i == j && pointwise R xs ys) (Decides-eqb p q)
      (both_decide (i == j) (pointwise R xs ys) {C = (i ≡ j) × (map f xs ≡ ys)} (Decides-eqb i j) (lists_decide f R decides xs ys) (λ e g. (e, g)) (λ e. e.0) (λ e. e.1))
      (λ e g k. Freezer (e k) (g.0 k) (g.1 k))
      (ap (λ (z : Pattern-F B). elim z [ Freezer n _ _ ↦ n | _ ↦ p ]))
      (λ e. (ap (λ (z : Pattern-F B). elim z [ Freezer _ n _ ↦ n | _ ↦ i ]) e, ap (λ (z : Pattern-F B). elim z [ Freezer _ _ zs ↦ zs | _ ↦ map f xs ]) e))
  level_decides (Apply o xs) (Apply p ys) =
      both_decide (op.ghosts.eq o p) (pointwise R xs ys) (op_decides o p) (lists_decide f R decides xs ys) (λ e g i. Apply (e i) (g i))
      (ap (λ (z : Pattern-F B). elim z [ Apply n _ ↦ n | _ ↦ o ])) (ap (λ (z : Pattern-F B). elim z [ Apply _ zs ↦ zs | _ ↦ map f xs ]))
  level_decides x y = (λ t. cc, λ e. cc)

abbrev IsDecided : Pattern → Type 0
IsDecided a = (b : Pattern) → Decides (pattern.ghosts.eq a b) (a ≡ b)

pub pattern_decides : (a b : Pattern) → Decides (pattern.ghosts.eq a b) (a ≡ b)
pattern_decides = ind-Pattern IsDecided (λ x y e b.
    let parts = λ (p : (a : Pattern) × IsDecided a). p.0 in
    let level = level_decides parts (λ p c. pattern.ghosts.eq p.0 c) (λ p c. p.1 c) y (out-Pattern b) in
    let seen : pattern.ghosts.eq (roll-Pattern x) b ≡ level_eq pattern.ghosts.eq x (out-Pattern b) =
    pattern_laws.is (roll-Pattern x) b ∙ pattern_seen (roll-Pattern x) b x (out-Pattern b) (out-roll-Pattern x) refl in
    let same : pattern.ghosts.eq (roll-Pattern x) b ≡ level_eq (λ (p : (a : Pattern) × IsDecided a) c. pattern.ghosts.eq p.0 c) y (out-Pattern b) =
    seen ∙ ap (λ z. level_eq pattern.ghosts.eq z (out-Pattern b)) (sym e) ∙ level_eq-map parts pattern.ghosts.eq y (out-Pattern b) in (
      λ t. ap roll-Pattern (sym e ∙ level.0 (sym same ∙ t)) ∙ roll-out-Pattern b,
      λ f. same ∙ level.1 (e ∙ sym (out-roll-Pattern x) ∙ ap out-Pattern f),
    ))
