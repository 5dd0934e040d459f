-- When a pattern of parts has a value, its parts have those of the value.
use Rattle.std.proofs.Common.{arith, ◌≡◌, ℕ, zero, suc, ◌≤◌, true, cond, List, [], ◌∷◌, take, refl, sym, ap, ◌∙◌}
use Rattle.std.specs.Prelude.{Option, Some, None, nat_le}
use Rattle.std.specs.Option.{option_and_then}
use Rattle.std.specs.List.{AllByRecursion}
use Rattle.std.proofs.lemmas.Bool.Decides.{nat_tests}
use Rattle.k_terms.specs.declared.value.Value.{Value, Node, Items, Seq, Freezer, out-Value}
use Rattle.k_terms.specs.declared.value.Value.TheVariants.{outs-Node, outs-Items, outs-Seq, outs-Freezer}
use Rattle.k_terms.specs.declared.value.Value.TheOpen.{Value-F, Node as Node-F, Items as Items-F, Seq as Seq-F, Freezer as Freezer-F}
use Rattle.k_terms.specs.Value.{depth_of}
use Rattle.k_terms.specs.Operators.{bounded, depth_limit}
use Rattle.k_terms.specs.Parts.{greatest_depth}
use Rattle.k_terms.proofs.Layers.{depth_of-Node, depth_of-Items, depth_of-Seq, depth_of-Freezer}
use Rattle.rule_terms.proofs.Defined.{let_through, and_then_gives}
use Rattle.leaf_match.specs.Bindings.{node_at, items_at, sequence_at, freezer_at}

-- ---- what a value is built of

number_of : Value-F Value → ℕ
number_of v = elim v [ Node-F p _ ↦ p | Items-F p _ ↦ p | Freezer-F p _ _ ↦ p | _ ↦ 0 ]

place_of : Value-F Value → ℕ
place_of v = elim v [ Freezer-F _ i _ ↦ i | _ ↦ 0 ]

parts_of : Value-F Value → List Value
parts_of v = elim v [ Node-F _ vs ↦ vs | Items-F _ vs ↦ vs | Seq-F vs ↦ vs | Freezer-F _ _ vs ↦ vs | _ ↦ [] ]

kind_of : Value-F Value → ℕ
kind_of v = elim v [ Node-F _ _ ↦ 1 | Items-F _ _ ↦ 2 | Seq-F _ ↦ 3 | Freezer-F _ _ _ ↦ 4 | _ ↦ 0 ]

shallow_value : (v : Value) → depth_of v ≤ depth_limit → bounded v ≡ Some v
shallow_value v shallow = let test : nat_le (depth_of v) depth_limit ≡ true = search (arith, nat_tests) in ap (λ b. cond b (Some v) None) test

bounded_is : (v w : Value) → bounded v ≡ Some w → v ≡ w
bounded_is v w e = let_through (nat_le (depth_of v) depth_limit) v w e

-- A value that `make` builds of parts is one that it builds of these alone.
module _ (make : List Value → Value) (parts : Option (List Value)) (v : Value) where
  abbrev Built : Type 0
  Built = option_and_then (λ vs. bounded (make vs)) parts ≡ Some v

  pub built_of : Built → (vs : List Value) × (parts ≡ Some vs) × (make vs ≡ v)
  built_of e =
      let found = and_then_gives (λ vs. bounded (make vs)) parts v e in
      (found.0, found.1, bounded_is (make found.0) v found.2)

  pub built : (vs : List Value) → parts ≡ Some vs → make vs ≡ v → depth_of v ≤ depth_limit → Built
  built vs is made shallow = ap (option_and_then (λ ws. bounded (make ws))) is ∙ ap bounded made ∙ shallow_value v shallow

opens : {A : Type 0} (f : Value-F Value → A) (v w : Value) (x y : Value-F Value) → out-Value v ≡ x → out-Value w ≡ y → v ≡ w → f x ≡ f y
opens f v w x y first second same = ap f (sym first ∙ ap out-Value same ∙ second)

module _ (p : ℕ) (parts : Option (List Value)) (vs : List Value) where
  pub node_holds : depth_of (Node p vs) ≤ depth_limit → (parts ≡ Some vs → node_at p parts ≡ Some (Node p vs)) × (node_at p parts ≡ Some (Node p vs) → parts ≡ Some vs)
  unfolding built_of parts_of
  node_holds shallow = (
    (λ is. built (Node p) parts (Node p vs) vs is refl shallow),
    (λ e. let found = built_of (Node p) parts (Node p vs) e in
        found.1 ∙ ap Some (opens parts_of (Node p found.0) (Node p vs) (Node-F p found.0) (Node-F p vs) (outs-Node p found.0) (outs-Node p vs) found.2)),
  )

  pub items_hold : depth_of (Items p vs) ≤ depth_limit → (parts ≡ Some vs → items_at p parts ≡ Some (Items p vs)) × (items_at p parts ≡ Some (Items p vs) → parts ≡ Some vs)
  unfolding built_of parts_of
  items_hold shallow = (
    (λ is. built (Items p) parts (Items p vs) vs is refl shallow),
    (λ e. let found = built_of (Items p) parts (Items p vs) e in
        found.1 ∙ ap Some (opens parts_of (Items p found.0) (Items p vs) (Items-F p found.0) (Items-F p vs) (outs-Items p found.0) (outs-Items p vs) found.2)),
  )

  pub sequence_holds : depth_of (Seq vs) ≤ depth_limit → (parts ≡ Some vs → sequence_at parts ≡ Some (Seq vs)) × (sequence_at parts ≡ Some (Seq vs) → parts ≡ Some vs)
  unfolding built_of parts_of
  sequence_holds shallow = (
    (λ is. built Seq parts (Seq vs) vs is refl shallow),
    (λ e. let found = built_of Seq parts (Seq vs) e in
        found.1 ∙ ap Some (opens parts_of (Seq found.0) (Seq vs) (Seq-F found.0) (Seq-F vs) (outs-Seq found.0) (outs-Seq vs) found.2)),
  )

  pub freezer_holds : (i : ℕ) → depth_of (Freezer p i vs) ≤ depth_limit
      → (parts ≡ Some vs → freezer_at p i parts ≡ Some (Freezer p i vs)) × (freezer_at p i parts ≡ Some (Freezer p i vs) → parts ≡ Some vs)
  unfolding built_of parts_of
  freezer_holds i shallow = (
    (λ is. built (Freezer p i) parts (Freezer p i vs) vs is refl shallow),
    (λ e. let found = built_of (Freezer p i) parts (Freezer p i vs) e in
        found.1 ∙ ap Some (opens parts_of (Freezer p i found.0) (Freezer p i vs) (Freezer-F p i found.0) (Freezer-F p i vs) (outs-Freezer p i found.0) (outs-Freezer p i vs) found.2)),
  )

-- ---- a value of another kind, or of another production

module _ (p : ℕ) (parts : Option (List Value)) where
  pub other_node : (v : Value) (x : Value-F Value) → out-Value v ≡ x → ((ws : List Value) → x ≡ Node-F p ws → ⊥) → node_at p parts ≡ Some v → ⊥
  other_node v x is other e = let found = built_of (Node p) parts v e in other found.0 (sym is ∙ ap out-Value (sym found.2) ∙ outs-Node p found.0)

  pub other_items : (v : Value) (x : Value-F Value) → out-Value v ≡ x → ((ws : List Value) → x ≡ Items-F p ws → ⊥) → items_at p parts ≡ Some v → ⊥
  other_items v x is other e = let found = built_of (Items p) parts v e in other found.0 (sym is ∙ ap out-Value (sym found.2) ∙ outs-Items p found.0)

  pub other_sequence : (v : Value) (x : Value-F Value) → out-Value v ≡ x → ((ws : List Value) → x ≡ Seq-F ws → ⊥) → sequence_at parts ≡ Some v → ⊥
  other_sequence v x is other e = let found = built_of Seq parts v e in other found.0 (sym is ∙ ap out-Value (sym found.2) ∙ outs-Seq found.0)

  pub other_freezer : (i : ℕ) (v : Value) (x : Value-F Value) → out-Value v ≡ x → ((ws : List Value) → x ≡ Freezer-F p i ws → ⊥) → freezer_at p i parts ≡ Some v → ⊥
  other_freezer i v x is other e = let found = built_of (Freezer p i) parts v e in other found.0 (sym is ∙ ap out-Value (sym found.2) ∙ outs-Freezer p i found.0)

-- ---- the parts of a value that isn't too deep

shallow_parts : (vs : List Value) → greatest_depth vs ≤ depth_limit → AllByRecursion (λ v. depth_of v ≤ depth_limit) vs
shallow_parts [] h = tt
shallow_parts (v ∷ vs) h = (omega (arith, h), shallow_parts vs (omega (arith, h)))

under : (d : ℕ) (vs : List Value) → d ≡ suc (greatest_depth vs) → d ≤ depth_limit → AllByRecursion (λ v. depth_of v ≤ depth_limit) vs
under d vs is h = shallow_parts vs (omega (arith, is, h))

pub node_shallow : (p : ℕ) (vs : List Value) → depth_of (Node p vs) ≤ depth_limit → AllByRecursion (λ v. depth_of v ≤ depth_limit) vs
node_shallow p vs h = under (depth_of (Node p vs)) vs (depth_of-Node p vs) h

pub items_shallow : (p : ℕ) (vs : List Value) → depth_of (Items p vs) ≤ depth_limit → AllByRecursion (λ v. depth_of v ≤ depth_limit) vs
items_shallow p vs h = under (depth_of (Items p vs)) vs (depth_of-Items p vs) h

pub sequence_shallow : (vs : List Value) → depth_of (Seq vs) ≤ depth_limit → AllByRecursion (λ v. depth_of v ≤ depth_limit) vs
sequence_shallow vs h = under (depth_of (Seq vs)) vs (depth_of-Seq vs) h

pub freezer_shallow : (p i : ℕ) (vs : List Value) → depth_of (Freezer p i vs) ≤ depth_limit → AllByRecursion (λ v. depth_of v ≤ depth_limit) vs
freezer_shallow p i vs h = under (depth_of (Freezer p i vs)) vs (depth_of-Freezer p i vs) h

pub front_shallow : (n : ℕ) (vs : List Value) → AllByRecursion (λ v. depth_of v ≤ depth_limit) vs → AllByRecursion (λ v. depth_of v ≤ depth_limit) (take n vs)
front_shallow zero vs all = tt
front_shallow (suc n) [] all = tt
front_shallow (suc n) (v ∷ vs) all = (all.0, front_shallow n vs all.1)
