-- The derived tests of rules and of the parts of a definition.
use Rattle.std.proofs.Common.{◌≡◌, ℕ, Bool, true, false, ◌&&◌, ◌==◌, List, [], ◌∷◌, map, refl, sym, ap, ◌∙◌}
use mathlib.Core.Bool.{beq}
use Rattle.std.specs.Bool.{Decides}
use Rattle.std.specs.Option.{option_eq}
use Rattle.std.specs.Cmp.Lexicographic.{pointwise}
use Rattle.std.proofs.lemmas.Bool.Decides.{Decides-eqb}
use Rattle.std.proofs.lemmas.Slice.Eq.{slice_eq-Decides}
use Rattle.rule_terms.specs.declared.rule.Cond.{Cond}
use Rattle.rule_terms.specs.declared.rule.Cond.TheVariants.{Holds, IsSort, NotSort}
use Rattle.rule_terms.specs.declared.rule.Origin.{Origin}
use Rattle.rule_terms.specs.declared.rule.Origin.TheVariants.{Written, Heat, Cool}
use Rattle.rule_terms.specs.declared.rule.Rule.{Rule}
use Rattle.rule_terms.specs.declared.defs.Kind.{Kind}
use Rattle.rule_terms.specs.declared.defs.Kind.TheVariants.{Cells as CellsKind, Seq as SeqKind, Map as MapKind, List as ListKind, One as OneKind}
use Rattle.rule_terms.specs.declared.defs.CellShape.{CellShape}
use Rattle.rule_terms.specs.contracts.defs.KindPartialEq.TheImpl as kind
use Rattle.rule_terms.specs.contracts.defs.CellShapePartialEq.TheImpl as shape
use Rattle.rule_terms.specs.contracts.pattern.PatternPartialEq.TheImpl as pattern
use Rattle.rule_terms.specs.contracts.pattern.CellPatPartialEq.TheImpl as cell
use Rattle.rule_terms.specs.contracts.rule.CondPartialEq.TheImpl as condition
use Rattle.rule_terms.specs.contracts.rule.OriginPartialEq.TheImpl as origin
use Rattle.rule_terms.specs.contracts.rule.RulePartialEq.TheImpl as rule
use Rattle.rule_terms.proofs.RuleEquality.{both_decide, decides_by, rest_decides, pattern_decides}
use Rattle.rule_terms.proofs.BodyEquality.{cell_decides}

-- two numbers, in a constructor of two
two_numbers : {X : Type 0} (make : ℕ → ℕ → X) (first second : X → ℕ) (p q r s : ℕ) → ((m n : ℕ) → first (make m n) ≡ m) → ((m n : ℕ) → second (make m n) ≡ n)
    → Decides (p == q && r == s) (make p r ≡ make q s)
two_numbers make first second p q r s one other =
    both_decide (p == q) (r == s) (Decides-eqb p q) (Decides-eqb r s) (λ e f i. make (e i) (f i))
    (λ e. sym (one p r) ∙ ap first e ∙ one q s) (λ e. sym (other p r) ∙ ap second e ∙ other q s)

pub origin_decides : (a b : Origin) → Decides (origin.ghosts.eq a b) (a ≡ b)
origin_decides (Written m) (Written n) = decides_by (m == n) (Decides-eqb m n) (ap Written) (ap (λ o. elim o [ Written k ↦ k | _ ↦ m ]))
origin_decides (Heat p i) (Heat q j) =
    two_numbers Heat (λ o. elim o [ Heat n _ ↦ n | _ ↦ p ]) (λ o. elim o [ Heat _ n ↦ n | _ ↦ i ]) p q i j (λ m n. refl) (λ m n. refl)
origin_decides (Cool p i) (Cool q j) =
    two_numbers Cool (λ o. elim o [ Cool n _ ↦ n | _ ↦ p ]) (λ o. elim o [ Cool _ n ↦ n | _ ↦ i ]) p q i j (λ m n. refl) (λ m n. refl)
origin_decides a b = (λ t. cc, λ e. cc)

condition_decides : (a b : Cond) → Decides (condition.ghosts.eq a b) (a ≡ b)
condition_decides (Holds p) (Holds q) = decides_by (pattern.ghosts.eq p q) (pattern_decides p q) (ap Holds) (ap (λ c. elim c [ Holds r ↦ r | _ ↦ p ]))
condition_decides (IsSort p i) (IsSort q j) =
    two_numbers IsSort (λ c. elim c [ IsSort n _ ↦ n | _ ↦ p ]) (λ c. elim c [ IsSort _ n ↦ n | _ ↦ i ]) p q i j (λ m n. refl) (λ m n. refl)
condition_decides (NotSort p i) (NotSort q j) =
    two_numbers NotSort (λ c. elim c [ NotSort n _ ↦ n | _ ↦ p ]) (λ c. elim c [ NotSort _ n ↦ n | _ ↦ i ]) p q i j (λ m n. refl) (λ m n. refl)
condition_decides a b = (λ t. cc, λ e. cc)

numbers_decide : (xs ys : List ℕ) → Decides (pointwise ◌==◌ xs ys) (xs ≡ ys)
numbers_decide xs ys = slice_eq-Decides Decides-eqb xs ys (pointwise ◌==◌ xs ys) refl

-- five tests in a row
module _ {A B C D E X : Type 0} (p q r s t : Bool) (a : Decides p A) (b : Decides q B) (c : Decides r C) (d : Decides s D) (e : Decides t E) where
  five_decide : (A → B → C → D → E → X) → (X → A) → (X → B) → (X → C) → (X → D) → (X → E) → Decides (p && (q && (r && (s && t)))) X
  five_decide make first second third fourth fifth =
      both_decide p (q && (r && (s && t))) {C = X} a
      (both_decide q (r && (s && t)) {C = B × C × D × E} b
      (both_decide r (s && t) {C = C × D × E} c (both_decide s t {C = D × E} d e (λ y z. (y, z)) (λ y. y.0) (λ y. y.1)) (λ y z. (y, z.0, z.1)) (λ y. y.0) (λ y. (y.1, y.2)))
      (λ y z. (y, z.0, z.1, z.2)) (λ y. y.0) (λ y. (y.1, y.2, y.3)))
      (λ y z. make y z.0 z.1 z.2 z.3) first (λ x. (second x, third x, fourth x, fifth x))

pub rule_decides : (a b : Rule) → Decides (rule.ghosts.eq a b) (a ≡ b)
rule_decides a b =
    five_decide (origin.ghosts.eq a.origin b.origin) (pointwise ◌==◌ a.vars b.vars) (cell.ghosts.eq a.left b.left) (cell.ghosts.eq a.right b.right)
    (pointwise condition.ghosts.eq a.when b.when)
    (origin_decides a.origin b.origin) (numbers_decide a.vars b.vars) (cell_decides a.left b.left) (cell_decides a.right b.right)
    (slice_eq-Decides condition_decides a.when b.when (pointwise condition.ghosts.eq a.when b.when) refl)
    (λ e f g h k i. record { origin = e i; vars = f i; left = g i; right = h i; when = k i })
    (ap (λ (x : Rule). x.origin)) (ap (λ (x : Rule). x.vars)) (ap (λ (x : Rule). x.left)) (ap (λ (x : Rule). x.right)) (ap (λ (x : Rule). x.when))

pub decides_same : (r p : Bool) {A : Type 0} → r ≡ p → Decides p A → Decides r A
decides_same r p same d = (λ t. d.0 (sym same ∙ t), λ a. same ∙ d.1 a)

-- ---- the parts of a definition

kind_decides : (a b : Kind) → Decides (kind.ghosts.eq a b) (a ≡ b)
kind_decides CellsKind CellsKind = (λ t. refl, λ e. refl)
kind_decides SeqKind SeqKind = (λ t. refl, λ e. refl)
kind_decides MapKind MapKind = (λ t. refl, λ e. refl)
kind_decides ListKind ListKind = (λ t. refl, λ e. refl)
kind_decides (OneKind m) (OneKind n) = decides_by (m == n) (Decides-eqb m n) (ap OneKind) (ap (λ o. elim o [ OneKind k ↦ k | _ ↦ m ]))
kind_decides a b = (λ t. cc, λ e. cc)

truth_decides : (a b : Bool) → Decides (beq a b) (a ≡ b)
truth_decides true true = (λ t. refl, λ e. refl)
truth_decides false false = (λ t. refl, λ e. refl)
truth_decides true false = (λ t. cc, λ e. cc)
truth_decides false true = (λ t. cc, λ e. cc)

shape_decides : (a b : CellShape) → Decides (shape.ghosts.eq a b) (a ≡ b)
shape_decides a b =
    both_decide (pointwise ◌==◌ a.name b.name) (option_eq ◌==◌ a.parent b.parent && (beq a.many b.many && kind.ghosts.eq a.kind b.kind)) (numbers_decide a.name b.name)
    (both_decide (option_eq ◌==◌ a.parent b.parent) (beq a.many b.many && kind.ghosts.eq a.kind b.kind)
    {C = (a.parent ≡ b.parent) × (a.many ≡ b.many) × (a.kind ≡ b.kind)} (rest_decides a.parent b.parent)
    (both_decide (beq a.many b.many) (kind.ghosts.eq a.kind b.kind) {C = (a.many ≡ b.many) × (a.kind ≡ b.kind)} (truth_decides a.many b.many) (kind_decides a.kind b.kind)
    (λ e f. (e, f)) (λ e. e.0) (λ e. e.1))
    (λ e f. (e, f.0, f.1)) (λ e. e.0) (λ e. (e.1, e.2)))
    (λ e f i. record { name = e i; parent = f.0 i; many = f.1 i; kind = f.2 i }) (ap (λ (x : CellShape). x.name))
    (λ e. (ap (λ (x : CellShape). x.parent) e, ap (λ (x : CellShape). x.many) e, ap (λ (x : CellShape). x.kind) e))

pub shapes_decide : (xs ys : List CellShape) (r : Bool) → r ≡ pointwise shape.ghosts.eq xs ys → Decides r (xs ≡ ys)
shapes_decide = slice_eq-Decides shape_decides

-- rules that are shared
module _ {A : Type 0} (rule_in : A → Rule) where
  shared_decide : (xs ys : List A) → Decides (pointwise (λ x y. rule.ghosts.eq (rule_in x) (rule_in y)) xs ys) (map rule_in xs ≡ map rule_in ys)
  shared_decide [] [] = (λ t. refl, λ e. refl)
  shared_decide [] (y ∷ ys) = (λ t. cc, λ e. cc)
  shared_decide (x ∷ xs) [] = (λ t. cc, λ e. cc)
  shared_decide (x ∷ xs) (y ∷ ys) =
      both_decide (rule.ghosts.eq (rule_in x) (rule_in y)) (pointwise (λ u v. rule.ghosts.eq (rule_in u) (rule_in v)) xs ys)
      (rule_decides (rule_in x) (rule_in y)) (shared_decide xs ys) (λ e g i. e i ∷ g i)
      (ap (λ (zs : List Rule). elim zs [ [] ↦ rule_in x | z ∷ _ ↦ z ])) (ap (λ (zs : List Rule). elim zs [ [] ↦ [] | _ ∷ more ↦ more ]))

  pub rules_decide : (xs ys : List A) (r : Bool) → r ≡ pointwise (λ x y. rule.ghosts.eq (rule_in x) (rule_in y)) xs ys → Decides r (map rule_in xs ≡ map rule_in ys)
  rules_decide xs ys r same = decides_same r (pointwise (λ x y. rule.ghosts.eq (rule_in x) (rule_in y)) xs ys) same (shared_decide xs ys)

pub labels_decide : (xs ys : List (List ℕ)) (r : Bool) → r ≡ pointwise (pointwise ◌==◌) xs ys → Decides r (xs ≡ ys)
labels_decide = slice_eq-Decides numbers_decide

pub steps_decide : (xs ys : List (ℕ × ℕ)) (r : Bool) → r ≡ pointwise (λ p q. p.0 == q.0 && p.1 == q.1) xs ys → Decides r (xs ≡ ys)
steps_decide = slice_eq-Decides (λ p q. both_decide (p.0 == q.0) (p.1 == q.1) (Decides-eqb p.0 q.0) (Decides-eqb p.1 q.1) (λ e f i. (e i, f i)) (ap (λ r. r.0)) (ap (λ r. r.1)))
