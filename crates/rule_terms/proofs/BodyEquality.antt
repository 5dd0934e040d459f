-- The derived tests of bodies and cell patterns.
use Rattle.std.proofs.Common.{◌≡◌, Bool, false, ◌&&◌, ◌==◌, List, map, refl, sym, ap, subst, ◌∙◌}
use Rattle.std.specs.Bool.{Decides}
use Rattle.std.specs.Option.{option_eq}
use Rattle.std.specs.Cmp.Lexicographic.{pointwise}
use Rattle.std.proofs.lemmas.Bool.Decides.{Decides-eqb}
use Rattle.std.proofs.lemmas.Slice.Eq.{slice_eq-Decides}
use Rattle.rule_terms.specs.declared.pattern.Pattern.{Pattern}
use Rattle.rule_terms.specs.contracts.pattern.PatternPartialEq.TheImpl as pattern
use Rattle.rule_terms.specs.declared.pattern.CellPat.{CellPat}
use Rattle.rule_terms.specs.declared.pattern.Body.{Body, Body-F, out-Body, roll-Body, out-roll-Body, roll-out-Body, ind-Body, map-Body}
use Rattle.rule_terms.specs.declared.pattern.Body.TheOpen.{Cells, Seq, Map, List as Listed, One, Made}
use Rattle.rule_terms.specs.declared.pattern.Body.TheViews.{roll-CellPat}
use Rattle.rule_terms.specs.contracts.pattern.BodyPartialEq.TheImpl as body
use Rattle.rule_terms.specs.contracts.pattern.CellPatPartialEq.TheImpl as cell
use Rattle.rule_terms.specs.contracts.pattern.BodyPartialEq.TheImpl.Laws as body_laws
use Rattle.rule_terms.specs.contracts.pattern.CellPatPartialEq.TheImpl.Laws as cell_laws
use Rattle.rule_terms.proofs.RuleEquality.{both_decide, decides_by, lists_decide, pointwise-map, rest_decides, pattern_decides}

abbrev Entry : Type 0
Entry = Pattern × Pattern

abbrev entry_eq : Entry → Entry → Bool
entry_eq p q = pattern.ghosts.eq p.0 q.0 && pattern.ghosts.eq p.1 q.1

entry_decides : (p q : Entry) → Decides (entry_eq p q) (p ≡ q)
entry_decides p q = both_decide (pattern.ghosts.eq p.0 q.0) (pattern.ghosts.eq p.1 q.1) (pattern_decides p.0 q.0) (pattern_decides p.1 q.1) (λ e f i. (e i, f i)) (ap (λ r. r.0)) (ap (λ r. r.1))

abbrev patterns_eq : List Pattern → List Pattern → Bool
patterns_eq = pointwise pattern.ghosts.eq

patterns_decide : (xs ys : List Pattern) → Decides (patterns_eq xs ys) (xs ≡ ys)
patterns_decide xs ys = slice_eq-Decides pattern_decides xs ys (patterns_eq xs ys) refl

entries_decide : (xs ys : List Entry) → Decides (pointwise entry_eq xs ys) (xs ≡ ys)
entries_decide xs ys = slice_eq-Decides entry_decides xs ys (pointwise entry_eq xs ys) refl

module _ {A B C D : Type 0} where
  -- two bodies, where S compares their cells
  abbrev level_eq : (B → D → Bool) → Body-F A B → Body-F C D → Bool
  level_eq S (Cells cs r) (Cells ds s) = pointwise S cs ds && option_eq ◌==◌ r s
  level_eq S (Seq xs r) (Seq ys s) = patterns_eq xs ys && option_eq ◌==◌ r s
  level_eq S (Map xs r) (Map ys s) = pointwise entry_eq xs ys && option_eq ◌==◌ r s
  level_eq S (Listed xs r us) (Listed ys s vs) = patterns_eq xs ys && (option_eq ◌==◌ r s && patterns_eq us vs)
  level_eq S (One p) (One q) = pattern.ghosts.eq p q
  level_eq S (Made p) (Made q) = pattern.ghosts.eq p q
  level_eq S x y = false

module _ {A B C D E F : Type 0} (f : A → C) (g : B → D) (S : D → F → Bool) where
  level_eq-map : (x : Body-F A B) (y : Body-F E F) → level_eq S (map-Body A B C D f g x) y ≡ level_eq (λ u v. S (g u) v) x y
  level_eq-map (Cells cs r) (Cells ds s) = ap (λ b. b && option_eq ◌==◌ r s) (pointwise-map g S cs ds)
  level_eq-map x y = refl

body_seen : (a b : Body) (x y : Body-F Body CellPat) → out-Body a ≡ x → out-Body b ≡ y → body_laws.unfolded a b ≡ level_eq cell.ghosts.eq x y
body_seen a b (Cells cs r) (Cells ds s) e f = rw (e, f)
body_seen a b (Seq xs r) (Seq ys s) e f = rw (e, f)
body_seen a b (Map xs r) (Map ys s) e f = rw (e, f)
body_seen a b (Listed xs r us) (Listed ys s vs) e f = rw (e, f)
body_seen a b (One p) (One q) e f = rw (e, f)
body_seen a b (Made p) (Made q) e f = rw (e, f)
body_seen a b x y e f = rw (e, f)

cell_seen : (c d : CellPat) → cell.ghosts.eq c d ≡ (c.cell == d.cell && (c.mark == d.mark && body.ghosts.eq c.body d.body))
cell_seen c d = cell_laws.is c d

module _ {A B C D : Type 0} (f : A → C) (g : B → D) (S : B → D → Bool) (decides : (u : B) (v : D) → Decides (S u v) (g u ≡ v)) where
  level_decides : (x : Body-F A B) (y : Body-F C D) → Decides (level_eq S x y) (map-Body A B C D f g x ≡ y)
  level_decides (Cells cs r) (Cells ds s) =
      both_decide (pointwise S cs ds) (option_eq ◌==◌ r s) (lists_decide g S decides cs ds) (rest_decides r s) (λ e h i. Cells (e i) (h i))
      (ap (λ (z : Body-F C D). elim z [ Cells zs _ ↦ zs | _ ↦ map g cs ])) (ap (λ (z : Body-F C D). elim z [ Cells _ rest ↦ rest | _ ↦ r ]))
  level_decides (Seq xs r) (Seq ys s) =
      both_decide (patterns_eq xs ys) (option_eq ◌==◌ r s) (patterns_decide xs ys) (rest_decides r s) (λ e h i. Seq (e i) (h i))
      (ap (λ (z : Body-F C D). elim z [ Seq zs _ ↦ zs | _ ↦ xs ])) (ap (λ (z : Body-F C D). elim z [ Seq _ rest ↦ rest | _ ↦ r ]))
  level_decides (Map xs r) (Map ys s) =
      both_decide (pointwise entry_eq xs ys) (option_eq ◌==◌ r s) (entries_decide xs ys) (rest_decides r s) (λ e h i. Map (e i) (h i))
      (ap (λ (z : Body-F C D). elim z [ Map zs _ ↦ zs | _ ↦ xs ])) (ap (λ (z : Body-F C D). elim z [ Map _ rest ↦ rest | _ ↦ r ]))
  level_decides (Listed xs r us) (Listed ys s vs) =
      both_decide (patterns_eq xs ys) (option_eq ◌==◌ r s && patterns_eq us vs) (patterns_decide xs ys)
      (both_decide (option_eq ◌==◌ r s) (patterns_eq us vs) {C = (r ≡ s) × (us ≡ vs)} (rest_decides r s) (patterns_decide us vs) (λ e h. (e, h)) (λ e. e.0) (λ e. e.1))
      (λ e h i. Listed (e i) (h.0 i) (h.1 i))
      (ap (λ (z : Body-F C D). elim z [ Listed zs _ _ ↦ zs | _ ↦ xs ]))
      (λ e. (ap (λ (z : Body-F C D). elim z [ Listed _ rest _ ↦ rest | _ ↦ r ]) e, ap (λ (z : Body-F C D). elim z [ Listed _ _ zs ↦ zs | _ ↦ us ]) e))
  level_decides (One p) (One q) = decides_by (pattern.ghosts.eq p q) (pattern_decides p q) (ap One) (ap (λ (z : Body-F C D). elim z [ One o ↦ o | _ ↦ p ]))
  level_decides (Made p) (Made q) = decides_by (pattern.ghosts.eq p q) (pattern_decides p q) (ap Made) (ap (λ (z : Body-F C D). elim z [ Made o ↦ o | _ ↦ p ]))
  level_decides x y = (λ t. cc, λ e. cc)

-- a cell pattern, where its body's test decides
cell_by : (c d : CellPat) → Decides (body.ghosts.eq c.body d.body) (c.body ≡ d.body) → Decides (cell.ghosts.eq c d) (c ≡ d)
cell_by c d inner =
    let rest : Decides (c.mark == d.mark && body.ghosts.eq c.body d.body) ((c.mark ≡ d.mark) × (c.body ≡ d.body)) =
    both_decide (c.mark == d.mark) (body.ghosts.eq c.body d.body) (Decides-eqb c.mark d.mark) inner (λ e f. (e, f)) (λ p. p.0) (λ p. p.1) in
    let second : c ≡ d → (c.mark ≡ d.mark) × (c.body ≡ d.body) = λ e. (ap (λ (p : CellPat). p.mark) e, ap (λ (p : CellPat). p.body) e) in
    let whole : Decides (c.cell == d.cell && (c.mark == d.mark && body.ghosts.eq c.body d.body)) (c ≡ d) =
    both_decide (c.cell == d.cell) (c.mark == d.mark && body.ghosts.eq c.body d.body) (Decides-eqb c.cell d.cell) rest
    (λ e p i. record { cell = e i; mark = p.0 i; body = p.1 i }) (ap (λ (p : CellPat). p.cell)) second in
    (λ t. whole.0 (sym (cell_seen c d) ∙ t), λ e. cell_seen c d ∙ whole.1 e)

abbrev IsDecided : Body → Type 0
IsDecided a = (b : Body) → Decides (body.ghosts.eq a b) (a ≡ b)

abbrev IsCellDecided : CellPat → Type 0
IsCellDecided c = (d : CellPat) → Decides (cell.ghosts.eq c d) (c ≡ d)

pub body_decides : (a b : Body) → Decides (body.ghosts.eq a b) (a ≡ b)
body_decides = ind-Body IsDecided IsCellDecided
    (λ x y e b.
    let bodies = λ (p : (a : Body) × IsDecided a). p.0 in
    let cells = λ (p : (c : CellPat) × IsCellDecided c). p.0 in
    let level = level_decides bodies cells (λ p d. cell.ghosts.eq p.0 d) (λ p d. p.1 d) y (out-Body b) in
    let seen : body.ghosts.eq (roll-Body x) b ≡ level_eq cell.ghosts.eq x (out-Body b) =
    body_laws.is (roll-Body x) b ∙ body_seen (roll-Body x) b x (out-Body b) (out-roll-Body x) refl in
    let same : body.ghosts.eq (roll-Body x) b ≡ level_eq (λ (p : (c : CellPat) × IsCellDecided c) d. cell.ghosts.eq p.0 d) y (out-Body b) =
    seen ∙ ap (λ z. level_eq cell.ghosts.eq z (out-Body b)) (sym e) ∙ level_eq-map bodies cells cell.ghosts.eq y (out-Body b) in (
      λ t. ap roll-Body (sym e ∙ level.0 (sym same ∙ t)) ∙ roll-out-Body b,
      λ f. same ∙ level.1 (e ∙ sym (out-roll-Body x) ∙ ap out-Body f),
    ))
    (λ x y e. subst (λ z. IsCellDecided (roll-CellPat z)) e (λ d. cell_by _ d (y.body.1 d.body)))

pub cell_decides : (c d : CellPat) → Decides (cell.ghosts.eq c d) (c ≡ d)
cell_decides c d = cell_by c d (body_decides c.body d.body)
