-- The cells that are filled into a new one: declared cells, each with its declared content and a mark of its own.
use Rattle.std.proofs.Common.{◌≡◌, ◌⊎◌, inl, inr, ℕ, zero, suc, ◌+◌, ◌<◌, ◌≤◌, true, false, ◌==◌, ◌&&◌, List, [], ◌∷◌, length, map, Option, Some, None, refl, sym, ap, ◌∙◌, subst, arith}
use Rattle.std.proofs.lemmas.Bool.{ltb-true, eqb-true}
use Rattle.std.proofs.lemmas.Option.{slice_get_within}
use Rattle.std.specs.Prelude.{IsTrue, nat_lt, slice_get}
use Rattle.std.specs.Option.{option_map_or, option_eq}
use Rattle.std.specs.List.{flat_map, range_with_len}
use Rattle.k_terms.specs.declared.value.Content.{Content}
use Rattle.k_terms.specs.declared.value.Content.TheVariants as content
use Rattle.rule_terms.specs.declared.defs.CellShape.{CellShape}
use Rattle.rule_terms.specs.declared.pattern.CellPat.{CellPat}
use Rattle.rule_terms.specs.Sound.{has_cells, cell_limit}
use Rattle.rule_terms.specs.Spots.{Spot, spots_in}
use Rattle.rule_terms.proofs.Defined.{both}
use Rattle.rule_terms.proofs.SpotCounts.{spots_in-Cells}
use Rattle.live_config.proofs.Members.{Has, Apart, Rises, rises-apart, rises-filter, kept, map_has}
use Rattle.cell_completion.specs.Completion.{IsDeclaredIn}
use Rattle.cell_completion.proofs.Cutting.{flat_has}
use Rattle.cell_trees.specs.declared.declared.Declared.{Declared}
use Rattle.cell_trees.specs.declared.declared.Declared.TheVariants.{Program, Input, Fixed}
use Rattle.cell_trees.specs.Trees.{Tree as Declaration, IsTree}
use Rattle.cell_trees.specs.Initials.{held_at}
use Rattle.cell_trees.specs.Defaults.{body_of_content, body_of, is_in, children_of, default_down}
use Rattle.rule_completion.specs.Writing.{spots_at}
use Rattle.live_config.proofs.SpotTree.{marks}
use Rattle.completed_rules.proofs.Listing.{Parted, flat_apart, flat_mapped, marks_flat, marks_has}

-- ---- declared cells in others

module _ (d : Declaration) (tree : IsTree d) where
  parent_first : (n m : ℕ) (parent : Option ℕ) → parent ≡ Some m
      → IsTrue (elim parent [ None ↦ n == 0 | Some k ↦ nat_lt k n && option_map_or (λ (s : CellShape). has_cells s.kind) (slice_get d.shapes k) false ])
      → (m < n) × (option_map_or (λ (s : CellShape). has_cells s.kind) (slice_get d.shapes m) false ≡ true)
  parent_first n m None is t = absurd (let f : None ≡ Some m = is in cc)
  parent_first n m (Some k) is t =
      let same : k ≡ m = cc in
      let parts = both (nat_lt k n) (option_map_or (λ (s : CellShape). has_cells s.kind) (slice_get d.shapes k) false) t in
      subst (λ j. (j < n) × (option_map_or (λ (s : CellShape). has_cells s.kind) (slice_get d.shapes j) false ≡ true)) same (ltb-true k n parts.0, parts.1)

  pub parent_before : (m n : ℕ) → IsDeclaredIn d.shapes (Some m) n → m < n
  parent_before m n in_it = (parent_first n m in_it.shape.parent in_it.parent_is (tree.placed n in_it.shape in_it.declared)).0

  pub parent_has_cells : (m n : ℕ) → IsDeclaredIn d.shapes (Some m) n → option_map_or (λ (s : CellShape). has_cells s.kind) (slice_get d.shapes m) false ≡ true
  parent_has_cells m n in_it = (parent_first n m in_it.shape.parent in_it.parent_is (tree.placed n in_it.shape in_it.declared)).1

  pub one_parent : (a b : Option ℕ) (n : ℕ) → IsDeclaredIn d.shapes a n → IsDeclaredIn d.shapes b n → a ≡ b
  one_parent a b n p q =
      let same : Some p.shape ≡ Some q.shape = sym p.declared ∙ q.declared in
      let shapes : p.shape ≡ q.shape = cc in
      sym p.parent_is ∙ ap (λ (s : CellShape). s.parent) shapes ∙ q.parent_is

  is_parent : (o : Option ℕ) (m : ℕ) → option_eq (λ i j. i == j) o (Some m) ≡ true → o ≡ Some m
  is_parent None m e = absurd (let f : false ≡ true = e in cc)
  is_parent (Some k) m e = ap (λ i. Some i) (eqb-true k m e)

  child_shape : (m n : ℕ) (o : Option CellShape) → slice_get d.shapes n ≡ o
      → option_map_or (λ (shape : CellShape). option_eq (λ i j. i == j) shape.parent (Some m)) o false ≡ true → IsDeclaredIn d.shapes (Some m) n
  child_shape m n None at e = absurd (let f : false ≡ true = e in cc)
  child_shape m n (Some shape) at e = record { shape = shape; declared = at; parent_is = is_parent shape.parent m e }

  pub child_declared : (m n : ℕ) → Has (children_of d m) n → IsDeclaredIn d.shapes (Some m) n
  child_declared m n h = child_shape m n (slice_get d.shapes n) refl (kept (is_in d m) (range_with_len 0 (length d.shapes)) n h).1

  pub declared_within : (o : Option ℕ) (n : ℕ) → IsDeclaredIn d.shapes o n → n < length d.shapes
  declared_within o n in_it = slice_get_within d.shapes n in_it.shape in_it.declared

  range_from : (a n m : ℕ) → Has (range_with_len a n) m → a ≤ m
  range_from a zero m h = absurd h
  range_from a (suc n) m (inl e) = omega (arith, e)
  range_from a (suc n) m (inr h) = let l = range_from (a + 1) n m h in omega (arith, l)

  range_rises : (a n : ℕ) → Rises (range_with_len a n)
  range_rises a zero = tt
  range_rises a (suc n) = ((λ m h. let l = range_from (a + 1) n m h in omega (arith, l)), range_rises (a + 1) n)

  pub children_apart : (m : ℕ) → Apart (children_of d m)
  children_apart m = rises-apart (children_of d m) (rises-filter (is_in d m) (range_with_len 0 (length d.shapes)) (range_rises 0 (length d.shapes)))

  -- ---- a cell, and those in it

  pub data IsUnder : ℕ → ℕ → Type 0 where
    same_cell : {n : ℕ} → IsUnder n n
    under : {n k j : ℕ} → IsUnder n k → IsDeclaredIn d.shapes (Some k) j → IsUnder n j

  pub under_first : (n c j : ℕ) → IsDeclaredIn d.shapes (Some n) c → IsUnder c j → IsUnder n j
  under_first n c _ first same_cell = under same_cell first
  under_first n c j first (under {k = k} u last) = under (under_first n c k first u) last

  pub under_from : (n j : ℕ) → IsUnder n j → n ≤ j
  under_from n _ same_cell = omega arith
  under_from n j (under {k = k} u last) = let a = under_from n k u in let b = parent_before k j last in omega (arith, a, b)

  above_or_same : (n j : ℕ) → IsUnder n j → (n ≡ j) ⊎ ((k : ℕ) × IsUnder n k × IsDeclaredIn d.shapes (Some k) j)
  above_or_same n _ same_cell = inl refl
  above_or_same n j (under {k = k} u last) = inr (k, u, last)

  -- what is under two cells that stand in one
  not_both : (m c e j : ℕ) → IsDeclaredIn d.shapes (Some m) c → IsDeclaredIn d.shapes (Some m) e → c ≡ j → (k : ℕ) → IsUnder e k → IsDeclaredIn d.shapes (Some k) j → ⊥
  not_both m c e j in_c in_e same k under_e last =
      let parents : Some m ≡ Some k = one_parent (Some m) (Some k) j (subst (IsDeclaredIn d.shapes (Some m)) same in_c) last in
      let is : m ≡ k = cc in
      let low = under_from e k under_e in
      let less = parent_before m e in_e in
      omega (arith, is, low, less)

  apart_by : (fuel m c e j : ℕ) → j < fuel → IsDeclaredIn d.shapes (Some m) c → IsDeclaredIn d.shapes (Some m) e → (c ≡ e → ⊥) → IsUnder c j → IsUnder e j → ⊥
  apart_by zero m c e j less in_c in_e differ p q = absurd (omega (arith, less))
  apart_by (suc fuel) m c e j less in_c in_e differ p q =
      elim (above_or_same c j p) [
        | inl a ↦ elim (above_or_same e j q) [
          | inl b ↦ differ (a ∙ sym b)
          | inr b ↦ not_both m c e j in_c in_e a b.0 b.1 b.2
        ]
        | inr a ↦ elim (above_or_same e j q) [
          | inl b ↦ not_both m e c j in_e in_c b a.0 a.1 a.2
          | inr b ↦
              let parents : Some b.0 ≡ Some a.0 = one_parent (Some b.0) (Some a.0) j b.2 a.2 in
              let is : b.0 ≡ a.0 = cc in
              let l = parent_before a.0 j a.2 in
              apart_by fuel m c e a.0 (omega (arith, less, l)) in_c in_e differ a.1 (subst (IsUnder e) is b.1)
        ]
      ]

  pub under_apart : (m c e j : ℕ) → IsDeclaredIn d.shapes (Some m) c → IsDeclaredIn d.shapes (Some m) e → (c ≡ e → ⊥) → IsUnder c j → IsUnder e j → ⊥
  under_apart m c e j = apart_by (suc j) m c e j (omega arith)

  -- ---- the cells of a declared one

  content_spots : (above : ℕ) (c : Content) → spots_in above (body_of_content c) ≡ []
  unfolding spots_in
  content_spots above content.Cells = spots_in-Cells above [] None
  content_spots above (content.Seq values) = refl
  content_spots above (content.Map entries) = refl
  content_spots above (content.List values) = refl
  content_spots above (content.One v) = refl

  body_spots : (above : ℕ) (o : Option Declared) (cells : List CellPat) (p : Spot) → Has (spots_in above (body_of o cells)) p → Has (flat_map (spots_at (Some above)) cells) p
  unfolding spots_in
  body_spots above None cells p h = subst (λ ps. Has ps p) (spots_in-Cells above cells None) h
  body_spots above (Some (Program sort)) cells p h = absurd h
  body_spots above (Some Input) cells p h = absurd h
  body_spots above (Some (Fixed c)) cells p h = absurd (subst (λ ps. Has ps p) (content_spots above c) h)

  -- a cell that is filled in, as one of a declared cell
  pub record IsDefault (more : ℕ) (above : Option ℕ) (number : ℕ) (p : Spot) : Type 0 where
    pub cells : List CellPat
    pub body_is : p.body ≡ body_of (held_at d p.cell) cells
    pub mark_is : p.mark ≡ more + p.cell
    pub is_under : IsUnder number p.cell
    pub within : p.cell < length d.shapes
    pub above_is : ((p.cell ≡ number) × (p.above ≡ above)) ⊎ ((k : ℕ) × (p.above ≡ Some (more + k)) × IsDeclaredIn d.shapes (Some k) p.cell)

  lower_default : (more number child : ℕ) (above : Option ℕ) (p : Spot) → IsDeclaredIn d.shapes (Some number) child
      → IsDefault more (Some (more + number)) child p → IsDefault more above number p
  lower_default more number child above p in_it i = record {
    cells = i.cells;
    body_is = i.body_is;
    mark_is = i.mark_is;
    is_under = under_first number child p.cell in_it i.is_under;
    within = i.within;
    above_is = inr (elim i.above_is [
      | inl e ↦ (number, e.1, subst (IsDeclaredIn d.shapes (Some number)) (sym e.0) in_it)
      | inr e ↦ e
    ]);
  }

  pub default_spots : (levels more number : ℕ) (above : Option ℕ) (p : Spot) → cell_limit ≤ levels + number → number < length d.shapes
      → Has (spots_at above (default_down levels d more number)) p → IsDefault more above number p
  unfolding default_down
  default_spots zero more number above p enough within h = let few = tree.few_cells in absurd (omega (arith, enough, within, few))
  default_spots (suc levels) more number above p enough within (inl e) = record {
    cells = map (default_down levels d more) (children_of d number);
    body_is = ap (λ (q : Spot). q.body) (sym e) ∙ ap (λ n. body_of (held_at d n) (map (default_down levels d more) (children_of d number))) (ap (λ (q : Spot). q.cell) e);
    mark_is = ap (λ (q : Spot). q.mark) (sym e) ∙ ap (λ n. more + n) (ap (λ (q : Spot). q.cell) e);
    is_under = subst (IsUnder number) (ap (λ (q : Spot). q.cell) e) same_cell;
    within = subst (λ n. n < length d.shapes) (ap (λ (q : Spot). q.cell) e) within;
    above_is = inl (ap (λ (q : Spot). q.cell) (sym e), ap (λ (q : Spot). q.above) (sym e));
  }
  default_spots (suc levels) more number above p enough within (inr h) =
      let kids = map (default_down levels d more) (children_of d number) in
      let found = flat_has (spots_at (Some (more + number))) kids p (body_spots (more + number) (held_at d number) kids p h) in
      let child = map_has (default_down levels d more) (children_of d number) found.0 found.1 in
      let in_it = child_declared number child.0 child.1 in
      let later = parent_before number child.0 in_it in
      lower_default more number child.0 above p in_it
      (default_spots levels more child.0 (Some (more + number)) p (omega (arith, enough, later)) (declared_within (Some number) child.0 in_it)
      (subst (λ c. Has (spots_at (Some (more + number)) c) p) (sym child.2) found.2))

  -- their marks differ
  body_apart : (above : ℕ) (o : Option Declared) (cells : List CellPat) → Apart (flat_map (λ c. marks (spots_at (Some above) c)) cells) → Apart (marks (spots_in above (body_of o cells)))
  unfolding spots_in
  body_apart above None cells a = subst (λ ps. Apart (marks ps)) (sym (spots_in-Cells above cells None)) (subst Apart (sym (marks_flat (spots_at (Some above)) cells)) a)
  body_apart above (Some (Program sort)) cells a = tt
  body_apart above (Some Input) cells a = tt
  body_apart above (Some (Fixed c)) cells a = subst (λ ps. Apart (marks ps)) (sym (content_spots above c)) tt

  pub default_mark : (levels more number : ℕ) (above : Option ℕ) (k : ℕ) → cell_limit ≤ levels + number → number < length d.shapes
      → Has (marks (spots_at above (default_down levels d more number))) k → (j : ℕ) × (k ≡ more + j) × IsUnder number j × (j < length d.shapes)
  default_mark levels more number above k enough within h =
      let f = marks_has (spots_at above (default_down levels d more number)) k h in
      let i = default_spots levels more number above f.0 enough within f.1 in
      (f.0.cell, sym f.2 ∙ i.mark_is, i.is_under, i.within)

  children_parted : (levels more m : ℕ) (above : Option ℕ) (cs : List ℕ) → Apart cs → ((c : ℕ) → Has cs c → IsDeclaredIn d.shapes (Some m) c × (cell_limit ≤ levels + c))
      → Parted (λ c. marks (spots_at above (default_down levels d more c))) cs
  children_parted levels more m above [] apart each = tt
  children_parted levels more m above (c ∷ cs) apart each = (
    (λ e h k p q.
        let one = each c (inl refl) in
        let other = each e (inr h) in
        let a = default_mark levels more c above k one.1 (declared_within (Some m) c one.0) p in
        let b = default_mark levels more e above k other.1 (declared_within (Some m) e other.0) q in
        let x = a.1 in
        let y = b.1 in
        let same : b.0 ≡ a.0 = omega (arith, x, y) in
        under_apart m c e a.0 one.0 other.0 (λ s. apart.0 (subst (Has cs) (sym s) h)) a.2 (subst (IsUnder e) same b.2)),
    children_parted levels more m above cs apart.1 (λ e h. each e (inr h)),
  )

  pub default_apart : (levels more number : ℕ) (above : Option ℕ) → cell_limit ≤ levels + number → number < length d.shapes
      → Apart (marks (spots_at above (default_down levels d more number)))
  unfolding default_down
  default_apart zero more number above enough within = let few = tree.few_cells in absurd (omega (arith, enough, within, few))
  default_apart (suc levels) more number above enough within =
      let each : (c : ℕ) → Has (children_of d number) c → IsDeclaredIn d.shapes (Some number) c × (cell_limit ≤ levels + c) =
      λ c h. let in_it = child_declared number c h in let l = parent_before number c in_it in (in_it, omega (arith, enough, l)) in
      let kids = map (default_down levels d more) (children_of d number) in (
        (λ h.
            let p = marks_has (spots_in (more + number) (body_of (held_at d number) kids)) (more + number) h in
            let found = flat_has (spots_at (Some (more + number))) kids p.0 (body_spots (more + number) (held_at d number) kids p.0 p.1) in
            let child = map_has (default_down levels d more) (children_of d number) found.0 found.1 in
            let e = each child.0 child.1 in
            let i = default_spots levels more child.0 (Some (more + number)) p.0 e.1 (declared_within (Some number) child.0 e.0)
            (subst (λ c. Has (spots_at (Some (more + number)) c) p.0) (sym child.2) found.2) in
            let a = under_from child.0 p.0.cell i.is_under in
            let b = parent_before number child.0 e.0 in
            let m = i.mark_is in
            let s = p.2 in
            omega (arith, a, b, m, s)),
        body_apart (more + number) (held_at d number) kids
            (subst Apart (sym (flat_mapped (default_down levels d more) (λ c. marks (spots_at (Some (more + number)) c)) (children_of d number)))
            (flat_apart (λ c. marks (spots_at (Some (more + number)) (default_down levels d more c))) (children_of d number)
            (λ c h. let e = each c h in default_apart levels more c (Some (more + number)) e.1 (declared_within (Some number) c e.0))
            (children_parted levels more number (Some (more + number)) (children_of d number) (children_apart number) each))),
      )
