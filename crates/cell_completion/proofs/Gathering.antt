-- One declared cell more: where a least completion is cut one level lower, the code has put the cells of that level in.
use Rattle.std.proofs.Common.{◌≡◌, ◌⊎◌, inl, inr, ℕ, zero, suc, ◌+◌, ◌<◌, Bool, true, false, not, cond, ◌==◌, ◌&&◌, ◌||◌, List, [], ◌∷◌, ◌++◌, filter, Option, Some, None, option_map, refl, sym, ap, ◌∙◌, subst, arith}
use Rattle.std.specs.Option.{option_and_then}
use Rattle.std.specs.List.{flat_map}
use Rattle.std.proofs.lemmas.List.{append-nil}
use Rattle.std.specs.Prelude.{unwrap_or}
use Rattle.std.proofs.lemmas.Bool.{eqb-true, eq-eqb, and_from, cond-true, cond-false, false_from_ne_true}
use Rattle.rule_terms.specs.declared.defs.CellShape.{CellShape}
use Rattle.live_config.proofs.Members.{Has, Apart, kept, keeps, has_map, map_has}
use Rattle.cell_completion.specs.declared.tree.Written.{Written}
use Rattle.cell_completion.specs.declared.tree.Tree.{Tree, roll-Tree, roll-out-Tree, out-roll-Tree}
use Rattle.cell_completion.specs.Trees.{as_marks, marks, least, first_mark}
use Rattle.cell_completion.specs.Completion.{is_many, IsPlaced, AreInOrder, IsAsWritten}
use Rattle.cell_completion.specs.Listed.{AreDeclared}
use Rattle.cell_completion.specs.Building.{same_number, parent_of, stands_in, have_room, are_of, are_single, added_cell, each_added, gathered, stage, stages, all_inserted}
use Rattle.cell_completion.proofs.Unfolded.{cell_of, mark_of, inside, marks_are, placed_cell, placed_inside}
use Rattle.cell_completion.proofs.Order.{AreApart, by_first, Sorted, same_sorted, all_inserted_has, has_all_old, has_all_new, AllApart, all_sorted, ordered_sorted, ordered_room}
use Rattle.cell_completion.proofs.Cutting.{has_flat, flat_has, cut, IsAddedOf, is_added_of, FromLevel, higher_is, is_higher, cut_stands, parent_is, IsPlacedBelow, cut_placed}
use Rattle.cell_completion.proofs.Marks.{has_mark_in, first_in, one_of_cuts}

-- ---- tests

pub same_number_true : (a b : Option ℕ) → same_number a b ≡ true → a ≡ b
same_number_true None None e = refl
same_number_true None (Some n) e = cc
same_number_true (Some m) None e = cc
same_number_true (Some m) (Some n) e = ap (λ k. Some k) (eqb-true m n e)

pub same_number_is : (a b : Option ℕ) → a ≡ b → same_number a b ≡ true
same_number_is None b e = subst (λ o. same_number None o ≡ true) e refl
same_number_is (Some m) b e = subst (λ o. same_number (Some m) o ≡ true) e (eq-eqb m m refl)

module _ (p : Tree → Bool) where
  pub filter_sorted : (ts : List Tree) → Sorted ts → Sorted (filter p ts)
  filter_sorted [] s = tt
  filter_sorted (t ∷ ts) s =
      elim (p t) as (λ b. Sorted (cond b (t ∷ filter p ts) (filter p ts))) [
        | true ↦ ((λ u h. s.0 u (kept p ts u h).0), filter_sorted ts s.1)
        | false ↦ filter_sorted ts s.1
      ]

-- ---- added cells

pub added_is : (c : ℕ) (a : Tree) → IsAddedOf c a → added_cell c (inside a) ≡ a
added_is c a is =
    ap (λ n. roll-Tree (record { cell = n; mark = None; inside = inside a })) (sym is.cell_is)
    ∙ ap (λ m. roll-Tree (record { cell = cell_of a; mark = m; inside = inside a })) (sym is.added)
    ∙ roll-out-Tree a

abbrev pub parts_of : ℕ → List Tree → Tree
parts_of c ts = added_cell c ts

pub cell_added : (c : ℕ) (ts : List Tree) → cell_of (added_cell c ts) ≡ c
cell_added c ts = ap (λ r. r.cell) (out-roll-Tree (record { cell = c; mark = None; inside = ts }))

pub mark_added : (c : ℕ) (ts : List Tree) → mark_of (added_cell c ts) ≡ None
mark_added c ts = ap (λ r. r.mark) (out-roll-Tree (record { cell = c; mark = None; inside = ts }))

pub inside_added : (c : ℕ) (ts : List Tree) → inside (added_cell c ts) ≡ ts
inside_added c ts = ap (λ r. r.inside) (out-roll-Tree (record { cell = c; mark = None; inside = ts }))

pub marks_added : (c : ℕ) (ts : List Tree) → marks (added_cell c ts) ≡ flat_map marks ts
marks_added c ts =
    marks_are (added_cell c ts)
    ∙ ap (λ m. as_marks m ++ flat_map marks (inside (added_cell c ts))) (mark_added c ts)
    ∙ ap (flat_map marks) (inside_added c ts)

pub first_added : (c : ℕ) (t : Tree) → first_mark (added_cell c (t ∷ [])) ≡ first_mark t
first_added c t = ap (λ ms. unwrap_or (least ms) 0) (marks_added c (t ∷ []) ∙ append-nil (marks t))

-- cells around each of one declared cell, in order, are apart
pub each_apart : (c child : ℕ) (ts : List Tree) → ((t : Tree) → Has ts t → cell_of t ≡ child) → Sorted ts → AllApart (each_added c ts)
each_apart c child [] each s = tt
each_apart c child (t ∷ ts) each s = (
  (λ u h.
      let r = map_has (λ v. added_cell c (v ∷ [])) ts u h in
      let later : first_mark t < first_mark r.0 = elim (s.0 r.0 r.1) [
        | inl less ↦ absurd (let d = each t (inl refl) in let e = each r.0 (inr r.1) in omega (arith, less, d, e))
        | inr both ↦ both.1
      ] in
      let goes : first_mark (added_cell c (t ∷ [])) < first_mark (added_cell c (r.0 ∷ [])) =
      subst (λ m. m < first_mark (added_cell c (r.0 ∷ []))) (sym (first_added c t)) (subst (λ m. first_mark t < m) (sym (first_added c r.0)) later) in
      inl (inr (cell_added c (t ∷ []) ∙ sym (ap cell_of (sym r.2) ∙ cell_added c (r.0 ∷ [])), subst (λ v. first_mark (added_cell c (t ∷ [])) < first_mark v) r.2 goes))),
  each_apart c child ts (λ u h. each u (inr h)) s.1,
)

-- ---- what the code puts in: the added cells of the level

pub record Gathers (shapes : List CellShape) (c : ℕ) (kids : List Tree) (IsNew : Tree → Type 0) : Type 0 where
  pub new : List Tree
  pub is : gathered shapes c kids ≡ Some new
  pub only : (t : Tree) → Has new t → IsNew t
  pub all : (t : Tree) → IsNew t → Has new t
  pub apart : AllApart new

-- of what is known of these
pub record AreGathered (shapes : List CellShape) (c : ℕ) (kids : List Tree) (IsNew : Tree → Type 0) : Type 0 where
  pub sorted : Sorted kids
  pub added : (a : Tree) → IsNew a → IsAddedOf c a
  pub from : (x : Tree) → Has kids x → (a : Tree) × IsNew a × Has (inside a) x
  pub inner : (a x : Tree) → IsNew a → Has (inside a) x → Has kids x
  pub some : (a : Tree) → IsNew a → (x : Tree) × Has (inside a) x
  pub order : (a : Tree) → IsNew a → AreInOrder shapes (inside a)

-- one, or each with one cell in it
abbrev pub IsOneOrEach : List CellShape → (Tree → Type 0) → Type 0
IsOneOrEach shapes IsNew =
    ((a b : Tree) → IsNew a → IsNew b → a ≡ b)
    ⊎ ((child : ℕ) × (is_many shapes child ≡ false) × ((a : Tree) → IsNew a → (only : Tree) × (inside a ≡ only ∷ []) × (cell_of only ≡ child)))

module _ (shapes : List CellShape) (c : ℕ) (IsNew : Tree → Type 0) where
  none_gathered : AreGathered shapes c [] IsNew → Gathers shapes c [] IsNew
  none_gathered g = record {
    new = [];
    is = refl;
    only = λ t h. absurd h;
    all = λ t n. let x = g.some t n in absurd (g.inner t x.0 n x.1);
    apart = tt;
  }

  -- one is put around all
  gathered_one : (k : Tree) (ks : List Tree) (a : Tree) → AreGathered shapes c (k ∷ ks) IsNew → IsNew a → inside a ≡ k ∷ ks
      → ((b : Tree) → IsNew b → a ≡ b) → Gathers shapes c (k ∷ ks) IsNew
  gathered_one k ks a g new is one =
      let room : have_room shapes (k ∷ ks) ≡ true = subst (λ ts. have_room shapes ts ≡ true) is (ordered_room shapes (inside a) (g.order a new)) in
      let same : added_cell c (k ∷ ks) ≡ a = ap (added_cell c) (sym is) ∙ added_is c a (g.added a new) in
      record {
        new = added_cell c (k ∷ ks) ∷ [];
        is = cond-true (have_room shapes (k ∷ ks)) (Some (added_cell c (k ∷ ks) ∷ []))
            (cond (are_single shapes (k ∷ ks)) (Some (each_added c (k ∷ ks))) None) room;
        only = λ t h. elim h [ inl e ↦ subst IsNew (sym same ∙ e) new | inr none ↦ absurd none ];
        all = λ t n. inl (same ∙ one t n);
        apart = ((λ u h. absurd h), tt);
      }

  -- one around each
  no_room : (child : ℕ) (k l : Tree) (ks : List Tree) → is_many shapes child ≡ false → cell_of k ≡ child → cell_of l ≡ child → have_room shapes (k ∷ l ∷ ks) ≡ false
  no_room child k l ks single one other =
      ap (λ b. b && have_room shapes (l ∷ ks))
      (ap (λ b. not b || is_many shapes (cell_of k)) (eq-eqb (cell_of k) (cell_of l) (one ∙ sym other)) ∙ ap (is_many shapes) one ∙ single)

  are_all_of : (child : ℕ) (ts : List Tree) → ((t : Tree) → Has ts t → cell_of t ≡ child) → are_of child ts ≡ true
  are_all_of child [] each = refl
  are_all_of child (t ∷ ts) each =
      and_from (cell_of t == child) (are_of child ts) (eq-eqb (cell_of t) child (each t (inl refl))) (are_all_of child ts (λ u h. each u (inr h)))

  are_each : (child : ℕ) (k : Tree) (ks : List Tree) → is_many shapes child ≡ false → ((t : Tree) → Has (k ∷ ks) t → cell_of t ≡ child) → are_single shapes (k ∷ ks) ≡ true
  are_each child k ks single each =
      and_from (not (is_many shapes (cell_of k))) (are_of (cell_of k) (k ∷ ks))
      (ap not (ap (is_many shapes) (each k (inl refl)) ∙ single))
      (are_all_of (cell_of k) (k ∷ ks) (λ t h. each t h ∙ sym (each k (inl refl))))

  gathered_each : (child : ℕ) (k l : Tree) (ks : List Tree) → AreGathered shapes c (k ∷ l ∷ ks) IsNew → is_many shapes child ≡ false
      → ((a : Tree) → IsNew a → (only : Tree) × (inside a ≡ only ∷ []) × (cell_of only ≡ child)) → Gathers shapes c (k ∷ l ∷ ks) IsNew
  gathered_each child k l ks g single each =
      let kids : List Tree = k ∷ l ∷ ks in
      let around : (x : Tree) → Has kids x → IsNew (added_cell c (x ∷ [])) × (cell_of x ≡ child) = λ x h.
      let a = g.from x h in
      let o = each a.0 a.1 in
      let same : o.0 ≡ x = elim (subst (λ ts. Has ts x) o.1 a.2) [ inl e ↦ e | inr none ↦ absurd none ] in
      (subst IsNew (sym (ap (λ v. added_cell c (v ∷ [])) (sym same) ∙ ap (added_cell c) (sym o.1) ∙ added_is c a.0 (g.added a.0 a.1))) a.1, ap cell_of (sym same) ∙ o.2) in
      record {
        new = each_added c kids;
        is = cond-false (have_room shapes kids) (Some (added_cell c kids ∷ [])) (cond (are_single shapes kids) (Some (each_added c kids)) None)
            (no_room child k l ks single (around k (inl refl)).1 (around l (inr (inl refl))).1)
            ∙ cond-true (are_single shapes kids) (Some (each_added c kids)) None (are_each child k (l ∷ ks) single (λ t h. (around t h).1));
        only = λ t h. let r = map_has (λ v. added_cell c (v ∷ [])) kids t h in subst IsNew r.2 (around r.0 r.1).0;
        all = λ t n.
            let o = each t n in
            let inner = g.inner t o.0 n (subst (λ ts. Has ts o.0) (sym o.1) (inl refl)) in
            subst (Has (each_added c kids)) (ap (added_cell c) (sym o.1) ∙ added_is c t (g.added t n)) (has_map (λ v. added_cell c (v ∷ [])) kids o.0 inner);
        apart = each_apart c child kids (λ t h. (around t h).1) g.sorted;
      }

  same_inside : (k : Tree) (ks : List Tree) (a : Tree) → AreGathered shapes c (k ∷ ks) IsNew → IsNew a → ((x : Tree) → Has (k ∷ ks) x → Has (inside a) x) → inside a ≡ k ∷ ks
  same_inside k ks a g new each =
      same_sorted (inside a) (k ∷ ks) (ordered_sorted shapes (inside a) (g.order a new)) g.sorted (λ x h. g.inner a x new h) each

  pub gathers : (kids : List Tree) → AreGathered shapes c kids IsNew → IsOneOrEach shapes IsNew → Gathers shapes c kids IsNew
  gathers [] g least = none_gathered g
  gathers (k ∷ ks) g (inl one) =
      let a = g.from k (inl refl) in
      gathered_one k ks a.0 g a.1 (same_inside k ks a.0 g a.1 (λ x h. let b = g.from x h in subst (λ t. Has (inside t) x) (one b.0 a.0 b.1 a.1) b.2)) (λ b n. one a.0 b a.1 n)
  gathers (k ∷ []) g (inr each) =
      let a = g.from k (inl refl) in
      let alone : (b : Tree) → IsNew b → inside b ≡ k ∷ [] = λ b n.
      let o = each.2 b n in
      let same : k ≡ o.0 = elim (g.inner b o.0 n (subst (λ ts. Has ts o.0) (sym o.1) (inl refl))) [ inl e ↦ e | inr none ↦ absurd none ] in
      o.1 ∙ ap (λ v. v ∷ []) (sym same) in
      gathered_one k [] a.0 g a.1 (alone a.0 a.1)
      (λ b n. sym (added_is c a.0 (g.added a.0 a.1)) ∙ ap (added_cell c) (alone a.0 a.1 ∙ sym (alone b n)) ∙ added_is c b (g.added b n))
  gathers (k ∷ l ∷ ks) g (inr each) = gathered_each each.0 k l ks g each.1 each.2

-- ---- a level

module _ (shapes : List CellShape) (ws : List Written) (declared : AreDeclared shapes) where
  -- Trees that stand in one cell, or are the root: each placed there, and no two with a mark in common.
  pub record IsForest (parent around : Option ℕ) (outer : Bool) (forest : List Tree) : Type 0 where
    pub placed : (t : Tree) → Has forest t → IsPlaced shapes ws parent around outer t
    pub apart : Apart (flat_map marks forest)

  -- these are in order what the forest is cut to
  pub record AreCut (c : ℕ) (forest ts : List Tree) : Type 0 where
    pub sorted : Sorted ts
    pub only : (t : Tree) → Has ts t → Has (flat_map (cut c) forest) t
    pub all : (t : Tree) → Has (flat_map (cut c) forest) t → Has ts t

  module _ (parent around : Option ℕ) (outer : Bool) (forest : List Tree) (is : IsForest parent around outer forest) where
    in_forest : (c : ℕ) (u : Tree) → Has (flat_map (cut c) forest) u → (t : Tree) × Has forest t × Has (cut c t) u
    in_forest c u h = flat_has (cut c) forest u h

    abbrev pub IsNew : ℕ → Tree → Type 0
    IsNew c a = Has (flat_map (cut c) forest) a × IsAddedOf c a

    forest_higher : (c : ℕ) (u : Tree) → Has (flat_map (cut (suc c)) forest) u → FromLevel shapes ws declared c (flat_map (cut c) forest) u
    forest_higher c u h =
        let t = in_forest (suc c) u h in
        elim (higher_is shapes ws declared c t.0 parent around outer (is.placed t.0 t.1) u t.2) [
          | inl from ↦ inl (from.0, has_flat (cut c) forest t.0 from.0 t.1 from.1, from.2, from.3)
          | inr here ↦ inr (has_flat (cut c) forest t.0 u t.1 here.0, here.1)
        ]

    level_forest : (c : ℕ) (u : Tree) → FromLevel shapes ws declared c (flat_map (cut c) forest) u → Has (flat_map (cut (suc c)) forest) u
    level_forest c u (inl from) =
        let t = in_forest c from.0 from.1 in
        has_flat (cut (suc c)) forest t.0 u t.1 (is_higher shapes ws declared c t.0 parent around outer (is.placed t.0 t.1) u (inl (from.0, t.2, from.2, from.3)))
    level_forest c u (inr here) =
        let t = in_forest c u here.0 in
        has_flat (cut (suc c)) forest t.0 u t.1 (is_higher shapes ws declared c t.0 parent around outer (is.placed t.0 t.1) u (inr (t.2, here.1)))

    -- where the forest stands is no cell of the level
    not_in_level : (c : ℕ) → ((cell : ℕ) → parent ≡ Some cell → cell < c) → (u : Tree) → Has (flat_map (cut c) forest) u → parent_of shapes (cell_of u) ≡ Some c → ⊥
    not_in_level c low u h e =
        let t = in_forest c u h in
        elim (cut_stands shapes ws declared c t.0 parent around outer (is.placed t.0 t.1) u t.2) [
          | inl stands ↦ let l = low c (sym stands ∙ e) in omega (arith, l)
          | inr deep ↦ let l = deep.1 in let same : Some deep.0 ≡ Some c = sym deep.2 ∙ e in let k : deep.0 ≡ c = cc in omega (arith, l, k)
        ]

    new_placed : (c : ℕ) (a : Tree) → IsNew c a → IsPlacedBelow shapes ws declared around a
    new_placed c a new = let t = in_forest c a new.0 in cut_placed shapes ws declared c t.0 parent around outer (is.placed t.0 t.1) a t.2

    inner_stands : (c : ℕ) (a u : Tree) → IsNew c a → Has (inside a) u → parent_of shapes (cell_of u) ≡ Some c
    inner_stands c a u new h =
        let placed = new_placed c a new in
        let inner = placed_cell shapes ws _ _ _ u (placed_inside shapes ws placed.parent_at around placed.outer_at a placed.placed u h) in
        parent_is shapes ws declared (Some (cell_of a)) (cell_of u) inner.declared ∙ ap (λ n. Some n) new.1.cell_is

    some_of : (ts : List Tree) → (ts ≡ [] → ⊥) → (x : Tree) × Has ts x
    some_of [] some = absurd (some refl)
    some_of (x ∷ xs) some = (x, inl refl)

    -- what stands in cells of the level, in order
    kids_gathered : (c : ℕ) (ts : List Tree) → ((cell : ℕ) → parent ≡ Some cell → cell < c) → AreCut (suc c) forest ts
        → AreGathered shapes c (filter (stands_in shapes (Some c)) ts) (IsNew c)
    kids_gathered c ts low cuts = record {
      sorted = filter_sorted (stands_in shapes (Some c)) ts cuts.sorted;
      added = λ a new. new.1;
      from = λ x h.
          let k = kept (stands_in shapes (Some c)) ts x h in
          elim (forest_higher c x (cuts.only x k.0)) [
            | inl found ↦ (found.0, (found.1, found.2), found.3)
            | inr here ↦ absurd (not_in_level c low x here.0 (same_number_true (parent_of shapes (cell_of x)) (Some c) k.1))
          ];
      inner = λ a x new h.
          keeps (stands_in shapes (Some c)) ts x (cuts.all x (level_forest c x (inl (a, new.0, new.1, h))))
          (same_number_is (parent_of shapes (cell_of x)) (Some c) (inner_stands c a x new h));
      some = λ a new.
          let placed = new_placed c a new in
          some_of (inside a) (subst (λ o. IsAsWritten shapes ws around (cell_of a) o (inside a)) new.1.added
          (placed_cell shapes ws placed.parent_at around placed.outer_at a placed.placed).written);
      order = λ a new.
          let placed = new_placed c a new in
          (placed_cell shapes ws placed.parent_at around placed.outer_at a placed.placed).order;
    }

    -- those beside them
    beside : ℕ → List Tree → List Tree
    beside c ts = filter (λ t. not (stands_in shapes (Some c) t)) ts

    beside_is : (c : ℕ) (ts : List Tree) → AreCut (suc c) forest ts → (x : Tree) → Has (beside c ts) x → Has (flat_map (cut c) forest) x × (IsAddedOf c x → ⊥)
    unfolding beside
    beside_is c ts cuts x h =
        let k = kept (λ t. not (stands_in shapes (Some c) t)) ts x h in
        elim (forest_higher c x (cuts.only x k.0)) [
          | inl found ↦
              let e : stands_in shapes (Some c) x ≡ true = same_number_is (parent_of shapes (cell_of x)) (Some c) (inner_stands c found.0 x (found.1, found.2) found.3) in
              absurd (let f : false ≡ true = sym (ap not e) ∙ k.1 in cc)
          | inr here ↦ here
        ]

    is_beside : (c : ℕ) (ts : List Tree) → ((cell : ℕ) → parent ≡ Some cell → cell < c) → AreCut (suc c) forest ts → (x : Tree)
        → Has (flat_map (cut c) forest) x → (IsAddedOf c x → ⊥) → Has (beside c ts) x
    unfolding beside
    is_beside c ts low cuts x h none =
        keeps (λ t. not (stands_in shapes (Some c) t)) ts x (cuts.all x (level_forest c x (inr (h, none))))
        (ap not (false_from_ne_true (stands_in shapes (Some c) x) (λ e. not_in_level c low x h (same_number_true (parent_of shapes (cell_of x)) (Some c) e))))

    -- two of one cut that differ have different first marks
    pub cut_apart : (c : ℕ) (u v : Tree) → Has (flat_map (cut c) forest) u → Has (flat_map (cut c) forest) v → (u ≡ v → ⊥) → AreApart u v
    cut_apart c u v h g differ =
        by_first u v (λ e.
        let t = in_forest c u h in
        let p = cut_placed shapes ws declared c t.0 parent around outer (is.placed t.0 t.1) u t.2 in
        let m = has_mark_in shapes ws u p.parent_at around p.outer_at p.placed in
        let s = in_forest c v g in
        let q = cut_placed shapes ws declared c s.0 parent around outer (is.placed s.0 s.1) v s.2 in
        let n = has_mark_in shapes ws v q.parent_at around q.outer_at q.placed in
        differ (one_of_cuts shapes ws c forest is.apart u v (first_mark u) h g (first_in u m.0 m.1) (subst (Has (marks v)) (sym e) (first_in v n.0 n.1))))

    pub record IsStage (c : ℕ) (ts : List Tree) : Type 0 where
      pub result : List Tree
      pub stage_is : stage shapes c ts ≡ Some result
      pub cut_is : AreCut c forest result

    pub level : (c : ℕ) (ts : List Tree) → ((cell : ℕ) → parent ≡ Some cell → cell < c) → IsOneOrEach shapes (IsNew c) → AreCut (suc c) forest ts → IsStage c ts
    unfolding beside
    level c ts low least cuts =
        let g = gathers shapes c (IsNew c) (filter (stands_in shapes (Some c)) ts) (kids_gathered c ts low cuts) least in
        let rest = beside c ts in
        let between : (t u : Tree) → Has g.new t → Has rest u → AreApart t u = λ t u h k.
        let n = g.only t h in
        let b = beside_is c ts cuts u k in
        cut_apart c t u n.0 b.0 (λ e. b.1 (subst (IsAddedOf c) e n.1)) in
        record {
          result = all_inserted g.new rest;
          stage_is = ap (option_map (λ new. all_inserted new rest)) g.is;
          cut_is = record {
            sorted = all_sorted g.new rest (filter_sorted (λ t. not (stands_in shapes (Some c) t)) ts cuts.sorted) g.apart between;
            only = λ t h. elim (all_inserted_has g.new rest t h) [ inl n ↦ (g.only t n).0 | inr b ↦ (beside_is c ts cuts t b).0 ];
            all = λ t h. elim (is_added_of c t) [
              | inl added ↦ has_all_new g.new rest t (g.all t (h, added))
              | inr none ↦ has_all_old g.new rest t (is_beside c ts low cuts t h none)
            ];
          };
        }

    -- all levels from one on
    pub record IsCutTo (first : ℕ) (n : ℕ) (ts : List Tree) : Type 0 where
      pub result : List Tree
      pub stages_are : stages shapes first n ts ≡ Some result
      pub cut_is : AreCut first forest result

    pub levels : (first n : ℕ) (ts : List Tree) → ((cell : ℕ) → parent ≡ Some cell → cell < first) → ((c : ℕ) → IsOneOrEach shapes (IsNew c))
        → AreCut (first + n) forest ts → IsCutTo first n ts
    levels first zero ts low least cuts = record { result = ts; stages_are = refl; cut_is = subst (λ k. AreCut k forest ts) (omega (arith)) cuts }
    levels first (suc n) ts low least cuts =
        let one = level (first + n) ts (λ cell e. let l = low cell e in omega (arith, l)) (least (first + n)) (subst (λ k. AreCut k forest ts) (omega (arith)) cuts) in
        let more = levels first n one.result low least one.cut_is in
        record {
          result = more.result;
          stages_are = ap (option_and_then (stages shapes first n)) one.stage_is ∙ more.stages_are;
          cut_is = more.cut_is;
        }
