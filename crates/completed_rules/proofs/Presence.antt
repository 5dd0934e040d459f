-- The cells of a completion that are on a side of its rule: those that the draft has there, and the added ones.
use Rattle.std.proofs.Common.{◌≡◌, ◌⊎◌, inl, inr, ℕ, zero, suc, ◌+◌, ◌<◌, ◌≤◌, Bool, true, false, cond, ◌==◌, List, [], ◌∷◌, ◌++◌, length, filter, Option, Some, None, refl, sym, ap, ◌∙◌, subst, arith}
use Rattle.std.proofs.lemmas.Bool.{eq-eqb, cases_lt}
use Rattle.std.specs.Prelude.{Contains, slice_get}
use Rattle.std.specs.Option.{option_map_or, option_eq}
use Rattle.std.specs.List.{flat_map, range_with_len}
use Rattle.k_terms.specs.Sorts.{SortOrder}
use Rattle.rule_terms.specs.declared.defs.CellShape.{CellShape}
use Rattle.rule_terms.specs.declared.defs.Kind.{Kind}
use Rattle.rule_terms.specs.declared.defs.Kind.TheVariants.{Cells as CellsKind, Seq as SeqKind, Map as MapKind, List as ListKind, One as OneKind}
use Rattle.rule_terms.specs.declared.pattern.Body.{Body, Cells, Cells', Seq, Map, List as Listed, One, Made}
use Rattle.rule_terms.specs.declared.pattern.CellPat.{CellPat}
use Rattle.rule_terms.specs.declared.rule.Draft.{Draft}
use Rattle.rule_terms.specs.Sound.{has_cells, is_body_of}
use Rattle.rule_terms.specs.Spots.{Spot, spots_in, has_mark}
use Rattle.rule_terms.proofs.SpotCounts.{spots_in-Cells}
use Rattle.live_config.specs.Footprint.{body_of_mark}
use Rattle.live_config.proofs.Members.{Has, has_left, has_right, has_any, keeps, contains-has, has-contains}
use Rattle.strictness.specs.SoundDrafts.{spots_of, IsSoundDraft}
use Rattle.cell_completion.specs.declared.tree.Written.{Written}
use Rattle.cell_completion.specs.declared.tree.Tree.{Tree}
use Rattle.cell_completion.specs.Trees.{around_inside}
use Rattle.cell_completion.specs.Completion.{is_both, IsDeclaredIn, IsAsWritten as IsWrittenCell}
use Rattle.cell_completion.proofs.Unfolded.{cell_of, mark_of, inside, placed_cell}
use Rattle.cell_completion.proofs.Cutting.{has_flat, flat_has}
use Rattle.cell_trees.specs.Trees.{Tree as Declaration, IsTree}
use Rattle.cell_trees.specs.Defaults.{is_in, children_of, default_of}
use Rattle.rule_completion.specs.Writing.{spots_at, written}
use Rattle.rule_completion.specs.Numbering.{count, count_all, added_mark, default_marks}
use Rattle.rule_completion.specs.Completed.{is_of, has_cell, child_or_default, with_defaults, with_inside, forest, is_new_mark, cell_with, inside_of, on_side, all_on_side}
use Rattle.rule_completion.proofs.Layers.{added_is, written_is}
use Rattle.rule_completion.proofs.Roots.{in_forests}
use Rattle.completed_rules.specs.Fits.{IsOfItsKind, FitsCells}
use Rattle.completed_rules.proofs.Places.{Place, mark_at, own_mark_of, number_inside, child_at, IsIn, itself, within, IsPlacedAt, child_placed}
use Rattle.completed_rules.proofs.Defaults.{parent_has_cells, declared_within}
use Rattle.completed_rules.proofs.Drafted.{with_mark, with_body, some_body, stands_above, is_as_written}
use Rattle.completed_rules.proofs.Sides.{cells_in, IsWrittenAt, IsAddedAt}

module _ (d : Declaration) (tree : IsTree d) (draft : Draft) (order : SortOrder) (sound : IsSoundDraft order draft) (fits : FitsCells d order draft) (left : Bool) where
  -- a cell is on the side
  abbrev pub IsOn : Option ℕ → Type 0
  IsOn None = Unit {0}
  IsOn (Some m) = has_mark (spots_of (forest draft left)) m ≡ true

  both_on : (l : Bool) (m : ℕ) → is_both (written draft) (Some m) ≡ true → has_mark (spots_of (forest draft l)) m ≡ true
  both_on true m e = (in_forests draft m e).0
  both_on false m e = (in_forests draft m e).1

  pub on_as_written : (z : Place) (m : ℕ) (s : Spot) → IsPlacedAt d.shapes (written draft) z → mark_of z.tree ≡ Some m → Has (spots_of (forest draft left)) s → s.mark ≡ m
      → (s.cell ≡ cell_of z.tree) × (s.above ≡ z.around)
  on_as_written z m s placed some h e =
      let w : Written = record { mark = m; cell = cell_of z.tree; above = z.around; both = is_both (written draft) (Some m) } in
      let there : Contains (written draft) w = subst (λ o. IsWrittenCell d.shapes (written draft) z.around (cell_of z.tree) o (inside z.tree)) some
      (placed_cell d.shapes (written draft) z.parent z.around z.outer z.tree placed).written in
      let r = is_as_written draft order sound fits.above left s w h (contains-has (written draft) w there) e in
      (r.cell, r.above)

  -- so is the one that it stands in
  outer_on : (o u : Place) (m k : Option ℕ) → mark_of o.tree ≡ m → mark_of u.tree ≡ k → IsPlacedAt d.shapes (written draft) u
      → u.around ≡ around_inside o.around m → u.outer ≡ is_both (written draft) m → IsOn k → IsOn m
  outer_on o u None k o_is u_is placed around outer on = tt
  outer_on o u (Some m) None o_is u_is placed around outer on =
      let cell = placed_cell d.shapes (written draft) u.parent u.around u.outer u.tree placed in
      both_on left m (sym outer ∙ cell.sides (ap (is_both (written draft)) u_is))
  outer_on o u (Some m) (Some k) o_is u_is placed around outer on =
      let s = with_mark (spots_of (forest draft left)) k on in
      let r = on_as_written u k s.0 placed u_is s.1 s.2 in
      stands_above (forest draft left) s.0 m s.1 (r.1 ∙ around)

  pub child_on : (o : Place) (before after : List Tree) (u : Tree) → inside o.tree ≡ before ++ u ∷ after → IsPlacedAt d.shapes (written draft) o
      → IsOn (mark_of u) → IsOn (mark_of o.tree)
  child_on o before after u e placed on =
      outer_on o (child_at (written draft) o before u) (mark_of o.tree) (mark_of u) refl refl (child_placed d.shapes (written draft) o before after u e placed) refl refl on

  pub all_on : (o z : Place) → IsIn (written draft) o z → IsPlacedAt d.shapes (written draft) o → IsOn (mark_of z.tree) → IsOn (mark_of o.tree)
  all_on o _ itself placed on = on
  all_on o z (within before after u e deep) placed on =
      child_on o before after u e placed
      (all_on (child_at (written draft) o before u) z deep (child_placed d.shapes (written draft) o before after u e placed) on)

  -- ---- a cell that has cells in it is a body of them

  cells_kind : (kind : Kind) → has_cells kind ≡ true → kind ≡ CellsKind
  cells_kind CellsKind e = refl
  cells_kind SeqKind e = cc
  cells_kind MapKind e = cc
  cells_kind ListKind e = cc
  cells_kind (OneKind sort) e = cc

  pub kind_at : (cell : ℕ) (shape : CellShape) → slice_get d.shapes cell ≡ Some shape → option_map_or (λ (s : CellShape). has_cells s.kind) (slice_get d.shapes cell) false ≡ true
      → shape.kind ≡ CellsKind
  kind_at cell shape at e = cells_kind shape.kind (ap (λ o. option_map_or (λ (s : CellShape). has_cells s.kind) o false) (sym at) ∙ e)

  in_forest : (s : Spot) (l : Bool) → Has (spots_of (forest draft l)) s → Contains (spots_of draft.left ++ spots_of draft.right) s
  in_forest s true h = has-contains (spots_of draft.left ++ spots_of draft.right) s (has_left (spots_of draft.left) (spots_of draft.right) s h)
  in_forest s false h = has-contains (spots_of draft.left ++ spots_of draft.right) s (has_right (spots_of draft.left) (spots_of draft.right) s h)

  pub forest_kinds : (s : Spot) → Has (spots_of (forest draft left)) s → IsOfItsKind d order draft.vars s
  forest_kinds s h = fits.kinds s (in_forest s left h)

  pub parent_kind : (o : Place) (before after : List Tree) (u : Tree) (body : Body) (m : ℕ) → inside o.tree ≡ before ++ u ∷ after → IsPlacedAt d.shapes (written draft) o
      → mark_of o.tree ≡ Some m → body_of_mark (spots_of (forest draft left)) m ≡ Some body → is_body_of CellsKind body ≡ true
  parent_kind o before after u body m e placed some stands =
      let s = with_body (spots_of (forest draft left)) m body stands in
      let child = placed_cell d.shapes (written draft) (Some (cell_of o.tree)) (around_inside o.around (mark_of o.tree)) (is_both (written draft) (mark_of o.tree)) u
      (child_placed d.shapes (written draft) o before after u e placed) in
      let has = parent_has_cells d tree (cell_of o.tree) (cell_of u) child.declared in
      let cell_is = (on_as_written o m s.0 placed some s.1 s.2).0 in
      let kinds = forest_kinds s.0 s.1 in
      let kind_is = kind_at s.0.cell kinds.shape kinds.declared (ap (λ n. option_map_or (λ (x : CellShape). has_cells x.kind) (slice_get d.shapes n) false) cell_is ∙ has) in
      ap (λ b. is_body_of CellsKind b) (sym s.3) ∙ ap (λ k. is_body_of k s.0.body) (sym kind_is) ∙ kinds.kind

  spots_put : (mark : ℕ) (body : Body) (cells : List CellPat) (p : Spot) → is_body_of CellsKind body ≡ true → Has (flat_map (spots_at (Some mark)) cells) p
      → Has (spots_in mark (with_inside body cells)) p
  spots_put mark (Cells' shape row rest) cells p e h = subst (λ ps. Has ps p) (sym (spots_in-Cells mark cells rest)) h
  spots_put mark (Seq parts rest) cells p e h = cc
  spots_put mark (Map entries rest) cells p e h = cc
  spots_put mark (Listed before rest after) cells p e h = cc
  spots_put mark (One q) cells p e h = cc
  spots_put mark (Made q) cells p e h = cc

  -- ---- members of lists that are put together

  module _ (total : ℕ) where
    pub put_among : (n : ℕ) (before after : List Tree) (u : Tree) (c : CellPat) → Has (on_side d draft total left (n + count_all before) u) c
        → Has (all_on_side d draft total left n (before ++ u ∷ after)) c
    put_among n [] after u c h =
        let same : n + 0 ≡ n = omega arith in
        has_left (on_side d draft total left n u) (all_on_side d draft total left (n + count u) after) c (subst (λ k. Has (on_side d draft total left k u) c) same h)
    put_among n (t ∷ before) after u c h =
        let same : n + (count t + count_all before) ≡ n + count t + count_all before = omega arith in
        has_right (on_side d draft total left n t) (all_on_side d draft total left (n + count t) (before ++ u ∷ after)) c
        (put_among (n + count t) before after u c (subst (λ k. Has (on_side d draft total left k u) c) same h))

    -- a cell of a side is of the declared cell of its tree
    only_cell : (cell mark : ℕ) (body : Body) (c : CellPat) → Has (cell_with cell mark body ∷ []) c → c.cell ≡ cell
    only_cell cell mark body c (inl e) = ap (λ (x : CellPat). x.cell) (sym e)
    only_cell cell mark body c (inr none) = absurd none

    pub cell_on : (n : ℕ) (u : Tree) (c : CellPat) → Has (on_side d draft total left n u) c → c.cell ≡ cell_of u
    cell_on n u c h =
        elim (mark_of u) as (λ m. mark_of u ≡ m → c.cell ≡ cell_of u) [
          | None ↦ λ none. only_cell (cell_of u) (added_mark n) _ c (subst (λ cs. Has cs c) (added_is d draft total left n u none) h)
          | Some m ↦ λ some.
              let inner = inside_of d draft total left m (cell_of u) (all_on_side d draft total left n (inside u)) in
              elim (body_of_mark (spots_of (forest draft left)) m) as (λ b. Has (elim b [ None ↦ [] | Some body ↦ cell_with (cell_of u) m (with_inside body inner) ∷ [] ]) c → c.cell ≡ cell_of u) [
                | None ↦ λ g. absurd g
                | Some body ↦ λ g. only_cell (cell_of u) m (with_inside body inner) c g
              ] (subst (λ cs. Has cs c) (written_is d draft total left n u m some) h)
        ] refl

    -- a declared cell is one of its parent's
    range_has : (a n m : ℕ) → a ≤ m → m < a + n → Has (range_with_len a n) m
    range_has a zero m low high = absurd (omega (arith, low, high))
    range_has a (suc n) m low high =
        elim (cases_lt a m) [
          | inl less ↦ inr (range_has (a + 1) n m (omega (arith, less)) (omega (arith, high)))
          | inr more ↦ inl (omega (arith, low, more))
        ]

    is_child : (parent cell : ℕ) → IsDeclaredIn d.shapes (Some parent) cell → Has (children_of d parent) cell
    is_child parent cell in_it =
        keeps (is_in d parent) (range_with_len 0 (length d.shapes)) cell
        (range_has 0 (length d.shapes) cell (omega arith) (let l = declared_within d tree (Some parent) cell in_it in omega (arith, l)))
        (ap (λ o. option_map_or (λ (shape : CellShape). option_eq (λ m n. m == n) shape.parent (Some parent)) o false) in_it.declared
        ∙ ap (λ o. option_eq (λ m n. m == n) o (Some parent)) in_it.parent_is ∙ eq-eqb parent parent refl)

    -- a cell in a new one is there beside those that are filled in
    pub put_inside : (mark parent : ℕ) (cells : List CellPat) (c : CellPat) → Has cells c → IsDeclaredIn d.shapes (Some parent) c.cell
        → Has (inside_of d draft total left mark parent cells) c
    put_inside mark parent cells c h in_it =
        elim (is_new_mark draft left mark) as (λ b. Has (cond b (with_defaults d (default_marks total mark) parent cells) cells) c) [
          | false ↦ h
          | true ↦
              let has : has_cell c.cell cells ≡ true = has_any (is_of c.cell) cells c h (eq-eqb c.cell c.cell refl) in
              has_flat (child_or_default d (default_marks total mark) cells) (children_of d parent) c.cell c (is_child parent c.cell in_it)
              (subst (λ b. Has (cond b (filter (is_of c.cell) cells) (default_of d (default_marks total mark) c.cell ∷ [])) c) (sym has)
              (keeps (is_of c.cell) cells c h (eq-eqb c.cell c.cell refl)))
        ]

    -- ---- a cell that is on the side has its picture there

    pub record IsThere (o z : Place) : Type 0 where
      pub spot : Spot
      pub has : Has (flat_map (spots_at o.above) (cells_in d tree draft total left o)) spot
      pub is : IsWrittenAt d tree draft total left z spot ⊎ IsAddedAt d tree draft total left z spot

    pub top_of : Place → ℕ → Body → Spot
    top_of o mark body = record { cell = cell_of o.tree; mark = mark; above = o.above; body = body }

    top_added : (o : Place) → mark_of o.tree ≡ None → IsThere o o
    unfolding top_of
    top_added o none =
        let inner = all_on_side d draft total left (suc o.number) (inside o.tree) in
        let body = Cells inner (Some (length draft.vars + o.number)) in record {
          spot = top_of o (added_mark o.number) body;
          has = subst (λ cs. Has (flat_map (spots_at o.above) cs) (top_of o (added_mark o.number) body)) (sym (added_is d draft total left o.number o.tree none)) (inl refl);
          is = inr (record { is_added = none; cells = inner; cell_is = refl; mark_is = refl; above_is = refl; body_is = refl });
        }

    -- a written cell on the side
    stands_as : (o : Place) (m : ℕ) (body : Body) → mark_of o.tree ≡ Some m → body_of_mark (spots_of (forest draft left)) m ≡ Some body
        → cells_in d tree draft total left o
        ≡ cell_with (cell_of o.tree) m (with_inside body (inside_of d draft total left m (cell_of o.tree) (all_on_side d draft total left o.number (inside o.tree)))) ∷ []
    stands_as o m body some stands =
        written_is d draft total left o.number o.tree m some
        ∙ ap (λ b. elim b [ None ↦ [] | Some x ↦ cell_with (cell_of o.tree) m (with_inside x (inside_of d draft total left m (cell_of o.tree) (all_on_side d draft total left o.number (inside o.tree)))) ∷ [] ]) stands

    top_written : (o : Place) (m : ℕ) (body : Body) → mark_of o.tree ≡ Some m → body_of_mark (spots_of (forest draft left)) m ≡ Some body → IsThere o o
    unfolding top_of
    top_written o m body some stands =
        let cells = inside_of d draft total left m (cell_of o.tree) (all_on_side d draft total left o.number (inside o.tree)) in record {
          spot = top_of o m (with_inside body cells);
          has = subst (λ cs. Has (flat_map (spots_at o.above) cs) (top_of o m (with_inside body cells))) (sym (stands_as o m body some stands)) (inl refl);
          is = inl (record { mark = m; is_marked = some; body = body; stands = stands; cells = cells; cell_is = refl; mark_is = refl; above_is = refl; body_is = refl });
        }

    top_there : (o : Place) → IsOn (mark_of o.tree) → IsThere o o
    top_there o on =
        elim (mark_of o.tree) as (λ m. mark_of o.tree ≡ m → IsOn m → IsThere o o) [
          | None ↦ λ none _. top_added o none
          | Some m ↦ λ some stands. let b = some_body (spots_of (forest draft left)) m stands in top_written o m b.0 some b.1
        ] refl on

    -- those in a cell are in its picture
    inner_added : (o : Place) (before after : List Tree) (u : Tree) (p : Spot) → inside o.tree ≡ before ++ u ∷ after → mark_of o.tree ≡ None
        → Has (flat_map (spots_at (Some (mark_at o))) (cells_in d tree draft total left (child_at (written draft) o before u))) p → Has (flat_map (spots_at o.above) (cells_in d tree draft total left o)) p
    inner_added o before after u p e none h =
        let inner = all_on_side d draft total left (suc o.number) (inside o.tree) in
        let rest = Some (length draft.vars + o.number) in
        let f = flat_has (spots_at (Some (mark_at o))) (cells_in d tree draft total left (child_at (written draft) o before u)) p h in
        let start : number_inside (mark_of o.tree) o.number ≡ suc o.number = ap (λ m. number_inside m o.number) none in
        let has : Has inner f.0 = subst (λ ts. Has (all_on_side d draft total left (suc o.number) ts) f.0) (sym e)
        (put_among (suc o.number) before after u f.0 (subst (λ n. Has (on_side d draft total left (n + count_all before) u) f.0) start f.1)) in
        let all : Has (flat_map (spots_at (Some (added_mark o.number))) inner) p =
        has_flat (spots_at (Some (added_mark o.number))) inner f.0 p has (subst (λ n. Has (spots_at (Some n) f.0) p) (ap (λ m. own_mark_of m o.number) none) f.2) in
        subst (λ cs. Has (flat_map (spots_at o.above) cs) p) (sym (added_is d draft total left o.number o.tree none))
        (has_left (spots_at o.above (cell_with (cell_of o.tree) (added_mark o.number) (Cells inner rest))) [] p
        (inr (subst (λ ps. Has ps p) (sym (spots_in-Cells (added_mark o.number) inner rest)) all)))

    inner_written : (o : Place) (before after : List Tree) (u : Tree) (p : Spot) (m : ℕ) (body : Body) → inside o.tree ≡ before ++ u ∷ after → IsPlacedAt d.shapes (written draft) o
        → mark_of o.tree ≡ Some m → body_of_mark (spots_of (forest draft left)) m ≡ Some body
        → Has (flat_map (spots_at (Some (mark_at o))) (cells_in d tree draft total left (child_at (written draft) o before u))) p → Has (flat_map (spots_at o.above) (cells_in d tree draft total left o)) p
    inner_written o before after u p m body e placed some stands h =
        let inner = all_on_side d draft total left o.number (inside o.tree) in
        let cells = inside_of d draft total left m (cell_of o.tree) inner in
        let f = flat_has (spots_at (Some (mark_at o))) (cells_in d tree draft total left (child_at (written draft) o before u)) p h in
        let start : number_inside (mark_of o.tree) o.number ≡ o.number = ap (λ x. number_inside x o.number) some in
        let has : Has inner f.0 = subst (λ ts. Has (all_on_side d draft total left o.number ts) f.0) (sym e)
        (put_among o.number before after u f.0 (subst (λ n. Has (on_side d draft total left (n + count_all before) u) f.0) start f.1)) in
        let child = placed_cell d.shapes (written draft) (Some (cell_of o.tree)) (around_inside o.around (mark_of o.tree)) (is_both (written draft) (mark_of o.tree)) u
        (child_placed d.shapes (written draft) o before after u e placed) in
        let is_cell = cell_on (number_inside (mark_of o.tree) o.number + count_all before) u f.0 f.1 in
        let put : Has cells f.0 = put_inside m (cell_of o.tree) inner f.0 has (subst (IsDeclaredIn d.shapes (Some (cell_of o.tree))) (sym is_cell) child.declared) in
        let all : Has (flat_map (spots_at (Some m)) cells) p =
        has_flat (spots_at (Some m)) cells f.0 p put (subst (λ n. Has (spots_at (Some n) f.0) p) (ap (λ x. own_mark_of x o.number) some) f.2) in
        subst (λ cs. Has (flat_map (spots_at o.above) cs) p) (sym (stands_as o m body some stands))
        (has_left (spots_at o.above (cell_with (cell_of o.tree) m (with_inside body cells))) [] p
        (inr (spots_put m body cells p (parent_kind o before after u body m e placed some stands) all)))

    inner_there : (o : Place) (before after : List Tree) (u : Tree) (p : Spot) → inside o.tree ≡ before ++ u ∷ after → IsPlacedAt d.shapes (written draft) o → IsOn (mark_of o.tree)
        → Has (flat_map (spots_at (Some (mark_at o))) (cells_in d tree draft total left (child_at (written draft) o before u))) p → Has (flat_map (spots_at o.above) (cells_in d tree draft total left o)) p
    inner_there o before after u p e placed on h =
        elim (mark_of o.tree) as (λ m. mark_of o.tree ≡ m → IsOn m → Has (flat_map (spots_at o.above) (cells_in d tree draft total left o)) p) [
          | None ↦ λ none _. inner_added o before after u p e none h
          | Some m ↦ λ some stands. let b = some_body (spots_of (forest draft left)) m stands in inner_written o before after u p m b.0 e placed some b.1 h
        ] refl on

    pub there : (o z : Place) → IsIn (written draft) o z → IsPlacedAt d.shapes (written draft) o → IsOn (mark_of z.tree) → IsThere o z
    there o _ itself placed on = top_there o on
    there o z (within before after u e deep) placed on =
        let inner = child_placed d.shapes (written draft) o before after u e placed in
        let t = there (child_at (written draft) o before u) z deep inner on in
        let o_on = child_on o before after u e placed (all_on (child_at (written draft) o before u) z deep inner on) in
        record { spot = t.spot; has = inner_there o before after u t.spot e placed o_on t.has; is = t.is }
