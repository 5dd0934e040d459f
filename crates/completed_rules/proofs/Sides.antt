-- The cells of a side of a completed rule: each is a written one, an added one, or filled into a new one.
use Rattle.std.proofs.Common.{◌≡◌, ◌⊎◌, inl, inr, ℕ, suc, ◌+◌, Bool, true, false, cond, List, [], ◌∷◌, ◌++◌, length, filter, Option, Some, None, refl, sym, ap, ◌∙◌, subst, arith}
use Rattle.std.specs.List.{flat_map}
use Rattle.rule_terms.specs.declared.pattern.Body.{Body, Cells, Cells', Seq, Map, List as Listed, One, Made}
use Rattle.rule_terms.specs.declared.pattern.CellPat.{CellPat}
use Rattle.rule_terms.specs.declared.rule.Draft.{Draft}
use Rattle.rule_terms.specs.Sound.{cell_limit}
use Rattle.rule_terms.specs.Spots.{Spot, spots_in}
use Rattle.rule_terms.proofs.SpotCounts.{spots_in-Cells}
use Rattle.live_config.specs.Footprint.{body_of_mark}
use Rattle.live_config.proofs.Members.{Has, has_either, kept}
use Rattle.strictness.specs.SoundDrafts.{spots_of}
use Rattle.cell_completion.specs.declared.tree.Tree.{Tree}
use Rattle.cell_completion.specs.Completion.{IsDeclaredIn}
use Rattle.cell_completion.proofs.Unfolded.{cell_of, mark_of, inside, tree_induction}
use Rattle.cell_completion.proofs.Cutting.{has_flat, flat_has}
use Rattle.cell_trees.specs.Trees.{Tree as Declaration, IsTree}
use Rattle.cell_trees.specs.Defaults.{children_of, default_of}
use Rattle.rule_completion.specs.Writing.{spots_at, written}
use Rattle.rule_completion.specs.Numbering.{count, count_all, added_mark, default_marks}
use Rattle.rule_completion.specs.Completed.{is_of, has_cell, child_or_default, with_defaults, with_inside, forest, is_new_mark, cell_with, inside_of, on_side, all_on_side}
use Rattle.rule_completion.proofs.Layers.{added_is, written_is}
use Rattle.completed_rules.proofs.Places.{Place, mark_at, own_mark_of, has_middle, number_inside, child_at, IsIn, itself, within}
use Rattle.completed_rules.proofs.Defaults.{IsDefault, child_declared, declared_within, default_spots}

pub spots_within : (mark : ℕ) (body : Body) (cells : List CellPat) (p : Spot) → Has (spots_in mark (with_inside body cells)) p → Has (flat_map (spots_at (Some mark)) cells) p
unfolding spots_in
spots_within mark (Cells' shape row rest) cells p h = subst (λ ps. Has ps p) (spots_in-Cells mark cells rest) h
spots_within mark (Seq parts rest) cells p h = absurd h
spots_within mark (Map entries rest) cells p h = absurd h
spots_within mark (Listed before rest after) cells p h = absurd h
spots_within mark (One e) cells p h = absurd h
spots_within mark (Made e) cells p h = absurd h

-- a cell alone
pub alone : {X Y : Type 0} (f : X → List Y) (x : X) (y : Y) → Has (flat_map f (x ∷ [])) y → Has (f x) y
alone f x y h = elim (has_either (f x) [] y h) [ inl g ↦ g | inr none ↦ absurd none ]

module _ (d : Declaration) (tree : IsTree d) (draft : Draft) (total : ℕ) (left : Bool) where
  abbrev pub cells_in : Place → List CellPat
  cells_in z = on_side d draft total left z.number z.tree

  -- a written cell
  pub record IsWrittenAt (z : Place) (p : Spot) : Type 0 where
    pub mark : ℕ
    pub is_marked : mark_of z.tree ≡ Some mark
    pub body : Body
    pub stands : body_of_mark (spots_of (forest draft left)) mark ≡ Some body
    pub cells : List CellPat
    pub cell_is : p.cell ≡ cell_of z.tree
    pub mark_is : p.mark ≡ mark
    pub above_is : p.above ≡ z.above
    pub body_is : p.body ≡ with_inside body cells

  -- an added one
  pub record IsAddedAt (z : Place) (p : Spot) : Type 0 where
    pub is_added : mark_of z.tree ≡ None
    pub cells : List CellPat
    pub cell_is : p.cell ≡ cell_of z.tree
    pub mark_is : p.mark ≡ added_mark z.number
    pub above_is : p.above ≡ z.above
    pub body_is : p.body ≡ Cells cells (Some (length draft.vars + z.number))

  -- one that is filled into a new one
  pub record IsFilledAt (z : Place) (p : Spot) : Type 0 where
    pub mark : ℕ
    pub is_marked : mark_of z.tree ≡ Some mark
    pub is_new : is_new_mark draft left mark ≡ true
    pub child : ℕ
    pub in_it : IsDeclaredIn d.shapes (Some (cell_of z.tree)) child
    pub default : IsDefault d tree (default_marks total mark) (Some mark) child p

  pub data IsOf (o : Place) (p : Spot) : Type 0 where
    of_written : (z : Place) → IsIn (written draft) o z → IsWrittenAt z p → IsOf o p
    of_added : (z : Place) → IsIn (written draft) o z → IsAddedAt z p → IsOf o p
    of_filled : (z : Place) → IsIn (written draft) o z → IsFilledAt z p → IsOf o p

  pub wider : (o : Place) (before after : List Tree) (u : Tree) (p : Spot) → inside o.tree ≡ before ++ u ∷ after → IsOf (child_at (written draft) o before u) p → IsOf o p
  wider o before after u p e (of_written z i w) = of_written z (within before after u e i) w
  wider o before after u p e (of_added z i w) = of_added z (within before after u e i) w
  wider o before after u p e (of_filled z i w) = of_filled z (within before after u e i) w

  -- a cell of trees one after the other
  pub record IsAmong (n : ℕ) (above : Option ℕ) (ts : List Tree) (p : Spot) : Type 0 where
    pub before : List Tree
    pub after : List Tree
    pub tree_at : Tree
    pub is : ts ≡ before ++ tree_at ∷ after
    pub has : Has (flat_map (spots_at above) (on_side d draft total left (n + count_all before) tree_at)) p

  pub among : (n : ℕ) (above : Option ℕ) (ts : List Tree) (p : Spot) → Has (flat_map (spots_at above) (all_on_side d draft total left n ts)) p → IsAmong n above ts p
  among n above [] p h = absurd h
  among n above (t ∷ ts) p h =
      let f = flat_has (spots_at above) (on_side d draft total left n t ++ all_on_side d draft total left (n + count t) ts) p h in
      elim (has_either (on_side d draft total left n t) (all_on_side d draft total left (n + count t) ts) f.0 f.1) [
        | inl g ↦
            let first : n ≡ n + 0 = omega arith in record {
              before = [];
              after = ts;
              tree_at = t;
              is = refl;
              has = subst (λ k. Has (flat_map (spots_at above) (on_side d draft total left k t)) p) first (has_flat (spots_at above) (on_side d draft total left n t) f.0 p g f.2);
            }
        | inr g ↦
            let r = among (n + count t) above ts p (has_flat (spots_at above) (all_on_side d draft total left (n + count t) ts) f.0 p g f.2) in
            let next : n + count t + count_all r.before ≡ n + (count t + count_all r.before) = omega arith in record {
              before = t ∷ r.before;
              after = r.after;
              tree_at = r.tree_at;
              is = ap (λ us. t ∷ us) r.is;
              has = subst (λ k. Has (flat_map (spots_at above) (on_side d draft total left k r.tree_at)) p) next r.has;
            }
      ]

  -- a cell of those in a new one
  filled_or_inner : (more cell child : ℕ) (cells : List CellPat) (c : CellPat) → Has (child_or_default d more cells child) c → Has cells c ⊎ (default_of d more child ≡ c)
  filled_or_inner more cell child cells c h =
      elim (has_cell child cells) as (λ b. Has (cond b (filter (is_of child) cells) (default_of d more child ∷ [])) c → Has cells c ⊎ (default_of d more child ≡ c)) [
        | true ↦ λ g. inl (kept (is_of child) cells c g).0
        | false ↦ λ g. elim g [ inl e ↦ inr e | inr none ↦ absurd none ]
      ] h

  -- ---- each cell of a side is one of these

  abbrev HasFound : Tree → Type 0
  HasFound t = (o : Place) (p : Spot) → o.tree ≡ t → Has (flat_map (spots_at o.above) (cells_in o)) p → IsOf o p

  module _ (t : Tree) (below : (u : Tree) → Has (inside t) u → HasFound u) (o : Place) (p : Spot) (is : o.tree ≡ t) where
    found_inside : (n : ℕ) (mark : ℕ) → number_inside (mark_of o.tree) o.number ≡ n → mark_at o ≡ mark
        → Has (flat_map (spots_at (Some mark)) (all_on_side d draft total left n (inside o.tree))) p → IsOf o p
    found_inside n mark number_is mark_is h =
        let r = among n (Some mark) (inside o.tree) p h in
        let has : Has (inside t) r.tree_at = subst (λ us. Has us r.tree_at) (sym r.is ∙ ap inside is) (has_middle r.before r.after r.tree_at) in
        wider o r.before r.after r.tree_at p r.is
        (below r.tree_at has (child_at (written draft) o r.before r.tree_at) p refl
        (subst (λ k. Has (flat_map (spots_at (Some k)) (on_side d draft total left (number_inside (mark_of o.tree) o.number + count_all r.before) r.tree_at)) p) (sym mark_is)
        (subst (λ k. Has (flat_map (spots_at (Some mark)) (on_side d draft total left (k + count_all r.before) r.tree_at)) p) (sym number_is) r.has)))

    found_added : mark_of o.tree ≡ None → Has (flat_map (spots_at o.above) (cells_in o)) p → IsOf o p
    found_added none h =
        let inner = all_on_side d draft total left (suc o.number) (inside o.tree) in
        let body = Cells inner (Some (length draft.vars + o.number)) in
        let one = cell_with (cell_of o.tree) (added_mark o.number) body in
        elim (alone (spots_at o.above) one p (subst (λ cs. Has (flat_map (spots_at o.above) cs) p) (added_is d draft total left o.number o.tree none) h)) [
          | inl e ↦ of_added o itself (record {
            is_added = none;
            cells = inner;
            cell_is = ap (λ (q : Spot). q.cell) (sym e);
            mark_is = ap (λ (q : Spot). q.mark) (sym e);
            above_is = ap (λ (q : Spot). q.above) (sym e);
            body_is = ap (λ (q : Spot). q.body) (sym e);
          })
          | inr g ↦ found_inside (suc o.number) (added_mark o.number) (ap (λ m. number_inside m o.number) none) (ap (λ m. own_mark_of m o.number) none)
              (subst (λ ps. Has ps p) (spots_in-Cells (added_mark o.number) inner (Some (length draft.vars + o.number))) g)
        ]

    found_within : (mark : ℕ) → mark_of o.tree ≡ Some mark
        → Has (flat_map (spots_at (Some mark)) (inside_of d draft total left mark (cell_of o.tree) (all_on_side d draft total left o.number (inside o.tree)))) p → IsOf o p
    found_within mark some h =
        let inner = all_on_side d draft total left o.number (inside o.tree) in
        let deeper = found_inside o.number mark (ap (λ m. number_inside m o.number) some) (ap (λ m. own_mark_of m o.number) some) in
        elim (is_new_mark draft left mark) as (λ b. is_new_mark draft left mark ≡ b
        → Has (flat_map (spots_at (Some mark)) (cond b (with_defaults d (default_marks total mark) (cell_of o.tree) inner) inner)) p → IsOf o p) [
          | false ↦ λ old g. deeper g
          | true ↦ λ new g.
              let f = flat_has (spots_at (Some mark)) (with_defaults d (default_marks total mark) (cell_of o.tree) inner) p g in
              let c = flat_has (child_or_default d (default_marks total mark) inner) (children_of d (cell_of o.tree)) f.0 f.1 in
              let in_it = child_declared d tree (cell_of o.tree) c.0 c.1 in
              elim (filled_or_inner (default_marks total mark) (cell_of o.tree) c.0 inner f.0 c.2) [
                | inl k ↦ deeper (has_flat (spots_at (Some mark)) inner f.0 p k f.2)
                | inr e ↦ of_filled o itself (record {
                  mark = mark;
                  is_marked = some;
                  is_new = new;
                  child = c.0;
                  in_it = in_it;
                  default = default_spots d tree cell_limit (default_marks total mark) c.0 (Some mark) p (omega arith) (declared_within d tree (Some (cell_of o.tree)) c.0 in_it)
                      (subst (λ x. Has (spots_at (Some mark) x) p) (sym e) f.2);
                })
              ]
        ] refl h

    found_written : (mark : ℕ) → mark_of o.tree ≡ Some mark → Has (flat_map (spots_at o.above) (cells_in o)) p → IsOf o p
    found_written mark some h =
        let inner = inside_of d draft total left mark (cell_of o.tree) (all_on_side d draft total left o.number (inside o.tree)) in
        elim (body_of_mark (spots_of (forest draft left)) mark) as (λ b. body_of_mark (spots_of (forest draft left)) mark ≡ b
        → Has (flat_map (spots_at o.above) (elim b [ None ↦ [] | Some body ↦ cell_with (cell_of o.tree) mark (with_inside body inner) ∷ [] ])) p → IsOf o p) [
          | None ↦ λ _ g. absurd g
          | Some body ↦ λ stands g.
              elim (alone (spots_at o.above) (cell_with (cell_of o.tree) mark (with_inside body inner)) p g) [
                | inl e ↦ of_written o itself (record {
                  mark = mark;
                  is_marked = some;
                  body = body;
                  stands = stands;
                  cells = inner;
                  cell_is = ap (λ (q : Spot). q.cell) (sym e);
                  mark_is = ap (λ (q : Spot). q.mark) (sym e);
                  above_is = ap (λ (q : Spot). q.above) (sym e);
                  body_is = ap (λ (q : Spot). q.body) (sym e);
                })
                | inr k ↦ found_within mark some (spots_within mark body inner p k)
              ]
        ] refl (subst (λ cs. Has (flat_map (spots_at o.above) cs) p) (written_is d draft total left o.number o.tree mark some) h)

    found_layer : Has (flat_map (spots_at o.above) (cells_in o)) p → IsOf o p
    found_layer h =
        elim (mark_of o.tree) as (λ m. mark_of o.tree ≡ m → IsOf o p) [
          | None ↦ λ none. found_added none h
          | Some mark ↦ λ some. found_written mark some h
        ] refl

  found_in : (t : Tree) → HasFound t
  found_in = tree_induction HasFound (λ t below o p is h. found_layer t below o p is h)

  pub found : (o : Place) (p : Spot) → Has (flat_map (spots_at o.above) (cells_in o)) p → IsOf o p
  found o p h = found_in o.tree o p refl h
