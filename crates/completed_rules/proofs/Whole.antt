-- A completed rule: its sides, by the places of the completion.
use Rattle.std.proofs.Common.{◌≡◌, ◌⊎◌, inl, inr, ℕ, ◌+◌, ◌<◌, ◌≤◌, Bool, true, false, cond, List, [], ◌∷◌, ◌++◌, Some, None, refl, sym, ap, ◌∙◌, subst, arith, append-nil}
use Rattle.std.proofs.lemmas.Bool.{eq-eqb, ne_eqb}
use Rattle.std.specs.List.{flat_map}
use Rattle.k_terms.specs.Sorts.{SortOrder}
use Rattle.rule_terms.specs.declared.pattern.CellPat.{CellPat}
use Rattle.rule_terms.specs.declared.rule.Draft.{Draft}
use Rattle.rule_terms.specs.declared.rule.Rule.{Rule}
use Rattle.rule_terms.specs.Sound.{cell_limit, cell_of_mark}
use Rattle.rule_terms.specs.Spots.{Spot, spots}
use Rattle.live_config.proofs.Members.{Has, Apart, has_map, different-apart}
use Rattle.live_config.proofs.SpotTree.{marks}
use Rattle.strictness.specs.SoundDrafts.{IsSoundDraft}
use Rattle.cell_completion.specs.declared.tree.Tree.{Tree}
use Rattle.cell_completion.specs.Trees.{marks as written_marks}
use Rattle.cell_completion.specs.Completion.{IsCell}
use Rattle.cell_completion.proofs.Unfolded.{cell_of, mark_of, inside, placed_cell}
use Rattle.cell_trees.specs.Trees.{Tree as Declaration, IsTree}
use Rattle.rule_completion.specs.Writing.{spots_at, written}
use Rattle.rule_completion.specs.Numbering.{mark_limit, count, default_marks}
use Rattle.rule_completion.specs.Rules.{IsWrittenDraft, IsCompleted}
use Rattle.completed_rules.specs.Fits.{FitsCells}
use Rattle.completed_rules.proofs.Places.{Place, mark_at, own_mark_of, child_at, IsIn, itself, within, IsPlacedAt, placed_at, few_at, numbers_at, one_place}
use Rattle.completed_rules.proofs.Sides.{cells_in, IsWrittenAt, IsAddedAt, IsFilledAt, IsOf, of_written, of_added, of_filled, found}
use Rattle.completed_rules.proofs.Apartness.{marks_on, side_apart}
use Rattle.completed_rules.proofs.Presence.{IsOn, there}
use Rattle.rule_completion.proofs.Layers.{count_added}

-- what is known of a completed draft
pub record IsCase (d : Declaration) (order : SortOrder) (draft : Draft) (rule : Rule) : Type 0 where
  pub tree : IsTree d
  pub sound : IsSoundDraft order draft
  pub fits : FitsCells d order draft
  pub writes : IsWrittenDraft d draft
  pub completed : IsCompleted d draft rule

abbrev pub side_of : Rule → Bool → CellPat
side_of rule true = rule.left
side_of rule false = rule.right

-- the cell that a mark stands for
pub cell_found : (ps : List Spot) → Apart (marks ps) → (q : Spot) → Has ps q → cell_of_mark ps q.mark ≡ Some q.cell
cell_found [] apart q h = absurd h
cell_found (p ∷ ps) apart q (inl e) =
    ap (λ b. cond b (Some p.cell) (cell_of_mark ps q.mark)) (eq-eqb p.mark q.mark (ap (λ (x : Spot). x.mark) e)) ∙ ap (λ (x : Spot). Some x.cell) e
cell_found (p ∷ ps) apart q (inr h) =
    ap (λ b. cond b (Some p.cell) (cell_of_mark ps q.mark))
    (ne_eqb p.mark q.mark (λ e. apart.0 (subst (Has (marks ps)) (sym e) (has_map (λ (x : Spot). x.mark) ps q h)))) ∙ cell_found ps apart.1 q h

module _ (d : Declaration) (order : SortOrder) (draft : Draft) (rule : Rule) (c : IsCase d order draft rule) where
  abbrev pub whole : Tree
  whole = c.completed.has.whole

  abbrev pub total : ℕ
  total = count whole

  abbrev pub root : Place
  root = record { tree = whole; number = 0; above = None; parent = None; around = None; outer = true }

  pub root_placed : IsPlacedAt d.shapes (written draft) root
  root_placed = c.completed.has.least.is.placed

  root_apart : Apart (written_marks whole)
  root_apart = different-apart (written_marks whole) c.completed.has.least.is.once

  is_side : (left : Bool) → cells_in d c.tree draft total left root ≡ side_of rule left ∷ []
  is_side true = c.completed.has.is.left
  is_side false = c.completed.has.is.right

  abbrev pub cells_of : Bool → List Spot
  cells_of left = spots (side_of rule left)

  spots_are : (left : Bool) → flat_map (spots_at None) (cells_in d c.tree draft total left root) ≡ cells_of left
  spots_are left = ap (flat_map (spots_at None)) (is_side left) ∙ append-nil (spots (side_of rule left))

  abbrev pub Of : Bool → Spot → Type 0
  Of left p = IsOf d c.tree draft total left root p

  pub classified : (left : Bool) (p : Spot) → Has (cells_of left) p → Of left p
  classified left p h = found d c.tree draft total left root p (subst (λ ps. Has ps p) (sym (spots_are left)) h)

  pub marks_apart : (left : Bool) → Apart (marks (cells_of left))
  marks_apart left =
      subst Apart (ap (flat_map (marks_on None)) (is_side left) ∙ append-nil (marks (spots (side_of rule left))))
      (side_apart d c.tree draft total left c.writes.few_marks root root_placed root_apart (omega arith))

  pub record HasPicture (left : Bool) (z : Place) : Type 0 where
    pub spot : Spot
    pub has : Has (cells_of left) spot
    pub is : IsWrittenAt d c.tree draft total left z spot ⊎ IsAddedAt d c.tree draft total left z spot

  pub pictured : (left : Bool) (z : Place) → IsIn (written draft) root z → IsOn d c.tree draft order c.sound c.fits left (mark_of z.tree) → HasPicture left z
  pictured left z is_in on =
      let t = there d c.tree draft order c.sound c.fits left total root z is_in root_placed on in
      record { spot = t.spot; has = subst (λ ps. Has ps t.spot) (spots_are left) t.has; is = t.is }

  pub one : (y z : Place) → IsIn (written draft) root y → IsIn (written draft) root z → mark_at y ≡ mark_at z → y ≡ z
  one y z a b same = one_place d.shapes (written draft) c.writes.few_marks root y z a b root_placed root_apart same

  pub placed_in : (z : Place) → IsIn (written draft) root z → IsPlacedAt d.shapes (written draft) z
  placed_in z i = placed_at d.shapes (written draft) root z i root_placed

  pub cell_in : (z : Place) → IsIn (written draft) root z → IsCell d.shapes (written draft) z.parent z.around z.outer z.tree
  cell_in z i = placed_cell d.shapes (written draft) z.parent z.around z.outer z.tree (placed_in z i)

  -- marks of the three kinds
  pub low_mark : (z : Place) (m : ℕ) → IsIn (written draft) root z → mark_of z.tree ≡ Some m → m < mark_limit
  low_mark z m i some = few_at d.shapes (written draft) c.writes.few_marks z m (placed_in z i) some

  pub low_number : (z : Place) → IsIn (written draft) root z → mark_of z.tree ≡ None → z.number < total
  low_number z i none =
      let n = numbers_at d.shapes (written draft) root z i in
      let h = n.high in
      let k = count_added z.tree none in
      omega (arith, h, k)

  pub low : (z : Place) → IsIn (written draft) root z → mark_at z < mark_limit + total
  low z i =
      elim (mark_of z.tree) as (λ m. mark_of z.tree ≡ m → own_mark_of m z.number < mark_limit + total) [
        | None ↦ λ none. let l = low_number z i none in omega (arith, l)
        | Some m ↦ λ some. let l = low_mark z m i some in omega (arith, l)
      ] refl

  pub written_at : (left : Bool) (z : Place) (p : Spot) → IsWrittenAt d c.tree draft total left z p → p.mark ≡ mark_at z
  written_at left z p w = w.mark_is ∙ sym (ap (λ m. own_mark_of m z.number) w.is_marked)

  pub added_at : (left : Bool) (z : Place) (p : Spot) → IsAddedAt d c.tree draft total left z p → p.mark ≡ mark_at z
  added_at left z p w = w.mark_is ∙ sym (ap (λ m. own_mark_of m z.number) w.is_added)

  pub high : (left : Bool) (z : Place) (p : Spot) → IsFilledAt d c.tree draft total left z p → mark_limit + total ≤ p.mark
  high left z p f = let e = f.default.mark_is in omega (arith, e)

  -- a cell with the mark of a place is there, and is no other
  pub data IsAt (left : Bool) (z : Place) (p : Spot) : Type 0 where
    written_there : IsWrittenAt d c.tree draft total left z p → IsAt left z p
    added_there : IsAddedAt d c.tree draft total left z p → IsAt left z p

  pub at_place : (left : Bool) (p : Spot) (z : Place) → IsIn (written draft) root z → p.mark ≡ mark_at z → Of left p → IsAt left z p
  at_place left p z i e (of_written y k w) =
      subst (λ x. IsAt left x p) (one y z k i (sym (written_at left y p w) ∙ e)) (written_there w)
  at_place left p z i e (of_added y k w) =
      subst (λ x. IsAt left x p) (one y z k i (sym (added_at left y p w) ∙ e)) (added_there w)
  at_place left p z i e (of_filled y k w) = let h = high left y p w in let l = low z i in absurd (omega (arith, h, l, e))

  pub cell_at : (left : Bool) (p : Spot) (z : Place) → IsAt left z p → (p.cell ≡ cell_of z.tree) × (p.above ≡ z.above)
  cell_at left p z (written_there w) = (w.cell_is, w.above_is)
  cell_at left p z (added_there w) = (w.cell_is, w.above_is)

  -- a cell with the mark of one that is filled in is that
  pub filled_cell : (left : Bool) (p : Spot) (m k : ℕ) → k < cell_limit → p.mark ≡ default_marks total m + k → Of left p → p.cell ≡ k
  filled_cell left p m k less e (of_written y i w) =
      let l = low y i in let f = written_at left y p w in absurd (omega (arith, l, f, e))
  filled_cell left p m k less e (of_added y i w) =
      let l = low y i in let f = added_at left y p w in absurd (omega (arith, l, f, e))
  filled_cell left p m k less e (of_filled y i w) =
      let f = w.default.mark_is in
      let n = w.default.within in
      let few = c.tree.few_cells in
      omega (arith, f, n, few, less, e)

  -- the place that a cell stands in
  pub data HasParent (z : Place) : Type 0 where
    outermost : root ≡ z → HasParent z
    stands_in : (y : Place) (before after : List Tree) (u : Tree) → IsIn (written draft) root y → inside y.tree ≡ before ++ u ∷ after → child_at (written draft) y before u ≡ z → HasParent z

  inner_parent : (o z : Place) → IsIn (written draft) o z → IsIn (written draft) root o → (o ≡ z) ⊎ HasParent z
  inner_parent o _ itself i = inl refl
  inner_parent o z (within before after u e deep) i =
      elim (inner_parent (child_at (written draft) o before u) z deep (deeper root o i before after u e)) [
        | inl same ↦ inr (stands_in o before after u i e same)
        | inr p ↦ inr p
      ]
    where
      deeper : (r q : Place) → IsIn (written draft) r q → (front back : List Tree) (v : Tree) → inside q.tree ≡ front ++ v ∷ back → IsIn (written draft) r (child_at (written draft) q front v)
      deeper r _ itself front back v f = within front back v f itself
      deeper r q (within b a w g k) front back v f = within b a w g (deeper (child_at (written draft) r b w) q k front back v f)

  pub parent_of_place : (z : Place) → IsIn (written draft) root z → HasParent z
  parent_of_place z i = elim (inner_parent root z i itself) [ inl e ↦ outermost e | inr p ↦ p ]
