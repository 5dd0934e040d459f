-- The cells that a draft writes, by their marks.
use Rattle.std.proofs.Common.{◌≡◌, ◌⊎◌, inl, inr, ℕ, Bool, true, false, not, cond, ◌==◌, ◌||◌, ◌&&◌, List, [], ◌∷◌, filter, Some, None, refl, sym, ap, ◌∙◌}
use Rattle.std.proofs.lemmas.Bool.{eqb-true, eq-eqb}
use Rattle.std.specs.Prelude.{Contains}
use Rattle.k_terms.specs.Sorts.{SortOrder}
use Rattle.rule_terms.specs.declared.pattern.Body.{Body}
use Rattle.rule_terms.specs.declared.pattern.CellPat.{CellPat}
use Rattle.rule_terms.specs.declared.rule.Draft.{Draft}
use Rattle.rule_terms.specs.Spots.{Spot, spots, has_mark}
use Rattle.rule_terms.proofs.Defined.{joins}
use Rattle.live_config.specs.Footprint.{body_of_mark}
use Rattle.live_config.proofs.Members.{Has, Apart, any_has, has_any, has_either, map_has, has_map, has_left, kept, has-contains, different-apart}
use Rattle.live_config.proofs.SpotTree.{marks, spot_stands, same_spot}
use Rattle.strictness.specs.SoundDrafts.{spots_of, IsSoundDraft}
use Rattle.cell_completion.specs.declared.tree.Written.{Written}
use Rattle.cell_completion.specs.Completion.{is_both}
use Rattle.cell_completion.proofs.Cutting.{has_flat, flat_has}
use Rattle.rule_completion.specs.Writing.{as_written, is_new, written, written_left, written_new}
use Rattle.rule_completion.specs.Completed.{forest}

-- ---- cells with a mark

pub with_mark : (ps : List Spot) (m : ℕ) → has_mark ps m ≡ true → (s : Spot) × Has ps s × (s.mark ≡ m)
with_mark ps m e = let r = any_has (λ (p : Spot). p.mark == m) ps e in (r.0, r.1, eqb-true r.0.mark m r.2)

pub marked_is : (ps : List Spot) (m : ℕ) (s : Spot) → Has ps s → s.mark ≡ m → has_mark ps m ≡ true
marked_is ps m s h e = has_any (λ (p : Spot). p.mark == m) ps s h (eq-eqb s.mark m e)

pub with_body : (ps : List Spot) (m : ℕ) (b : Body) → body_of_mark ps m ≡ Some b → (s : Spot) × Has ps s × (s.mark ≡ m) × (s.body ≡ b)
with_body [] m b e = absurd (let f : None ≡ Some b = e in cc)
with_body (p ∷ ps) m b e =
    elim (p.mark == m) as (λ t. p.mark == m ≡ t → cond t (Some p.body) (body_of_mark ps m) ≡ Some b → (s : Spot) × Has (p ∷ ps) s × (s.mark ≡ m) × (s.body ≡ b)) [
      | true ↦ λ same f. (p, inl refl, eqb-true p.mark m same, let g : Some p.body ≡ Some b = f in cc)
      | false ↦ λ _ f. let r = with_body ps m b f in (r.0, inr r.1, r.2, r.3)
    ] refl e

pub some_body : (ps : List Spot) (m : ℕ) → has_mark ps m ≡ true → (b : Body) × (body_of_mark ps m ≡ Some b)
some_body [] m e = absurd (let f : false ≡ true = e in cc)
some_body (p ∷ ps) m e =
    elim (p.mark == m) as (λ t. (t || has_mark ps m) ≡ true → (b : Body) × (cond t (Some p.body) (body_of_mark ps m) ≡ Some b)) [
      | true ↦ λ f. (p.body, refl)
      | false ↦ λ f. some_body ps m f
    ] e

-- a cell of a side that stands in one stands in one of the side
pub stands_above : (cells : List CellPat) (s : Spot) (a : ℕ) → Has (spots_of cells) s → s.above ≡ Some a → has_mark (spots_of cells) a ≡ true
stands_above cells s a h e =
    let f = flat_has spots cells s h in
    elim (spot_stands f.0 s f.2) [
      | inl same ↦ absurd (let g : None ≡ Some a = ap (λ (p : Spot). p.above) same ∙ e in cc)
      | inr i ↦
          let marks_same : Some i.outer.mark ≡ Some a = sym i.above ∙ e in
          marked_is (spots_of cells) a i.outer (has_flat spots cells f.0 i.outer f.1 i.there) (cc)
    ]

module _ (draft : Draft) where
  -- a written cell is one of the left side, or a new one of the right side
  pub from_written : (w : Written) → Has (written draft) w
      → ((p : Spot) × Has (spots_of draft.left) p × (as_written (has_mark (spots_of draft.right) p.mark) p ≡ w))
      ⊎ ((q : Spot) × Has (spots_of draft.right) q × (has_mark (spots_of draft.left) q.mark ≡ false) × (as_written false q ≡ w))
  from_written w h =
      elim (has_either (written_left draft) (written_new draft) w h) [
        | inl g ↦ inl (map_has (λ (p : Spot). as_written (has_mark (spots_of draft.right) p.mark) p) (spots_of draft.left) w g)
        | inr g ↦
            let m = map_has (as_written false) (filter (is_new draft) (spots_of draft.right)) w g in
            let k = kept (is_new draft) (spots_of draft.right) m.0 m.1 in
            inr (m.0, k.0, not_true (has_mark (spots_of draft.left) m.0.mark) k.1, m.2)
      ]
    where
      not_true : (b : Bool) → not b ≡ true → b ≡ false
      not_true true e = cc
      not_true false e = refl

  -- a cell of the left side that is on the right one too is on both
  pub both_is : (s : Spot) → Has (spots_of draft.left) s → has_mark (spots_of draft.right) s.mark ≡ true → is_both (written draft) (Some s.mark) ≡ true
  both_is s h e =
      let w = as_written (has_mark (spots_of draft.right) s.mark) s in
      has_any (λ (v : Written). v.mark == s.mark && v.both) (written draft) w
      (has_left (written_left draft) (written_new draft) w (has_map (λ (p : Spot). as_written (has_mark (spots_of draft.right) p.mark) p) (spots_of draft.left) s h))
      (joins (s.mark == s.mark) (has_mark (spots_of draft.right) s.mark) (eq-eqb s.mark s.mark refl) e)

  module _ (o : SortOrder) (sound : IsSoundDraft o draft)
      (one_above : (p q : Spot) → Contains (spots_of draft.left) p → Contains (spots_of draft.right) q → p.mark ≡ q.mark → p.above ≡ q.above) where
    left_apart : Apart (marks (spots_of draft.left))
    left_apart = different-apart (marks (spots_of draft.left)) sound.left_marks

    right_apart : Apart (marks (spots_of draft.right))
    right_apart = different-apart (marks (spots_of draft.right)) sound.right_marks

    pub side_apart : (left : Bool) → Apart (marks (spots_of (forest draft left)))
    side_apart true = left_apart
    side_apart false = right_apart

    pub record IsAsWritten (s : Spot) (w : Written) : Type 0 where
      pub cell : s.cell ≡ w.cell
      pub above : s.above ≡ w.above

    same_as : (s p : Spot) (both : Bool) (w : Written) → s.cell ≡ p.cell → s.above ≡ p.above → as_written both p ≡ w → IsAsWritten s w
    same_as s p both w c a e = record { cell = c ∙ ap (λ (v : Written). v.cell) e; above = a ∙ ap (λ (v : Written). v.above) e }

    marks_same : (s p : Spot) (both : Bool) (w : Written) → s.mark ≡ w.mark → as_written both p ≡ w → s.mark ≡ p.mark
    marks_same s p both w m e = m ∙ sym (ap (λ (v : Written). v.mark) e)

    -- a cell of a side is as it is written
    pub is_as_written : (left : Bool) (s : Spot) (w : Written) → Has (spots_of (forest draft left)) s → Has (written draft) w → s.mark ≡ w.mark → IsAsWritten s w
    is_as_written true s w h k m =
        elim (from_written w k) [
          | inl p ↦
              let same = same_spot (spots_of draft.left) left_apart s p.0 h p.1 (marks_same s p.0 _ w m p.2) in
              same_as s p.0 _ w (ap (λ (x : Spot). x.cell) same) (ap (λ (x : Spot). x.above) same) p.2
          | inr q ↦ absurd (let f : false ≡ true = sym q.2 ∙ marked_is (spots_of draft.left) q.0.mark s h (marks_same s q.0 false w m q.3) in cc)
        ]
    is_as_written false s w h k m =
        elim (from_written w k) [
          | inl p ↦
              let e : p.0.mark ≡ s.mark = sym (marks_same s p.0 _ w m p.2) in
              let on_left = has-contains (spots_of draft.left) p.0 p.1 in
              let on_right = has-contains (spots_of draft.right) s h in
              same_as s p.0 _ w (sym (sound.staying p.0 s on_left on_right e).0) (sym (one_above p.0 s on_left on_right e)) p.2
          | inr q ↦
              let same = same_spot (spots_of draft.right) right_apart s q.0 h q.1 (marks_same s q.0 false w m q.3) in
              same_as s q.0 false w (ap (λ (x : Spot). x.cell) same) (ap (λ (x : Spot). x.above) same) q.3
        ]
