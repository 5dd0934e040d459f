-- Each cell of a completed rule stands in one of its declared parent.
use Rattle.std.proofs.Common.{◌≡◌, ◌⊎◌, inl, inr, ℕ, ◌+◌, ◌<◌, Bool, Option, Some, None, sym, ap, ◌∙◌, subst, arith}
use Rattle.std.specs.Option.{option_map}
use Rattle.k_terms.specs.Sorts.{SortOrder}
use Rattle.rule_terms.specs.declared.rule.Draft.{Draft}
use Rattle.rule_terms.specs.declared.rule.Rule.{Rule}
use Rattle.rule_terms.specs.Sound.{cell_limit, cell_of_mark}
use Rattle.rule_terms.specs.Spots.{Spot}
use Rattle.live_config.proofs.Members.{Has}
use Rattle.live_config.proofs.SpotTree.{spot_stands, outermost as outermost_of, StandsIn}
use Rattle.cell_completion.specs.Completion.{IsDeclaredIn}
use Rattle.cell_completion.proofs.Unfolded.{cell_of, mark_of}
use Rattle.cell_trees.specs.Trees.{Tree as Declaration}
use Rattle.rule_completion.specs.Writing.{written}
use Rattle.rule_completion.specs.Numbering.{default_marks}
use Rattle.completed_rules.proofs.Places.{Place, mark_at, own_mark_of, IsIn}
use Rattle.completed_rules.proofs.Defaults.{parent_before}
use Rattle.completed_rules.proofs.Sides.{IsFilledAt, of_written, of_added, of_filled}
use Rattle.completed_rules.proofs.Whole.{IsCase, side_of, cell_found, root, total, cells_of, classified, marks_apart, cell_in, at_place, cell_at, filled_cell, HasParent, outermost, stands_in, parent_of_place}

some_same : (m n : ℕ) → Some m ≡ Some n → m ≡ n
some_same m n e = cc

module _ (d : Declaration) (order : SortOrder) (draft : Draft) (rule : Rule) (c : IsCase d order draft rule) (left : Bool) where
  pub record Stands (p : Spot) : Type 0 where
    pub parent : Option ℕ
    pub declared : IsDeclaredIn d.shapes parent p.cell
    pub parent_is : option_map (cell_of_mark (cells_of d order draft rule c left)) p.above ≡ option_map (λ n. Some n) parent

  -- a cell in another one
  in_outer : (p o : Spot) (cell : ℕ) → Has (cells_of d order draft rule c left) o → p.above ≡ Some o.mark → o.cell ≡ cell
      → option_map (cell_of_mark (cells_of d order draft rule c left)) p.above ≡ Some (Some cell)
  in_outer p o cell h e same =
      ap (option_map (cell_of_mark (cells_of d order draft rule c left))) e
      ∙ ap (λ x. Some x) (cell_found (cells_of d order draft rule c left) (marks_apart d order draft rule c left) o h)
      ∙ ap (λ n. Some (Some n)) same

  in_none : (p : Spot) → p.above ≡ None → option_map (cell_of_mark (cells_of d order draft rule c left)) p.above ≡ None
  in_none p e = ap (option_map (cell_of_mark (cells_of d order draft rule c left))) e

  place_stands : (p : Spot) (z : Place) → IsIn (written draft) (root d order draft rule c) z → p.cell ≡ cell_of z.tree → p.above ≡ z.above
      → (outermost_of (side_of rule left) ≡ p) ⊎ StandsIn (cells_of d order draft rule c left) p → HasParent d order draft rule c z
      → option_map (cell_of_mark (cells_of d order draft rule c left)) p.above ≡ option_map (λ n. Some n) z.parent
  place_stands p z i cell above stands (outermost e) =
      in_none p (above ∙ ap (λ (x : Place). x.above) (sym e)) ∙ ap (λ (x : Place). option_map (λ n. Some n) x.parent) e
  place_stands p z i cell above (inl top) (stands_in y before after u at split e) =
      absurd (let f : None ≡ Some (mark_at y) = ap (λ (x : Spot). x.above) top ∙ above ∙ ap (λ (x : Place). x.above) (sym e) in cc)
  place_stands p z i cell above (inr s) (stands_in y before after u at split e) =
      let marks : s.outer.mark ≡ mark_at y = some_same s.outer.mark (mark_at y) (sym s.above ∙ above ∙ ap (λ (x : Place). x.above) (sym e)) in
      let is_at = at_place d order draft rule c left s.outer y at marks (classified d order draft rule c left s.outer s.there) in
      in_outer p s.outer (cell_of y.tree) s.there s.above (cell_at d order draft rule c left s.outer y is_at).0
      ∙ ap (λ (x : Place). option_map (λ n. Some n) x.parent) e

  of_place : (p : Spot) (z : Place) → Has (cells_of d order draft rule c left) p → IsIn (written draft) (root d order draft rule c) z → p.cell ≡ cell_of z.tree → p.above ≡ z.above → Stands p
  of_place p z h i cell above = record {
    parent = z.parent;
    declared = subst (IsDeclaredIn d.shapes z.parent) (sym cell) (cell_in d order draft rule c z i).declared;
    parent_is = place_stands p z i cell above (spot_stands (side_of rule left) p h) (parent_of_place d order draft rule c z i);
  }

  filled_top : (p : Spot) (z : Place) (mark : ℕ) → IsIn (written draft) (root d order draft rule c) z → mark_of z.tree ≡ Some mark → p.above ≡ Some mark
      → (outermost_of (side_of rule left) ≡ p) ⊎ StandsIn (cells_of d order draft rule c left) p
      → option_map (cell_of_mark (cells_of d order draft rule c left)) p.above ≡ Some (Some (cell_of z.tree))
  filled_top p z mark i some above (inl top) = absurd (let f : None ≡ Some mark = ap (λ (x : Spot). x.above) top ∙ above in cc)
  filled_top p z mark i some above (inr s) =
      let marks : s.outer.mark ≡ mark_at z = some_same s.outer.mark mark (sym s.above ∙ above) ∙ sym (ap (λ m. own_mark_of m z.number) some) in
      let is_at = at_place d order draft rule c left s.outer z i marks (classified d order draft rule c left s.outer s.there) in
      in_outer p s.outer (cell_of z.tree) s.there s.above (cell_at d order draft rule c left s.outer z is_at).0

  filled_deep : (p : Spot) (mark k : ℕ) → k < cell_limit → p.above ≡ Some (default_marks (total d order draft rule c) mark + k)
      → (outermost_of (side_of rule left) ≡ p) ⊎ StandsIn (cells_of d order draft rule c left) p
      → option_map (cell_of_mark (cells_of d order draft rule c left)) p.above ≡ Some (Some k)
  filled_deep p mark k less above (inl top) = absurd (let f : None ≡ Some (default_marks (total d order draft rule c) mark + k) = ap (λ (x : Spot). x.above) top ∙ above in cc)
  filled_deep p mark k less above (inr s) =
      in_outer p s.outer k s.there s.above
      (filled_cell d order draft rule c left s.outer mark k less (some_same s.outer.mark (default_marks (total d order draft rule c) mark + k) (sym s.above ∙ above)) (classified d order draft rule c left s.outer s.there))

  of_filling : (p : Spot) (z : Place) → Has (cells_of d order draft rule c left) p → IsIn (written draft) (root d order draft rule c) z
      → IsFilledAt d c.tree draft (total d order draft rule c) left z p → Stands p
  of_filling p z h i f =
      elim f.default.above_is [
        | inl top ↦ record {
          parent = Some (cell_of z.tree);
          declared = subst (IsDeclaredIn d.shapes (Some (cell_of z.tree))) (sym top.0) f.in_it;
          parent_is = filled_top p z f.mark i f.is_marked top.1 (spot_stands (side_of rule left) p h);
        }
        | inr deep ↦
            let before = parent_before d c.tree deep.0 p.cell deep.2 in
            let there = f.default.within in
            let few = c.tree.few_cells in
            record {
              parent = Some deep.0;
              declared = deep.2;
              parent_is = filled_deep p f.mark deep.0 (omega (arith, before, there, few)) deep.1 (spot_stands (side_of rule left) p h);
            }
      ]

  pub stands : (p : Spot) → Has (cells_of d order draft rule c left) p → Stands p
  stands p h =
      elim (classified d order draft rule c left p h) [
        | of_written z i w ↦ of_place p z h i w.cell_is w.above_is
        | of_added z i w ↦ of_place p z h i w.cell_is w.above_is
        | of_filled z i f ↦ of_filling p z h i f
      ]
