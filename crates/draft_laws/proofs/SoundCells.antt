-- The cells of what is read of a rule, as they are asked of sound drafts and of drafts that fit their cells.
use Rattle.std.proofs.Common.{◌≡◌, Bool, true, false, List, map, ap, subst, ◌∙◌, Contains}
use Rattle.std.specs.Prelude.{IsTrue}
use Rattle.grammar_terms.specs.Grammar.{Syntax}
use Rattle.live_config.proofs.Members.{contains-has}
use Rattle.rule_terms.specs.Numbers.{all_different}
use Rattle.rule_terms.specs.Sound.{cells_rest}
use Rattle.rule_terms.specs.Spots.{Spot}
use Rattle.rule_terms.specs.declared.rule.Draft.{Draft}
use Rattle.strictness.specs.SoundDrafts.{spots_of}
use Rattle.rule_parts.specs.Productions.{productions_of}
use Rattle.cell_trees.specs.Trees.{Tree as Declaration, IsTree}
use Rattle.draft_laws.proofs.Fitting.{side_spots, spot_marks, AreOneCell, one_of_both}
use Rattle.draft_laws.proofs.WrittenCells.{TextCell}
use Rattle.draft_laws.proofs.ReadDrafts.{IsMade, made_leaves, found}

module _ (d : Declaration) (g : Syntax) (draft : Draft) (tree : IsTree d) (made : IsMade d g draft) where
  abbrev pub text_cells : List TextCell
  text_cells = (found d g draft tree made).0

  abbrev pub spots_on : Bool → List Spot
  spots_on left =
      side_spots (productions_of g) (made_leaves d g draft tree made) d.shapes made.reading.contents made.vars made.tokens text_cells (found d g draft tree made).1.rise left

  -- the cells of each side are those of the text that stand on it
  pub left_are : spots_of draft.left ≡ spots_on true
  left_are = ap (λ (it : Draft). spots_of it.left) made.is ∙ (found d g draft tree made).1.left

  pub right_are : spots_of draft.right ≡ spots_on false
  right_are = ap (λ (it : Draft). spots_of it.right) made.is ∙ (found d g draft tree made).1.right

  -- their marks differ on a side
  pub left_marks : IsTrue (all_different (map (λ (p : Spot). p.mark) (spots_of draft.left)))
  left_marks =
      ap (λ ps. all_different (map (λ (p : Spot). p.mark) ps)) left_are
      ∙ spot_marks (productions_of g) (made_leaves d g draft tree made) d.shapes made.reading.contents made.vars made.tokens text_cells (found d g draft tree made).1.rise true

  pub right_marks : IsTrue (all_different (map (λ (p : Spot). p.mark) (spots_of draft.right)))
  right_marks =
      ap (λ ps. all_different (map (λ (p : Spot). p.mark) ps)) right_are
      ∙ spot_marks (productions_of g) (made_leaves d g draft tree made) d.shapes made.reading.contents made.vars made.tokens text_cells (found d g draft tree made).1.rise false

  -- a cell of both sides is one, and stands in one cell
  one_cell : (p q : Spot) → Contains (spots_of draft.left) p → Contains (spots_of draft.right) q → p.mark ≡ q.mark
      → AreOneCell (productions_of g) (made_leaves d g draft tree made) d.shapes made.reading.contents made.vars made.tokens text_cells (found d g draft tree made).1.rise p q
  one_cell p q on_left on_right same =
      one_of_both (productions_of g) (made_leaves d g draft tree made) d.shapes made.reading.contents made.vars made.tokens text_cells (found d g draft tree made).1.rise p q
      (contains-has (spots_on true) p (subst (λ ps. Contains ps p) left_are on_left)) (contains-has (spots_on false) q (subst (λ ps. Contains ps q) right_are on_right)) same

  pub staying : (p q : Spot) → Contains (spots_of draft.left) p → Contains (spots_of draft.right) q → p.mark ≡ q.mark → (p.cell ≡ q.cell) × (cells_rest p.body ≡ cells_rest q.body)
  staying p q on_left on_right same = let one = one_cell p q on_left on_right same in (one.cell, one.rest)

  pub above : (p q : Spot) → Contains (spots_of draft.left) p → Contains (spots_of draft.right) q → p.mark ≡ q.mark → p.above ≡ q.above
  above p q on_left on_right same = (one_cell p q on_left on_right same).above
