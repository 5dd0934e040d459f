-- The cells of what is read of a rule are those of a sound draft that fits its cells, as far as no content is asked.
use Rattle.grammar_terms.specs.Grammar.{Syntax}
use Rattle.rule_terms.specs.declared.rule.Draft.{Draft}
use Rattle.cell_trees.specs.Trees.{Tree as Declaration, IsTree}
use Rattle.draft_laws.proofs.ReadDrafts.{IsMade, made_of}
use Rattle.draft_laws.proofs.SoundCells.{left_marks, right_marks, staying, above}
use Rattle.sound_drafts.specs.Laws.{HasFitCells, CellsFit}
use Rattle.sound_drafts.proofs.Dots.{new_closed}
use Rattle.sound_drafts.proofs.Rests.{bag_sorts}
use Rattle.sound_drafts.proofs.Declared.{declared}

made_fit : (d : Declaration) (g : Syntax) (draft : Draft) → IsTree d → IsMade d g draft → HasFitCells d draft
made_fit d g draft tree made = record {
  left_marks = left_marks d g draft tree made;
  right_marks = right_marks d g draft tree made;
  staying = staying d g draft tree made;
  above = above d g draft tree made;
  new_closed = new_closed d g draft tree made;
  bag_sorts = bag_sorts d g draft tree made;
  declared = declared d g draft tree made;
}

pub cells_fit : CellsFit
cells_fit d g before text tokens rule after draft tree is = made_fit d g draft tree (made_of d g before text tokens rule after draft is)
