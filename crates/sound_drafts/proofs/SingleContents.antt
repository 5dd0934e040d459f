-- The content of a cell of a single value has one item at most on a side.
use Rattle.std.proofs.Common.{◌≡◌, ℕ, ◌≤◌, Bool, List, length, sym, subst}
use Rattle.grammar_terms.specs.Grammar.{Syntax}
use Rattle.grammar_terms.specs.declared.shape.Shape.{Shape}
use Rattle.live_config.proofs.Members.{Has}
use Rattle.rule_terms.specs.declared.rule.Draft.{Draft}
use Rattle.rule_cells.specs.declared.form.Inside.{Content as ContentInside}
use Rattle.rule_parts.specs.declared.parts.Part.{Part}
use Rattle.rule_parts.specs.Productions.{productions_of}
use Rattle.rule_parts.specs.Sides.{what_items, of_side}
use Rattle.rule_reader.specs.Contents.{is_new}
use Rattle.cell_trees.specs.Trees.{Tree as Declaration, IsTree}
use Rattle.draft_laws.proofs.WrittenCells.{TextCell}
use Rattle.sound_drafts.proofs.Dots.{cells}
use Rattle.sound_drafts.proofs.ReadRules.{IsRead, content_read}
use Rattle.sound_drafts.proofs.PartsRead.{NoneNested}
use Rattle.sound_drafts.proofs.ContentParts.{its_kind, its_words, its_leaves, its_parts, parts_are, parts_nest}
use Rattle.sound_drafts.proofs.ContentSorts.{HasSorts}
use Rattle.sound_drafts.proofs.SingleReadings.{single_content}
use Rattle.sound_drafts.proofs.SingleValues.{HasOneItem}

module _ (d : Declaration) (g : Syntax) (draft : Draft) (tree : IsTree d) (read : IsRead d g draft) (sorts : HasSorts g) (one : TextCell) (first past : ℕ)
    (has : Has (cells d g draft tree read.made) one) (is : one.held.inside ≡ ContentInside first past) where
  pub single : (left : Bool)
      → HasOneItem (productions_of g) (its_leaves d g draft tree read one first past has is) read.made.vars left
      (its_kind d g draft tree read one first past has is) (its_parts d g draft tree read one first past has is)
  single left sort kind_is =
      let f = content_read d g draft tree read one first past has is in
      let leaves = its_leaves d g draft tree read one first past has is in
      let parts = parts_are d g draft tree read one first past has is in
      subst (λ (ps : List (Part Shape)). length (of_side left (what_items (productions_of g) leaves read.made.vars sort) ps) ≤ 1) (sym parts)
      (single_content (productions_of g) leaves read.made.vars left sort (length g.prods) g sorts
      (its_words d g draft tree read one first past has is) (its_kind d g draft tree read one first past has is) kind_is (is_new one.on) one.on f.reading.form f.reading.shape f.is.is (subst NoneNested parts (parts_nest d g draft tree read one first past has is)))
