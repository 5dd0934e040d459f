-- The rules of heating and cooling of a language are sound.
use Rattle.std.proofs.Common.{◌≡◌, ℕ, zero, suc, ◌<◌, List, [], ◌∷◌, length, map, codes, Some, None, sym, subst, arith}
use Rattle.std.specs.Prelude.{slice_get}
use Rattle.std.proofs.lemmas.List.{length-map}
use Rattle.k_terms.specs.Sorts.{SortOrder}
use Rattle.grammar_terms.specs.Grammar.{order_of}
use Rattle.rule_terms.specs.declared.defs.CellShape.{CellShape}
use Rattle.strictness.specs.Laws.{AreSoundDrafts}
use Rattle.strictness.specs.SoundDrafts.{IsSoundDraft}
use Rattle.cell_trees.specs.Trees.{Tree as Declaration, IsTree}
use Rattle.cell_contents.specs.Soundness.{AreSoundContents}
use Rattle.completed_rules.specs.Fits.{FitsCells}
use Rattle.completed_rules.specs.Laws.{IsCompletedSoundly}
use Rattle.draft_laws.specs.Laws.{AreWrittenStrict}
use Rattle.sound_drafts.specs.Laws.{StrictFit}
use Rattle.sound_rules.specs.Laws.{StrictRulesAreSound}

place_within : {X : Type 0} (xs : List X) (i : ℕ) (x : X) → slice_get xs i ≡ Some x → i < length xs
place_within [] i x e = absurd (let f : None ≡ Some x = e in cc)
place_within (y ∷ ys) zero x e = omega arith
place_within (y ∷ ys) (suc i) x e = let less = place_within ys i x e in omega (arith, less)

-- the cell `k` is declared
pub k_within : (d : Declaration) → IsTree d → d.k < length d.shapes
k_within d tree =
    subst (λ n. d.k < n) (length-map d.shapes (λ (shape : CellShape). shape.name))
    (place_within (map (λ (shape : CellShape). shape.name) d.shapes) d.k (codes "k") tree.named)

pub strict_rules : AreSoundDrafts → StrictFit → AreWrittenStrict → IsCompletedSoundly → StrictRulesAreSound
strict_rules sound fits written complete g d language draft rule places of has completed =
    let o : order_of g ≡ language.sorts = sym of.sorts in
    complete d language draft rule of.tree of.cells (subst (λ (s : SortOrder). AreSoundContents s d) o of.contents)
    (subst (λ (s : SortOrder). IsSoundDraft s draft) o (sound g d.k draft places has))
    (subst (λ (s : SortOrder). FitsCells d s draft) o (fits d g draft of.tree has))
    (written d g d.k draft (k_within d of.tree) has) completed
