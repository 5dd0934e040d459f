-- The law of completed rules.
use Rattle.std.specs.Prelude.{◌≡◌}
use Rattle.rule_terms.specs.declared.rule.Draft.{Draft}
use Rattle.rule_terms.specs.declared.rule.Rule.{Rule}
use Rattle.rule_terms.specs.Language.{Language}
use Rattle.rule_terms.specs.Sound.{IsSoundRule}
use Rattle.strictness.specs.SoundDrafts.{IsSoundDraft}
use Rattle.cell_trees.specs.Trees.{Tree as Declaration, IsTree}
use Rattle.rule_completion.specs.Rules.{IsWrittenDraft, IsCompleted}
use Rattle.cell_contents.specs.Soundness.{AreSoundContents}
use Rattle.completed_rules.specs.Fits.{FitsCells}

-- A sound draft that fits declared cells with sound contents is completed to a sound rule.
abbrev pub IsCompletedSoundly : Type 0
IsCompletedSoundly =
    (d : Declaration) (language : Language) (draft : Draft) (rule : Rule)
    → IsTree d → language.cells ≡ d.shapes → AreSoundContents language.sorts d
    → IsSoundDraft language.sorts draft → FitsCells d language.sorts draft → IsWrittenDraft d draft
    → IsCompleted d draft rule → IsSoundRule language rule
