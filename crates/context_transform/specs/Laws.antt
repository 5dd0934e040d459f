-- The laws of completed drafts.
use Rattle.std.specs.Prelude.{◌≡◌, ℕ}
use Rattle.rule_terms.specs.declared.rule.Draft.{Draft}
use Rattle.rule_terms.specs.declared.rule.Rule.{Rule}
use Rattle.cell_trees.specs.Trees.{Tree as Declaration, IsTree}
use Rattle.rule_completion.specs.Rules.{IsWrittenDraft, IsCompleted}
use Rattle.context_transform.specs.declared.fault.CellsUnclear.{CellsUnclear}
use Rattle.context_transform.specs.Completing.{IsUnclear}

-- a draft is completed to one rule at most
abbrev pub HasOneRule : Type 0
HasOneRule =
    (d : Declaration) (draft : Draft) → IsTree d → IsWrittenDraft d draft → (one other : Rule)
    → IsCompleted d draft one → IsCompleted d draft other → one ≡ other

-- or one thing is told of it
abbrev pub HasOneReason : Type 0
HasOneReason =
    (d : Declaration) (draft : Draft) (number : ℕ) → IsTree d → IsWrittenDraft d draft → (one other : CellsUnclear)
    → IsUnclear d draft number one → IsUnclear d draft number other → one ≡ other

-- never both
abbrev pub HasRuleOrReason : Type 0
HasRuleOrReason =
    (d : Declaration) (draft : Draft) (number : ℕ) → IsTree d → IsWrittenDraft d draft → (rule : Rule) (why : CellsUnclear)
    → IsCompleted d draft rule → IsUnclear d draft number why → ⊥
