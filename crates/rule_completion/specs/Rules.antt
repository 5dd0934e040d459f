-- What a draft is completed to, and why it is completed to nothing.
use Rattle.std.specs.Prelude.{◌≡◌, ◌<◌, ◌≤◌, ◌-◌, ◌^◌, min, length, Contains}
use Rattle.rule_terms.specs.declared.rule.Draft.{Draft}
use Rattle.rule_terms.specs.declared.rule.Rule.{Rule}
use Rattle.rule_terms.specs.Sound.{side_limit}
use Rattle.rule_terms.specs.Spots.{spots, new_spots}
use Rattle.cell_completion.specs.declared.tree.Tree.{Tree}
use Rattle.cell_completion.specs.declared.tree.Written.{Written}
use Rattle.cell_completion.specs.Completion.{IsLeastCompletion, IsFirstMisplaced, NoneMisplaced}
use Rattle.cell_completion.specs.Listed.{AreWritten}
use Rattle.cell_trees.specs.Trees.{Tree as Declaration}
use Rattle.rule_completion.specs.declared.refusal.NoCompletion.{NoCompletion}
use Rattle.rule_completion.specs.declared.refusal.NoCompletion.TheVariants.{Misplaced, Unclear, PatternCells, NewCells, Memory}
use Rattle.rule_completion.specs.Writing.{written}
use Rattle.rule_completion.specs.Numbering.{mark_limit}
use Rattle.rule_completion.specs.Completed.{IsCompletedBy}

-- A draft may be completed: what it writes are cells that are declared, one within the other, with marks below the limit.
pub record IsWrittenDraft (d : Declaration) (draft : Draft) : Type 0 where
  pub cells : AreWritten d.shapes (written draft)
  pub few_marks : (w : Written) → Contains (written draft) w → w.mark < mark_limit

-- it has this rule, by its least completion
pub record HasRule (d : Declaration) (draft : Draft) (rule : Rule) : Type 0 where
  pub whole : Tree
  pub least : IsLeastCompletion d.shapes (written draft) whole
  pub is : IsCompletedBy d draft whole rule

-- a rule has no more cells than it may have
pub record HasFewCells (rule : Rule) : Type 0 where
  pub left : length (spots rule.left) ≤ side_limit
  pub new : length (new_spots rule) ≤ side_limit

-- Or why it has: it matches too many cells, or else it makes too many. A count that is greater than any `u32` stays at the
-- greatest one.
abbrev pub IsOverLimit : Rule → NoCompletion → Type 0
IsOverLimit rule (PatternCells n) = (side_limit < length (spots rule.left)) × (n ≡ min (length (spots rule.left)) (2 ^ 32 - 1))
IsOverLimit rule (NewCells n) =
    (length (spots rule.left) ≤ side_limit) × (side_limit < length (new_spots rule)) × (n ≡ min (length (new_spots rule)) (2 ^ 32 - 1))
IsOverLimit rule (Misplaced cell) = ⊥
IsOverLimit rule Unclear = ⊥
IsOverLimit rule Memory = ⊥

pub record IsCompleted (d : Declaration) (draft : Draft) (rule : Rule) : Type 0 where
  pub placed : NoneMisplaced d.shapes (written draft)
  pub has : HasRule d draft rule
  pub few : HasFewCells rule

-- its rule has too many cells
pub record HasManyCells (d : Declaration) (draft : Draft) (why : NoCompletion) : Type 0 where
  pub placed : NoneMisplaced d.shapes (written draft)
  pub rule : Rule
  pub has : HasRule d draft rule
  pub over : IsOverLimit rule why

-- Why it is completed to no rule: a cell is misplaced, which is the first one; or there is no least completion; or the rule
-- has too many cells. Want of memory may be answered to all.
abbrev pub IsNotCompleted : Declaration → Draft → NoCompletion → Type 0
IsNotCompleted d draft (Misplaced cell) = IsFirstMisplaced d.shapes (written draft) cell
IsNotCompleted d draft Unclear = NoneMisplaced d.shapes (written draft) × ((whole : Tree) → IsLeastCompletion d.shapes (written draft) whole → ⊥)
IsNotCompleted d draft (PatternCells n) = HasManyCells d draft (PatternCells n)
IsNotCompleted d draft (NewCells n) = HasManyCells d draft (NewCells n)
IsNotCompleted d draft Memory = Unit {0}
