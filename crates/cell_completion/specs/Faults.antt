-- Why written cells have no completion.
use Rattle.std.specs.Prelude.{List}
use Rattle.rule_terms.specs.declared.defs.CellShape.{CellShape}
use Rattle.cell_completion.specs.declared.tree.Written.{Written}
use Rattle.cell_completion.specs.declared.tree.Tree.{Tree}
use Rattle.cell_completion.specs.declared.complete.CompletionFault.{CompletionFault}
use Rattle.cell_completion.specs.declared.complete.CompletionFault.TheVariants.{Misplaced, Unclear, Memory}
use Rattle.cell_completion.specs.Completion.{IsLeastCompletion, IsFirstMisplaced, NoneMisplaced}

-- The first misplaced cell is told; where there is none, that there is no least completion. Want of memory may be answered
-- to all.
abbrev pub IsCompletionFault : List CellShape → List Written → CompletionFault → Type 0
IsCompletionFault shapes ws (Misplaced cell) = IsFirstMisplaced shapes ws cell
IsCompletionFault shapes ws Unclear = NoneMisplaced shapes ws × ((t : Tree) → IsLeastCompletion shapes ws t → ⊥)
IsCompletionFault shapes ws Memory = Unit {0}
