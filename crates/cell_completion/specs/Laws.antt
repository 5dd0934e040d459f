-- The law of completions.
use Rattle.std.specs.Prelude.{◌≡◌, List}
use Rattle.rule_terms.specs.declared.defs.CellShape.{CellShape}
use Rattle.cell_completion.specs.declared.tree.Written.{Written}
use Rattle.cell_completion.specs.declared.tree.Tree.{Tree}
use Rattle.cell_completion.specs.Completion.{IsLeastCompletion}
use Rattle.cell_completion.specs.Listed.{AreDeclared, AreWritten}

-- written cells have one least completion at most
abbrev pub HasOneCompletion : Type 0
HasOneCompletion =
    (shapes : List CellShape) (ws : List Written) → AreDeclared shapes → AreWritten shapes ws → (one other : Tree)
    → IsLeastCompletion shapes ws one → IsLeastCompletion shapes ws other → one ≡ other
