-- Why a draft is completed to no rule, as it is told.
use Rattle.std.specs.Prelude.{◌≡◌, ℕ, List, [], slice_get}
use Rattle.std.specs.Option.{option_map_or}
use Rattle.sorted_grammar.specs.declared.fault.What.TheVariants.{PatternCells as PatternCount, NewCells as NewCount}
use Rattle.rule_terms.specs.declared.defs.CellShape.{CellShape}
use Rattle.rule_terms.specs.declared.rule.Draft.{Draft}
use Rattle.cell_trees.specs.Trees.{Tree as Declaration}
use Rattle.rule_completion.specs.declared.refusal.NoCompletion.{NoCompletion}
use Rattle.rule_completion.specs.declared.refusal.NoCompletion.TheVariants.{Misplaced, Unclear as NoLeast, PatternCells, NewCells, Memory as NoMemoryLeft}
use Rattle.rule_completion.specs.Rules.{IsNotCompleted}
use Rattle.context_transform.specs.declared.fault.CellsUnclear.{CellsUnclear}
use Rattle.context_transform.specs.declared.fault.CellsUnclear.TheVariants.{CellMisplaced, Unclear, TooMany, Memory}

-- the name of a declared cell
abbrev pub cell_name : List CellShape → ℕ → List ℕ
cell_name shapes cell = option_map_or (λ (shape : CellShape). shape.name) (slice_get shapes cell) []

-- what is told of it, with the rule's number
abbrev pub told_completion : List CellShape → ℕ → NoCompletion → CellsUnclear
told_completion shapes number (Misplaced cell) = CellMisplaced number (cell_name shapes cell)
told_completion shapes number NoLeast = Unclear number
told_completion shapes number (PatternCells n) = TooMany PatternCount n
told_completion shapes number (NewCells n) = TooMany NewCount n
told_completion shapes number NoMemoryLeft = Memory

-- want of memory tells nothing of the draft
abbrev pub IsOfDraft : NoCompletion → Type 0
IsOfDraft (Misplaced cell) = Unit {0}
IsOfDraft NoLeast = Unit {0}
IsOfDraft (PatternCells n) = Unit {0}
IsOfDraft (NewCells n) = Unit {0}
IsOfDraft NoMemoryLeft = ⊥

-- The draft of the rule with a number is completed to none, and this is told of it.
pub record IsUnclear (d : Declaration) (draft : Draft) (number : ℕ) (fault : CellsUnclear) : Type 0 where
  pub why : NoCompletion
  pub is : IsNotCompleted d draft why
  pub of_draft : IsOfDraft why
  pub told : fault ≡ told_completion d.shapes number why
