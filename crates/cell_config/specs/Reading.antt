-- What is read of the cells of a configuration, as the code keeps it.
use Rattle.std.specs.Prelude.{ℕ, List, Option, Some, None}
use Rattle.grammar_terms.specs.Grammar.{Syntax}
use Rattle.cell_forms.specs.declared.form.CellForm.{CellForm}
use Rattle.cell_tokens.specs.declared.token.CellToken.{CellToken}
use Rattle.cell_contents.specs.declared.fault.ContentFault.{ContentFault}
use Rattle.cell_contents.specs.declared.fault.ContentFault.TheVariants.{NoContent, Memory}
use Rattle.cell_config.specs.declared.division.ConfigCell.{ConfigCell}
use Rattle.cell_config.specs.Divisions.{AreCellsOf, HasNoContent, IsBadAt}

-- why what a cell declares is not read
abbrev pub IsHeldFault : Syntax → List CellToken → CellForm → ContentFault → Type 0
IsHeldFault g tokens form NoContent = HasNoContent g tokens form
IsHeldFault g tokens form Memory = Unit {0}

-- the cells of all forms, or of those up to the first bad one
abbrev pub AreRead : Syntax → List CellToken → List CellForm → List ConfigCell → Option ℕ → Type 0
AreRead g tokens forms cells None = AreCellsOf g tokens forms cells
AreRead g tokens forms cells (Some number) = IsBadAt g tokens forms number cells
