use Rattle.std.proofs.Common.{◌≡◌, drop, codes}
use Rattle.std.specs.List.{position_from}
use Rattle.production_reader.specs.Allowed.{same_text}
use Rattle.rule_terms.specs.declared.defs.CellShape.{CellShape}
use Rattle.rule_reader.proofs.contents.place_of_k.Given as goal

abbrev pub invariant-loop-place : goal.invariant-loop-place
invariant-loop-place l =
    position_from (λ (cell : CellShape). same_text cell.name (codes "k")) 0 l.cells ≡ position_from (λ (cell : CellShape). same_text cell.name (codes "k")) l.place (drop l.place l.cells)
