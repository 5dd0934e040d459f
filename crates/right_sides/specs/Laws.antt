-- Where a right side is defined.
use Rattle.std.specs.Prelude.{◌↔◌, IsSome, Contains}
use Rattle.rule_terms.specs.declared.pattern.CellPat.{CellPat}
use Rattle.rule_terms.specs.Substitution.{Subst, cells_of}
use Rattle.rule_terms.specs.Fill.{fill}
use Rattle.rule_terms.specs.Spots.{Spot, spots}
use Rattle.rule_terms.specs.Sound.{cells_rest}
use Rattle.right_sides.specs.Contents.{contents_of}

-- A side is defined under a substitution where each content of its cells is, and each rest of cells stands for cells.
abbrev pub SideIsDefined : Type 0
SideIsDefined =
    (side : CellPat) (s : Subst)
    → IsSome (fill side s) ↔ (IsSome (contents_of (spots side) s) × ((p : Spot) → Contains (spots side) p → IsSome (cells_of (cells_rest p.body) s)))
