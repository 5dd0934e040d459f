-- The declared configuration of the tests.
use Rattle.std.specs.Prelude.{true, false, List, [], ◌∷◌, codes, pos, Option, Some, None}
use Rattle.k_terms.specs.declared.value.Value.{Int}
use Rattle.k_terms.specs.declared.value.Content.TheVariants as content
use Rattle.rule_terms.specs.declared.defs.CellShape.{CellShape}
use Rattle.rule_terms.specs.declared.defs.Kind.TheVariants.{Cells, Seq, Map, List as Listed, One}
use Rattle.cell_trees.specs.declared.declared.Declared.{Declared}
use Rattle.cell_trees.specs.declared.declared.Declared.TheVariants.{Program, Input, Fixed}

abbrev pub sample_shapes : List CellShape
sample_shapes =
    record { name = codes "T"; parent = None; many = false; kind = Cells }
    ∷ record { name = codes "thread"; parent = Some 0; many = true; kind = Cells }
    ∷ record { name = codes "k"; parent = Some 1; many = false; kind = Seq }
    ∷ record { name = codes "env"; parent = Some 1; many = false; kind = Map }
    ∷ record { name = codes "in"; parent = Some 0; many = false; kind = Listed }
    ∷ record { name = codes "n"; parent = Some 0; many = false; kind = One 3 }
    ∷ []

abbrev pub sample_held : List (Option Declared)
sample_held =
    None ∷ None ∷ Some (Program 10) ∷ Some (Fixed (content.Map [])) ∷ Some Input ∷ Some (Fixed (content.One (Int (pos 5)))) ∷ []
