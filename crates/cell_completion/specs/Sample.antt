-- What the tests complete.
use Rattle.std.specs.Prelude.{ℕ, Bool, true, false, List, [], ◌∷◌, codes, Some, None}
use Rattle.rule_terms.specs.declared.defs.CellShape.{CellShape}
use Rattle.rule_terms.specs.declared.defs.Kind.TheVariants.{Cells, Seq, Map}
use Rattle.cell_completion.specs.declared.tree.Written.{Written}

-- a root with threads, which have two cells each, and a store
abbrev pub sample_shapes : List CellShape
sample_shapes =
    record { name = codes "T"; parent = None; many = false; kind = Cells }
    ∷ record { name = codes "thread"; parent = Some 0; many = true; kind = Cells }
    ∷ record { name = codes "k"; parent = Some 1; many = false; kind = Seq }
    ∷ record { name = codes "env"; parent = Some 1; many = false; kind = Map }
    ∷ record { name = codes "store"; parent = Some 0; many = false; kind = Map }
    ∷ []

-- two written cells, one behind the other
abbrev pub written_two : ℕ → ℕ → Bool → List Written
written_two one other both =
    record { mark = 0; cell = one; above = None; both = true } ∷ record { mark = 1; cell = other; above = None; both = both } ∷ []
