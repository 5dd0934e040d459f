-- Which cells of a side are counted.
use Rattle.std.specs.Prelude.{ℕ, Bool, not, List, ◌∷◌, Some}
use Rattle.rule_terms.specs.declared.pattern.CellPat.{CellPat}
use Rattle.rule_terms.specs.Spots.{Spot, spots, spots_in, has_mark}

-- a cell in one with a mark, and the cells in it
abbrev pub spots_under : ℕ → CellPat → List Spot
spots_under above c =
    record { cell = c.cell; mark = c.mark; above = Some above; body = c.body } ∷ spots_in c.mark c.body

-- the cell is none of a side's
abbrev pub is_beside : CellPat → Spot → Bool
is_beside side p = not (has_mark (spots side) p.mark)
