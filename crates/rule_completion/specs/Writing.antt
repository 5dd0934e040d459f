-- The cells that a draft writes, as cells to be completed.
use Rattle.std.specs.Prelude.{ℕ, ◌==◌, Bool, not, List, ◌∷◌, ◌++◌, map, filter, Option, false}
use Rattle.std.specs.List.{list_any}
use Rattle.rule_terms.specs.declared.pattern.CellPat.{CellPat}
use Rattle.rule_terms.specs.declared.rule.Draft.{Draft}
use Rattle.rule_terms.specs.Spots.{Spot, spots_in, has_mark}
use Rattle.strictness.specs.SoundDrafts.{spots_of}
use Rattle.cell_completion.specs.declared.tree.Written.{Written}

-- a cell that stands in one with a mark, or in none, and the cells in it
abbrev pub spots_at : Option ℕ → CellPat → List Spot
spots_at above c = record { cell = c.cell; mark = c.mark; above = above; body = c.body } ∷ spots_in c.mark c.body

-- a cell of a side, which is on both sides or not
abbrev pub as_written : Bool → Spot → Written
as_written both p = record { mark = p.mark; cell = p.cell; above = p.above; both = both }

-- a cell and the cells in it, as if each were on one side alone
abbrev pub cells_at : Option ℕ → CellPat → List Written
cells_at above c = map (as_written false) (spots_at above c)

-- one of these has the mark
abbrev pub is_among : List Written → ℕ → Bool
is_among ws mark = list_any (λ (w : Written). w.mark == mark) ws

-- a cell, with whether it is one of others
abbrev pub beside_others : List Written → Written → Written
beside_others others w = record { mark = w.mark; cell = w.cell; above = w.above; both = is_among others w.mark }

-- the cells of the left side, each with whether it is on the right one too
abbrev pub written_left : Draft → List Written
written_left draft = map (λ (p : Spot). as_written (has_mark (spots_of draft.right) p.mark) p) (spots_of draft.left)

-- the new ones
abbrev pub is_new : Draft → Spot → Bool
is_new draft p = not (has_mark (spots_of draft.left) p.mark)

abbrev pub written_new : Draft → List Written
written_new draft = map (as_written false) (filter (is_new draft) (spots_of draft.right))

abbrev pub written : Draft → List Written
written draft = written_left draft ++ written_new draft
