-- The cells of a rule's side, as they are lent out of the rule.
use Rattle.std.specs.Prelude.{ℕ, List, map}
use Rattle.rule_terms.specs.declared.pattern.CellPat.{CellPat}
use Rattle.rule_terms.specs.Spots.{Spot}
use Rattle.bag_map_match.specs.declared.spots.Spot.{Spot as Lent}

abbrev pub spot_of : Lent → Spot
spot_of p = record { cell = p.cell; mark = p.mark; above = p.above; body = p.body.now }

abbrev pub listed : List Lent → List Spot
listed ps = map spot_of ps

abbrev pub marks_of : List CellPat → List ℕ
marks_of cells = map (λ (p : CellPat). p.mark) cells
