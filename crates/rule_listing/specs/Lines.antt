-- The lines of rules.
use Rattle.std.specs.Prelude.{ℕ, ◌+◌, List, [], ◌∷◌, ◌++◌, map, slice_get, codes}
use Rattle.std.specs.Option.{option_map_or}
use Rattle.std.specs.List.{flat_map}
use Rattle.std.specs.Fmt.{decimal}
use Rattle.grammar_terms.specs.Grammar.{Syntax, production_at, label_of}
use Rattle.rule_terms.specs.declared.defs.CellShape.{CellShape}
use Rattle.rule_terms.specs.declared.pattern.CellPat.{CellPat}
use Rattle.rule_terms.specs.declared.rule.Rule.{Rule}
use Rattle.rule_terms.specs.declared.rule.Origin.{Origin}
use Rattle.rule_terms.specs.declared.rule.Origin.TheVariants.{Written, Heat, Cool}
use Rattle.rule_terms.specs.Spots.{Spot, spots}
use Rattle.printed_form.specs.Pieces.{joined_by}

-- a line feed
abbrev pub line_end : List ℕ
line_end = 10 ∷ []

-- cells, each with those in it behind it, by the numbers of their declared cells
abbrev pub cells_of : List CellPat → List ℕ
cells_of side = flat_map (λ (c : CellPat). map (λ (p : Spot). p.cell) (spots c)) side

-- the name of a declared cell
abbrev pub cell_name : List CellShape → ℕ → List ℕ
cell_name cells cell = option_map_or (λ (shape : CellShape). shape.name) (slice_get cells cell) []

-- the label of a production
abbrev pub label_at : Syntax → ℕ → List ℕ
label_at g p = option_map_or (label_of g.names) (production_at g.prods p) []

abbrev pub place_text : List ℕ → Syntax → ℕ → ℕ → List ℕ
place_text word g p place = word ++ label_at g p ++ codes " " ++ decimal place

-- where a rule comes from: the names of the cells on its left side, or a place of a production
abbrev pub origin_text : Syntax → List CellShape → CellPat → Origin → List ℕ
origin_text g cells left (Written at) = codes "rule " ++ joined_by (codes ",") (map (cell_name cells) (map (λ (p : Spot). p.cell) (spots left)))
origin_text g cells left (Heat p place) = place_text (codes "heat ") g p place
origin_text g cells left (Cool p place) = place_text (codes "cool ") g p place

-- the line of a rule with a number
abbrev pub rule_line : Syntax → List CellShape → ℕ → Rule → List ℕ
rule_line g cells number rule = decimal number ++ codes " " ++ origin_text g cells rule.left rule.origin ++ line_end

-- the lines of rules, numbered from one on
abbrev pub lines_from : Syntax → List CellShape → ℕ → List Rule → List ℕ
lines_from g cells number [] = []
lines_from g cells number (rule ∷ rules) = rule_line g cells number rule ++ lines_from g cells (number + 1) rules
