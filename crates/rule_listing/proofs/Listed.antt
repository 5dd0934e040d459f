-- The cells in a body, by the numbers of their declared cells.
use Rattle.std.proofs.Common.{◌≡◌, ℕ, zero, suc, ◌+◌, ◌<◌, List, [], ◌∷◌, ◌++◌, length, map, take, drop, get_or, refl, sym, ap, ◌∙◌, arith}
use Rattle.std.proofs.lemmas.List.{append-nil, append_assoc}
use Rattle.std.proofs.lemmas.List.{map-append}
use Rattle.std.specs.Prelude.{Option}
use Rattle.std.specs.List.{flat_map}
use Rattle.grammar_terms.specs.Grammar.{Syntax}
use Rattle.rule_terms.specs.declared.defs.CellShape.{CellShape}
use Rattle.rule_terms.specs.declared.rule.Rule.{Rule}
use Rattle.rule_terms.specs.declared.pattern.Body.{Body, Cells}
use Rattle.rule_terms.specs.declared.pattern.CellPat.{CellPat}
use Rattle.rule_terms.specs.Spots.{Spot, spots, spots_in}
use Rattle.rule_terms.specs.CellCounts.{spots_under}
use Rattle.rule_terms.proofs.SpotCounts.{spots_of_cells, no_spots}
use Rattle.rule_listing.specs.Lines.{cells_of, rule_line, lines_from}

abbrev cell_in : Spot → ℕ
cell_in p = p.cell

under : (above : ℕ) (cells : List CellPat) → map cell_in (flat_map (spots_under above) cells) ≡ cells_of cells
under above [] = refl
under above (c ∷ cs) = map-append cell_in (spots_under above c) (flat_map (spots_under above) cs) ∙ ap (λ ns. map cell_in (spots_under above c) ++ ns) (under above cs)

pub cells_in : (above : ℕ) (body : Body) (cells lent : List CellPat) (rest : Option ℕ) → body ≡ Cells cells rest → lent ≡ cells
    → cells_of lent ≡ map cell_in (spots_in above body)
cells_in above body cells lent rest is same = sym (ap (map cell_in) (spots_of_cells above body cells lent rest is same) ∙ under above lent)

pub none_in : (above : ℕ) (body : Body) → ((cells : List CellPat) (rest : Option ℕ) → body ≡ Cells cells rest → ⊥) → map cell_in (spots_in above body) ≡ []
none_in above body other = ap (map cell_in) (no_spots above body other)

one_more : (i : ℕ) → i + 1 ≡ suc i
one_more i = omega arith

cells_to : (cells : List CellPat) (i : ℕ) (cell : CellPat) → i < length cells → cell ≡ get_or cells i cell → cells_of (take (suc i) cells) ≡ cells_of (take i cells) ++ map cell_in (spots cell)
cells_to [] i cell within is = absurd (omega arith)
cells_to (c ∷ cs) zero cell within is = append-nil (map cell_in (spots c)) ∙ ap (λ (d : CellPat). map cell_in (spots d)) (sym is)
cells_to (c ∷ cs) (suc i) cell within is = ap (λ ns. map cell_in (spots c) ++ ns) (cells_to cs i cell (omega arith) is) ∙ sym (append_assoc (map cell_in (spots c)) (cells_of (take i cs)) (map cell_in (spots cell)))

-- cells up to one more
pub cells_next : (cells : List CellPat) (i : ℕ) (cell : CellPat) → i < length cells → cell ≡ get_or cells i cell → cells_of (take (i + 1) cells) ≡ cells_of (take i cells) ++ map cell_in (spots cell)
cells_next cells i cell within is = ap (λ n. cells_of (take n cells)) (one_more i) ∙ cells_to cells i cell within is

lines_to : {A : Type 0} (rule_of : A → Rule) (g : Syntax) (cells : List CellShape) (items : List A) (i n : ℕ) (item : A) → i < length items → item ≡ get_or items i item
    → lines_from g cells n (drop i (map rule_of items)) ≡ rule_line g cells n (rule_of item) ++ lines_from g cells (n + 1) (drop (suc i) (map rule_of items))
lines_to rule_of g cells [] i n item within is = absurd (omega arith)
lines_to rule_of g cells (d ∷ ds) zero n item within is = ap (λ e. rule_line g cells n (rule_of e) ++ lines_from g cells (n + 1) (map rule_of ds)) (sym is)
lines_to rule_of g cells (d ∷ ds) (suc i) n item within is = lines_to rule_of g cells ds i n item (omega arith) is

-- the lines from a rule on
pub lines_next : {A : Type 0} (rule_of : A → Rule) (g : Syntax) (cells : List CellShape) (items : List A) (i n : ℕ) (item : A) → i < length items → item ≡ get_or items i item
    → lines_from g cells n (drop i (map rule_of items)) ≡ rule_line g cells n (rule_of item) ++ lines_from g cells (n + 1) (drop (i + 1) (map rule_of items))
lines_next rule_of g cells items i n item within is =
    lines_to rule_of g cells items i n item within is ∙ ap (λ k. rule_line g cells n (rule_of item) ++ lines_from g cells (n + 1) (drop k (map rule_of items))) (sym (one_more i))

-- the same of lists that grow
pub cells_kept : (cells : List CellPat) (i : ℕ) (cell : CellPat) (old before now : List ℕ) → i < length cells → cell ≡ get_or cells i cell
    → before ≡ old ++ cells_of (take i cells) → now ≡ before ++ map cell_in (spots cell) → now ≡ old ++ cells_of (take (i + 1) cells)
cells_kept cells i cell old before now within is had has =
    has ∙ ap (λ ns. ns ++ map cell_in (spots cell)) had ∙ append_assoc old (cells_of (take i cells)) (map cell_in (spots cell))
    ∙ ap (λ ns. old ++ ns) (sym (cells_next cells i cell within is))

-- lines up to one more
pub lines_kept : {A : Type 0} (rule_of : A → Rule) (g : Syntax) (cells : List CellShape) (items : List A) (i n : ℕ) (item : A) (rule : Rule) (before now whole : List ℕ)
    → i < length items → item ≡ get_or items i item → rule ≡ rule_of item
    → before ++ lines_from g cells n (drop i (map rule_of items)) ≡ whole → now ≡ before ++ rule_line g cells n rule
    → now ++ lines_from g cells (n + 1) (drop (i + 1) (map rule_of items)) ≡ whole
lines_kept rule_of g cells items i n item rule before now whole within is same had has =
    ap (λ ns. ns ++ lines_from g cells (n + 1) (drop (i + 1) (map rule_of items))) (has ∙ ap (λ r. before ++ rule_line g cells n r) same)
    ∙ append_assoc before (rule_line g cells n (rule_of item)) (lines_from g cells (n + 1) (drop (i + 1) (map rule_of items)))
    ∙ ap (λ ns. before ++ ns) (sym (lines_next rule_of g cells items i n item within is)) ∙ had
