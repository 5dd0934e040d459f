-- The cells in a body, one after another, and their counts.
use Rattle.std.proofs.Common.{◌≡◌, ◌⊎◌, inl, inr, ⊎_elim, ℕ, zero, suc, ◌<◌, Bool, true, false, ◌==◌, ◌||◌, List, [], ◌∷◌, ◌++◌, length, get_or, refl, sym, ap, ◌∙◌, arith}
use Rattle.std.specs.Prelude.{Option, Some}
use Rattle.std.specs.List.{flat_map}
use Rattle.std.proofs.lemmas.Bool.{eq-eqb}
use Rattle.std.proofs.lemmas.List.Folds.{list_any-append}
use denote.Hole.Carrier.{out, roll}
use mathlib.Core.Former.{Count, arity, this}
use Rattle.k_terms.specs.formers.many.Many.{the_former}
use Rattle.rule_terms.specs.declared.pattern.Body.{Body, Cells, Cells', Seq, Map, List as Listed, One, Made, out-Body, roll-Body, roll-out-Body, Row_of-CellPat, end_of-CellPat, more_of-CellPat, items-the_row-CellPat, items_hidden-the_row-CellPat-0}
use Rattle.rule_terms.specs.declared.pattern.Body.TheBlock.{hidden-the_row-CellPat-0, shown-the_row-CellPat-0}
use Rattle.rule_terms.specs.declared.pattern.CellPat.{CellPat}
use Rattle.rule_terms.specs.Spots.{Spot, spots_in, row_spots, has_mark}
use Rattle.rule_terms.specs.CellCounts.{spots_under}

row_is : {n : Count} (above : ℕ) (row : Row_of-CellPat n) → row_spots above row ≡ flat_map (spots_under above) (items-the_row-CellPat n row)
unfolding row_spots
row_is above end_of-CellPat = refl
row_is above (more_of-CellPat cell mark body cells) =
    ap (λ ps. (record { cell = cell; mark = mark; above = Some above; body = body } ∷ spots_in mark body) ++ ps) (row_is above cells)

-- the cells in a body of cells
pub spots_in-Cells : (above : ℕ) (cells : List CellPat) (rest : Option ℕ) → spots_in above (Cells cells rest) ≡ flat_map (spots_under above) cells
unfolding spots_in
spots_in-Cells above cells rest = row_is above (hidden-the_row-CellPat-0 cells) ∙ ap (flat_map (spots_under above)) (items_hidden-the_row-CellPat-0 cells)

pub spots_of_cells : (above : ℕ) (body : Body) (cells lent : List CellPat) (rest : Option ℕ) → body ≡ Cells cells rest → lent ≡ cells
    → spots_in above body ≡ flat_map (spots_under above) lent
spots_of_cells above body cells lent rest is same = ap (spots_in above) is ∙ spots_in-Cells above cells rest ∙ ap (flat_map (spots_under above)) (sym same)

cells_shown : (s : (the_former this).Shape) (row : Row_of-CellPat (arity (the_former this) s)) (rest : Option ℕ) → Cells (shown-the_row-CellPat-0 s row) rest ≡ Cells' s row rest
unfolding out-Body roll-Body out roll
cells_shown s row rest = roll-out-Body (Cells' s row rest)

-- a body of something else has no cells
pub no_spots : (above : ℕ) (body : Body) → ((cells : List CellPat) (rest : Option ℕ) → body ≡ Cells cells rest → ⊥) → spots_in above body ≡ []
unfolding spots_in
no_spots above (Cells' s row rest) other = absurd (other (shown-the_row-CellPat-0 s row) rest (sym (cells_shown s row rest)))
no_spots above (Seq _ _) other = refl
no_spots above (Map _ _) other = refl
no_spots above (Listed _ _ _) other = refl
no_spots above (One _) other = refl
no_spots above (Made _) other = refl

-- ---- a cell with a mark

either : (a b : Bool) → (a ≡ true) ⊎ (b ≡ true) → true ≡ (a || b)
either true b h = refl
either false b (inl e) = cc
either false b (inr e) = sym e

-- it, or one in it, is among these
pub mark_among : (above mark : ℕ) (cells : List CellPat) (i : ℕ) (cell : CellPat) → i < length cells → cell ≡ get_or cells i cell
    → (cell.mark ≡ mark) ⊎ (has_mark (spots_in cell.mark cell.body) mark ≡ true) → true ≡ has_mark (flat_map (spots_under above) cells) mark
mark_among above mark [] i cell within is marks = absurd (omega arith)
mark_among above mark (first ∷ cells) zero cell within is marks =
    let here : true ≡ has_mark (spots_under above cell) mark = either (cell.mark == mark) (has_mark (spots_in cell.mark cell.body) mark) (⊎_elim
    (λ (same : cell.mark ≡ mark). inl (eq-eqb cell.mark mark same)) (λ (inside : has_mark (spots_in cell.mark cell.body) mark ≡ true). inr inside) marks) in
    either (has_mark (spots_under above first) mark) (has_mark (flat_map (spots_under above) cells) mark) (inl (ap (λ (c : CellPat). has_mark (spots_under above c) mark) (sym is) ∙ sym here))
    ∙ sym (list_any-append (λ (p : Spot). p.mark == mark) (spots_under above first) (flat_map (spots_under above) cells))
mark_among above mark (first ∷ cells) (suc i) cell within is marks =
    either (has_mark (spots_under above first) mark) (has_mark (flat_map (spots_under above) cells) mark) (inr (sym (mark_among above mark cells i cell (omega arith) is marks)))
    ∙ sym (list_any-append (λ (p : Spot). p.mark == mark) (spots_under above first) (flat_map (spots_under above) cells))
