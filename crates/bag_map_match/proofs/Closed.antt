-- A body of cells, closed or open, and the marks of the cells in it.
use Rattle.std.proofs.Common.{◌≡◌, ◌↔◌, ℕ, not, List, [], ◌∷◌, map, filter, Option, Some, None, refl, sym, ap, subst, ◌∙◌}
use mathlib.Core.Former.{Count}
use Rattle.rule_terms.specs.declared.pattern.Body.{Body, Cells, Row_of-CellPat, end_of-CellPat, more_of-CellPat, items-the_row-CellPat, items_hidden-the_row-CellPat-0}
use Rattle.rule_terms.specs.declared.pattern.Body.TheBlock.{hidden-the_row-CellPat-0}
use Rattle.rule_terms.specs.declared.pattern.CellPat.{CellPat}
use Rattle.rule_terms.specs.Numbers.{has_number}
use Rattle.rule_terms.specs.Spots.{Spot, row_marks}
use Rattle.live_config.specs.Configuration.{Configuration, below}
use Rattle.live_config.specs.Firing.{numbers_of}
use Rattle.bag_map_match.specs.Lent.{marks_of}
use Rattle.bag_map_match.specs.Matching.{HasNoOthers, AreNamed}

row_is : {n : Count} (row : Row_of-CellPat n) → row_marks row ≡ marks_of (items-the_row-CellPat n row)
row_is end_of-CellPat = refl
row_is (more_of-CellPat cell mark body cells) = ap (λ ms. mark ∷ ms) (row_is cells)

marks_are : (cells : List CellPat) → row_marks (hidden-the_row-CellPat-0 cells) ≡ marks_of cells
marks_are cells = row_is (hidden-the_row-CellPat-0 cells) ∙ ap marks_of (items_hidden-the_row-CellPat-0 cells)

-- where a body has no rest, its cell has no others just where each child is named
pub closed_is : (c : Configuration) (ps : List Spot) (ns : List ℕ) (body : Body) (cells lent : List CellPat) (rest : Option ℕ) (n : ℕ) → body ≡ Cells cells rest → rest ≡ None → lent ≡ cells
    → (AreNamed c ps ns (marks_of lent) n → HasNoOthers c ps ns body n) × (HasNoOthers c ps ns body n → AreNamed c ps ns (marks_of lent) n)
closed_is c ps ns body cells lent rest n is none lends =
    let whole : body ≡ Cells cells None = is ∙ ap (Cells cells) none in
    let named : marks_of lent ≡ row_marks (hidden-the_row-CellPat-0 cells) = ap marks_of lends ∙ sym (marks_are cells) in (
      (λ h. subst (λ b. HasNoOthers c ps ns b n) (sym whole) (subst (λ ms. AreNamed c ps ns ms n) named h)),
      (λ h. subst (λ ms. AreNamed c ps ns ms n) (sym named) (subst (λ b. HasNoOthers c ps ns b n) whole h)),
    )
