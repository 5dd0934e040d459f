-- The cells of a rule's side as a flat list, in pre-order.
use Rattle.std.specs.Prelude.{ℕ, Bool, false, ◌==◌, ◌&&◌, ◌||◌, not, List, [], ◌∷◌, ◌++◌, Option, Some, None, map, filter, cond}
use Rattle.std.specs.List.{list_any, flat_map}
use Rattle.rule_terms.specs.declared.pattern.Pattern.{Pattern}
use Rattle.rule_terms.specs.declared.pattern.Body.{Body, Cells', Map, Row_of-CellPat, end_of-CellPat, more_of-CellPat}
use Rattle.rule_terms.specs.declared.pattern.CellPat.{CellPat}
use Rattle.rule_terms.specs.declared.rule.Rule.{Rule}
use Rattle.rule_terms.specs.Patterns.{is_rest, cond_mentions, body_rest, parts_mention}

-- a cell of a side: its declared cell, its mark, the mark of the cell around it, and its body
pub record Spot : Type 0 where
  pub cell : ℕ
  pub mark : ℕ
  pub above : Option ℕ
  pub body : Body

unfoldable mutual
  pub spots_in : ℕ → Body → List Spot
  spots_in above (Cells' _ children _) = row_spots above children
  spots_in above _ = []

  pub row_spots : {n : _} → ℕ → Row_of-CellPat n → List Spot
  row_spots above end_of-CellPat = []
  row_spots above (more_of-CellPat cell mark body cells) =
      (record { cell = cell; mark = mark; above = Some above; body = body } ∷ spots_in mark body) ++ row_spots above cells

abbrev pub spots : CellPat → List Spot
spots p = record { cell = p.cell; mark = p.mark; above = None; body = p.body } ∷ spots_in p.mark p.body

-- the marks of the cells that stand directly in a body
abbrev pub row_marks : {n : _} → Row_of-CellPat n → List ℕ
row_marks end_of-CellPat = []
row_marks (more_of-CellPat _ mark _ cells) = mark ∷ row_marks cells

abbrev pub child_marks : Body → List ℕ
child_marks (Cells' _ children _) = row_marks children
child_marks _ = []

abbrev pub has_mark : List Spot → ℕ → Bool
has_mark ps mark = list_any (λ (p : Spot). p.mark == mark) ps

-- the new cells of a rule: those of the right side whose marks are not on the left
abbrev pub new_spots : Rule → List Spot
new_spots r = filter (λ (p : Spot). not (has_mark (spots r.left) p.mark)) (spots r.right)

-- what the cells with a mark are: the numbers beside the spots
abbrev pub number_of : List Spot → List ℕ → ℕ → Option ℕ
number_of [] ns mark = None
number_of (p ∷ ps) [] mark = None
number_of (p ∷ ps) (n ∷ ns) mark = cond (p.mark == mark) (Some n) (number_of ps ns mark)

-- the patterns of the keys of the left map entries, in order
abbrev pub keys_in : Body → List Pattern
keys_in (Map entries _) = map (λ e. e.0) entries
keys_in _ = []

abbrev pub key_patterns : List Spot → List Pattern
key_patterns ps = flat_map (λ (p : Spot). keys_in p.body) ps

-- the rest of a cell occurs elsewhere in the rule: in a cell of another mark, in a condition, or beside the rest in the cell itself
abbrev pub occurs_elsewhere : Rule → ℕ → ℕ → Bool
occurs_elsewhere r mark x =
    list_any (λ (p : Spot). parts_mention x p.body || (not (p.mark == mark) && is_rest x (body_rest p.body))) (spots r.left ++ spots r.right)
    || list_any (cond_mentions x) r.when

abbrev pub rest_elsewhere : Rule → ℕ → Option ℕ → Bool
rest_elsewhere r mark None = false
rest_elsewhere r mark (Some x) = occurs_elsewhere r mark x
