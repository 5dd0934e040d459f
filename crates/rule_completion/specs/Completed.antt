-- The rule that a draft is completed to.
use Rattle.std.specs.Prelude.{◌≡◌, ℕ, suc, ◌+◌, Bool, true, false, not, ◌==◌, ◌&&◌, cond, List, [], ◌∷◌, ◌++◌, length, filter, replicate, Some, None}
use Rattle.std.specs.List.{flat_map, list_any}
use Rattle.k_terms.specs.Sorts.{sort_bag}
use Rattle.rule_terms.specs.declared.pattern.Body.{Body, Cells, Cells', Seq, Map, List as Listed, One, Made}
use Rattle.rule_terms.specs.declared.pattern.CellPat.{CellPat, roll-CellPat}
use Rattle.rule_terms.specs.declared.rule.Draft.{Draft}
use Rattle.rule_terms.specs.declared.rule.Rule.{Rule}
use Rattle.rule_terms.specs.Spots.{has_mark}
use Rattle.live_config.specs.Footprint.{body_of_mark}
use Rattle.strictness.specs.SoundDrafts.{spots_of}
use Rattle.cell_completion.specs.declared.tree.Tree.{Tree, Tree', out-Tree, Row_of-Tree, end_of-Tree, more_of-Tree}
use Rattle.cell_trees.specs.Trees.{Tree as Declaration}
use Rattle.cell_trees.specs.Defaults.{children_of, default_of}
use Rattle.rule_completion.specs.Numbering.{count, added_mark, default_marks}

abbrev pub cell_with : ℕ → ℕ → Body → CellPat
cell_with cell mark body = roll-CellPat (record { cell = cell; mark = mark; body = body })

abbrev pub is_of : ℕ → CellPat → Bool
is_of cell p = p.cell == cell

abbrev pub has_cell : ℕ → List CellPat → Bool
has_cell cell cells = list_any (is_of cell) cells

-- The cells in a new one, with the declared cells that are missing, in declared order.
abbrev pub child_or_default : Declaration → ℕ → List CellPat → ℕ → List CellPat
child_or_default d more inside child =
    cond (has_cell child inside) (filter (is_of child) inside) (default_of d more child ∷ [])

abbrev pub with_defaults : Declaration → ℕ → ℕ → List CellPat → List CellPat
with_defaults d more cell inside = flat_map (child_or_default d more inside) (children_of d cell)

-- a body of cells has these cells
abbrev pub with_inside : Body → List CellPat → Body
with_inside (Cells' _ _ rest) inside = Cells inside rest
with_inside (Seq parts rest) inside = Seq parts rest
with_inside (Map entries rest) inside = Map entries rest
with_inside (Listed before rest after) inside = Listed before rest after
with_inside (One p) inside = One p
with_inside (Made p) inside = Made p

abbrev pub inside_trees : Tree → List Tree
inside_trees t = (out-Tree t).inside

abbrev pub forest : Draft → Bool → List CellPat
forest draft left = cond left draft.left draft.right

abbrev pub is_new_mark : Draft → Bool → ℕ → Bool
is_new_mark draft left mark = not left && not (has_mark (spots_of draft.left) mark)

-- An added cell has a rest of its own, and a written one is as it is written. Where it is new, it has the declared cells too
-- that it does not write.
abbrev pub added_cell : Draft → ℕ → ℕ → List CellPat → List CellPat
added_cell draft number cell inside = cell_with cell (added_mark number) (Cells inside (Some (length draft.vars + number))) ∷ []

abbrev pub inside_of : Declaration → Draft → ℕ → Bool → ℕ → ℕ → List CellPat → List CellPat
inside_of d draft total left mark cell inside = cond (is_new_mark draft left mark) (with_defaults d (default_marks total mark) cell inside) inside

abbrev pub written_cell : Declaration → Draft → ℕ → Bool → ℕ → ℕ → List CellPat → List CellPat
written_cell d draft total left mark cell inside =
    elim (body_of_mark (spots_of (forest draft left)) mark) [
      | None ↦ []
      | Some body ↦ cell_with cell mark (with_inside body (inside_of d draft total left mark cell inside)) ∷ []
    ]

-- The cells of a tree that are on a side, with the added ones numbered from a number on. The completion has so many of these.
module _ (d : Declaration) (draft : Draft) (total : ℕ) (left : Bool) where
  unfoldable mutual
    pub on_side : ℕ → Tree → List CellPat
    on_side number (Tree' cell None held inside) = added_cell draft number cell (row_on_side (suc number) inside)
    on_side number (Tree' cell (Some mark) held inside) = written_cell d draft total left mark cell (row_on_side number inside)

    pub row_on_side : {n : _} → ℕ → Row_of-Tree n → List CellPat
    row_on_side number end_of-Tree = []
    row_on_side number (more_of-Tree t ts) = on_side number t ++ row_on_side (number + count t) ts

  -- those of a list of trees
  abbrev pub all_on_side : ℕ → List Tree → List CellPat
  all_on_side number [] = []
  all_on_side number (t ∷ ts) = on_side number t ++ all_on_side (number + count t) ts

-- the root is on a side
abbrev pub HasRoot : Declaration → Draft → Bool → Tree → Type 0
HasRoot d draft left whole = (root : CellPat) × (on_side d draft (count whole) left 0 whole ≡ root ∷ [])

-- The rule that a draft is with this completion.
pub record IsCompletedBy (d : Declaration) (draft : Draft) (whole : Tree) (rule : Rule) : Type 0 where
  pub origin : rule.origin ≡ draft.origin
  pub vars : rule.vars ≡ draft.vars ++ replicate (count whole) sort_bag
  pub left : on_side d draft (count whole) true 0 whole ≡ rule.left ∷ []
  pub right : on_side d draft (count whole) false 0 whole ≡ rule.right ∷ []
  pub when : rule.when ≡ draft.when
