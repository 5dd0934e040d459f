-- How a draft fits declared cells.
use Rattle.std.specs.Prelude.{◌≡◌, ℕ, Bool, ◌==◌, ◌&&◌, ◌||◌, not, List, ◌++◌, filter, Some, None, IsTrue, Contains, slice_get}
use Rattle.std.specs.List.{list_any}
use Rattle.k_terms.specs.Sorts.{SortOrder, Below, sort_bag}
use Rattle.rule_terms.specs.declared.defs.CellShape.{CellShape}
use Rattle.rule_terms.specs.declared.defs.Kind.TheVariants.{One as OneKind}
use Rattle.rule_terms.specs.declared.pattern.Pattern.{Pattern}
use Rattle.rule_terms.specs.declared.pattern.Body.{One}
use Rattle.rule_terms.specs.declared.rule.Draft.{Draft}
use Rattle.rule_terms.specs.Patterns.{cond_mentions, body_rest, parts_mention, is_rest}
use Rattle.rule_terms.specs.Sound.{is_body_of, sort_of, cells_rest}
use Rattle.rule_terms.specs.Spots.{Spot}
use Rattle.strictness.specs.SoundDrafts.{spots_of}
use Rattle.cell_trees.specs.Trees.{Tree as Declaration}
use Rattle.rule_completion.specs.Writing.{is_new}

-- a cell is of its declared kind, and a single value's sort is below the cell's
pub record IsOfItsKind (d : Declaration) (o : SortOrder) (vars : List ℕ) (p : Spot) : Type 0 where
  pub shape : CellShape
  pub declared : slice_get d.shapes p.cell ≡ Some shape
  pub kind : IsTrue (is_body_of shape.kind p.body)
  pub value : (q : Pattern) (sort : ℕ) → p.body ≡ One q → shape.kind ≡ OneKind sort → (least : ℕ) × (sort_of o vars q ≡ Some least) × Below o least sort

-- a variable occurs in a draft outside the cell with a mark, or beside the rest in it
abbrev pub occurs_beside : Draft → ℕ → ℕ → Bool
occurs_beside draft mark x =
    list_any (λ (p : Spot). parts_mention x p.body || (not (p.mark == mark) && is_rest x (body_rest p.body))) (spots_of draft.left ++ spots_of draft.right)
    || list_any (cond_mentions x) draft.when

-- Each cell is of its declared kind; a cell of both sides stands in one cell; a new one has no rest of cells, and a rest of
-- cells stands in one cell alone.
pub record FitsCells (d : Declaration) (o : SortOrder) (draft : Draft) : Type 0 where
  pub kinds : (p : Spot) → Contains (spots_of draft.left ++ spots_of draft.right) p → IsOfItsKind d o draft.vars p
  pub above : (p q : Spot) → Contains (spots_of draft.left) p → Contains (spots_of draft.right) q → p.mark ≡ q.mark → p.above ≡ q.above
  pub new_closed : (q : Spot) → Contains (filter (is_new draft) (spots_of draft.right)) q → cells_rest q.body ≡ None
  pub rests : (p : Spot) (x : ℕ) → Contains (spots_of draft.left) p → cells_rest p.body ≡ Some x
      → (slice_get draft.vars x ≡ Some sort_bag) × IsTrue (not (occurs_beside draft p.mark x))
