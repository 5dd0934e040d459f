-- The laws of sound rules: what a right cell builds is of its kind, what a match binds is well formed, both sides are
-- the root, and each variable is bound.
use Rattle.std.specs.Prelude.{◌≡◌, ℕ, ◌||◌, Some, IsSome, IsTrue, Contains, slice_get}
use Rattle.k_terms.specs.declared.value.Content.{Content}
use Rattle.rule_terms.specs.declared.defs.CellShape.{CellShape}
use Rattle.rule_terms.specs.declared.rule.Rule.{Rule}
use Rattle.rule_terms.specs.Substitution.{Subst, cells_of, AreOfSorts}
use Rattle.rule_terms.specs.Fill.{content_of}
use Rattle.rule_terms.specs.Language.{Language}
use Rattle.rule_terms.specs.Spots.{Spot, spots}
use Rattle.rule_terms.specs.Sound.{cells_rest, side_mentions, conditions_mention, IsSoundRule, IsSound}
use Rattle.rule_terms.specs.Kinds.{IsOfKind, AllFormed}

-- where well-formed values of the variables' sorts stand for the variables, a right cell's content is of its declared kind
abbrev pub ContentsAreOfKind : Type 0
ContentsAreOfKind =
    (d : Language) (r : Rule) (s : Subst) (p : Spot) (shape : CellShape) (content : Content)
    → IsSoundRule d r
    → AreOfSorts d.sorts r.vars s
    → AllFormed s
    → Contains (spots r.right) p
    → slice_get d.cells p.cell ≡ Some shape
    → content_of p.body s ≡ Some content
    → IsOfKind d.sorts shape.kind content

-- a cell of a side has a content of its declared kind, and its rest of cells stands for cells
pub record HasLawfulContent (d : Language) (s : Subst) (p : Spot) : Type 0 where
  pub shape : CellShape
  pub content : Content
  pub declared : slice_get d.cells p.cell ≡ Some shape
  pub filled : content_of p.body s ≡ Some content
  pub kind : IsOfKind d.sorts shape.kind content
  pub further : IsSome (cells_of (cells_rest p.body) s)

-- where each left cell has a content of its declared kind, well-formed values stand for the variables
abbrev pub BoundValuesAreFormed : Type 0
BoundValuesAreFormed =
    (d : Language) (r : Rule) (s : Subst)
    → IsSoundRule d r
    → AreOfSorts d.sorts r.vars s
    → ((p : Spot) → Contains (spots r.left) p → HasLawfulContent d s p)
    → AllFormed s

-- both sides of a rule are the root, with one mark
abbrev pub SidesAreTheRoot : Type 0
SidesAreTheRoot =
    (d : Language) (r : Rule) → IsSound d → Contains d.rules r
    → (r.left.cell ≡ 0) × (r.right.cell ≡ 0) × (r.left.mark ≡ r.right.mark)

-- what stands on the right or in a condition stands on the left
abbrev pub VariablesAreBound : Type 0
VariablesAreBound =
    (d : Language) (r : Rule) (x : ℕ) → IsSound d → Contains d.rules r
    → IsTrue (side_mentions x (spots r.right) || conditions_mention x r.when)
    → IsTrue (side_mentions x (spots r.left))
