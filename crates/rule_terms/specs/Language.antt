-- A definition of a language, as rewriting sees it.
use Rattle.std.specs.Prelude.{ℕ, ◌-◌, ◌==◌, cond, List, Option, None, slice_get}
use Rattle.k_terms.specs.Sorts.{SortOrder}
use Rattle.rule_terms.specs.declared.defs.CellShape.{CellShape}
use Rattle.rule_terms.specs.declared.rule.Rule.{Rule}

-- the order of its sorts, its declared cells from cell 0, its rules from rule 1, and its productions' labels from production 1
pub record Language : Type 0 where
  pub sorts : SortOrder
  pub cells : List CellShape
  pub rules : List Rule
  pub labels : List (List ℕ)

-- a rule by its number, from 1
abbrev pub rule_at : Language → ℕ → Option Rule
rule_at d number = cond (number == 0) None (slice_get d.rules (number - 1))

-- the label of a production by its number, from 1
abbrev pub label_at : Language → ℕ → Option (List ℕ)
label_at d production = cond (production == 0) None (slice_get d.labels (production - 1))
