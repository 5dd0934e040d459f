-- What is said of a draft, from what is said of its parts.
use Rattle.std.proofs.Common.{◌≡◌, subst}
use Rattle.std.specs.Prelude.{List, Result, Ok, Err, IfErr}
use Rattle.rule_terms.specs.declared.defs.CellShape.{CellShape}
use Rattle.rule_terms.specs.declared.rule.Draft.{Draft}
use Rattle.rule_terms.specs.declared.rule.Rule.{Rule}
use Rattle.cell_completion.specs.declared.tree.Written.{Written}
use Rattle.cell_completion.specs.Completion.{NoneMisplaced}
use Rattle.cell_trees.specs.Trees.{Tree as Declaration}
use Rattle.rule_completion.specs.declared.refusal.NoCompletion.{NoCompletion}
use Rattle.rule_completion.specs.declared.refusal.NoCompletion.TheVariants.{Misplaced, Unclear, PatternCells, NewCells, Memory}
use Rattle.rule_completion.specs.Writing.{written}
use Rattle.rule_completion.specs.Rules.{HasRule, IsOverLimit, IsNotCompleted}

pub moved : (P : List CellShape → List Written → Type 0) (shapes other : List CellShape) (ws more : List Written)
    → shapes ≡ other → ws ≡ more → P shapes ws → P other more
moved P shapes other ws more same alike p = subst (P other) alike (subst (λ s. P s ws) same p)

module _ (d : Declaration) (draft : Draft) (rule : Rule) (placed : NoneMisplaced d.shapes (written draft)) (has : HasRule d draft rule) where
  over_is_refused : (why : NoCompletion) → IsOverLimit rule why → IsNotCompleted d draft why
  over_is_refused (Misplaced cell) over = absurd over
  over_is_refused Unclear over = absurd over
  over_is_refused (PatternCells n) over = record { placed = placed; rule = rule; has = has; over = over }
  over_is_refused (NewCells n) over = record { placed = placed; rule = rule; has = has; over = over }
  over_is_refused Memory over = tt

  pub refused_over : (r : Result Rule NoCompletion) → IfErr r (IsOverLimit rule) → IfErr r (IsNotCompleted d draft)
  refused_over (Ok limited) over = tt
  refused_over (Err why) over = over_is_refused why over
