-- One declared cell, and one written cell, after the other.
use Rattle.std.proofs.Common.{◌≡◌, ℕ, zero, suc, ◌+◌, ◌-◌, ◌<◌, ◌≤◌, List, [], ◌∷◌, drop, length, get_or, Some, None, refl, ap, ◌∙◌, arith}
use Rattle.std.specs.Option.{option_and_then}
use Rattle.std.proofs.Math.Seq.{drop-cons}
use Rattle.rule_terms.specs.declared.defs.CellShape.{CellShape}
use Rattle.cell_completion.specs.declared.tree.Written.{Written}
use Rattle.cell_completion.specs.declared.tree.Tree.{Tree}
use Rattle.cell_completion.specs.Building.{stage, stages, with_cell, built}

module _ (shapes : List CellShape) where
  pub stages_step : (first cell : ℕ) (ts : List Tree) → first < cell
      → stages shapes first (cell - first) ts ≡ option_and_then (stages shapes first ((cell - 1) - first)) (stage shapes (cell - 1) ts)
  stages_step first cell ts less =
      let count : cell - first ≡ suc ((cell - 1) - first) = omega (arith, less) in
      let here : first + ((cell - 1) - first) ≡ cell - 1 = omega (arith, less) in
      ap (λ (k : ℕ). stages shapes first k ts) count ∙ ap (λ (c : ℕ). option_and_then (stages shapes first ((cell - 1) - first)) (stage shapes c ts)) here

  pub stages_end : (first cell : ℕ) (ts : List Tree) → cell ≤ first → stages shapes first (cell - first) ts ≡ Some ts
  stages_end first cell ts past =
      let none : cell - first ≡ 0 = omega (arith, past) in
      ap (λ (k : ℕ). stages shapes first k ts) none

  -- ---- written cells, the last one first

  pub built_begins : (ws : List Written) → built shapes (drop (length ws) ws) ≡ Some []
  built_begins [] = refl
  built_begins (w ∷ ws) = built_begins ws

  pub built_step : (ws : List Written) (i : ℕ) (d : Written) → i < length ws
      → built shapes (drop i ws) ≡ option_and_then (with_cell shapes (get_or ws i d)) (built shapes (drop (suc i) ws))
  built_step ws i d less = ap (built shapes) (drop-cons ws i d less)

  pub built_none : (ws : List Written) (i : ℕ) → built shapes (drop i ws) ≡ None → built shapes ws ≡ None
  built_none [] zero e = e
  built_none [] (suc i) e = e
  built_none (w ∷ ws) zero e = e
  built_none (w ∷ ws) (suc i) e = ap (option_and_then (with_cell shapes w)) (built_none ws i e)

  pub built_all : (ws : List Written) → built shapes (drop 0 ws) ≡ built shapes ws
  built_all [] = refl
  built_all (w ∷ ws) = refl
