-- What follows at once from the soundness of a definition.
use Rattle.std.proofs.Common.{◌≡◌, inl, inr, ℕ, zero, Bool, true, false, ◌==◌, ◌&&◌, ◌||◌, List, ◌++◌, refl, sym, ap, ◌∙◌, arith}
use Rattle.std.proofs.lemmas.Bool.{eqb-true}
use Rattle.std.proofs.lemmas.List.Folds.{list_any-append}
use Rattle.std.specs.Prelude.{Option, Some, None, Contains, slice_get, nat_lt}
use Rattle.std.specs.Option.{option_map, option_map_or}
use Rattle.rule_terms.specs.declared.defs.CellShape.{CellShape}
use Rattle.rule_terms.specs.declared.pattern.CellPat.{CellPat}
use Rattle.rule_terms.specs.Language.{Language}
use Rattle.rule_terms.specs.Spots.{Spot, spots}
use Rattle.rule_terms.specs.Sound.{is_placed_shape, has_cells, body_mentions, side_mentions, conditions_mention, IsPlaced, IsSound}
use Rattle.rule_terms.specs.Laws.{SidesAreTheRoot, VariablesAreBound}
use Rattle.rule_terms.proofs.Defined.{one_of}

-- the first cell of a side is the cell of the side itself
first_spot : (p : CellPat) → Spot
first_spot p = record { cell = p.cell; mark = p.mark; above = None; body = p.body }

stands_first : (p : CellPat) → Contains (spots p) (first_spot p)
unfolding first_spot
stands_first p = (zero, omega arith, refl)

-- a declared cell without a parent is cell 0
rootless : (shapes : List CellShape) (n : ℕ) (shape : CellShape) → shape.parent ≡ None → is_placed_shape shapes n shape ≡ true → n ≡ 0
rootless shapes n shape alone placed =
    eqb-true n 0
    (ap (λ (o : Option ℕ). elim o [ None ↦ n == 0 | Some m ↦ nat_lt m n && option_map_or (λ (s : CellShape). has_cells s.kind) (slice_get shapes m) false ]) (sym alone) ∙ placed)

no_parent : (parent : Option ℕ) → None ≡ option_map (λ (n : ℕ). Some n) parent → parent ≡ None
no_parent None e = refl
no_parent (Some n) e = cc

root_cell : (d : Language) (vars : List ℕ) (side : CellPat) → IsSound d → ((p : Spot) → Contains (spots side) p → IsPlaced d vars (spots side) p) → side.cell ≡ 0
unfolding first_spot
root_cell d vars side sound placed =
    let at = placed (first_spot side) (stands_first side) in
    rootless d.cells side.cell at.shape (no_parent at.shape.parent at.parent) (sound.tree side.cell at.shape at.declared)

pub sides_are_the_root : SidesAreTheRoot
sides_are_the_root d r sound has =
    let rule = sound.rules r has in
    (root_cell d r.vars r.left sound rule.cells.left_placed, root_cell d r.vars r.right sound rule.cells.right_placed, rule.cells.one_root)

either : (a b : Bool) → b ≡ true → (a || b) ≡ true
either true b e = refl
either false b e = e

first : (a b : Bool) → a ≡ true → (a || b) ≡ true
first true b e = refl
first false b e = cc

pub variables_are_bound : VariablesAreBound
variables_are_bound d r x sound has stands =
    let variables = (sound.rules r has).variables in
    let on_left = side_mentions x (spots r.left) in
    let on_right = side_mentions x (spots r.right) in
    let parted = list_any-append (λ (p : Spot). body_mentions x p.body) (spots r.left) (spots r.right) in
    variables.bound x (variables.known x (elim (one_of on_right (conditions_mention x r.when) stands) [
      | inl right ↦ first (side_mentions x (spots r.left ++ spots r.right)) (conditions_mention x r.when) (parted ∙ either on_left on_right right)
      | inr condition ↦ either (side_mentions x (spots r.left ++ spots r.right)) (conditions_mention x r.when) condition
    ]))
