-- The cells of a configuration, put in from the last one to the first.
use Rattle.std.proofs.Common.{◌≡◌, ℕ, suc, ◌+◌, ◌-◌, ◌<◌, ◌≤◌, true, List, [], ◌∷◌, drop, length, get_or, refl, sym, ap, ◌∙◌, arith}
use Rattle.std.proofs.lemmas.Bool.Decides.{nat_tests}
use Rattle.std.proofs.Math.Seq.{drop-cons}
use Rattle.std.specs.Prelude.{nat_lt, ℤ}
use Rattle.std.specs.Ordering.{nat_cmp}
use Rattle.std.specs.FinMap.{put}
use Rattle.k_terms.specs.declared.value.Value.{Value}
use Rattle.rule_terms.specs.declared.defs.CellShape.{CellShape}
use Rattle.live_config.specs.declared.cell.Cell.{Cell}
use Rattle.live_config.specs.declared.cell.CellNo.{CellNo}
use Rattle.live_config.specs.Configuration.{Configuration}
use Rattle.live_config.specs.Live.{with_cell}
use Rattle.cell_trees.specs.Trees.{Tree}
use Rattle.cell_trees.specs.Initials.{first_cell, first_cells, initial_of}

module _ (tree : Tree) (program : Value) (input : List ℤ) where
  put_before : (number : ℕ) (cell : Cell) (shapes : List CellShape)
      → put nat_cmp (number + 1) cell (first_cells tree program input (number + 1) shapes)
      ≡ (number + 1, cell) ∷ first_cells tree program input (number + 1) shapes
  put_before number cell [] = refl
  put_before number cell (shape ∷ shapes) =
      let less : nat_lt (number + 1) (number + 1 + 1) ≡ true = search (arith, nat_tests) in
      simp (less) refl

  -- one declared cell more, before those behind it
  put_first : (number : ℕ) (shapes : List CellShape) (d : CellShape) → number < length shapes
      → put nat_cmp (number + 1) (first_cell tree program input number (get_or shapes number d)) (first_cells tree program input (number + 1) (drop (suc number) shapes))
      ≡ first_cells tree program input number (drop number shapes)
  put_first number shapes d less =
      put_before number (first_cell tree program input number (get_or shapes number d)) (drop (suc number) shapes)
      ∙ ap (first_cells tree program input number) (sym (drop-cons shapes number d less))

  none_yet : (number : ℕ) (shapes : List CellShape) → first_cells tree program input number (drop (length shapes) shapes) ≡ []
  none_yet number [] = refl
  none_yet number (shape ∷ shapes) = none_yet number shapes

  all_put : (shapes : List CellShape) → first_cells tree program input 0 (drop 0 shapes) ≡ first_cells tree program input 0 shapes
  all_put [] = refl
  all_put (shape ∷ shapes) = refl

  -- the cells of the declared ones from a number on are there
  abbrev pub HasFrom : ℕ → Configuration → Type 0
  HasFrom number c = c.cells ≡ first_cells tree program input number (drop number tree.shapes)

  pub begun : (shapes : List CellShape) (c : Configuration) → shapes ≡ tree.shapes → c ≡ record { cells = [] } → HasFrom (length shapes) c
  begun shapes c same empty =
      ap (λ (d : Configuration). d.cells) empty
      ∙ sym (none_yet (length shapes) tree.shapes)
      ∙ ap (λ (s : List CellShape). first_cells tree program input (length shapes) (drop (length s) tree.shapes)) (sym same)

  pub goes_on : (n : ℕ) (before after : Configuration) (id : CellNo) (cell : Cell) (shape : CellShape) → 0 < n → n ≤ length tree.shapes
      → HasFrom n before → id ≡ record { 0 = (n - 1) + 1 } → cell ≡ first_cell tree program input (n - 1) shape
      → shape ≡ get_or tree.shapes (n - 1) shape → after ≡ with_cell before id.0 cell → HasFrom (n - 1) after
  goes_on n before after id cell shape some within has id_is cell_is shape_is after_is =
      let more : n ≡ (n - 1) + 1 = omega (arith, some) in
      let next : n ≡ suc (n - 1) = omega (arith, some) in
      let less : n - 1 < length tree.shapes = omega (arith, some, within) in
      ap (λ (c : Configuration). c.cells) after_is
      ∙ (λ i. put nat_cmp ((id_is i).0) (cell_is i) (has i))
      ∙ (λ i. put nat_cmp ((n - 1) + 1) (first_cell tree program input (n - 1) (shape_is i)) (first_cells tree program input (more i) (drop (next i) tree.shapes)))
      ∙ put_first (n - 1) tree.shapes shape less

  pub ended : (n : ℕ) (c : Configuration) → n ≤ 0 → HasFrom n c → c ≡ initial_of tree program input
  ended n c none has =
      let zero_is : n ≡ 0 = omega (arith, none) in
      let all : c.cells ≡ first_cells tree program input 0 tree.shapes = has ∙ ap (λ (k : ℕ). first_cells tree program input k (drop k tree.shapes)) zero_is ∙ all_put tree.shapes in
      λ i. record { cells = all i }
