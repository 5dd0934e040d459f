-- The operators of a shape, one layer at a time.
use Rattle.std.proofs.Common.{ℕ, ◌≡◌, ◌||◌, Bool, false, List, [], ◌∷◌, map, Option, refl, sym, ap, ◌∙◌}
use Rattle.std.specs.List.{list_any}
use denote.Hole.Carrier.{out}
use Rattle.grammar_terms.specs.declared.shape.Shape.{Shape, Shape-F, Leaf, Node, Items, Node', Items', Row_of-Shape, end_of-Shape, more_of-Shape, out-Shape, items-the_row-Shape, items_shown-the_row-Shape-0}
use Rattle.grammar_terms.specs.declared.shape.Shape.TheVariants.{outs-Node, outs-Items}
use Rattle.grammar_terms.specs.declared.shape.Shape.TheOpen.{Leaf as Leaf-F, Node as Node-F, Items as Items-F}
use Rattle.grammar_terms.specs.Grammar.{Syntax}
use Rattle.rule_contents.specs.Operators.{is_of_contents, is_operator, said_of_left, has_operator, each_has_operator}

pub any_map : {X : Type 0} (test : X → Bool) (xs : List X) → list_any (λ b. b) (map test xs) ≡ list_any test xs
any_map test [] = refl
any_map test (x ∷ xs) = ap (λ b. test x || b) (any_map test xs)

module _ (g : Syntax) where
  level_left : Shape-F Shape → Bool
  level_left (Leaf-F token) = false
  level_left (Node-F p parts) = is_operator g p || said_of_left (is_of_contents g p) (map (has_operator g) parts)
  level_left (Items-F p parts rest) = list_any (λ b. b) (map (has_operator g) parts)

  each_is : {n : _} (row : Row_of-Shape n) → each_has_operator g row ≡ map (has_operator g) (items-the_row-Shape n row)
  unfolding each_has_operator
  each_is end_of-Shape = refl
  each_is (more_of-Shape part parts) = ap (λ bs. has_operator g part ∷ bs) (each_is parts)

  left_levels : (shape : Shape) → has_operator g shape ≡ level_left (out-Shape shape)
  unfolding has_operator level_left out-Shape out
  left_levels (Leaf token) = refl
  left_levels (Node' p s parts) =
      ap (λ bs. is_operator g p || said_of_left (is_of_contents g p) bs) (each_is parts ∙ ap (map (has_operator g)) (sym (items_shown-the_row-Shape-0 s parts)))
  left_levels (Items' p s parts rest) = ap (list_any (λ b. b)) (each_is parts ∙ ap (map (has_operator g)) (sym (items_shown-the_row-Shape-0 s parts)))

  pub left-Leaf : (token : ℕ) → has_operator g (Leaf token) ≡ false
  unfolding has_operator
  left-Leaf token = refl

  pub left-Node : (p : ℕ) (parts : List Shape) → has_operator g (Node p parts) ≡ (is_operator g p || said_of_left (is_of_contents g p) (map (has_operator g) parts))
  unfolding level_left
  left-Node p parts = left_levels _ ∙ ap level_left (outs-Node p parts)

  pub left-Items : (p : ℕ) (parts : List Shape) (rest : Option ℕ) → has_operator g (Items p parts rest) ≡ list_any (has_operator g) parts
  unfolding level_left
  left-Items p parts rest = left_levels _ ∙ ap level_left (outs-Items p parts rest) ∙ any_map (has_operator g) parts
