-- The two sides of shapes, one layer at a time.
use Rattle.std.proofs.Common.{true≢false, ℕ, ◌≡◌, ◌||◌, ◌&&◌, nat_lt, Bool, true, false, List, [], ◌∷◌, map, length, Option, refl, sym, ap, ◌∙◌}
use Rattle.std.specs.List.{list_any}
use denote.Hole.Carrier.{out}
use Rattle.grammar_terms.specs.declared.shape.Shape.{Shape, Shape-F, Leaf, Node, Items, Node', Items', Row_of-Shape, end_of-Shape, more_of-Shape, out-Shape, items-the_row-Shape, items_shown-the_row-Shape-0}
use Rattle.grammar_terms.specs.declared.shape.Shape.TheVariants.{outs-Node, outs-Items}
use Rattle.grammar_terms.specs.declared.shape.Shape.TheOpen.{Leaf as Leaf-F, Node as Node-F, Items as Items-F}
use Rattle.grammar_terms.specs.Grammar.{Syntax}
use Rattle.rule_contents.specs.Operators.{is_of_contents, is_operator, is_behind, is_before, is_right_of, is_on_right, any_on_right, said_of_left, has_operator, each_has_operator}

pub behind-Leaf : (at token : ℕ) → is_behind at (Leaf token) ≡ nat_lt token at
unfolding is_behind
behind-Leaf at token = refl

pub behind-Node : (at p : ℕ) (parts : List Shape) → is_behind at (Node p parts) ≡ false
unfolding is_behind
behind-Node at p parts = refl

pub behind-Items : (at p : ℕ) (parts : List Shape) (rest : Option ℕ) → is_behind at (Items p parts rest) ≡ false
unfolding is_behind
behind-Items at p parts rest = refl

pub before-Leaf : (at token : ℕ) → is_before at (Leaf token) ≡ nat_lt at token
unfolding is_before
before-Leaf at token = refl

pub before-Node : (at p : ℕ) (parts : List Shape) → is_before at (Node p parts) ≡ false
unfolding is_before
before-Node at p parts = refl

pub before-Items : (at p : ℕ) (parts : List Shape) (rest : Option ℕ) → is_before at (Items p parts rest) ≡ false
unfolding is_before
before-Items at p parts rest = refl

-- ---- on a right side

module _ (g : Syntax) (at : ℕ) where
  level_right : Shape-F Shape → Bool
  level_right (Leaf-F token) = false
  level_right (Node-F p parts) = (is_of_contents g p && is_right_of at parts) || list_any (is_on_right g at) parts
  level_right (Items-F p parts rest) = list_any (is_on_right g at) parts

  any_on_right_is : {n : _} (row : Row_of-Shape n) → any_on_right g at row ≡ list_any (is_on_right g at) (items-the_row-Shape n row)
  unfolding any_on_right
  any_on_right_is end_of-Shape = refl
  any_on_right_is (more_of-Shape part parts) = ap (λ b. is_on_right g at part || b) (any_on_right_is parts)

  right_levels : (shape : Shape) → is_on_right g at shape ≡ level_right (out-Shape shape)
  unfolding is_on_right level_right out-Shape out
  right_levels (Leaf token) = refl
  right_levels (Node' p s parts) =
      ap (λ b. (is_of_contents g p && is_right_of at (items-the_row-Shape _ parts)) || b) (any_on_right_is parts)
      ∙ ap (λ shapes. (is_of_contents g p && is_right_of at shapes) || list_any (is_on_right g at) shapes) (sym (items_shown-the_row-Shape-0 s parts))
  right_levels (Items' p s parts rest) = any_on_right_is parts ∙ ap (list_any (is_on_right g at)) (sym (items_shown-the_row-Shape-0 s parts))

  pub right-Leaf : (token : ℕ) → is_on_right g at (Leaf token) ≡ false
  unfolding is_on_right
  right-Leaf token = refl

  pub right-Node : (p : ℕ) (parts : List Shape) → is_on_right g at (Node p parts) ≡ ((is_of_contents g p && is_right_of at parts) || list_any (is_on_right g at) parts)
  unfolding level_right
  right-Node p parts = right_levels _ ∙ ap level_right (outs-Node p parts)

  pub right-Items : (p : ℕ) (parts : List Shape) (rest : Option ℕ) → is_on_right g at (Items p parts rest) ≡ list_any (is_on_right g at) parts
  unfolding level_right
  right-Items p parts rest = right_levels _ ∙ ap level_right (outs-Items p parts rest)

-- ---- an operator on a left side

pub any_map : {X : Type 0} (test : X → Bool) (xs : List X) → list_any (λ b. b) (map test xs) ≡ list_any test xs
any_map test [] = refl
any_map test (x ∷ xs) = ap (λ b. test x || b) (any_map test xs)

module _ (g : Syntax) where
  level_left : Shape-F Shape → Bool
  level_left (Leaf-F token) = false
  level_left (Node-F p parts) = is_operator g p || said_of_left (is_of_contents g p) (map (has_operator g) parts)
  level_left (Items-F p parts rest) = list_any (λ b. b) (map (has_operator g) parts)

  each_is : {n : _} (row : Row_of-Shape n) → each_has_operator g row ≡ map (has_operator g) (items-the_row-Shape n row)
  unfolding each_has_operator
  each_is end_of-Shape = refl
  each_is (more_of-Shape part parts) = ap (λ bs. has_operator g part ∷ bs) (each_is parts)

  left_levels : (shape : Shape) → has_operator g shape ≡ level_left (out-Shape shape)
  unfolding has_operator level_left out-Shape out
  left_levels (Leaf token) = refl
  left_levels (Node' p s parts) =
      ap (λ bs. is_operator g p || said_of_left (is_of_contents g p) bs) (each_is parts ∙ ap (map (has_operator g)) (sym (items_shown-the_row-Shape-0 s parts)))
  left_levels (Items' p s parts rest) = ap (list_any (λ b. b)) (each_is parts ∙ ap (map (has_operator g)) (sym (items_shown-the_row-Shape-0 s parts)))

  pub left-Leaf : (token : ℕ) → has_operator g (Leaf token) ≡ false
  unfolding has_operator
  left-Leaf token = refl

  pub left-Node : (p : ℕ) (parts : List Shape) → has_operator g (Node p parts) ≡ (is_operator g p || said_of_left (is_of_contents g p) (map (has_operator g) parts))
  unfolding level_left
  left-Node p parts = left_levels _ ∙ ap level_left (outs-Node p parts)

  pub left-Items : (p : ℕ) (parts : List Shape) (rest : Option ℕ) → has_operator g (Items p parts rest) ≡ list_any (has_operator g) parts
  unfolding level_left
  left-Items p parts rest = left_levels _ ∙ ap level_left (outs-Items p parts rest) ∙ any_map (has_operator g) parts

-- ---- steps of the code

pub on_right_here : (content right any : Bool) → content ≡ true → right ≡ true → (content && right || any) ≡ true
on_right_here true true any is here = refl
on_right_here true false any is here = absurd (true≢false (sym here))
on_right_here false right any is here = absurd (true≢false (sym is))

pub on_right_inside : (content right any : Bool) → (content && right) ≡ false → (content && right || any) ≡ any
on_right_inside content right any not_here = ap (λ b. b || any) not_here

pub not_of_contents : (content right : Bool) → content ≡ false → (content && right) ≡ false
not_of_contents content right is = ap (λ b. b && right) is

pub not_right_of : (content right : Bool) → content ≡ true → right ≡ false → (content && right) ≡ false
not_right_of content right is not_here = ap (λ b. b && right) is ∙ not_here

-- parts that are no change: neither three nor five
pub no_change : {X : Type 0} (test : X → Bool) (parts : List X) → (length parts ≡ 3 → ⊥) → (length parts ≡ 5 → ⊥) → list_any test parts ≡ said_of_left true (map test parts)
no_change test [] not_three not_five = refl
no_change test (a ∷ []) not_three not_five = refl
no_change test (a ∷ b ∷ []) not_three not_five = refl
no_change test (a ∷ b ∷ c ∷ []) not_three not_five = absurd (not_three refl)
no_change test (a ∷ b ∷ c ∷ d ∷ []) not_three not_five = refl
no_change test (a ∷ b ∷ c ∷ d ∷ e ∷ []) not_three not_five = absurd (not_five refl)
no_change test (a ∷ b ∷ c ∷ d ∷ e ∷ f ∷ parts) not_three not_five = sym (any_map test (a ∷ b ∷ c ∷ d ∷ e ∷ f ∷ parts))

said_of_others : (bs : List Bool) → said_of_left false bs ≡ list_any (λ b. b) bs
said_of_others bs = refl

pub other_parts : (operator : Bool) (content : Bool) (bs : List Bool) → operator ≡ false → content ≡ false → (operator || said_of_left content bs) ≡ list_any (λ b. b) bs
other_parts operator content bs no_operator no_content = (λ i. no_operator i || said_of_left (no_content i) bs) ∙ said_of_others bs
