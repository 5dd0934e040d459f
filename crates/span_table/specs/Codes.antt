-- The code of a shape.
use Rattle.std.specs.Prelude.{◌≡◌, ℕ, List, [], ◌∷◌, ◌++◌, Option, Some, None}
use Rattle.grammar_terms.specs.declared.shape.Shape.{Shape, Leaf, Node, Items, Node' as NodeS', Items' as ItemsS', Row_of-Shape, end_of-Shape, more_of-Shape}
use Rattle.span_rows.specs.declared.sign.Sign.{Sign}
use Rattle.span_rows.specs.declared.sign.Sign.TheVariants.{Open, Leaf as LeafSign, Node as NodeSign, Items as ItemsSign, ItemsAnd}

-- the sign behind the elements of a list
abbrev pub items_sign : ℕ → Option ℕ → Sign
items_sign p None = ItemsSign p
items_sign p (Some rest) = ItemsAnd p rest

-- A shape from left to right: a token by its place, and anything else with a mark, the codes of its parts, and what they
-- are parts of.
unfoldable mutual
  pub code_of : Shape → List Sign
  code_of (Leaf at) = LeafSign at ∷ []
  code_of (NodeS' p _ shapes) = Open ∷ row_code shapes ++ NodeSign p ∷ []
  code_of (ItemsS' p _ shapes rest) = Open ∷ row_code shapes ++ items_sign p rest ∷ []

  pub row_code : {n : _} → Row_of-Shape n → List Sign
  row_code end_of-Shape = []
  row_code (more_of-Shape shape shapes) = code_of shape ++ row_code shapes

-- the codes of shapes, one behind another
abbrev pub codes_of : List Shape → List Sign
codes_of [] = []
codes_of (shape ∷ shapes) = code_of shape ++ codes_of shapes

-- The shapes that signs are the codes of, where they are: those that were read before, which are parts of something whose
-- end is still to come, come first, the innermost first.
abbrev pub read_back : List Sign → List Shape → List (List Shape) → Option (List Shape)
read_back [] shapes [] = Some shapes
read_back [] shapes (outer ∷ outers) = None
read_back (Open ∷ signs) shapes outers = read_back signs [] (shapes ∷ outers)
read_back (LeafSign at ∷ signs) shapes outers = read_back signs (shapes ++ Leaf at ∷ []) outers
read_back (NodeSign p ∷ signs) shapes [] = None
read_back (NodeSign p ∷ signs) shapes (outer ∷ outers) = read_back signs (outer ++ Node p shapes ∷ []) outers
read_back (ItemsSign p ∷ signs) shapes [] = None
read_back (ItemsSign p ∷ signs) shapes (outer ∷ outers) = read_back signs (outer ++ Items p shapes None ∷ []) outers
read_back (ItemsAnd p rest ∷ signs) shapes [] = None
read_back (ItemsAnd p rest ∷ signs) shapes (outer ∷ outers) = read_back signs (outer ++ Items p shapes (Some rest) ∷ []) outers

-- signs that are the code of a shape
pub record IsCode (signs : List Sign) : Type 0 where
  pub shape : Shape
  pub is : signs ≡ code_of shape
