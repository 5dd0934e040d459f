-- Sets of readings that are cut to at most two members.
use Rattle.std.specs.Prelude.{◌≡◌, ◌⊎◌, List, [], ◌∷◌, ◌++◌, map}
use Rattle.std.specs.List.{flat_map}
use Rattle.grammar_terms.specs.declared.shape.Shape.{Shape}
use Rattle.grammar_terms.specs.declared.shape.Readings.{Readings}
use Rattle.grammar_terms.specs.declared.shape.Readings.TheVariants.{Zero, One, Two}

-- x stands in the list
abbrev pub Has : {X : Type 0} → List X → X → Type 0
Has [] x = ⊥
Has (y ∷ ys) x = (y ≡ x) ⊎ Has ys x

-- two different members stand in the list
pub record HasTwo {X : Type 0} (kept : List X) : Type 0 where
  pub one : X
  pub other : X
  pub has_one : Has kept one
  pub has_other : Has kept other
  pub differ : one ≡ other → ⊥

-- What is kept of a set tells whether it has no member, one or more: all that is kept are members, and each member is
-- kept or two different ones are.
pub record Cuts {X : Type 0} (S : X → Type 0) (kept : List X) : Type 0 where
  pub within : (x : X) → Has kept x → S x
  pub enough : (x : X) → S x → Has kept x ⊎ HasTwo kept

-- a list whose last shape is of one set, and the shapes before it of another
pub record IsJoined (S : List Shape → Type 0) (T : Shape → Type 0) (shapes : List Shape) : Type 0 where
  pub front : List Shape
  pub last : Shape
  pub is_front : S front
  pub is_last : T last
  pub is : shapes ≡ front ++ last ∷ []

-- each of some lists with each of some shapes behind
abbrev pub joined : List (List Shape) → List Shape → List (List Shape)
joined fronts lasts = flat_map (λ front. map (λ last. front ++ last ∷ []) lasts) fronts

-- what a function makes of the members of a set
pub record IsImage {X Y : Type 0} (f : X → Y) (S : X → Type 0) (y : Y) : Type 0 where
  pub x : X
  pub is_member : S x
  pub is : y ≡ f x

-- what is said of a set of readings
abbrev pub Tells : (Shape → Type 0) → Readings → Type 0
Tells S Zero = (shape : Shape) → S shape → ⊥
Tells S (One only) = S only × ((shape : Shape) → S shape → shape ≡ only)
Tells S (Two first second) = S first × S second × (first ≡ second → ⊥)
