-- Lists of steps that may be undefined.
use Rattle.std.specs.Prelude.{List, [], ◌∷◌, ◌++◌, Option, Some}
use Rattle.std.specs.Option.{option_map, option_and_then}

-- the values, where each is there
abbrev pub each_some : {A : Type 0} → List (Option A) → Option (List A)
each_some [] = Some []
each_some (o ∷ os) = option_and_then (λ x. option_map (λ xs. x ∷ xs) (each_some os)) o

-- two lists joined, where both are there
abbrev pub joined : {A : Type 0} → Option (List A) → Option (List A) → Option (List A)
joined o p = option_and_then (λ xs. option_map (λ ys. xs ++ ys) p) o
