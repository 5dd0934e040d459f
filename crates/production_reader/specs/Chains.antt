-- Lists of which each thing is allowed after those before it.
use Rattle.std.specs.Prelude.{◌≡◌, false, List, [], ◌∷◌}
use Rattle.production_reader.specs.Allowed.{is_empty}

-- Each of these is allowed after those before it; what those are counts by a state.
abbrev pub Chain : {S X : Type 0} → (S → X → Type 0) → (S → X → S) → S → List X → Type 0
Chain C next s [] = Unit {0}
Chain C next s (x ∷ xs) = C s x × Chain C next (next s x) xs

abbrev pub state : {S X : Type 0} → (S → X → S) → S → List X → S
state next s [] = s
state next s (x ∷ xs) = state next (next s x) xs

abbrev pub Several : {S X : Type 0} → (S → X → Type 0) → (S → X → S) → S → List X → Type 0
Several C next s xs = (is_empty xs ≡ false) × Chain C next s xs
