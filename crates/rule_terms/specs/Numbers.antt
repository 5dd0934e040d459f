-- Lists of numbers.
use Rattle.std.specs.Prelude.{ℕ, Bool, true, not, ◌==◌, ◌&&◌, List, [], ◌∷◌}
use Rattle.std.specs.List.{list_any}

abbrev pub has_number : List ℕ → ℕ → Bool
has_number ns n = list_any (λ m. m == n) ns

-- no number stands twice
abbrev pub all_different : List ℕ → Bool
all_different [] = true
all_different (n ∷ ns) = not (has_number ns n) && all_different ns
