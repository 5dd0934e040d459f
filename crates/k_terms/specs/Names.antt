-- Words by their numbers: a word's number is the place where it stands.
use Rattle.std.specs.Prelude.{ℕ, List, [], ◌∷◌, ◌++◌, Option, is_some, position, if◌then◌else◌}
use Rattle.std.specs.Str.{bytes_eq}

abbrev pub number_of : List (List ℕ) → List ℕ → Option ℕ
number_of words word = position (bytes_eq word) words

-- The words with one more: a known word changes nothing, and a new one goes last.
abbrev pub with_word : List (List ℕ) → List ℕ → List (List ℕ)
with_word words word = if is_some (number_of words word) then words else words ++ word ∷ []
