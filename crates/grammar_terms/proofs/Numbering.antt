-- The number of a name.
use Rattle.std.proofs.Common.{◌≡◌, ℕ, ◌+◌, ◌<◌, Bool, true, false, cond, List, ◌∷◌, length, get_or, drop, Option, Some, sym, ap, ◌∙◌, drop-cons, add-one}
use Rattle.std.specs.List.{position_from}

drop_here : (names : List (List ℕ)) (other : List ℕ) (at : ℕ) → at < length names → drop at names ≡ get_or names at other ∷ drop (at + 1) names
drop_here names other at within = drop-cons names at other within ∙ ap (λ n. get_or names at other ∷ drop n names) (sym (add-one at))

-- the test passes at the place that is looked at
pub found_here : (test : List ℕ → Bool) (names : List (List ℕ)) (other : List ℕ) (at : ℕ) (whole : Option ℕ) → at < length names → test (get_or names at other) ≡ true
    → whole ≡ position_from test at (drop at names) → Some at ≡ whole
found_here test names other at whole within passes is =
    sym (is ∙ ap (position_from test at) (drop_here names other at within) ∙ ap (λ b. cond b (Some at) (position_from test (at + 1) (drop (at + 1) names))) passes)

-- it fails there
pub found_later : (test : List ℕ → Bool) (names : List (List ℕ)) (other : List ℕ) (at : ℕ) (whole : Option ℕ) → at < length names → test (get_or names at other) ≡ false
    → whole ≡ position_from test at (drop at names) → whole ≡ position_from test (at + 1) (drop (at + 1) names)
found_later test names other at whole within fails is =
    is ∙ ap (position_from test at) (drop_here names other at within) ∙ ap (λ b. cond b (Some at) (position_from test (at + 1) (drop (at + 1) names))) fails
