-- The names that were seen, as a set's keys.
use Rattle.std.proofs.Common.{◌≡◌, ℕ, false, ◌||◌, List, [], ◌∷◌, ◌++◌, map, refl, ap, ◌∙◌, Vec, Global}
use Rattle.std.specs.Prelude.{if◌then◌else◌}
use Rattle.std.specs.List.{list_any}
use Rattle.std.proofs.lemmas.List.{map-append}
use Rattle.production_reader.specs.Allowed.{same_text, is_among}

abbrev pub names_in : List (Vec ℕ Global) → List (List ℕ)
names_in keys = map (λ name. name.items) keys

pub among_keys : (keys : List (Vec ℕ Global)) (name : List ℕ) → list_any (λ key. same_text name key.items) keys ≡ is_among (names_in keys) name
among_keys [] name = refl
among_keys (key ∷ keys) name = ap (λ t. same_text name key.items || t) (among_keys keys name)

pub added_key : (keys new : List (Vec ℕ Global)) (name : Vec ℕ Global) → is_among (names_in keys) name.items ≡ false
    → new ≡ (if list_any (λ key. same_text name.items key.items) keys then keys else keys ++ name ∷ []) → names_in new ≡ names_in keys ++ name.items ∷ []
added_key keys new name free is =
    ap names_in (is ∙ ap (λ b. if b then keys else (keys ++ name ∷ [])) (among_keys keys name.items ∙ free)) ∙ map-append (λ key. key.items) keys (name ∷ [])
