-- The terminals that are no words have a bound.
use Rattle.std.proofs.Common.{◌≡◌, ℕ, ◌≤◌, true, false, ◌||◌, cond, List, [], ◌∷◌, ◌++◌, map, refl, sym, subst, Bor, arith}
use Rattle.std.specs.List.{AllByRecursion, list_any}
use Rattle.std.specs.Cmp.Lexicographic.{bytes_decides}
use Rattle.production_reader.specs.Allowed.{same_text, is_among}
use Rattle.cell_tokens.specs.Lookup.{IsBoundBy}

abbrev now_of : Bor (List ℕ) → List ℕ
now_of key = key.now

abbrev pub KeysBoundBy : ℕ → List (Bor (List ℕ)) → Type 0
KeysBoundBy most keys = AllByRecursion (λ key. IsBoundBy most key.now) keys

pub bounded : (keys : List (Bor (List ℕ))) (most : ℕ) (text : List ℕ) → KeysBoundBy most keys → is_among (map (λ key. key.now) keys) text ≡ true → IsBoundBy most text
bounded [] most text all is = absurd (cc)
bounded (key ∷ keys) most text all is =
    elim (same_text text key.now) as (λ b. same_text text key.now ≡ b → (b || is_among (map now_of keys) text) ≡ true → IsBoundBy most text) [
      | true ↦ λ same more. subst (IsBoundBy most) (sym ((bytes_decides text key.now).0 same)) all.0
      | false ↦ λ other more. bounded keys most text all.1 more
    ] refl is

raised : (most more : ℕ) (text : List ℕ) → most ≤ more → IsBoundBy most text → IsBoundBy more text
raised most more text less bound no_word = let least = bound no_word in omega (arith, least, less)

all_raised : (most more : ℕ) (keys : List (Bor (List ℕ))) → most ≤ more → KeysBoundBy most keys → KeysBoundBy more keys
all_raised most more [] less all = tt
all_raised most more (key ∷ keys) less all = (raised most more key.now less all.0, all_raised most more keys less all.1)

one_more : (most : ℕ) (keys : List (Bor (List ℕ))) (key : Bor (List ℕ)) → KeysBoundBy most keys → IsBoundBy most key.now → KeysBoundBy most (keys ++ key ∷ [])
one_more most [] key all this = (this, tt)
one_more most (first ∷ keys) key all this = (all.0, one_more most keys key all.1 this)

-- the keys with one more, under a bound of both
pub still_bound : (keys new : List (Bor (List ℕ))) (text : Bor (List ℕ)) (most size greatest : ℕ) → KeysBoundBy most keys → IsBoundBy size text.now → most ≤ greatest → size ≤ greatest
    → new ≡ cond (list_any (λ key. same_text text.now key.now) keys) keys (keys ++ text ∷ []) → KeysBoundBy greatest new
still_bound keys new text most size greatest all this less least is =
    elim (list_any (λ (key : Bor (List ℕ)). same_text text.now key.now) keys) as (λ b. new ≡ cond b keys (keys ++ text ∷ []) → KeysBoundBy greatest new) [
      | true ↦ λ same. subst (KeysBoundBy greatest) (sym same) (all_raised most greatest keys less all)
      | false ↦ λ more. subst (KeysBoundBy greatest) (sym more) (one_more greatest keys text (all_raised most greatest keys less all) (raised size greatest text.now least this))
    ] is
