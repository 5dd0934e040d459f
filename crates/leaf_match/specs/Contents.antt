-- Contents that the bodies of left cells are matched against.
use Rattle.std.specs.Prelude.{◌≡◌, ◌↔◌, ℕ, Bool, true, false, not, ◌&&◌, List, Option, Some, None, IsTrue}
use Rattle.std.specs.FinMap.{is_sorted}
use Rattle.k_terms.specs.declared.value.Value.{Value}
use Rattle.k_terms.specs.declared.value.Content.{Content}
use Rattle.k_terms.specs.declared.value.Content.TheVariants.{Map}
use Rattle.k_terms.specs.Value.{value_cmp}
use Rattle.rule_terms.specs.declared.pattern.Body.{Body, Cells', Map as MapBody}
use Rattle.rule_terms.specs.Sound.{body_mentions}
use Rattle.rule_terms.specs.Substitution.{Subst, AreOfSorts}
use Rattle.rule_terms.specs.Eval.{eval_all}
use Rattle.rule_terms.specs.Fill.{content_of}
use Rattle.rule_terms.specs.Spots.{keys_in}
use Rattle.k_terms.specs.Sorts.{SortOrder}
use Rattle.leaf_match.specs.Bindings.{Partial, Agrees, is_bound}

-- The keys of a map rise.
abbrev pub IsFit : Content → Type 0
IsFit (Map entries) = IsTrue (is_sorted value_cmp entries)
IsFit _ = Unit {0}

-- A body is this content under a substitution, with these keys of its entries.
abbrev pub IsBodyAt : Body → Content → List Value → Subst → Type 0
IsBodyAt body content keys s = (content_of body s ≡ Some content) × (eval_all (keys_in body) s ≡ Some keys)

-- a body of a map
abbrev pub is_map : Body → Bool
is_map (MapBody _ _) = true
is_map _ = false

-- a body of cells
abbrev pub is_cells : Body → Bool
is_cells (Cells' _ _ _) = true
is_cells _ = false

-- a variable stands in a body, its rest included, where that is no rest of cells
abbrev pub leaf_mentions : ℕ → Body → Bool
leaf_mentions x body = not (is_cells body) && body_mentions x body

-- What a content binds: the substitutions that respect the sorts and under which the body is this content with these keys are those
-- that give each bound variable its value, and just the variables that stand in the body are bound; or there is no such substitution.
abbrev pub IsBoundBy : SortOrder → List ℕ → Body → Content → List Value → Option Partial → Type 0
IsBoundBy o vars body content keys None = (s : Subst) → AreOfSorts o vars s → IsBodyAt body content keys s → ⊥
IsBoundBy o vars body content keys (Some p) =
    ((s : Subst) → AreOfSorts o vars s → (IsBodyAt body content keys s ↔ Agrees p s)) × ((x : ℕ) → is_bound p x ≡ leaf_mentions x body)
