-- Graphs that are built module by module.
use Rattle.std.proofs.Common.{◌≡◌, ℕ, zero, suc, ◌+◌, ◌<◌, List, [], ◌∷◌, ◌++◌, length, subst, ap, ◌∙◌, arith, length-append}
use Rattle.import_order.specs.Imports.{Has, imports_of}

-- so many modules, whose imports are below a limit
pub record IsBuilt (graph : List (List ℕ)) (count limit : ℕ) : Type 0 where
  pub long : length graph ≡ count
  pub within : (m x : ℕ) → Has (imports_of graph m) x → x < limit

pub built_none : (graph : List (List ℕ)) (limit : ℕ) → graph ≡ [] → IsBuilt graph 0 limit
built_none graph limit empty = record {
  long = ap length empty;
  within = λ m x h. absurd (subst (λ g. Has (imports_of g m) x) empty h);
}

within_more : (graph : List (List ℕ)) (list : List ℕ) (limit : ℕ) → ((m x : ℕ) → Has (imports_of graph m) x → x < limit) → ((x : ℕ) → Has list x → x < limit)
    → (m x : ℕ) → Has (imports_of (graph ++ list ∷ []) m) x → x < limit
within_more [] list limit all own zero x h = own x h
within_more [] list limit all own (suc m) x h = absurd h
within_more (first ∷ graph) list limit all own zero x h = all 0 x h
within_more (first ∷ graph) list limit all own (suc m) x h = within_more graph list limit (λ k. all (suc k)) own m x h

pub built_more : (graph more : List (List ℕ)) (list own : List ℕ) (count limit : ℕ) → IsBuilt graph count limit → more ≡ graph ++ list ∷ [] → list ≡ own → ((x : ℕ) → Has own x → x < limit)
    → IsBuilt more (count + 1) limit
built_more graph more list own count limit built is same below =
    let longer : length more ≡ length graph + length (list ∷ []) = ap length is ∙ length-append graph (list ∷ []) in
    record {
      long = omega (arith, longer, built.long);
      within = λ m x h. within_more graph list limit built.within (λ y has. below y (subst (λ l. Has l y) same has)) m x (subst (λ g. Has (imports_of g m) x) is h);
    }

pub built_within : (graph : List (List ℕ)) (count limit : ℕ) → IsBuilt graph count limit → limit ≡ count → (m x : ℕ) → Has (imports_of graph m) x → x < length graph
built_within graph count limit built same m x h = let below = built.within m x h in omega (arith, below, same, built.long)
