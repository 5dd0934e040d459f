-- How the code finds the sorts on cycles, the nullable ones, and what leads where: rows with a mark for each sort.
use Rattle.std.specs.Prelude.{◌≡◌, ◌≢◌, ◌↔◌, ◌⊎◌, ℕ, ◌+◌, ◌<◌, ◌≤◌, ◌==◌, ◌&&◌, ◌||◌, not, cond, Bool, true, false, List, [], ◌∷◌, ◌++◌, length, get_or, Some, None, slice_get}
use Rattle.std.specs.List.{flat_map, list_any}
use Rattle.k_terms.specs.Sorts.{Below, sort_kitem}
use Rattle.production_reader.specs.declared.prod.Form.TheVariants.{Plain, Prefix, UserList}
use Rattle.production_reader.specs.Allowed.{is_empty}
use Rattle.import_order.specs.Imports.{Has as HasNumber, imports_of, Reaches}
use Rattle.grammar_terms.specs.Cuts.{Has}
use Rattle.grammar_terms.specs.Grammar.{Syntax, order_of, is_list, step_from}
use Rattle.grammar_terms.specs.Values.{sorts_in}
use Rattle.grammar_terms.specs.declared.production.Part.{Part}
use Rattle.grammar_terms.specs.declared.production.Part.TheVariants.{Terminal, Sort}
use Rattle.grammar_terms.specs.declared.production.Production.{Production}
use Rattle.sorted_grammar.specs.declared.fault.SortFault.{SortFault}
use Rattle.sorted_grammar.specs.declared.fault.SortFault.TheVariants.{TooMany, NoSort, SubsortCycle, CyclicProduction, Memory}
use Rattle.sorted_grammar.specs.Naming.{number_in}
use Rattle.sorted_grammar.specs.Leading.{Nullable, has_list, Leads, IsFirstCyclic}

abbrev pub marked : List Bool → ℕ → Bool
marked row sort = get_or row sort false

-- the sort of a name is marked
abbrev pub is_around : List (List ℕ) → List Bool → List ℕ → Bool
is_around names row name = marked row (number_in names name)

-- the first production on a cycle, or want of memory
abbrev pub IsProductionFault : Syntax → SortFault → Type 0
IsProductionFault g (CyclicProduction p) = IsFirstCyclic g p
IsProductionFault g Memory = Unit {0}
IsProductionFault g (TooMany what n) = ⊥
IsProductionFault g (NoSort name) = ⊥
IsProductionFault g (SubsortCycle name) = ⊥

-- the sorts of productions have numbers below that of the sorts, which are not too many
pub record AreInside (g : Syntax) : Type 0 where
  pub some : 10 ≤ length g.names
  pub few : length g.names ≤ 266
  pub sort : (production : Production) → Has g.prods production → production.sort < length g.names
  pub item : (production : Production) (sort : ℕ) → Has g.prods production → Has production.items (Sort sort) → sort < length g.names

-- 1 for an item that is no marked sort
abbrev pub blocks : List Bool → Part → ℕ
blocks row (Terminal text) = 1
blocks row (Sort sort) = cond (marked row sort) 0 1

abbrev pub blocking : List Bool → List Part → ℕ
blocking row [] = 0
blocking row (item ∷ items) = blocks row item + blocking row items

-- a production makes its sort nullable, which is not marked yet
abbrev pub fires : List Bool → Production → Bool
fires row production = not (marked row production.sort) && (is_list production.form || blocking row production.items == 0)

-- a declared sort is marked
pub record HasDeclared (row : List Bool) : Type 0 where
  pub sort : ℕ
  pub declared : 10 ≤ sort
  pub is : marked row sort ≡ true

-- a production that makes this sort nullable
pub record IsFired (prods : List Production) (row : List Bool) (sort : ℕ) : Type 0 where
  pub production : Production
  pub has : Has prods production
  pub fires : fires row production ≡ true
  pub is : sort ≡ production.sort

-- the row marks nullable sorts alone
abbrev pub IsSound : Syntax → List Bool → Type 0
IsSound g row = (sort : ℕ) → marked row sort ≡ true → Nullable g sort

-- no sort can be marked any more
pub record IsClosed (g : Syntax) (row : List Bool) : Type 0 where
  pub none : (production : Production) → Has g.prods production → fires row production ≡ false
  pub kitem : HasDeclared row → marked row 1 ≡ true
  pub k : HasDeclared row → marked row 0 ≡ true

-- the row marks the nullable sorts
pub record IsNullableRow (g : Syntax) (row : List Bool) : Type 0 where
  pub long : length row ≡ length g.names
  pub decides : (sort : ℕ) → (marked row sort ≡ true) ↔ Nullable g sort

-- the sort of an item, where the other items are marked
abbrev pub item_target : List Bool → ℕ → Part → List ℕ
item_target row count (Terminal text) = []
item_target row count (Sort sort) = cond (blocks row (Sort sort) == count) (sort ∷ []) []

abbrev pub item_targets : List Bool → List Part → List ℕ
item_targets row items = flat_map (item_target row (blocking row items)) items

abbrev pub list_targets : List Bool → ℕ → List ℕ → List Part → List ℕ
list_targets row sort separator items = sorts_in items ++ cond (is_empty separator && list_any (λ item. blocks row item == 0) items) (sort ∷ []) []

-- what a production leads to
abbrev pub targets_by : List Bool → Production → List ℕ
targets_by row production = elim production.form [
  | Plain ↦ item_targets row production.items
  | Prefix word ↦ item_targets row production.items
  | UserList separator ↦ list_targets row production.sort separator production.items
]

-- what productions lead to from a sort
abbrev pub targets_from : List Bool → ℕ → Production → List ℕ
targets_from row sort production = cond (production.sort == sort) (targets_by row production) []

-- KItem leads to this sort, if it is one
pub record IsBelowKItem (g : Syntax) (to : ℕ) : Type 0 where
  pub other : to ≢ sort_kitem
  pub below : Below (order_of g) to sort_kitem
  pub no_list : has_list g.prods to ≡ false

-- numbers with one more, where something holds
abbrev pub IsWithIf : List ℕ → List ℕ → ℕ → Type 0 → Type 0
IsWithIf before after number Holds = (n : ℕ) → HasNumber after n ↔ (HasNumber before n ⊎ ((number ≡ n) × Holds))

-- numbers with those of the first sorts that KItem leads to
abbrev pub IsWithBelow : Syntax → ℕ → List ℕ → List ℕ → Type 0
IsWithBelow g count before after = (n : ℕ) → HasNumber after n ↔ (HasNumber before n ⊎ ((n < count) × IsBelowKItem g n))

-- these are what a sort leads to
abbrev pub AreTargets : Syntax → ℕ → List ℕ → Type 0
AreTargets g sort targets = (to : ℕ) → HasNumber targets to ↔ Leads g sort to

-- for each sort what it leads to
pub record IsLeading (g : Syntax) (graph : List (List ℕ)) : Type 0 where
  pub long : length graph ≡ length g.names
  pub each : (sort : ℕ) → sort < length g.names → AreTargets g sort (imports_of graph sort)

-- for each sort the row of those that it leads on to
pub record AreReached (graph : List (List ℕ)) (rows : List (List Bool)) : Type 0 where
  pub long : length rows ≡ length graph
  pub each : (sort to : ℕ) → sort < length graph → (marked (get_or rows sort []) to ≡ true) ↔ Reaches graph sort to

-- a sort is another one or leads on to it
abbrev pub returns : List (List Bool) → ℕ → ℕ → Bool
returns rows from to = from == to || marked (get_or rows from []) to

-- a production is no subsort step and leads to a sort that leads on to its own
abbrev pub is_cyclic : List Bool → List (List Bool) → Production → Bool
is_cyclic row rows production =
    elim (step_from production) [ None ↦ list_any (λ from. returns rows from production.sort) (targets_by row production) | Some low ↦ false ]

-- none of the productions at the places up to this one passes
abbrev pub NonePasses : (Production → Bool) → List Production → ℕ → Type 0
NonePasses test prods limit = (place : ℕ) (production : Production) → place < limit → slice_get prods place ≡ Some production → test production ≡ false

-- the first production that passes is at this place
pub record IsFirstAt (test : Production → Bool) (prods : List Production) (place : ℕ) : Type 0 where
  pub production : Production
  pub is : slice_get prods place ≡ Some production
  pub passes : test production ≡ true
  pub first : NonePasses test prods place
