-- Sorts by their numbers: the order of sorts, and the least sort of a value.
use Rattle.std.specs.Prelude.{ℕ, ◌-◌, cond, ◌==◌, List, [], ◌∷◌, Contains, slice_get, unwrap_or}
use Rattle.k_terms.specs.declared.value.Value.{Value, Int, Bool as Truth, Str, Id, Node', Items', Seq', Map', List' as Listed', Freezer'}

-- The built-in sorts have the numbers 0 to 9; declared sorts go on from 10.
abbrev pub sort_k : ℕ
sort_k = 0

abbrev pub sort_kitem : ℕ
sort_kitem = 1

abbrev pub sort_kresult : ℕ
sort_kresult = 2

abbrev pub sort_int : ℕ
sort_int = 3

abbrev pub sort_bool : ℕ
sort_bool = 4

abbrev pub sort_string : ℕ
sort_string = 5

abbrev pub sort_id : ℕ
sort_id = 6

abbrev pub sort_map : ℕ
sort_map = 7

abbrev pub sort_list : ℕ
sort_list = 8

abbrev pub sort_bag : ℕ
sort_bag = 9

-- What a definition says of its sorts: the subsort steps, each with the lower sort first, and the sort of each
-- production, production 1 first.
pub record SortOrder : Type 0 where
  pub steps : List (ℕ × ℕ)
  pub productions : List ℕ

-- the built-in sorts whose values are items
abbrev pub item_sorts : List ℕ
item_sorts = sort_int ∷ sort_bool ∷ sort_string ∷ sort_id ∷ sort_kresult ∷ []

-- The order of sorts: the least reflexive and transitive relation with the subsort steps, with each production's sort
-- and each built-in sort of items below KItem, and with KItem below K.
pub data Below (o : SortOrder) : ℕ → ℕ → Type 0 where
  same : (a : ℕ) → Below o a a
  subsort : (a b : ℕ) → Contains o.steps (a, b) → Below o a b
  produced : (a : ℕ) → Contains o.productions a → Below o a sort_kitem
  built_in : (a : ℕ) → Contains item_sorts a → Below o a sort_kitem
  item : Below o sort_kitem sort_k
  through : (a b c : ℕ) → Below o a b → Below o b c → Below o a c

-- the sort of a production by its number, and KItem where there is no such production
abbrev pub production_sort : SortOrder → ℕ → ℕ
production_sort o p = cond (p == 0) sort_kitem (unwrap_or (slice_get o.productions (p - 1)) sort_kitem)

-- The least sort of a value: its production's, or the built-in sort of its kind; KItem for a freezer.
abbrev pub least_sort : SortOrder → Value → ℕ
least_sort o (Int _) = sort_int
least_sort o (Truth _) = sort_bool
least_sort o (Str _) = sort_string
least_sort o (Id _) = sort_id
least_sort o (Node' p _ _) = production_sort o p
least_sort o (Items' p _ _) = production_sort o p
least_sort o (Seq' _ _) = sort_k
least_sort o (Map' _ _) = sort_map
least_sort o (Listed' _ _) = sort_list
least_sort o (Freezer' _ _ _ _) = sort_kitem
