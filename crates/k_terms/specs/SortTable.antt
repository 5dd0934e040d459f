-- The table that decides the order of sorts: for each sort a row that marks the sorts above it.
use Rattle.std.specs.Prelude.{◌≡◌, ℕ, suc, ◌<◌, Bool, true, false, not, cond, ◌&&◌, List, [], ◌∷◌, ◌++◌, map, length, get_or, set, replicate, Contains, All}
use Rattle.k_terms.specs.Sorts.{SortOrder, item_sorts, sort_k, sort_kitem}

-- every step of the order, each with the lower sort first
abbrev pub built_in_steps : List (ℕ × ℕ)
built_in_steps = map (λ sort. (sort, sort_kitem)) item_sorts ++ (sort_kitem, sort_k) ∷ []

abbrev pub all_steps : SortOrder → List (ℕ × ℕ)
all_steps o = o.steps ++ map (λ sort. (sort, sort_kitem)) o.productions ++ built_in_steps

abbrev pub is_marked : List Bool → ℕ → Bool
is_marked row sort = get_or row sort false

abbrev pub unmarked : List Bool → ℕ
unmarked [] = 0
unmarked (true ∷ row) = unmarked row
unmarked (false ∷ row) = suc (unmarked row)

-- both sorts of a step are in the row
abbrev pub IsInside : ℕ → ℕ × ℕ → Type 0
IsInside size step = (step.0 < size) × (step.1 < size)

-- the step leads from a marked sort to one that is not
abbrev pub leads_on : List Bool → ℕ → ℕ → Bool
leads_on row low high = is_marked row low && not (is_marked row high)

abbrev pub mark_step : List Bool → ℕ → ℕ → List Bool
mark_step row low high = cond (leads_on row low high) (set row high true) row

-- no step leads on
abbrev pub IsClosed : List (ℕ × ℕ) → List Bool → Type 0
IsClosed steps row = All (λ step. is_marked row step.0 ≡ true → is_marked row step.1 ≡ true) steps

-- the sorts that steps lead to from the marked ones
pub data Reached (steps : List (ℕ × ℕ)) (start : List Bool) : ℕ → Type 0 where
  marked : (sort : ℕ) → is_marked start sort ≡ true → Reached steps start sort
  raised : (low high : ℕ) → Contains steps (low, high) → Reached steps start low → Reached steps start high

-- a row that one pass over the steps made of another
pub record IsPass (steps : List (ℕ × ℕ)) (old new : List Bool) : Type 0 where
  pub long : length new ≡ length old
  pub kept : (sort : ℕ) → is_marked old sort ≡ true → is_marked new sort ≡ true
  pub reached : (sort : ℕ) → is_marked new sort ≡ true → Reached steps old sort

-- the row that marks one sort alone
abbrev pub single : ℕ → ℕ → List Bool
single size sort = set (replicate size false) sort true

-- the row of a sort: passes over the steps made it of the sort alone, and no step leads on
pub record IsRow (steps : List (ℕ × ℕ)) (size sort : ℕ) (row : List Bool) : Type 0 where
  pub pass : IsPass steps (single size sort) row
  pub closed : IsClosed steps row

-- the row of each sort that a step names
pub record IsTable (o : SortOrder) (rows : List (List Bool)) : Type 0 where
  pub inside : All (IsInside (length rows)) (all_steps o)
  pub each : (sort : ℕ) → sort < length rows → IsRow (all_steps o) (length rows) sort (get_or rows sort [])
