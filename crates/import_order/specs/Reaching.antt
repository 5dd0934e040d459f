-- A search for what a module reaches.
use Rattle.std.specs.Prelude.{◌≡◌, ℕ, ◌+◌, ◌<◌, ◌⊎◌, Bool, true, false, cond, List, [], ◌∷◌, length, slice_index_or}
use Rattle.import_order.specs.Imports.{Has, imports_of, Reaches}

abbrev pub is_seen : List Bool → ℕ → Bool
is_seen seen m = slice_index_or seen m false

abbrev pub unseen : List Bool → ℕ
unseen [] = 0
unseen (mark ∷ marks) = cond mark (unseen marks) (1 + unseen marks)

-- Of some numbers, those that were not seen were added to the work.
pub record IsAdded (imports : List ℕ) (seen new_seen : List Bool) (work new_work : List ℕ) : Type 0 where
  pub long : length new_seen ≡ length seen
  pub kept : (m : ℕ) → is_seen seen m ≡ true → is_seen new_seen m ≡ true
  pub still : (m : ℕ) → Has work m → Has new_work m
  pub added : (m : ℕ) → Has imports m → is_seen new_seen m ≡ true
  pub from_seen : (m : ℕ) → is_seen new_seen m ≡ true → (is_seen seen m ≡ true) ⊎ (Has imports m × Has new_work m)
  pub from_work : (m : ℕ) → Has new_work m → Has work m ⊎ Has imports m
  pub fewer : unseen new_seen + length new_work ≡ unseen seen + length work

-- what is seen is reached, and what it imports is seen, but for modules that are still to be looked at
pub record IsReaching (graph : List (List ℕ)) (start : ℕ) (seen : List Bool) (work : List ℕ) : Type 0 where
  pub long : length seen ≡ length graph
  pub within : (m : ℕ) → Has work m → m < length graph
  pub reached : (m : ℕ) → is_seen seen m ≡ true → Reaches graph start m
  pub work_reached : (m : ℕ) → Has work m → (m ≡ start) ⊎ Reaches graph start m
  pub closed : (m : ℕ) → (m ≡ start) ⊎ (is_seen seen m ≡ true) → Has work m ⊎ ((x : ℕ) → Has (imports_of graph m) x → is_seen seen x ≡ true)
