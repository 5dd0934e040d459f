-- What firings read and rewrite, and which of them conflict, by computation.
use Rattle.std.proofs.Common.{◌≡◌, ℕ, true, false, List, [], ◌∷◌, ◌++◌, refl}
use Rattle.std.specs.Prelude.{Some, None, map}
use Rattle.rule_terms.specs.declared.pattern.Pattern.{Var}
use Rattle.rule_terms.specs.declared.pattern.Body.{Seq, Map}
use Rattle.k_terms.specs.declared.value.Value.{Value}
use Rattle.rule_terms.proofs.ExamplesPar.{get, set, insert, count, spawn, pair, kill, name_x, name_y, name_z, get_x, count_command, kill_command, front}
use Rattle.rule_terms.proofs.ExamplesSteps.{reading, killing}
use Rattle.live_config.specs.declared.place.End.TheVariants.{Whole, Key, Here, Number}
use Rattle.live_config.specs.declared.place.Place.{Place}
use Rattle.live_config.specs.declared.place.Marks.{Marks}
use Rattle.live_config.specs.Places.{overlaps, conflict_of}
use Rattle.live_config.specs.Footprint.{place, footprint_of, marks_of_content, no_marks, reading as reads_of}
use Rattle.live_config.specs.Open.{open_live}
use Rattle.live_config.proofs.ExamplesPar.{site, first_thread_in_memory, second_thread_in_memory}
use Rattle.live_config.proofs.ExamplesFiring.{two_readers, reading_second, two_writers, setting_first, setting_second, counter_and_inserter, inserting_second, counting_first, two_spawners, spawning_one, killer_and_reader, pair_and_spawner, pairing_both, spawning_beside_pair}

-- ---- places

abbrev memory : List ℕ
memory = 1 ∷ 6 ∷ []

abbrev first : List ℕ
first = 1 ∷ 2 ∷ 3 ∷ []

abbrev second : List ℕ
second = 1 ∷ 2 ∷ 7 ∷ []

whole_covers_key : overlaps (place memory Whole) (place memory (Key name_x)) ≡ true
unfolding open_live
whole_covers_key = refl

covered_from_above : overlaps (place (8 ∷ second) Here) (place [] Whole) ≡ true
unfolding open_live
covered_from_above = refl

other_key : overlaps (place memory (Key name_x)) (place memory (Key name_y)) ≡ false
unfolding open_live
other_key = refl

here_is_no_key : overlaps (place memory Here) (place memory (Key name_y)) ≡ false
unfolding open_live
here_is_no_key = refl

below_is_not_covered : overlaps (place (1 ∷ 2 ∷ 7 ∷ 8 ∷ []) Whole) (place second Here) ≡ false
unfolding open_live
below_is_not_covered = refl

same_number : overlaps (place [] (Number 7)) (place [] (Number 7)) ≡ true
unfolding open_live
same_number = refl

other_number : overlaps (place [] (Number 7)) (place [] (Number 8)) ≡ false
unfolding open_live
other_number = refl

-- ---- footprints

-- the places that say that the cells from the root to a cell are there
abbrev all_here : List (List ℕ) → List Place
all_here paths = map (λ path. place path Here) paths

abbrev first_in_memory : List Place
first_in_memory = all_here ((1 ∷ []) ∷ (1 ∷ 2 ∷ []) ∷ first ∷ (1 ∷ 2 ∷ 3 ∷ 4 ∷ []) ∷ memory ∷ [])

abbrev second_in_memory : List Place
second_in_memory = all_here ((1 ∷ []) ∷ (1 ∷ 2 ∷ []) ∷ second ∷ (1 ∷ 2 ∷ 7 ∷ 8 ∷ []) ∷ memory ∷ [])

abbrev first_sequence : Place
first_sequence = place (1 ∷ 2 ∷ 3 ∷ 4 ∷ []) Whole

abbrev second_sequence : Place
second_sequence = place (1 ∷ 2 ∷ 7 ∷ 8 ∷ []) Whole

abbrev numbers : List ℕ → List Place
numbers ns = map (λ n. place [] (Number n)) ns

abbrev first_get : Marks
first_get = record { reads = first_in_memory ++ place memory (Key name_x) ∷ []; writes = first_sequence ∷ [] }

abbrev second_get : Marks
second_get = record { reads = second_in_memory ++ place memory (Key name_x) ∷ []; writes = second_sequence ∷ [] }

first_get_marks : footprint_of two_readers (site 3 first_thread_in_memory (name_x ∷ [])) [] get reading ≡ first_get
unfolding open_live
first_get_marks = refl

second_get_marks : footprint_of two_readers (site 3 second_thread_in_memory (name_x ∷ [])) [] get (reading_second (front get_x)) ≡ second_get
unfolding open_live
second_get_marks = refl

abbrev first_set : Marks
first_set = record { reads = first_in_memory; writes = first_sequence ∷ place memory (Key name_x) ∷ [] }

abbrev second_set : Marks
second_set = record { reads = second_in_memory; writes = second_sequence ∷ place memory (Key name_x) ∷ [] }

first_set_marks : footprint_of two_writers (site 4 first_thread_in_memory (name_x ∷ [])) [] set setting_first ≡ first_set
unfolding open_live
first_set_marks = refl

second_set_marks : footprint_of two_writers (site 4 second_thread_in_memory (name_x ∷ [])) [] set setting_second ≡ second_set
unfolding open_live
second_set_marks = refl

abbrev insertion : Value → Marks
insertion name = record { reads = second_in_memory; writes = second_sequence ∷ place memory (Key name) ∷ [] }

insertion_marks : footprint_of counter_and_inserter (site 5 second_thread_in_memory []) [] insert (inserting_second (front count_command) name_y 5) ≡ insertion name_y
unfolding open_live
insertion_marks = refl

-- the whole map is read, since its rest is told in the condition too
abbrev counting : Marks
counting = record { reads = first_in_memory ++ place memory Whole ∷ []; writes = first_sequence ∷ [] }

counting_marks : footprint_of counter_and_inserter (site 6 first_thread_in_memory []) [] count counting_first ≡ counting
unfolding open_live
counting_marks = refl

-- the environment is read whole, since it goes to the new thread too
abbrev spawning_first : Marks
spawning_first = record {
  reads = all_here ((1 ∷ []) ∷ (1 ∷ 2 ∷ []) ∷ first ∷ (1 ∷ 2 ∷ 3 ∷ 4 ∷ []) ∷ (1 ∷ 2 ∷ 3 ∷ 5 ∷ []) ∷ []) ++ place (1 ∷ 2 ∷ 3 ∷ 5 ∷ []) Whole ∷ [];
  writes = first_sequence ∷ place (1 ∷ 2 ∷ 10 ∷ []) Whole ∷ numbers (10 ∷ 11 ∷ 12 ∷ []);
}

abbrev spawning_second : ℕ → ℕ → ℕ → Marks
spawning_second t k e = record {
  reads = all_here ((1 ∷ []) ∷ (1 ∷ 2 ∷ []) ∷ second ∷ (1 ∷ 2 ∷ 7 ∷ 8 ∷ []) ∷ (1 ∷ 2 ∷ 7 ∷ 9 ∷ []) ∷ []) ++ place (1 ∷ 2 ∷ 7 ∷ 9 ∷ []) Whole ∷ [];
  writes = second_sequence ∷ place (1 ∷ 2 ∷ t ∷ []) Whole ∷ numbers (t ∷ k ∷ e ∷ []);
}

first_spawn_marks : footprint_of two_spawners (site 7 (1 ∷ 2 ∷ 3 ∷ 4 ∷ 5 ∷ []) []) (10 ∷ 11 ∷ 12 ∷ []) spawn spawning_one ≡ spawning_first
unfolding open_live
first_spawn_marks = refl

second_spawn_marks : footprint_of two_spawners (site 7 (1 ∷ 2 ∷ 7 ∷ 8 ∷ 9 ∷ []) []) (13 ∷ 14 ∷ 15 ∷ []) spawn spawning_one ≡ spawning_second 13 14 15
unfolding open_live
second_spawn_marks = refl

spawn_beside_pair_marks : footprint_of pair_and_spawner (site 7 (1 ∷ 2 ∷ 7 ∷ 8 ∷ 9 ∷ []) []) (10 ∷ 11 ∷ 12 ∷ []) spawn spawning_beside_pair ≡ spawning_second 10 11 12
unfolding open_live
spawn_beside_pair_marks = refl

-- the cell of all threads is read whole, since it is closed
abbrev pairing : Marks
pairing = record {
  reads = all_here ((1 ∷ []) ∷ (1 ∷ 2 ∷ []) ∷ []) ++ place (1 ∷ 2 ∷ []) Whole ∷ all_here (first ∷ (1 ∷ 2 ∷ 3 ∷ 4 ∷ []) ∷ second ∷ []);
  writes = first_sequence ∷ [];
}

pair_marks : footprint_of pair_and_spawner (site 9 (1 ∷ 2 ∷ 3 ∷ 4 ∷ 7 ∷ []) []) [] pair pairing_both ≡ pairing
unfolding open_live
pair_marks = refl

-- the other thread goes, with the numbers of its cells; its sequence is read
abbrev killing_second : Marks
killing_second = record {
  reads = all_here ((1 ∷ []) ∷ (1 ∷ 2 ∷ []) ∷ first ∷ (1 ∷ 2 ∷ 3 ∷ 4 ∷ []) ∷ second ∷ (1 ∷ 2 ∷ 7 ∷ 8 ∷ []) ∷ []) ++ second_sequence ∷ [];
  writes = first_sequence ∷ place second Whole ∷ numbers (7 ∷ 8 ∷ 9 ∷ []);
}

kill_marks : footprint_of killer_and_reader (site 10 (1 ∷ 2 ∷ 3 ∷ 4 ∷ 7 ∷ 8 ∷ []) []) [] kill killing ≡ killing_second
unfolding open_live
kill_marks = refl

reader_beside_killer_marks : footprint_of killer_and_reader (site 3 second_thread_in_memory (name_x ∷ [])) [] get (reading_second (front kill_command)) ≡ second_get
unfolding open_live
reader_beside_killer_marks = refl

-- a rest alone that is told nowhere else leaves no mark, and one that is told in another cell is read
lone_rest_unmarked : marks_of_content get reading memory 3 (Seq [] (Some 2)) (Seq [] (Some 2)) ≡ no_marks
unfolding open_live
lone_rest_unmarked = refl

lone_rest_told_elsewhere : marks_of_content get reading memory 9 (Seq [] (Some 2)) (Seq [] (Some 2)) ≡ reads_of (place memory Whole ∷ [])
unfolding open_live
lone_rest_told_elsewhere = refl

-- a map without a rest is read whole, beside its key
closed_map : marks_of_content get reading memory 4 (Map ((Var 0, Var 1) ∷ []) None) (Map ((Var 0, Var 1) ∷ []) None) ≡ reads_of (place memory (Key name_x) ∷ place memory Whole ∷ [])
unfolding open_live
closed_map = refl

-- ---- conflicts: the place of the first, and that of the second

reads_alike : conflict_of first_get second_get ≡ None
unfolding open_live
reads_alike = refl

rewritten_key : conflict_of second_set first_set ≡ Some (place memory (Key name_x), place memory (Key name_x))
unfolding open_live
rewritten_key = refl

inserted_key_counted : conflict_of counting (insertion name_y) ≡ Some (place memory Whole, place memory (Key name_y))
unfolding open_live
inserted_key_counted = refl

other_keys_inserted : conflict_of (record { reads = first_in_memory; writes = first_sequence ∷ place memory (Key name_z) ∷ [] }) (insertion name_y) ≡ None
unfolding open_live
other_keys_inserted = refl

births_apart : conflict_of (spawning_second 13 14 15) spawning_first ≡ None
unfolding open_live
births_apart = refl

births_together : conflict_of (spawning_second 10 11 12) spawning_first ≡ Some (place (1 ∷ 2 ∷ 10 ∷ []) Whole, place (1 ∷ 2 ∷ 10 ∷ []) Whole)
unfolding open_live
births_together = refl

pair_beside_spawn : conflict_of pairing (spawning_second 10 11 12) ≡ Some (place (1 ∷ 2 ∷ []) Whole, second_sequence)
unfolding open_live
pair_beside_spawn = refl

killed_reader : conflict_of killing_second second_get ≡ Some (place second Whole, place second Here)
unfolding open_live
killed_reader = refl
