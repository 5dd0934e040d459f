-- Where rules of the language of threads bind and fire, by computation.
use Rattle.std.proofs.Common.{◌≡◌, ℕ, true, false, List, [], ◌∷◌, ◌++◌, refl, ap}
use Rattle.std.specs.Prelude.{Some, None}
use Rattle.std.specs.declared.cmp.Ordering.TheVariants.{Equal}
use Rattle.std.specs.Option.{option_map}
use Rattle.std.specs.Cmp.Lexicographic.{slice_cmp}
use Rattle.k_terms.specs.declared.value.Value.{Value, Seq, Map as Mapping}
use Rattle.k_terms.specs.declared.value.Content.TheVariants.{Cells as NoContent, Seq as SeqContent, Map as MapContent}
use Rattle.k_terms.specs.Value.{value_cmp}
use Rattle.k_terms.specs.Sorts.{same}
use Rattle.rule_terms.specs.declared.rule.Rule.{Rule}
use Rattle.rule_terms.specs.declared.plain.Plain.{Plain}
use Rattle.rule_terms.specs.Substitution.{Subst, Whole, Bag}
use Rattle.rule_terms.specs.Rewriting.{Step}
use Rattle.rule_terms.specs.Fill.{plain_cell}
use Rattle.rule_terms.proofs.ExamplesPar.{language, sorts, get, set, insert, count, spawn, pair, kill, name_x, name_y, number, get_x, set_x, new_entry, commands, spawn_of, count_command, pair_command, kill_command, front}
use Rattle.rule_terms.proofs.ExamplesSteps.{env, thread, state, done, x_is, int_is_item, reading, get_step, killing, kill_step}
use Rattle.live_config.specs.Configuration.{Configuration, plain}
use Rattle.live_config.specs.Firing.{Binds, Fires, Leads}
use Rattle.live_config.specs.Open.{open_live}
use Rattle.live_config.proofs.ExamplesPar.{config, site, under, thread_cells, first_thread_in_memory, second_thread_in_memory}

abbrev mem : List (Value × Value) → Plain
mem entries = plain_cell 5 (MapContent entries) []

-- ---- two threads that both read an entry
abbrev pub two_readers : Configuration
two_readers = config (front get_x) (front get_x) (x_is 1)

abbrev pub first_has_read : Configuration
first_has_read = config done (front get_x) (x_is 1)

pub first_get_binds : Binds language two_readers (site 3 first_thread_in_memory (name_x ∷ [])) get reading
unfolding open_live
first_get_binds = record {
  rule = refl;
  suits = record { sorts = (same 6, (int_is_item, (same 0, (same 7, (refl, (refl, (refl, tt))))))); conditions = tt };
  different = refl;
  matched = (
    record { cell = _; there = refl; kind = refl; parent = refl; content = refl; others = refl },
    (
      record { cell = _; there = refl; kind = refl; parent = refl; content = refl; others = refl },
      (
        record { cell = _; there = refl; kind = refl; parent = refl; content = refl; others = refl },
        (
          record { cell = _; there = refl; kind = refl; parent = refl; content = refl; others = tt },
          (
            record { cell = _; there = refl; kind = refl; parent = refl; content = refl; others = tt },
            tt,
          ),
        ),
      ),
    ),
  );
  keys = refl;
  right_defined = refl;
}

pub first_get_fires : Fires language two_readers (site 3 first_thread_in_memory (name_x ∷ [])) [] get reading first_has_read
unfolding open_live
first_get_fires = record { binds = first_get_binds; count = refl; different = refl; free = refl; gives = refl }

first_get_is_a_step : Step sorts (plain two_readers) get reading (plain first_has_read)
unfolding open_live
first_get_is_a_step = get_step

abbrev pub reading_second : List Value → Subst
reading_second first = Whole name_x ∷ Whole (number 1) ∷ Whole (Seq done) ∷ Whole (Mapping []) ∷ Bag (env ∷ []) ∷ Bag (thread first ∷ []) ∷ Bag [] ∷ []

-- the second thread reads before or after the first
pub second_get_binds : Binds language two_readers (site 3 second_thread_in_memory (name_x ∷ [])) get (reading_second (front get_x))
unfolding open_live
second_get_binds = record {
  rule = refl;
  suits = record { sorts = (same 6, (int_is_item, (same 0, (same 7, (refl, (refl, (refl, tt))))))); conditions = tt };
  different = refl;
  matched = (
    record { cell = _; there = refl; kind = refl; parent = refl; content = refl; others = refl },
    (
      record { cell = _; there = refl; kind = refl; parent = refl; content = refl; others = refl },
      (
        record { cell = _; there = refl; kind = refl; parent = refl; content = refl; others = refl },
        (
          record { cell = _; there = refl; kind = refl; parent = refl; content = refl; others = tt },
          (
            record { cell = _; there = refl; kind = refl; parent = refl; content = refl; others = tt },
            tt,
          ),
        ),
      ),
    ),
  );
  keys = refl;
  right_defined = refl;
}

pub second_get_fires : Fires language two_readers (site 3 second_thread_in_memory (name_x ∷ [])) [] get (reading_second (front get_x)) (config (front get_x) done (x_is 1))
unfolding open_live
second_get_fires = record { binds = second_get_binds; count = refl; different = refl; free = refl; gives = refl }

pub later_get_binds : Binds language first_has_read (site 3 second_thread_in_memory (name_x ∷ [])) get (reading_second done)
unfolding open_live
later_get_binds = record {
  rule = refl;
  suits = record { sorts = (same 6, (int_is_item, (same 0, (same 7, (refl, (refl, (refl, tt))))))); conditions = tt };
  different = refl;
  matched = (
    record { cell = _; there = refl; kind = refl; parent = refl; content = refl; others = refl },
    (
      record { cell = _; there = refl; kind = refl; parent = refl; content = refl; others = refl },
      (
        record { cell = _; there = refl; kind = refl; parent = refl; content = refl; others = refl },
        (
          record { cell = _; there = refl; kind = refl; parent = refl; content = refl; others = tt },
          (
            record { cell = _; there = refl; kind = refl; parent = refl; content = refl; others = tt },
            tt,
          ),
        ),
      ),
    ),
  );
  keys = refl;
  right_defined = refl;
}

pub later_get_fires : Fires language first_has_read (site 3 second_thread_in_memory (name_x ∷ [])) [] get (reading_second done) (config done done (x_is 1))
unfolding open_live
later_get_fires = record { binds = later_get_binds; count = refl; different = refl; free = refl; gives = refl }

both_read : Leads language two_readers (record { site = site 3 first_thread_in_memory (name_x ∷ []); births = []; by = 1 } ∷ record { site = site 3 second_thread_in_memory (name_x ∷ []); births = []; by = 2 } ∷ []) (config done done (x_is 1))
both_read = (get, reading, first_has_read, first_get_fires, (get, reading_second done, config done done (x_is 1), later_get_fires, refl))

-- ---- an entry is rewritten
abbrev pub two_writers : Configuration
two_writers = config (front (set_x 3)) (front (set_x 2)) (x_is 1)

abbrev pub setting_second : Subst
setting_second = Whole name_x ∷ Whole (number 2) ∷ Whole (Seq done) ∷ Whole (Mapping []) ∷ Bag (env ∷ []) ∷ Bag (thread (front (set_x 3)) ∷ []) ∷ Bag [] ∷ Whole (number 1) ∷ []

abbrev pub setting_first : Subst
setting_first = Whole name_x ∷ Whole (number 3) ∷ Whole (Seq done) ∷ Whole (Mapping []) ∷ Bag (env ∷ []) ∷ Bag (thread (front (set_x 2)) ∷ []) ∷ Bag [] ∷ Whole (number 1) ∷ []

pub first_set_binds : Binds language two_writers (site 4 first_thread_in_memory (name_x ∷ [])) set setting_first
unfolding open_live
first_set_binds = record {
  rule = refl;
  suits = record { sorts = (same 6, (same 3, (same 0, (same 7, (refl, (refl, (refl, (int_is_item, tt)))))))); conditions = tt };
  different = refl;
  matched = (
    record { cell = _; there = refl; kind = refl; parent = refl; content = refl; others = refl },
    (
      record { cell = _; there = refl; kind = refl; parent = refl; content = refl; others = refl },
      (
        record { cell = _; there = refl; kind = refl; parent = refl; content = refl; others = refl },
        (
          record { cell = _; there = refl; kind = refl; parent = refl; content = refl; others = tt },
          (
            record { cell = _; there = refl; kind = refl; parent = refl; content = refl; others = tt },
            tt,
          ),
        ),
      ),
    ),
  );
  keys = refl;
  right_defined = refl;
}

pub first_set_fires : Fires language two_writers (site 4 first_thread_in_memory (name_x ∷ [])) [] set setting_first (config done (front (set_x 2)) (x_is 3))
unfolding open_live
first_set_fires = record { binds = first_set_binds; count = refl; different = refl; free = refl; gives = refl }

-- ---- an entry is inserted: its key is not in the site
abbrev pub counter_and_inserter : Configuration
counter_and_inserter = config (front count_command) (front (new_entry name_y 5)) (x_is 1)

abbrev pub inserting_second : List Value → Value → ℕ → Subst
inserting_second first name n = Whole name ∷ Whole (number n) ∷ Whole (Seq done) ∷ Whole (Mapping (x_is 1)) ∷ Bag (env ∷ []) ∷ Bag (thread first ∷ []) ∷ Bag [] ∷ []

pub insertion_binds : Binds language counter_and_inserter (site 5 second_thread_in_memory []) insert (inserting_second (front count_command) name_y 5)
unfolding open_live
insertion_binds = record {
  rule = refl;
  suits = record { sorts = (same 6, (same 3, (same 0, (same 7, (refl, (refl, (refl, tt))))))); conditions = tt };
  different = refl;
  matched = (
    record { cell = _; there = refl; kind = refl; parent = refl; content = refl; others = refl },
    (
      record { cell = _; there = refl; kind = refl; parent = refl; content = refl; others = refl },
      (
        record { cell = _; there = refl; kind = refl; parent = refl; content = refl; others = refl },
        (
          record { cell = _; there = refl; kind = refl; parent = refl; content = refl; others = tt },
          (
            record { cell = _; there = refl; kind = refl; parent = refl; content = refl; others = tt },
            tt,
          ),
        ),
      ),
    ),
  );
  keys = refl;
  right_defined = refl;
}

pub insertion_fires : Fires language counter_and_inserter (site 5 second_thread_in_memory []) [] insert (inserting_second (front count_command) name_y 5) (config (front count_command) done ((name_x, number 1) ∷ (name_y, number 5) ∷ []))
unfolding open_live
insertion_fires = record { binds = insertion_binds; count = refl; different = refl; free = refl; gives = refl }

-- ---- the entries are counted
abbrev pub counting_first : Subst
counting_first = Whole (Mapping (x_is 1)) ∷ Whole (Seq done) ∷ Bag (env ∷ []) ∷ Bag (thread (front (new_entry name_y 5)) ∷ []) ∷ Bag [] ∷ []

pub counting_binds : Binds language counter_and_inserter (site 6 first_thread_in_memory []) count counting_first
unfolding open_live
counting_binds = record {
  rule = refl;
  suits = record { sorts = (same 7, (same 0, (refl, (refl, (refl, tt))))); conditions = (refl, tt) };
  different = refl;
  matched = (
    record { cell = _; there = refl; kind = refl; parent = refl; content = refl; others = refl },
    (
      record { cell = _; there = refl; kind = refl; parent = refl; content = refl; others = refl },
      (
        record { cell = _; there = refl; kind = refl; parent = refl; content = refl; others = refl },
        (
          record { cell = _; there = refl; kind = refl; parent = refl; content = refl; others = tt },
          (
            record { cell = _; there = refl; kind = refl; parent = refl; content = refl; others = tt },
            tt,
          ),
        ),
      ),
    ),
  );
  keys = refl;
  right_defined = refl;
}

pub counting_fires : Fires language counter_and_inserter (site 6 first_thread_in_memory []) [] count counting_first (config done (front (new_entry name_y 5)) (x_is 1))
unfolding open_live
counting_fires = record { binds = counting_binds; count = refl; different = refl; free = refl; gives = refl }

-- ---- a new thread, with its cells at the births
abbrev pub two_spawners : Configuration
two_spawners = config (front (spawn_of (get_x ∷ []))) (front (spawn_of (get_x ∷ []))) (x_is 1)

abbrev pub spawning_one : Subst
spawning_one =
    Whole (commands (get_x ∷ [])) ∷ Whole (Mapping []) ∷ Whole (Seq done) ∷ Bag [] ∷ Bag (thread (front (spawn_of (get_x ∷ []))) ∷ []) ∷ Bag (mem (x_is 1) ∷ []) ∷ []

abbrev pub first_has_spawned : Configuration
first_has_spawned = record {
  cells = (config done (front (spawn_of (get_x ∷ []))) (x_is 1)).cells ++ thread_cells 10 11 12 (commands (get_x ∷ []) ∷ []);
}

pub spawning_binds : Binds language two_spawners (site 7 (1 ∷ 2 ∷ 3 ∷ 4 ∷ 5 ∷ []) []) spawn spawning_one
unfolding open_live
spawning_binds = record {
  rule = refl;
  suits = record { sorts = (same 11, (same 7, (same 0, (refl, (refl, (refl, tt)))))); conditions = tt };
  different = refl;
  matched = (
    record { cell = _; there = refl; kind = refl; parent = refl; content = refl; others = refl },
    (
      record { cell = _; there = refl; kind = refl; parent = refl; content = refl; others = refl },
      (
        record { cell = _; there = refl; kind = refl; parent = refl; content = refl; others = refl },
        (
          record { cell = _; there = refl; kind = refl; parent = refl; content = refl; others = tt },
          (
            record { cell = _; there = refl; kind = refl; parent = refl; content = refl; others = tt },
            tt,
          ),
        ),
      ),
    ),
  );
  keys = refl;
  right_defined = refl;
}

pub spawning_fires : Fires language two_spawners (site 7 (1 ∷ 2 ∷ 3 ∷ 4 ∷ 5 ∷ []) []) (10 ∷ 11 ∷ 12 ∷ []) spawn spawning_one first_has_spawned
unfolding open_live
spawning_fires = record { binds = spawning_binds; count = refl; different = refl; free = refl; gives = refl }

without_numbers_after_spawning : plain first_has_spawned ≡ state (thread done ∷ thread (front (spawn_of (get_x ∷ []))) ∷ thread (commands (get_x ∷ []) ∷ []) ∷ []) (x_is 1)
unfolding open_live
without_numbers_after_spawning = refl

-- the births are out of order among the other numbers
abbrev pub spawned_among_others : Configuration
spawned_among_others = record {
  cells = (config done (front (spawn_of (get_x ∷ []))) (x_is 1)).cells ++ (10, under 12 4 (MapContent [])) ∷ (11, under 12 3 (SeqContent (commands (get_x ∷ []) ∷ []))) ∷ (12, under 2 2 NoContent) ∷ [];
}

spawning_backward_fires : Fires language two_spawners (site 7 (1 ∷ 2 ∷ 3 ∷ 4 ∷ 5 ∷ []) []) (12 ∷ 11 ∷ 10 ∷ []) spawn spawning_one spawned_among_others
unfolding open_live
spawning_backward_fires = record { binds = spawning_binds; count = refl; different = refl; free = refl; gives = refl }

-- ---- a thread goes, with all below it
abbrev pub killer_and_reader : Configuration
killer_and_reader = config (front kill_command) (front get_x) (x_is 1)

abbrev pub after_killing : Configuration
after_killing = record {
  cells = (1, (record { kind = 0; parent = None; content = NoContent })) ∷ (2, under 1 1 NoContent) ∷ (3, under 2 2 NoContent) ∷ (4, under 3 3 (SeqContent done)) ∷ (5, under 3 4 (MapContent [])) ∷ (6, under 1 5 (MapContent (x_is 1))) ∷ [];
}

pub killing_binds : Binds language killer_and_reader (site 10 (1 ∷ 2 ∷ 3 ∷ 4 ∷ 7 ∷ 8 ∷ []) []) kill killing
unfolding open_live
killing_binds = record {
  rule = refl;
  suits = record { sorts = (same 6, (same 0, (same 0, (refl, (refl, (refl, (refl, tt))))))); conditions = tt };
  different = refl;
  matched = (
    record { cell = _; there = refl; kind = refl; parent = refl; content = refl; others = refl },
    (
      record { cell = _; there = refl; kind = refl; parent = refl; content = refl; others = refl },
      (
        record { cell = _; there = refl; kind = refl; parent = refl; content = refl; others = refl },
        (
          record { cell = _; there = refl; kind = refl; parent = refl; content = refl; others = tt },
          (
            record { cell = _; there = refl; kind = refl; parent = refl; content = refl; others = refl },
            (
              record { cell = _; there = refl; kind = refl; parent = refl; content = refl; others = tt },
              tt,
            ),
          ),
        ),
      ),
    ),
  );
  keys = refl;
  right_defined = refl;
}

pub killing_fires : Fires language killer_and_reader (site 10 (1 ∷ 2 ∷ 3 ∷ 4 ∷ 7 ∷ 8 ∷ []) []) [] kill killing after_killing
unfolding open_live
killing_fires = record { binds = killing_binds; count = refl; different = refl; free = refl; gives = refl }

killing_is_a_step : Step sorts (plain killer_and_reader) kill killing (plain after_killing)
unfolding open_live
killing_is_a_step = kill_step

-- ---- two threads under a closed cell of cells
abbrev pub pair_and_spawner : Configuration
pair_and_spawner = config (front pair_command) (front (spawn_of (get_x ∷ []))) (x_is 1)

abbrev pub pairing_both : Subst
pairing_both = Whole (Seq done) ∷ Bag (env ∷ []) ∷ Bag (plain_cell 3 (SeqContent (front (spawn_of (get_x ∷ [])))) [] ∷ env ∷ []) ∷ Bag (mem (x_is 1) ∷ []) ∷ []

abbrev pub spawning_beside_pair : Subst
spawning_beside_pair =
    Whole (commands (get_x ∷ [])) ∷ Whole (Mapping []) ∷ Whole (Seq done) ∷ Bag [] ∷ Bag (thread (front pair_command) ∷ []) ∷ Bag (mem (x_is 1) ∷ []) ∷ []

pub pairing_binds : Binds language pair_and_spawner (site 9 (1 ∷ 2 ∷ 3 ∷ 4 ∷ 7 ∷ []) []) pair pairing_both
unfolding open_live
pairing_binds = record {
  rule = refl;
  suits = record { sorts = (same 0, (refl, (refl, (refl, tt)))); conditions = tt };
  different = refl;
  matched = (
    record { cell = _; there = refl; kind = refl; parent = refl; content = refl; others = refl },
    (
      record { cell = _; there = refl; kind = refl; parent = refl; content = refl; others = refl },
      (
        record { cell = _; there = refl; kind = refl; parent = refl; content = refl; others = refl },
        (
          record { cell = _; there = refl; kind = refl; parent = refl; content = refl; others = tt },
          (
            record { cell = _; there = refl; kind = refl; parent = refl; content = refl; others = refl },
            tt,
          ),
        ),
      ),
    ),
  );
  keys = refl;
  right_defined = refl;
}

pub pairing_fires : Fires language pair_and_spawner (site 9 (1 ∷ 2 ∷ 3 ∷ 4 ∷ 7 ∷ []) []) [] pair pairing_both (config done (front (spawn_of (get_x ∷ []))) (x_is 1))
unfolding open_live
pairing_fires = record { binds = pairing_binds; count = refl; different = refl; free = refl; gives = refl }

-- ---- sites that don't bind
cell_twice : (r : Rule) (s : Subst) → ¬ Binds language two_readers (site 3 (1 ∷ 2 ∷ 3 ∷ 3 ∷ 6 ∷ []) (name_x ∷ [])) r s
cell_twice r s binds = let e : false ≡ true = binds.different in cc

wrong_key : ¬ Binds language two_readers (site 3 first_thread_in_memory (name_y ∷ [])) get reading
unfolding open_live
wrong_key binds = let e : Some _ ≡ Some Equal = ap (option_map (λ keys. slice_cmp value_cmp keys (name_y ∷ []))) binds.keys in cc

no_such_rule : (r : Rule) (s : Subst) → ¬ Binds language two_readers (site 11 (1 ∷ []) []) r s
no_such_rule r s binds = let e : None ≡ Some r = binds.rule in cc

-- ---- births that are not free
birth_in_use : (r : Rule) (s : Subst) (after : Configuration) → ¬ Fires language two_spawners (site 7 (1 ∷ 2 ∷ 3 ∷ 4 ∷ 5 ∷ []) []) (10 ∷ 9 ∷ 11 ∷ []) r s after
unfolding open_live
birth_in_use r s after fires = let e : false ≡ true = fires.free in cc

birth_zero : (r : Rule) (s : Subst) (after : Configuration) → ¬ Fires language two_spawners (site 7 (1 ∷ 2 ∷ 3 ∷ 4 ∷ 5 ∷ []) []) (0 ∷ 10 ∷ 11 ∷ []) r s after
unfolding open_live
birth_zero r s after fires = let e : false ≡ true = fires.free in cc

birth_twice : (r : Rule) (s : Subst) (after : Configuration) → ¬ Fires language two_spawners (site 7 (1 ∷ 2 ∷ 3 ∷ 4 ∷ 5 ∷ []) []) (10 ∷ 11 ∷ 10 ∷ []) r s after
birth_twice r s after fires = let e : false ≡ true = fires.different in cc
