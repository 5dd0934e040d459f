-- Steps of the language of threads over plain configurations.
use Rattle.std.proofs.Common.{arith, ◌≡◌, ℕ, List, [], ◌∷◌, refl}
use Rattle.std.specs.Prelude.{None}
use Rattle.k_terms.specs.declared.value.Value.{Value, Seq, Map as Mapping}
use Rattle.k_terms.specs.declared.value.Content.TheVariants.{Cells as NoContent, Seq as SeqContent, Map as MapContent}
use Rattle.k_terms.specs.Sorts.{Below, same, built_in}
use Rattle.rule_terms.specs.declared.plain.Plain.{Plain}
use Rattle.rule_terms.specs.Substitution.{Subst, Whole, Bag}
use Rattle.rule_terms.specs.Fill.{fill, plain_cell}
use Rattle.rule_terms.specs.Rewriting.{Step, Run}
use Rattle.rule_terms.specs.Open.{open_rules}
use Rattle.rule_terms.proofs.Alike.{alike_self, filled}
use Rattle.rule_terms.proofs.ExamplesPar.{sorts, next_command, get, set, insert, count, spawn, quit, pair, kill, name_x, name_y, number, get_x, set_x, new_entry, commands, spawn_of, count_command, quit_command, pair_command, kill_command, front}

abbrev pub env : Plain
env = plain_cell 4 (MapContent []) []

abbrev pub thread : List Value → Plain
thread items = plain_cell 2 NoContent (plain_cell 3 (SeqContent items) [] ∷ env ∷ [])

abbrev pub state : List Plain → List (Value × Value) → Plain
state threads entries = plain_cell 0 NoContent (plain_cell 1 NoContent threads ∷ plain_cell 5 (MapContent entries) [] ∷ [])

abbrev pub x_is : ℕ → List (Value × Value)
x_is n = (name_x, number n) ∷ []

-- a thread that has done its command
abbrev pub done : List Value
done = commands [] ∷ []

-- whole numbers are items
pub int_is_item : Below sorts 3 1
int_is_item = built_in 3 (0, omega arith, refl)

-- ---- a list of commands is split: the rest of the list is its value
abbrev pub splitting : Subst
splitting =
    Whole (spawn_of (get_x ∷ [])) ∷ Whole (commands (get_x ∷ [])) ∷ Whole (Seq []) ∷ Bag (env ∷ []) ∷ Bag [] ∷ Bag (plain_cell 5 (MapContent (x_is 1)) [] ∷ []) ∷ []

pub split_step : Step sorts (state (thread (commands (spawn_of (get_x ∷ []) ∷ get_x ∷ []) ∷ []) ∷ []) (x_is 1)) next_command splitting (state (thread (spawn_of (get_x ∷ []) ∷ commands (get_x ∷ []) ∷ []) ∷ []) (x_is 1))
unfolding open_rules
split_step = record {
  suits = record { sorts = (same 10, (same 11, (same 0, (refl, (refl, (refl, tt)))))); conditions = tt };
  before = filled next_command.left splitting _ refl;
  after = filled next_command.right splitting _ refl;
}

-- ---- an entry of the memory is read by one thread, and the other is in a rest of cells
abbrev pub reading : Subst
reading = Whole name_x ∷ Whole (number 1) ∷ Whole (Seq done) ∷ Whole (Mapping []) ∷ Bag (env ∷ []) ∷ Bag (thread (front get_x) ∷ []) ∷ Bag [] ∷ []

pub get_step : Step sorts (state (thread (front get_x) ∷ thread (front get_x) ∷ []) (x_is 1)) get reading (state (thread done ∷ thread (front get_x) ∷ []) (x_is 1))
unfolding open_rules
get_step = record {
  suits = record { sorts = (same 6, (int_is_item, (same 0, (same 7, (refl, (refl, (refl, tt))))))); conditions = tt };
  before = filled get.left reading _ refl;
  after = filled get.right reading _ refl;
}

-- the same step where the threads stand the other way round after it
pub get_step_in_another_order : Step sorts (state (thread (front get_x) ∷ thread (front get_x) ∷ []) (x_is 1)) get reading (state (thread (front get_x) ∷ thread done ∷ []) (x_is 1))
unfolding open_rules
get_step_in_another_order = record {
  suits = record { sorts = (same 6, (int_is_item, (same 0, (same 7, (refl, (refl, (refl, tt))))))); conditions = tt };
  before = filled get.left reading _ refl;
  after = (
    refl,
    refl,
    (
      [],
      plain_cell 1 NoContent (thread (front get_x) ∷ thread done ∷ []),
      plain_cell 5 (MapContent (x_is 1)) [] ∷ [],
      refl,
      (refl, refl, (thread (front get_x) ∷ [], thread done, [], refl, alike_self (thread done), ([], thread (front get_x), [], refl, alike_self (thread (front get_x)), refl))),
      ([], plain_cell 5 (MapContent (x_is 1)) [], [], refl, alike_self (plain_cell 5 (MapContent (x_is 1)) []), refl),
    ),
  );
}

-- ---- an entry is rewritten
abbrev pub rewriting : Subst
rewriting = Whole name_x ∷ Whole (number 2) ∷ Whole (Seq done) ∷ Whole (Mapping ((name_y, number 7) ∷ [])) ∷ Bag (env ∷ []) ∷ Bag [] ∷ Bag [] ∷ Whole (number 1) ∷ []

pub set_step : Step sorts (state (thread (front (set_x 2)) ∷ []) ((name_x, number 1) ∷ (name_y, number 7) ∷ [])) set rewriting (state (thread done ∷ []) ((name_x, number 2) ∷ (name_y, number 7) ∷ []))
unfolding open_rules
set_step = record {
  suits = record { sorts = (same 6, (same 3, (same 0, (same 7, (refl, (refl, (refl, (int_is_item, tt)))))))); conditions = tt };
  before = filled set.left rewriting _ refl;
  after = filled set.right rewriting _ refl;
}

-- ---- a new entry goes between, in the order of keys; one whose key is there already leaves no right side
abbrev pub inserting : List (Value × Value) → Subst
inserting entries = Whole name_y ∷ Whole (number 5) ∷ Whole (Seq done) ∷ Whole (Mapping entries) ∷ Bag (env ∷ []) ∷ Bag [] ∷ Bag [] ∷ []

pub new_step : Step sorts (state (thread (front (new_entry name_y 5)) ∷ []) (x_is 1)) insert (inserting (x_is 1)) (state (thread done ∷ []) ((name_x, number 1) ∷ (name_y, number 5) ∷ []))
unfolding open_rules
new_step = record {
  suits = record { sorts = (same 6, (same 3, (same 0, (same 7, (refl, (refl, (refl, tt))))))); conditions = tt };
  before = filled insert.left (inserting (x_is 1)) _ refl;
  after = filled insert.right (inserting (x_is 1)) _ refl;
}

pub key_is_there : fill insert.right (inserting ((name_y, number 1) ∷ [])) ≡ None
unfolding open_rules
key_is_there = refl

-- ---- a condition with an operator
abbrev pub counting : List (Value × Value) → Subst
counting entries = Whole (Mapping entries) ∷ Whole (Seq done) ∷ Bag (env ∷ []) ∷ Bag [] ∷ Bag [] ∷ []

pub count_step : Step sorts (state (thread (front count_command) ∷ []) (x_is 1)) count (counting (x_is 1)) (state (thread done ∷ []) (x_is 1))
unfolding open_rules
count_step = record {
  suits = record { sorts = (same 7, (same 0, (refl, (refl, (refl, tt))))); conditions = (refl, tt) };
  before = filled count.left (counting (x_is 1)) _ refl;
  after = filled count.right (counting (x_is 1)) _ refl;
}

-- ---- a new thread gets the commands and the environment
abbrev pub spawning : Subst
spawning =
    Whole (commands (get_x ∷ [])) ∷ Whole (Mapping []) ∷ Whole (Seq done) ∷ Bag [] ∷ Bag [] ∷ Bag (plain_cell 5 (MapContent (x_is 1)) [] ∷ []) ∷ []

pub spawn_step : Step sorts (state (thread (front (spawn_of (get_x ∷ []))) ∷ []) (x_is 1)) spawn spawning (state (thread done ∷ thread (commands (get_x ∷ []) ∷ []) ∷ []) (x_is 1))
unfolding open_rules
spawn_step = record {
  suits = record { sorts = (same 11, (same 7, (same 0, (refl, (refl, (refl, tt)))))); conditions = tt };
  before = filled spawn.left spawning _ refl;
  after = filled spawn.right spawning _ refl;
}

-- ---- a thread goes, with all that is in it
abbrev pub quitting : Subst
quitting = Whole (Seq done) ∷ Bag (env ∷ []) ∷ Bag (thread done ∷ []) ∷ Bag (plain_cell 5 (MapContent (x_is 1)) [] ∷ []) ∷ []

pub quit_step : Step sorts (state (thread (front quit_command) ∷ thread done ∷ []) (x_is 1)) quit quitting (state (thread done ∷ []) (x_is 1))
unfolding open_rules
quit_step = record {
  suits = record { sorts = (same 0, (refl, (refl, (refl, tt)))); conditions = tt };
  before = filled quit.left quitting _ refl;
  after = filled quit.right quitting _ refl;
}

abbrev pub killing : Subst
killing =
    Whole name_x ∷ Whole (Seq done) ∷ Whole (Seq done) ∷ Bag (env ∷ []) ∷ Bag (env ∷ []) ∷ Bag [] ∷ Bag (plain_cell 5 (MapContent (x_is 1)) [] ∷ []) ∷ []

pub kill_step : Step sorts (state (thread (front kill_command) ∷ thread (front get_x) ∷ []) (x_is 1)) kill killing (state (thread done ∷ []) (x_is 1))
unfolding open_rules
kill_step = record {
  suits = record { sorts = (same 6, (same 0, (same 0, (refl, (refl, (refl, (refl, tt))))))); conditions = tt };
  before = filled kill.left killing _ refl;
  after = filled kill.right killing _ refl;
}

-- ---- two threads under a closed cell
abbrev pub pairing : Subst
pairing = Whole (Seq done) ∷ Bag (env ∷ []) ∷ Bag (plain_cell 3 (SeqContent done) [] ∷ env ∷ []) ∷ Bag (plain_cell 5 (MapContent (x_is 1)) [] ∷ []) ∷ []

pub pair_step : Step sorts (state (thread (front pair_command) ∷ thread done ∷ []) (x_is 1)) pair pairing (state (thread done ∷ thread done ∷ []) (x_is 1))
unfolding open_rules
pair_step = record {
  suits = record { sorts = (same 0, (refl, (refl, (refl, tt)))); conditions = tt };
  before = filled pair.left pairing _ refl;
  after = filled pair.right pairing _ refl;
}

-- ---- a run of one step
pub kill_run : Run sorts (state (thread (front kill_command) ∷ thread (front get_x) ∷ []) (x_is 1)) ((kill, killing) ∷ []) (state (thread done ∷ []) (x_is 1))
kill_run = (state (thread done ∷ []) (x_is 1), kill_step, alike_self (state (thread done ∷ []) (x_is 1)))
