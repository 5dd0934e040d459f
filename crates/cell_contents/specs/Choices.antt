-- The one reading of a content, by the values of its items.
use Rattle.std.specs.Prelude.{◌≡◌, ℕ, suc, List, [], ◌∷◌, Option, Some, None}
use Rattle.std.specs.Option.{option_map}
use Rattle.std.specs.FinMap.Entries.{by_order}
use Rattle.k_terms.specs.Value.{value_cmp}
use Rattle.k_terms.specs.declared.value.Value.{Value}
use Rattle.k_terms.specs.declared.value.Content.{Content}
use Rattle.k_terms.specs.declared.value.Content.TheVariants.{Seq, Map, List as Listed}
use Rattle.grammar_terms.specs.declared.word.Word.{Word}
use Rattle.grammar_terms.specs.Grammar.{Syntax}
use Rattle.rule_terms.specs.Fill.{put_new}
use Rattle.cell_contents.specs.declared.found.Found.{Found}
use Rattle.cell_contents.specs.declared.found.Found.TheVariants.{Zero, One, Many}
use Rattle.cell_contents.specs.declared.chosen.Chosen.{Chosen}
use Rattle.cell_contents.specs.declared.chosen.Chosen.TheVariants.{Sequence as TheSequence, Entries as TheEntries, Members as TheMembers}
use Rattle.cell_contents.specs.Readings.{Reading, Sequence, Entries, Members, IsOnly, read_values}

-- exactly one of three sets has exactly one member
abbrev pub chosen_of : Found → Found → Found → Option Chosen
chosen_of Zero Zero Zero = None
chosen_of Zero Zero (One values) = Some (TheMembers values)
chosen_of Zero Zero Many = None
chosen_of Zero (One values) Zero = Some (TheEntries values)
chosen_of Zero (One values) (One others) = None
chosen_of Zero (One values) Many = None
chosen_of Zero Many members = None
chosen_of (One values) Zero Zero = Some (TheSequence values)
chosen_of (One values) Zero (One others) = None
chosen_of (One values) Zero Many = None
chosen_of (One values) (One others) members = None
chosen_of (One values) Many members = None
chosen_of Many entries members = None

abbrev pub values_in : Chosen → List Value
values_in (TheSequence values) = values
values_in (TheEntries values) = values
values_in (TheMembers values) = values

-- keys and values in turn
abbrev pub in_turn : List (Value × Value) → List Value
in_turn [] = []
in_turn (entry ∷ entries) = entry.0 ∷ entry.1 ∷ in_turn entries

-- how many entries stand before the first whose key is greater
abbrev pub place_in : Value → List (Value × Value) → ℕ
place_in key [] = 0
place_in key (entry ∷ entries) = by_order (value_cmp key entry.0) 0 (suc (place_in key entries)) (suc (place_in key entries))

-- the content of values, and none where a key stands twice
abbrev pub Makes : Chosen → Option Content → Type 0
Makes (TheSequence values) content = content ≡ Some (Seq values)
Makes (TheMembers values) content = content ≡ Some (Listed values)
Makes (TheEntries values) content = (entries : List (Value × Value)) → values ≡ in_turn entries → content ≡ option_map Map (put_new entries [])

-- a reading is of this way, with these values
abbrev pub Shows : Syntax → Reading → Chosen → Type 0
Shows g (Sequence first items) (TheSequence values) = values ≡ read_values g (Sequence first items)
Shows g (Entries first entries) (TheEntries values) = values ≡ read_values g (Entries first entries)
Shows g (Members first items) (TheMembers values) = values ≡ read_values g (Members first items)
Shows g _ _ = ⊥

-- the one reading of words shows these values
pub record IsShown (g : Syntax) (words : List Word) (chosen : Chosen) : Type 0 where
  pub reading : Reading
  pub only : IsOnly g words reading
  pub shows : Shows g reading chosen

-- the values of the one reading of words, and none where there is no such reading
abbrev pub IsChosen : Syntax → List Word → Option Chosen → Type 0
IsChosen g words None = (reading : Reading) → IsOnly g words reading → ⊥
IsChosen g words (Some chosen) = IsShown g words chosen
