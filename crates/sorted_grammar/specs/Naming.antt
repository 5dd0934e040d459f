-- The sorts of a definition by their names.
use Rattle.std.specs.Prelude.{ℕ, ◌-◌, Bool, not, if◌then◌else◌, List, [], ◌∷◌, codes, length, Option, Some, None, is_some, unwrap_or}
use Rattle.std.specs.List.{flat_map}
use Rattle.k_terms.specs.Names.{number_of, with_word}
use Rattle.production_reader.specs.declared.prod.Item.{Item}
use Rattle.production_reader.specs.declared.prod.Item.TheVariants.{Terminal, Sort}
use Rattle.production_reader.specs.declared.prod.Prod.{Prod}
use Rattle.file_reader.specs.declared.sentence.Sentence.{Sentence}
use Rattle.file_reader.specs.declared.sentence.Sentence.TheVariants.{Syntax, Config, Rule}

-- the built-in sorts, which have the numbers 0 to 9
unfoldable pub built_in_names : List (List ℕ)
built_in_names = codes "K" ∷ codes "KItem" ∷ codes "KResult" ∷ codes "Int" ∷ codes "Bool" ∷ codes "String" ∷ codes "Id" ∷ codes "Map" ∷ codes "List"
    ∷ codes "Bag" ∷ []

-- names with some more, each of which goes last where it is new
abbrev pub with_words : List (List ℕ) → List (List ℕ) → List (List ℕ)
with_words names [] = names
with_words names (word ∷ words) = with_words (with_word names word) words

-- The sorts with that of a sentence: a sort that is known changes nothing, and a new one goes last.
abbrev pub with_sort : List (List ℕ) → Sentence → List (List ℕ)
with_sort names (Syntax sort groups) = with_word names sort
with_sort names (Config first past) = names
with_sort names (Rule at first past) = names

abbrev pub with_sorts : List (List ℕ) → List Sentence → List (List ℕ)
with_sorts names [] = names
with_sorts names (sentence ∷ sentences) = with_sorts (with_sort names sentence) sentences

-- The sorts of a definition: the built-in ones, and behind them those that its sentences declare.
abbrev pub names_of : List Sentence → List (List ℕ)
names_of sentences = with_sorts built_in_names sentences

-- how many sorts are declared
abbrev pub declared_count : List Sentence → ℕ
declared_count sentences = length (names_of sentences) - 10

-- the number of a sort that has this name
abbrev pub number_in : List (List ℕ) → List ℕ → ℕ
number_in names name = unwrap_or (number_of names name) 0

-- no sort has this name
abbrev pub is_unknown : List (List ℕ) → List ℕ → Bool
is_unknown names name = not (is_some (number_of names name))

-- the first of some names that passes a test
abbrev pub first_that : (List ℕ → Bool) → List (List ℕ) → Option (List ℕ)
first_that test [] = None
first_that test (name ∷ names) = if test name then Some name else first_that test names

-- the sorts that stand in the items of a production, in order
abbrev pub sort_in : Item → List (List ℕ)
sort_in (Terminal text) = []
sort_in (Sort sort) = sort ∷ []

abbrev pub sorts_in_prod : Prod → List (List ℕ)
sorts_in_prod prod = flat_map sort_in prod.items

abbrev pub sorts_in_group : List Prod → List (List ℕ)
sorts_in_group prods = flat_map sorts_in_prod prods

-- The sorts that a sentence mentions: its own, and those of its items in order.
abbrev pub sorts_in_sentence : Sentence → List (List ℕ)
sorts_in_sentence (Syntax sort groups) = sort ∷ flat_map sorts_in_group groups
sorts_in_sentence (Config first past) = []
sorts_in_sentence (Rule at first past) = []

abbrev pub mentioned_in : List Sentence → List (List ℕ)
mentioned_in sentences = flat_map sorts_in_sentence sentences
