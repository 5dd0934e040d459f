-- What is left of a content, from the beginning of an item on.
use Rattle.std.specs.Prelude.{◌≡◌, ℕ, ◌<◌, List, [], ◌∷◌, ◌++◌, length, codes}
use Rattle.grammar_terms.specs.declared.word.Word.{Word}
use Rattle.grammar_terms.specs.Grammar.{Syntax}
use Rattle.cell_contents.specs.declared.ways.Way.{Way}
use Rattle.cell_contents.specs.declared.ways.Way.TheVariants as way
use Rattle.cell_contents.specs.Marks.{terminal}
use Rattle.cell_contents.specs.Readings.{Item, IsItem}

abbrev pub arrow : Word
arrow = terminal (codes "~>")

abbrev pub maps_to : Word
maps_to = terminal (codes "|->")

abbrev pub list_item : Word
list_item = terminal (codes "ListItem")

abbrev pub opening : Word
opening = terminal (codes "(")

abbrev pub closing : Word
closing = terminal (codes ")")

-- what the next item is
abbrev pub next_way : Way → Way
next_way way.Item = way.Item
next_way way.Key = way.Value
next_way way.Value = way.Key
next_way way.Member = way.Member

-- the words between an item and the next one
abbrev pub link : Way → List Word
link way.Item = arrow ∷ []
link way.Key = maps_to ∷ []
link way.Value = []
link way.Member = closing ∷ list_item ∷ opening ∷ []

-- the words behind the last item
abbrev pub IsEnd : Way → List Word → Type 0
IsEnd way.Item words = words ≡ []
IsEnd way.Key words = ⊥
IsEnd way.Value words = words ≡ []
IsEnd way.Member words = words ≡ closing ∷ []

-- what stands behind an item: the end, or further items with what is between them
abbrev pub Follows : Syntax → Way → List Word → List Item → Type 0
Follows g way words [] = IsEnd way words
Follows g way words (item ∷ items) =
    (start : List Word) × (words ≡ link way ++ start)
    × ((rest : List Word) × (start ≡ item.words ++ rest) × IsItem g item × Follows g (next_way way) rest items)

-- items of which the first begins with the words
abbrev pub IsTail : Syntax → Way → List Word → List Item → Type 0
IsTail g way words [] = ⊥
IsTail g way words (item ∷ items) = (rest : List Word) × (words ≡ item.words ++ rest) × IsItem g item × Follows g way rest items

-- and the first has fewer words than this
abbrev pub IsTailWithin : Syntax → Way → List Word → ℕ → List Item → Type 0
IsTailWithin g way words size [] = ⊥
IsTailWithin g way words size (item ∷ items) = (length item.words < size) × IsTail g way words (item ∷ items)

-- items of which the first is these words, and the others of a set
abbrev pub Starts : Syntax → (List Item → Type 0) → List Word → List Item → Type 0
Starts g F words [] = ⊥
Starts g F words (item ∷ items) = (item.words ≡ words) × IsItem g item × F items

-- words that begin with what opens a member of a list
abbrev pub OpensList : List Word → List Word → Type 0
OpensList words rest = words ≡ list_item ∷ opening ∷ rest

-- the members of a list
abbrev pub AreMembers : Syntax → List Word → List Item → Type 0
AreMembers g words items = (start : List Word) × OpensList words start × IsTail g way.Member start items

-- the mark that stands before an item of a content, or none
abbrev pub mark_before : Way → List Word
mark_before way.Item = arrow ∷ []
mark_before way.Key = []
mark_before way.Value = maps_to ∷ []
mark_before way.Member = opening ∷ []

-- words behind which an item can begin
abbrev pub Begins : Way → List Word → Type 0
Begins way words = (before : List Word) × (words ≡ before ++ mark_before way)
