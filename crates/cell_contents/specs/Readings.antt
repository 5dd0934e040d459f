-- How a content is read: as items of a sequence, entries of a map, or members of a list.
use Rattle.std.specs.Prelude.{◌≡◌, ◌<◌, ◌≤◌, List, [], ◌∷◌, ◌++◌, length, codes, map, Option, Some, option_map}
use Rattle.std.specs.List.{AllByRecursion, flat_map}
use Rattle.k_terms.specs.Sorts.{sort_kitem}
use Rattle.k_terms.specs.Value.{depth_of}
use Rattle.k_terms.specs.Operators.{depth_limit}
use Rattle.k_terms.specs.declared.value.Value.{Value}
use Rattle.k_terms.specs.declared.value.Content.{Content}
use Rattle.k_terms.specs.declared.value.Content.TheVariants.{Seq, Map, List as Listed}
use Rattle.grammar_terms.specs.declared.shape.Shape.{Shape}
use Rattle.grammar_terms.specs.declared.word.Word.{Word}
use Rattle.grammar_terms.specs.Grammar.{Syntax}
use Rattle.grammar_terms.specs.Reading.{IsReading}
use Rattle.grammar_terms.specs.Values.{value_of}
use Rattle.rule_terms.specs.Fill.{put_new}
use Rattle.cell_contents.specs.Marks.{terminal}

-- words that are read as one item, with its shape
pub record Item : Type 0 where
  pub words : List Word
  pub shape : Shape

-- an item has at least one word
pub record IsItem (g : Syntax) (item : Item) : Type 0 where
  pub some : 0 < length item.words
  pub read : IsReading g sort_kitem item.words item.shape

pub data Reading : Type 0 where
  Sequence : Item → List Item → Reading
  Entries : Item × Item → List (Item × Item) → Reading
  Members : Item → List Item → Reading

-- ---- how each is written

abbrev pub behind_arrow : Item → List Word
behind_arrow item = terminal (codes "~>") ∷ item.words

abbrev pub entry_words : Item × Item → List Word
entry_words entry = entry.0.words ++ terminal (codes "|->") ∷ entry.1.words

abbrev pub member_words : Item → List Word
member_words item = (terminal (codes "ListItem") ∷ terminal (codes "(") ∷ item.words) ++ terminal (codes ")") ∷ []

abbrev pub written : Reading → List Word
written (Sequence first items) = first.words ++ flat_map behind_arrow items
written (Entries first entries) = flat_map entry_words (first ∷ entries)
written (Members first items) = flat_map member_words (first ∷ items)

-- ---- what its parts are

abbrev pub IsEntry : Syntax → Item × Item → Type 0
IsEntry g entry = IsItem g entry.0 × IsItem g entry.1

abbrev pub AreParts : Syntax → Reading → Type 0
AreParts g (Sequence first items) = AllByRecursion (IsItem g) (first ∷ items)
AreParts g (Entries first entries) = AllByRecursion (IsEntry g) (first ∷ entries)
AreParts g (Members first items) = AllByRecursion (IsItem g) (first ∷ items)

-- the words have this reading
pub record IsRead (g : Syntax) (words : List Word) (reading : Reading) : Type 0 where
  pub parts : AreParts g reading
  pub is : written reading ≡ words

-- and no other
pub record IsOnly (g : Syntax) (words : List Word) (reading : Reading) : Type 0 where
  pub is : IsRead g words reading
  pub only : (other : Reading) → IsRead g words other → other ≡ reading

-- ---- its content

abbrev pub item_value : Syntax → Item → Value
item_value g item = value_of g.prods item.words sort_kitem item.shape

abbrev pub entry_value : Syntax → Item × Item → Value × Value
entry_value g entry = (item_value g entry.0, item_value g entry.1)

-- the content of a reading, and none where a key stands twice
abbrev pub content_of : Syntax → Reading → Option Content
content_of g (Sequence first items) = Some (Seq (map (item_value g) (first ∷ items)))
content_of g (Entries first entries) = option_map (λ es. Map es) (put_new (map (entry_value g) (first ∷ entries)) [])
content_of g (Members first items) = Some (Listed (map (item_value g) (first ∷ items)))

-- the values of its items in order, of each entry the key and then the value
abbrev pub entry_values : Syntax → Item × Item → List Value
entry_values g entry = item_value g entry.0 ∷ item_value g entry.1 ∷ []

abbrev pub read_values : Syntax → Reading → List Value
read_values g (Sequence first items) = map (item_value g) (first ∷ items)
read_values g (Entries first entries) = flat_map (entry_values g) (first ∷ entries)
read_values g (Members first items) = map (item_value g) (first ∷ items)

-- no value is too deep
abbrev pub IsShallow : Value → Type 0
IsShallow value = depth_of value ≤ depth_limit

abbrev pub AreShallow : Syntax → Reading → Type 0
AreShallow g reading = AllByRecursion IsShallow (read_values g reading)

-- the content of the one reading, in which no value is too deep
pub record IsContent (g : Syntax) (words : List Word) (content : Content) : Type 0 where
  pub reading : Reading
  pub only : IsOnly g words reading
  pub shallow : AreShallow g reading
  pub is : content_of g reading ≡ Some content
