-- What is found of the readings of what is left of a content.
use Rattle.std.specs.Prelude.{◌≡◌, ℕ, ◌<◌, List, [], ◌∷◌, ◌++◌, length, map, Option, Some, None, slice_get}
use Rattle.k_terms.specs.Sorts.{sort_kitem}
use Rattle.k_terms.specs.declared.value.Value.{Value}
use Rattle.grammar_terms.specs.declared.shape.Shape.{Shape}
use Rattle.grammar_terms.specs.declared.word.Word.{Word}
use Rattle.grammar_terms.specs.Grammar.{Syntax}
use Rattle.grammar_terms.specs.Reading.{IsReading}
use Rattle.grammar_terms.specs.Values.{value_of}
use Rattle.cell_contents.specs.declared.ways.Way.{Way}
use Rattle.cell_contents.specs.declared.ways.Way.TheVariants as way
use Rattle.cell_contents.specs.declared.found.Found.{Found}
use Rattle.cell_contents.specs.declared.found.Found.TheVariants.{Zero, One, Many}
use Rattle.cell_contents.specs.declared.table.Entry.{Entry}
use Rattle.cell_contents.specs.declared.table.Table.{Table}
use Rattle.cell_contents.specs.Readings.{Item, item_value}
use Rattle.cell_contents.specs.Tails.{IsTail, Begins}

-- ---- a set of lists of items

-- it has one member, whose items have these values
pub record IsAlone (g : Syntax) (S : List Item → Type 0) (values : List Value) : Type 0 where
  pub items : List Item
  pub has : S items
  pub only : (other : List Item) → S other → other ≡ items
  pub values_are : values ≡ map (item_value g) items

-- two different lists are members
pub record AreTwo (S : List Item → Type 0) : Type 0 where
  pub one : List Item
  pub other : List Item
  pub has_one : S one
  pub has_other : S other
  pub differ : one ≡ other → ⊥

abbrev pub Finds : Syntax → (List Item → Type 0) → Found → Type 0
Finds g S Zero = (items : List Item) → S items → ⊥
Finds g S (One values) = IsAlone g S values
Finds g S Many = AreTwo S

-- what is found in two sets without a common member
abbrev pub union : Found → Found → Found
union Zero more = more
union (One values) Zero = One values
union (One values) (One others) = Many
union (One values) Many = Many
union Many more = Many

-- ---- an item and what follows

-- the only reading of words as an item
pub record IsOnlyItem (g : Syntax) (words : List Word) (shape : Shape) : Type 0 where
  pub reading : IsReading g sort_kitem words shape
  pub only : (other : Shape) → IsReading g sort_kitem words other → other ≡ shape

-- two different ones
pub record AreTwoItems (g : Syntax) (words : List Word) : Type 0 where
  pub one : Shape
  pub other : Shape
  pub is_one : IsReading g sort_kitem words one
  pub is_other : IsReading g sort_kitem words other
  pub differ : one ≡ other → ⊥

-- what is found of words as an item, with the values of what follows
abbrev pub IsFirstThen : Syntax → List Word → List Value → Found → Type 0
IsFirstThen g words rest Zero = (shape : Shape) → IsReading g sort_kitem words shape → ⊥
IsFirstThen g words rest (One values) = (shape : Shape) × IsOnlyItem g words shape × (values ≡ value_of g.prods words sort_kitem shape ∷ rest)
IsFirstThen g words rest Many = AreTwoItems g words

-- what is found of words as an item, where two lists follow
abbrev pub IsFirstOfMany : Syntax → List Word → Found → Type 0
IsFirstOfMany g words Zero = (shape : Shape) → IsReading g sort_kitem words shape → ⊥
IsFirstOfMany g words (One values) = ⊥
IsFirstOfMany g words Many = (shape : Shape) × IsReading g sort_kitem words shape

-- what is found of words as an item, before what is found behind it
abbrev pub IsFirstBefore : Syntax → List Word → Found → Found → Type 0
IsFirstBefore g words Zero found = found ≡ Zero
IsFirstBefore g words (One values) found = IsFirstThen g words values found
IsFirstBefore g words Many found = IsFirstOfMany g words found

-- ---- the table

abbrev pub found_in : Way → Entry → Found
found_in way.Item entry = entry.item
found_in way.Key entry = entry.key
found_in way.Value entry = entry.value
found_in way.Member entry = entry.member

-- an entry tells of the words behind others, in each way in which an item can begin there
abbrev pub IsEntry : Syntax → List Word → List Word → Entry → Type 0
IsEntry g before words entry = (way : Way) → Begins way before → Finds g (IsTail g way words) (found_in way entry)

abbrev pub IsRow : Syntax → List Word → List Word → Option Entry → Type 0
IsRow g before words None = ⊥
IsRow g before words (Some entry) = IsEntry g before words entry

-- the table tells of what is left of words, where that is shorter than this
pub record IsTable (g : Syntax) (words : List Word) (size : ℕ) (table : Table) : Type 0 where
  pub rows : (before rest : List Word) → before ++ rest ≡ words → length rest < size → IsRow g before rest (slice_get table.entries (length rest))
  pub end_is : table.end ≡ One []
  pub none_is : table.none ≡ Zero
