-- The value of a reading.
use Rattle.std.specs.Prelude.{◌≡◌, ℕ, ◌==◌, cond, map, Bool, true, false, List, [], ◌∷◌, Some, None, slice_get}
use Rattle.std.specs.List.{AllByRecursion, flat_map}
use Rattle.k_terms.specs.Sorts.{sort_k, sort_kitem}
use Rattle.k_terms.specs.declared.value.Value.{Value, Int, Bool as Truth, Str, Id, Node, Items, Seq, Node' as NodeV', Items' as ItemsV', Seq' as SeqV', Map' as MapV', List' as ListV', Freezer' as FreezerV'}
use Rattle.grammar_terms.specs.declared.production.Part.{Part}
use Rattle.grammar_terms.specs.declared.production.Part.TheVariants.{Terminal, Sort}
use Rattle.grammar_terms.specs.declared.production.Production.{Production}
use Rattle.grammar_terms.specs.declared.shape.Shape.{Shape, Leaf, Node' as NodeS', Items' as ItemsS', Row_of-Shape, end_of-Shape, more_of-Shape}
use Rattle.grammar_terms.specs.declared.word.Word.{Word}
use Rattle.grammar_terms.specs.declared.word.WordKind.{WordKind}
use Rattle.grammar_terms.specs.declared.word.WordKind.TheVariants.{Terminal as TerminalWord, Literal, Variable, Wild, EmptyList}
use Rattle.grammar_terms.specs.Grammar.{production_at}
use Rattle.grammar_terms.specs.Reading.{IsReading}
use Rattle.grammar_terms.specs.Grammar.{Syntax}

-- the value of a literal or an identifier
abbrev pub literal_of : WordKind → Value
literal_of (Literal value) = value
literal_of (TerminalWord text) = Seq []
literal_of Variable = Seq []
literal_of Wild = Seq []
literal_of EmptyList = Seq []

abbrev pub literal_at : List Word → ℕ → Value
literal_at words at = elim (slice_get words at) [ None ↦ Seq [] | Some word ↦ literal_of word.kind ]

-- a value at a place of a sort: at one of sort K stands the sequence of it
abbrev pub at_sort : ℕ → Value → Value
at_sort sort value = cond (sort == sort_k) (Seq (value ∷ [])) value

-- the value of a list at a place of a sort, or of a sequence, whose number is 0
abbrev pub list_value : ℕ → ℕ → List Value → Value
list_value sort p values = cond (p == 0) (Seq values) (at_sort sort (Items p values))

-- the sorts of the items that are sorts
abbrev pub sort_of_item : Part → List ℕ
sort_of_item (Terminal text) = []
sort_of_item (Sort sort) = sort ∷ []

abbrev pub sorts_in : List Part → List ℕ
sorts_in items = flat_map sort_of_item items

abbrev pub sorts_of : List Production → ℕ → List ℕ
sorts_of prods p = elim (production_at prods p) [ None ↦ [] | Some production ↦ sorts_in production.items ]

-- the sort of a list's elements
abbrev pub first_or_item : List ℕ → ℕ
first_or_item [] = sort_kitem
first_or_item (sort ∷ sorts) = sort

-- The value of a shape at a place of a sort, with the productions that its numbers mean and the words that were read. The
-- shape of a sequence, whose number is 0, has the sequence of its parts.
unfoldable mutual
  pub value_of : List Production → List Word → ℕ → Shape → Value
  value_of prods words sort (Leaf at) = at_sort sort (literal_at words at)
  value_of prods words sort (NodeS' p _ shapes) = at_sort sort (Node p (values_of prods words (sorts_of prods p) shapes))
  value_of prods words sort (ItemsS' p _ shapes rest) = list_value sort p (elements_of prods words (first_or_item (sorts_of prods p)) shapes)

  -- the values of arguments, each at its place's sort
  pub values_of : {n : _} → List Production → List Word → List ℕ → Row_of-Shape n → List Value
  values_of prods words sorts end_of-Shape = []
  values_of prods words [] (more_of-Shape shape shapes) = value_of prods words sort_kitem shape ∷ values_of prods words [] shapes
  values_of prods words (sort ∷ sorts) (more_of-Shape shape shapes) = value_of prods words sort shape ∷ values_of prods words sorts shapes

  -- the values of elements
  pub elements_of : {n : _} → List Production → List Word → ℕ → Row_of-Shape n → List Value
  elements_of prods words sort end_of-Shape = []
  elements_of prods words sort (more_of-Shape shape shapes) = value_of prods words sort shape ∷ elements_of prods words sort shapes

-- the values of several shapes at places of these sorts, and past them at places of items
unfoldable pub values_by : List Production → List Word → List ℕ → List Shape → List Value
values_by prods words sorts [] = []
values_by prods words [] (shape ∷ shapes) = value_of prods words sort_kitem shape ∷ values_by prods words [] shapes
values_by prods words (sort ∷ sorts) (shape ∷ shapes) = value_of prods words sort shape ∷ values_by prods words sorts shapes

-- the values of several shapes at places of one sort
abbrev pub elements_by : List Production → List Word → ℕ → List Shape → List Value
elements_by prods words sort shapes = map (value_of prods words sort) shapes

-- a literal or an identifier of a program
abbrev pub is_plain_value : Value → Bool
is_plain_value (Int number) = true
is_plain_value (Truth truth) = true
is_plain_value (Str text) = true
is_plain_value (Id symbol) = true
is_plain_value (NodeV' _ _ _) = false
is_plain_value (ItemsV' _ _ _) = false
is_plain_value (SeqV' _ _) = false
is_plain_value (MapV' _ _) = false
is_plain_value (ListV' _ _) = false
is_plain_value (FreezerV' _ _ _ _) = false

-- a token of a program: a terminal that no place asks for, a literal or an identifier
abbrev pub is_of_program : WordKind → ℕ → Bool
is_of_program (TerminalWord text) sort = sort == 0
is_of_program (Literal value) sort = is_plain_value value
is_of_program Variable sort = false
is_of_program Wild sort = false
is_of_program EmptyList sort = false

abbrev pub AreOfProgram : List Word → Type 0
AreOfProgram words = AllByRecursion (λ word. is_of_program word.kind word.sort ≡ true) words

-- A value is a reading of the tokens at a sort.
pub record IsRead (g : Syntax) (sort : ℕ) (words : List Word) (value : Value) : Type 0 where
  pub shape : Shape
  pub reading : IsReading g sort words shape
  pub is : value ≡ value_of g.prods words sort shape
