-- What a reading of tokens is.
use Rattle.std.specs.Prelude.{◌≡◌, ◌⊎◌, ℕ, ◌+◌, ◌<◌, ◌==◌, Bool, true, false, cond, List, [], ◌∷◌, ◌++◌, length, codes, Option, Some, None, option_map, slice_get}
use Rattle.k_terms.specs.Sorts.{Below, sort_k, sort_kitem}
use Rattle.production_reader.specs.declared.prod.Form.TheVariants.{UserList}
use Rattle.grammar_terms.specs.declared.production.Part.TheVariants.{Terminal, Sort}
use Rattle.grammar_terms.specs.declared.production.Production.{Production}
use Rattle.grammar_terms.specs.declared.shape.Shape.{Shape, Leaf, Node, Items, Items', Row_of-Shape, end_of-Shape, more_of-Shape}
use Rattle.grammar_terms.specs.declared.word.Word.{Word}
use Rattle.grammar_terms.specs.declared.word.WordKind.{WordKind}
use Rattle.grammar_terms.specs.declared.word.WordKind.TheVariants.{Terminal as TerminalWord, Literal, Variable, Wild, EmptyList}
use Rattle.grammar_terms.specs.Grammar.{Syntax, production_at, order_of, is_list, step_from}
use Rattle.grammar_terms.specs.Edges.{permitted}
use Rattle.grammar_terms.specs.Places.{token_place_at}

-- the token at a place is this terminal
abbrev pub IsTerminalAt : List Word → ℕ → List ℕ → Type 0
IsTerminalAt words at text = option_map (λ word. word.kind) (slice_get words at) ≡ Some (TerminalWord text)

-- a token that is a reading of its own sort
abbrev pub is_leaf : WordKind → Bool
is_leaf (TerminalWord text) = false
is_leaf (Literal value) = true
is_leaf Variable = true
is_leaf Wild = false
is_leaf EmptyList = false

-- the token at a place is a reading of this sort, its own
abbrev pub IsLeafAt : List Word → ℕ → ℕ → Type 0
IsLeafAt words at sort = (word : Word) × (slice_get words at ≡ Some word) × (is_leaf word.kind ≡ true) × (word.sort ≡ sort)

-- the token at a place is of a kind and a sort
abbrev pub IsWordAt : List Word → ℕ → WordKind → ℕ → Type 0
IsWordAt words at kind sort = (word : Word) × (slice_get words at ≡ Some word) × (word.kind ≡ kind) × (word.sort ≡ sort)

abbrev pub is_wild : WordKind → Bool
is_wild (TerminalWord text) = false
is_wild (Literal value) = false
is_wild Variable = false
is_wild Wild = true
is_wild EmptyList = false

-- the token at a place is a variable without a sort
abbrev pub is_wild_at : List Word → ℕ → Bool
is_wild_at words at = elim (slice_get words at) [ None ↦ false | Some word ↦ is_wild word.kind ]

-- a shape is such a token
unfoldable pub is_wild_leaf : List Word → Shape → Bool
is_wild_leaf words (Leaf at) = is_wild_at words at
is_wild_leaf words _ = false

-- the shapes are one such token alone
abbrev pub is_wild_alone : List Word → List Shape → Bool
is_wild_alone words [] = false
is_wild_alone words (shape ∷ []) = is_wild_leaf words shape
is_wild_alone words (one ∷ other ∷ shapes) = false

-- a production whose items are read in order: no list production and no subsort step
pub record IsPlain (prods : List Production) (p : ℕ) (production : Production) : Type 0 where
  pub is : production_at prods p ≡ Some production
  pub no_list : is_list production.form ≡ false
  pub no_step : step_from production ≡ None

-- a production that reads lists of elements of a sort, with a text between, which may be empty
pub record IsListOf (prods : List Production) (p sort : ℕ) (separator : List ℕ) : Type 0 where
  pub production : Production
  pub is : production_at prods p ≡ Some production
  pub form : production.form ≡ UserList separator
  pub element : production.items ≡ Sort sort ∷ []

-- between two elements stands the separator, or nothing where it is empty
abbrev pub IsBetween : List Word → List ℕ → ℕ → ℕ → Type 0
IsBetween words [] at next = next ≡ at
IsBetween words (byte ∷ bytes) at next = IsTerminalAt words at (byte ∷ bytes) × (next ≡ at + 1)

-- An item at a place of sort K is of sort KItem.
abbrev pub item_sort : ℕ → ℕ
item_sort sort = cond (sort == sort_k) sort_kitem sort

-- What is of a sort may stand at a place of another one that it is below, where one of sort K takes an item; and at a place of
-- its own sort, K too.
abbrev pub Fits : Syntax → ℕ → ℕ → Type 0
Fits g own sort = Below (order_of g) own (item_sort sort) ⊎ (own ≡ sort)

-- The grammar is one for rules: it has builtin productions.
abbrev pub IsForRules : Syntax → Type 0
IsForRules g = g.declared < length g.prods

unfoldable pub is_single : {n : _} → Row_of-Shape n → Bool
is_single end_of-Shape = false
is_single (more_of-Shape _ end_of-Shape) = true
is_single (more_of-Shape _ (more_of-Shape _ _)) = false

-- a list of exactly one element without a rest
unfoldable pub is_lone : Shape → Bool
is_lone (Items' _ _ elements None) = is_single elements
is_lone _ = false

-- At a place of sort KItem, and so of sort K, no such list stands.
abbrev pub takes : ℕ → Shape → Bool
takes sort shape = cond (item_sort sort == sort_kitem) (cond (is_lone shape) false true) true

-- a production may stand at a place of another, and anywhere where there is no other around it
abbrev pub may_stand : Syntax → Option (ℕ × ℕ) → ℕ → Type 0
may_stand g None child = Unit {0}
may_stand g (Some place) child = permitted g.prods place.0 place.1 child ≡ true

mutual
  -- A production reads the tokens from one place up to another, with this shape. A bracket has the shape of what it
  -- encloses. A list production reads its elements, unless that is a variable without a sort alone, which is a whole list; and
  -- in a rule one element or more, the separator and a variable of its own sort, the rest, or a token that is its empty list.
  pub data Reads (g : Syntax) (words : List Word) : ℕ → ℕ → ℕ → Shape → Type 0 where
    reads_plain : (p from past : ℕ) (production : Production) (shapes : List Shape) (shape : Shape) → IsPlain g.prods p production → production.attrs.bracket ≡ false
        → Parts g words p production (length production.items) from past shapes → shape ≡ Node p shapes → Reads g words p from past shape
    reads_bracket : (p from past : ℕ) (production : Production) (shape : Shape) → IsPlain g.prods p production → production.attrs.bracket ≡ true
        → Parts g words p production (length production.items) from past (shape ∷ []) → Reads g words p from past shape
    reads_list : (p from past element : ℕ) (separator : List ℕ) (shapes : List Shape) (shape : Shape) → IsListOf g.prods p element separator
        → Elements g words p element separator from past shapes → is_wild_alone words shapes ≡ false → shape ≡ Items p shapes None → Reads g words p from past shape
    reads_rest : (p from at next element : ℕ) (separator : List ℕ) (first : Shape) (shapes : List Shape) (shape : Shape) (list : IsListOf g.prods p element separator)
        → Elements g words p element separator from at (first ∷ shapes) → IsBetween words separator at next → IsWordAt words next Variable list.production.sort
        → shape ≡ Items p (first ∷ shapes) (Some next) → Reads g words p from (next + 1) shape
    reads_empty : (p at element : ℕ) (separator : List ℕ) (shape : Shape) (list : IsListOf g.prods p element separator)
        → IsWordAt words at EmptyList list.production.sort → shape ≡ Items p [] None → Reads g words p at (at + 1) shape

  -- The first items of a production, so many, read the tokens from one place up to another; the shapes are those of the
  -- sort items.
  pub data Parts (g : Syntax) (words : List Word) : ℕ → Production → ℕ → ℕ → ℕ → List Shape → Type 0 where
    no_item : (p : ℕ) (production : Production) (from : ℕ) → Parts g words p production 0 from from []
    terminal_item : (p : ℕ) (production : Production) (count from at : ℕ) (shapes : List Shape) (text : List ℕ)
        → Parts g words p production count from at shapes → slice_get production.items count ≡ Some (Terminal text) → IsTerminalAt words at text
        → Parts g words p production (count + 1) from (at + 1) shapes
    sort_item : (p : ℕ) (production : Production) (count from at past : ℕ) (shapes : List Shape) (sort : ℕ) (shape : Shape)
        → Parts g words p production count from at shapes → slice_get production.items count ≡ Some (Sort sort) → Child g words (Some (p, count)) sort at past shape
        → Parts g words p production (count + 1) from past (shapes ++ shape ∷ [])

  -- Elements of a list read the tokens from one place up to another.
  pub data Elements (g : Syntax) (words : List Word) : ℕ → ℕ → List ℕ → ℕ → ℕ → List Shape → Type 0 where
    no_element : (p sort : ℕ) (separator : List ℕ) (from : ℕ) → Elements g words p sort separator from from []
    first_element : (p sort : ℕ) (separator : List ℕ) (from past : ℕ) (shape : Shape)
        → Child g words (Some (p, 0)) sort from past shape → Elements g words p sort separator from past (shape ∷ [])
    next_element : (p sort : ℕ) (separator : List ℕ) (from at next past : ℕ) (first : Shape) (shapes : List Shape) (shape : Shape)
        → Elements g words p sort separator from at (first ∷ shapes) → IsBetween words separator at next → Child g words (Some (p, 0)) sort next past shape
        → Elements g words p sort separator from past (first ∷ shapes ++ shape ∷ [])

  -- What stands at a place of a sort: a token of a sort that fits, or what a production of such a sort reads; a variable
  -- without a sort at each place of a sort that has a name; at one of sort K also a token that is the empty sequence, and in a
  -- rule two or more parts in parentheses; and at a place that asks for one token such a one. The place is a production's number and the number of its item, from 0; there is none where the tokens are a
  -- whole text or a part of a sequence. The shape of a sequence is that of a list, with 0 for the number of its production.
  pub data Child (g : Syntax) (words : List Word) : Option (ℕ × ℕ) → ℕ → ℕ → ℕ → Shape → Type 0 where
    stands_leaf : (place : Option (ℕ × ℕ)) (sort at own : ℕ) (shape : Shape) → IsLeafAt words at own → Fits g own sort
        → shape ≡ Leaf at → Child g words place sort at (at + 1) shape
    stands_wild : (place : Option (ℕ × ℕ)) (sort at : ℕ) (shape : Shape) → is_wild_at words at ≡ true → sort < length g.names → shape ≡ Leaf at
        → Child g words place sort at (at + 1) shape
    stands_token : (place : Option (ℕ × ℕ)) (sort at : ℕ) (shape : Shape) → token_place_at words at ≡ Some sort → shape ≡ Leaf at → Child g words place sort at (at + 1) shape
    stands_reading : (place : Option (ℕ × ℕ)) (sort from past p : ℕ) (production : Production) (shape : Shape) → Reads g words p from past shape
        → production_at g.prods p ≡ Some production → Fits g production.sort sort → may_stand g place p → takes sort shape ≡ true
        → Child g words place sort from past shape
    stands_nothing : (place : Option (ℕ × ℕ)) (sort at : ℕ) (shape : Shape) → sort ≡ sort_k → IsWordAt words at EmptyList sort_k → shape ≡ Items 0 [] None
        → Child g words place sort at (at + 1) shape
    stands_sequence : (place : Option (ℕ × ℕ)) (sort from at : ℕ) (first second : Shape) (shapes : List Shape) (shape : Shape) → sort ≡ sort_k → IsForRules g
        → IsTerminalAt words from (codes "(") → Sequence g words (from + 1) at (first ∷ second ∷ shapes) → IsTerminalAt words at (codes ")")
        → shape ≡ Items 0 (first ∷ second ∷ shapes) None → Child g words place sort from (at + 1) shape

  -- Parts of a sequence, one or more, joined by arrows, read the tokens from one place up to another.
  pub data Sequence (g : Syntax) (words : List Word) : ℕ → ℕ → List Shape → Type 0 where
    one_part : (from past : ℕ) (shape : Shape) → Joins g words from past shape → Sequence g words from past (shape ∷ [])
    next_part : (from at past : ℕ) (shapes : List Shape) (shape : Shape) → Sequence g words from at shapes → IsTerminalAt words at (codes "~>")
        → Joins g words (at + 1) past shape → Sequence g words from past (shapes ++ shape ∷ [])

  -- A part of a sequence: an item, or a variable of sort K.
  pub data Joins (g : Syntax) (words : List Word) : ℕ → ℕ → Shape → Type 0 where
    joins_item : (from past : ℕ) (shape : Shape) → Child g words None sort_kitem from past shape → Joins g words from past shape
    joins_variable : (at : ℕ) (shape : Shape) → IsWordAt words at Variable sort_k → shape ≡ Leaf at → Joins g words at (at + 1) shape

-- A shape is a reading of the tokens at a sort.
abbrev pub IsReading : Syntax → ℕ → List Word → Shape → Type 0
IsReading g sort words shape = Child g words None sort 0 (length words) shape
