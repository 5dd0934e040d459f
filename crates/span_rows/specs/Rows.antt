-- Rows of the table, and how one comes from others.
use Rattle.std.specs.Prelude.{◌≡◌, ◌⊎◌, ℕ, ◌<◌, Bool, true, false, cond, ◌==◌, List, [], ◌∷◌, ◌++◌, length, codes, Option, Some, None}
use Rattle.k_terms.specs.Sorts.{sort_k, sort_kitem}
use Rattle.production_reader.specs.declared.prod.Form.TheVariants.{UserList}
use Rattle.grammar_terms.specs.declared.production.Production.{Production}
use Rattle.grammar_terms.specs.declared.word.Word.{Word}
use Rattle.grammar_terms.specs.declared.word.WordKind.TheVariants.{Variable}
use Rattle.grammar_terms.specs.Cuts.{Has}
use Rattle.grammar_terms.specs.Grammar.{Syntax, production_at}
use Rattle.grammar_terms.specs.Places.{wild_place}
use Rattle.grammar_terms.specs.Reading.{IsTerminalAt, IsWordAt, Fits, item_sort, may_stand}
use Rattle.span_rows.specs.declared.row.Class.{Class}
use Rattle.span_rows.specs.declared.row.Class.TheVariants.{Lone, Wild as WildClass, Other}
use Rattle.span_rows.specs.declared.row.Held.{Held}
use Rattle.span_rows.specs.declared.row.Held.TheVariants.{Nothing, More}
use Rattle.span_rows.specs.declared.row.Key.{Key}
use Rattle.span_rows.specs.declared.row.Key.TheVariants.{Front, Whole, Token, Wild, Place, Sequence}
use Rattle.span_rows.specs.declared.row.Row.{Row}
use Rattle.span_rows.specs.declared.sign.Sign.{Sign}
use Rattle.span_rows.specs.declared.sign.Sign.TheVariants.{Open, Leaf as LeafSign, Items as ItemsSign, ItemsAnd}
use Rattle.span_rows.specs.Steps.{sort_wanted, text_wanted, count_after, held_with, is_nothing, whole_class, whole_code, is_read}

abbrev pub row : Key → List Sign → Row
row key code = record { key = key; code = code }

-- two rows of a key with different codes stand among rows
pub record HasTwoOf (rows : List Row) (key : Key) : Type 0 where
  pub one : List Sign
  pub other : List Sign
  pub has_one : Has rows (row key one)
  pub has_other : Has rows (row key other)
  pub differ : one ≡ other → ⊥

-- a row of a key has another code than this
pub record HasApart (rows : List Row) (key : Key) (code : List Sign) : Type 0 where
  pub other : List Sign
  pub has : Has rows (row key other)
  pub differ : other ≡ code → ⊥

-- the row stands there, or two of its key do
abbrev pub Kept : List Row → Row → Type 0
Kept rows made = Has rows made ⊎ HasTwoOf rows made.key

-- Rows of a set were added: none of the rows before is missing, only rows of the set are new, and each row of the set is
-- kept.
pub record Adds (S : Row → Type 0) (before after : List Row) : Type 0 where
  pub grows : (made : Row) → Has before made → Has after made
  pub within : (made : Row) → Has after made → Has before made ⊎ S made
  pub covers : (made : Row) → S made → Kept after made

-- what one of the productions makes
pub record IsOfSome (g : Syntax) (S : ℕ → Production → Row → Type 0) (made : Row) : Type 0 where
  pub p : ℕ
  pub production : Production
  pub is_there : production_at g.prods p ≡ Some production
  pub makes : S p production made

-- the first row of a production, before its first item
pub record IsSeedOf (p : ℕ) (production : Production) (made : Row) : Type 0 where
  pub is_read : is_read production ≡ true
  pub is : made ≡ row (Front p 0 Nothing) []

abbrev pub IsSeed : Syntax → Row → Type 0
IsSeed g = IsOfSome g IsSeedOf

-- the next item is a terminal, and it is the token at a place
pub record Passes (g : Syntax) (words : List Word) (at : ℕ) (front made : Row) : Type 0 where
  pub p : ℕ
  pub count : ℕ
  pub held : Held
  pub production : Production
  pub text : List ℕ
  pub front_is : front.key ≡ Front p count held
  pub is_there : production_at g.prods p ≡ Some production
  pub wanted : text_wanted production count ≡ Some text
  pub stands : IsTerminalAt words at text
  pub is : made ≡ row (Front p (count_after production count) held) front.code

-- behind elements of a list, and the separator, stands a variable of its sort, the rest
pub record Rests (g : Syntax) (words : List Word) (at : ℕ) (front made : Row) : Type 0 where
  pub p : ℕ
  pub held : Held
  pub production : Production
  pub separator : List ℕ
  pub front_is : front.key ≡ Front p 0 held
  pub some : is_nothing held ≡ false
  pub is_there : production_at g.prods p ≡ Some production
  pub form : production.form ≡ UserList separator
  pub word : IsWordAt words at Variable production.sort
  pub is : made ≡ row (Whole p Other) (Open ∷ front.code ++ ItemsAnd p at ∷ [])

-- behind a part of a sequence stands an arrow
pub record Arrows (words : List Word) (at : ℕ) (front made : Row) : Type 0 where
  pub held : Held
  pub front_is : front.key ≡ Front 0 1 held
  pub stands : IsTerminalAt words at (codes "~>")
  pub is : made ≡ row (Front 0 0 held) front.code

-- behind two parts or more of a sequence stands the closing parenthesis
pub record Closes (words : List Word) (at : ℕ) (front made : Row) : Type 0 where
  pub front_is : front.key ≡ Front 0 1 More
  pub stands : IsTerminalAt words at (codes ")")
  pub is : made ≡ row Sequence (Open ∷ front.code ++ ItemsSign 0 ∷ [])

-- the next part of a sequence is a variable of sort K
pub record Binds (words : List Word) (at : ℕ) (front made : Row) : Type 0 where
  pub held : Held
  pub front_is : front.key ≡ Front 0 0 held
  pub word : IsWordAt words at Variable sort_k
  pub is : made ≡ row (Front 0 1 (held_with held Other)) (front.code ++ LeafSign at ∷ [])

abbrev pub GoesInSequence : List Word → ℕ → Row → Row → Type 0
GoesInSequence words at front made = Arrows words at front made ⊎ (Closes words at front made ⊎ Binds words at front made)

-- what a row makes with the token at a place
abbrev pub GoesOn : Syntax → List Word → ℕ → Row → Row → Type 0
GoesOn g words at front made = Passes g words at front made ⊎ (Rests g words at front made ⊎ GoesInSequence words at front made)

-- all items of a production were read
pub record Finishes (g : Syntax) (front made : Row) : Type 0 where
  pub p : ℕ
  pub count : ℕ
  pub held : Held
  pub production : Production
  pub class : Class
  pub front_is : front.key ≡ Front p count held
  pub is_there : production_at g.prods p ≡ Some production
  pub ends : whole_class production count held ≡ Some class
  pub is : made ≡ row (Whole p class) (whole_code p production front.code)

abbrev pub is_no_lone : Class → Bool
is_no_lone Lone = false
is_no_lone WildClass = true
is_no_lone Other = true

-- at a place of a sort stands a shape of this class
abbrev pub takes_class : ℕ → Class → Bool
takes_class sort class = cond (item_sort sort == sort_kitem) (is_no_lone class) true

-- a production may stand at a place of a sort, with a shape of this class
pub record IsFitting (g : Syntax) (place : Option (ℕ × ℕ)) (sort p : ℕ) (class : Class) : Type 0 where
  pub production : Production
  pub is_there : production_at g.prods p ≡ Some production
  pub fits : Fits g production.sort sort
  pub permitted : may_stand g place p
  pub taken : takes_class sort class ≡ true

-- what a row says may stand at a place of a sort
abbrev pub Stands : Syntax → Option (ℕ × ℕ) → ℕ → Key → Type 0
Stands g place sort (Front p count held) = ⊥
Stands g place sort (Whole p class) = IsFitting g place sort p class
Stands g place sort (Token own) = Fits g own sort
Stands g place sort Wild = sort < length g.names
Stands g place sort (Place number) = number ≡ sort
Stands g place sort Sequence = sort ≡ sort_k

-- the class of a token that stands at a place that asks for one
abbrev pub place_class : ℕ → Class
place_class number = cond (number == wild_place) WildClass Other

-- the class of the shape that a row tells of
abbrev pub key_class : Key → Class
key_class (Front p count held) = Other
key_class (Whole p class) = class
key_class (Token own) = Other
key_class Wild = WildClass
key_class (Place number) = place_class number
key_class Sequence = Other

-- the next item is a sort, and another row may stand at its place
pub record Extends (g : Syntax) (front child made : Row) : Type 0 where
  pub p : ℕ
  pub count : ℕ
  pub held : Held
  pub production : Production
  pub sort : ℕ
  pub front_is : front.key ≡ Front p count held
  pub is_there : production_at g.prods p ≡ Some production
  pub wanted : sort_wanted production count ≡ Some sort
  pub stands : Stands g (Some (p, count)) sort child.key
  pub is : made ≡ row (Front p (count_after production count) (held_with held (key_class child.key))) (front.code ++ child.code)

-- the next part of a sequence is an item
pub record Joins (g : Syntax) (front child made : Row) : Type 0 where
  pub held : Held
  pub front_is : front.key ≡ Front 0 0 held
  pub stands : Stands g None sort_kitem child.key
  pub is : made ≡ row (Front 0 1 (held_with held (key_class child.key))) (front.code ++ child.code)

-- what a row makes with another behind it
abbrev pub Grows : Syntax → Row → Row → Row → Type 0
Grows g front child made = Extends g front child made ⊎ Joins g front child made

-- one of some rows, with one of others behind
pub record IsJoin (g : Syntax) (fronts children : List Row) (made : Row) : Type 0 where
  pub front : Row
  pub child : Row
  pub has_front : Has fronts front
  pub has_child : Has children child
  pub grows : Grows g front child made

-- what some rows make
pub record IsMade (S : Row → Row → Type 0) (rows : List Row) (made : Row) : Type 0 where
  pub front : Row
  pub has_front : Has rows front
  pub makes : S front made

-- What the rows of a span make in it with those of the empty span. The empty span comes before and behind them.
abbrev pub IsNear : Syntax → List Row → List Row → Row → Type 0
IsNear g empty rows made = IsMade (Finishes g) rows made ⊎ (IsJoin g empty rows made ⊎ IsJoin g rows empty made)
