-- What a row of the table says.
use Rattle.std.specs.Prelude.{◌≡◌, ◌⊎◌, ℕ, zero, suc, ◌+◌, true, List, [], ◌∷◌, ◌++◌, codes, Option, Some}
use Rattle.k_terms.specs.Sorts.{sort_k}
use Rattle.grammar_terms.specs.declared.production.Production.{Production}
use Rattle.grammar_terms.specs.declared.shape.Shape.{Shape}
use Rattle.grammar_terms.specs.declared.word.Word.{Word}
use Rattle.grammar_terms.specs.Cuts.{Has}
use Rattle.grammar_terms.specs.Grammar.{Syntax, production_at}
use Rattle.grammar_terms.specs.Places.{token_place_at}
use Rattle.grammar_terms.specs.Reading.{Reads, Child, Sequence as AreParts, IsForRules, IsLeafAt, IsTerminalAt, is_wild_at}
use Rattle.span_rows.specs.declared.row.Class.{Class}
use Rattle.span_rows.specs.declared.row.Class.TheVariants.{Other}
use Rattle.span_rows.specs.declared.row.Held.{Held}
use Rattle.span_rows.specs.declared.row.Key.{Key}
use Rattle.span_rows.specs.declared.row.Key.TheVariants.{Front, Whole, Token, Wild, Place, Sequence}
use Rattle.span_rows.specs.declared.row.Row.{Row}
use Rattle.span_rows.specs.declared.sign.Sign.{Sign}
use Rattle.span_rows.specs.declared.sign.Sign.TheVariants.{Leaf as LeafSign}
use Rattle.span_table.specs.Codes.{code_of, codes_of}
use Rattle.span_rows.specs.Steps.{sort_wanted, text_wanted, count_after, class_in, held_of, is_read}

-- The items of a production that were read, one by one, read the tokens from one place up to another, with these shapes.
pub data Goes (g : Syntax) (words : List Word) (p : ℕ) (production : Production) : ℕ → ℕ → ℕ → List Shape → Type 0 where
  begins : (from : ℕ) → Goes g words p production 0 from from []
  passes : (count from at : ℕ) (shapes : List Shape) (text : List ℕ)
      → Goes g words p production count from at shapes → text_wanted production count ≡ Some text → IsTerminalAt words at text
      → Goes g words p production (count_after production count) from (at + 1) shapes
  extends : (count from at past : ℕ) (shapes : List Shape) (sort : ℕ) (shape : Shape)
      → Goes g words p production count from at shapes → sort_wanted production count ≡ Some sort → Child g words (Some (p, count)) sort at past shape
      → Goes g words p production (count_after production count) from past (shapes ++ shape ∷ [])

-- the first items of a production read a span
pub record IsFrontRow (g : Syntax) (words : List Word) (from past p count : ℕ) (held : Held) (code : List Sign) : Type 0 where
  pub production : Production
  pub shapes : List Shape
  pub is_there : production_at g.prods p ≡ Some production
  pub read : is_read production ≡ true
  pub goes : Goes g words p production count from past shapes
  pub held_is : held ≡ held_of words shapes
  pub code_is : code ≡ codes_of shapes

-- parts of a sequence with an arrow behind them
pub record AreJoined (g : Syntax) (words : List Word) (from past : ℕ) (shapes : List Shape) : Type 0 where
  pub at : ℕ
  pub parts : AreParts g words from at shapes
  pub arrow : IsTerminalAt words at (codes "~>")
  pub past_is : past ≡ at + 1

-- what was read of a sequence, before a part and behind one
abbrev pub Begun : Syntax → List Word → ℕ → ℕ → ℕ → List Shape → Type 0
Begun g words zero from past shapes = ((shapes ≡ []) × (past ≡ from)) ⊎ AreJoined g words from past shapes
Begun g words (suc zero) from past shapes = AreParts g words from past shapes
Begun g words (suc (suc count)) from past shapes = ⊥

-- a sequence reads a span from its opening parenthesis on
pub record IsBegunRow (g : Syntax) (words : List Word) (from past p count : ℕ) (held : Held) (code : List Sign) : Type 0 where
  pub shapes : List Shape
  pub none : p ≡ 0
  pub rules : IsForRules g
  pub opens : IsTerminalAt words from (codes "(")
  pub begun : Begun g words count (from + 1) past shapes
  pub held_is : held ≡ held_of words shapes
  pub code_is : code ≡ codes_of shapes

-- a production reads a span
pub record IsWholeRow (g : Syntax) (words : List Word) (from past p : ℕ) (class : Class) (code : List Sign) : Type 0 where
  pub shape : Shape
  pub reads : Reads g words p from past shape
  pub class_is : class ≡ class_in words shape
  pub code_is : code ≡ code_of shape

-- a span is a token that is a reading of its own sort
pub record IsTokenRow (words : List Word) (from past own : ℕ) (code : List Sign) : Type 0 where
  pub leaf : IsLeafAt words from own
  pub past_is : past ≡ from + 1
  pub code_is : code ≡ LeafSign from ∷ []

-- a span is a token that is a variable without a sort
pub record IsWildRow (words : List Word) (from past : ℕ) (code : List Sign) : Type 0 where
  pub wild : is_wild_at words from ≡ true
  pub past_is : past ≡ from + 1
  pub code_is : code ≡ LeafSign from ∷ []

-- a span is a token that some places ask for
pub record IsPlaceRow (words : List Word) (from past number : ℕ) (code : List Sign) : Type 0 where
  pub asked : token_place_at words from ≡ Some number
  pub past_is : past ≡ from + 1
  pub code_is : code ≡ LeafSign from ∷ []

-- a span is a sequence, which stands at each place of sort K
pub record IsSequenceRow (g : Syntax) (words : List Word) (from past : ℕ) (code : List Sign) : Type 0 where
  pub shape : Shape
  pub stands : (place : Option (ℕ × ℕ)) → Child g words place sort_k from past shape
  pub class_is : Other ≡ class_in words shape
  pub code_is : code ≡ code_of shape

abbrev pub Says : Syntax → List Word → ℕ → ℕ → Key → List Sign → Type 0
Says g words from past (Front p count held) code = IsFrontRow g words from past p count held code ⊎ IsBegunRow g words from past p count held code
Says g words from past (Whole p class) code = IsWholeRow g words from past p class code
Says g words from past (Token own) code = IsTokenRow words from past own code
Says g words from past Wild code = IsWildRow words from past code
Says g words from past (Place number) code = IsPlaceRow words from past number code
Says g words from past Sequence code = IsSequenceRow g words from past code

-- each of some rows holds of a span
abbrev pub AreSound : Syntax → List Word → ℕ → ℕ → List Row → Type 0
AreSound g words from past rows = (made : Row) → Has rows made → Says g words from past made.key made.code
