-- What a token makes alone.
use Rattle.std.specs.Prelude.{◌≡◌, ◌⊎◌, ℕ, true, List, [], ◌∷◌, codes, Some}
use Rattle.k_terms.specs.Sorts.{sort_k}
use Rattle.production_reader.specs.declared.prod.Form.TheVariants.{UserList}
use Rattle.grammar_terms.specs.declared.production.Production.{Production}
use Rattle.grammar_terms.specs.declared.word.Word.{Word}
use Rattle.grammar_terms.specs.declared.word.WordKind.TheVariants.{EmptyList}
use Rattle.grammar_terms.specs.Grammar.{Syntax}
use Rattle.grammar_terms.specs.Places.{token_place_at}
use Rattle.grammar_terms.specs.Reading.{IsForRules, IsLeafAt, IsTerminalAt, IsWordAt, is_wild_at}
use Rattle.span_rows.specs.declared.row.Class.TheVariants.{Other}
use Rattle.span_rows.specs.declared.row.Held.TheVariants.{Nothing}
use Rattle.span_rows.specs.declared.row.Key.TheVariants.{Front, Whole, Token, Wild, Place, Sequence}
use Rattle.span_rows.specs.declared.row.Row.{Row}
use Rattle.span_rows.specs.declared.sign.Sign.TheVariants.{Open, Leaf as LeafSign, Items as ItemsSign}
use Rattle.span_rows.specs.Steps.{is_read}
use Rattle.span_rows.specs.Rows.{row, IsOfSome}

-- the token at a place is a reading of its own sort
pub record IsLeafToken (words : List Word) (at : ℕ) (made : Row) : Type 0 where
  pub own : ℕ
  pub leaf : IsLeafAt words at own
  pub is : made ≡ row (Token own) (LeafSign at ∷ [])

-- it is a variable without a sort
pub record IsWildToken (words : List Word) (at : ℕ) (made : Row) : Type 0 where
  pub wild : is_wild_at words at ≡ true
  pub is : made ≡ row Wild (LeafSign at ∷ [])

-- it is the empty list of a list production
pub record IsEmptyListOf (words : List Word) (at p : ℕ) (production : Production) (made : Row) : Type 0 where
  pub separator : List ℕ
  pub form : production.form ≡ UserList separator
  pub is_read : is_read production ≡ true
  pub word : IsWordAt words at EmptyList production.sort
  pub is : made ≡ row (Whole p Other) (Open ∷ ItemsSign p ∷ [])

-- it is the empty sequence
pub record IsNothingToken (words : List Word) (at : ℕ) (made : Row) : Type 0 where
  pub word : IsWordAt words at EmptyList sort_k
  pub is : made ≡ row Sequence (Open ∷ ItemsSign 0 ∷ [])

-- it may begin a sequence
pub record IsOpening (g : Syntax) (words : List Word) (at : ℕ) (made : Row) : Type 0 where
  pub rules : IsForRules g
  pub stands : IsTerminalAt words at (codes "(")
  pub is : made ≡ row (Front 0 0 Nothing) []

-- a place of a production may ask for it
pub record IsPlaceToken (words : List Word) (at : ℕ) (made : Row) : Type 0 where
  pub number : ℕ
  pub asked : token_place_at words at ≡ Some number
  pub is : made ≡ row (Place number) (LeafSign at ∷ [])

-- what the token at a place makes alone
abbrev pub IsToken : Syntax → List Word → ℕ → Row → Type 0
IsToken g words at made =
    IsLeafToken words at made
    ⊎ (IsWildToken words at made
    ⊎ (IsOfSome g (IsEmptyListOf words at) made ⊎ (IsNothingToken words at made ⊎ (IsOpening g words at made ⊎ IsPlaceToken words at made))))

-- a span is one token, which makes this
abbrev pub IsTokenOver : Syntax → List Word → ℕ → ℕ → Row → Type 0
IsTokenOver g words from last made = (from ≡ last) × IsToken g words last made
