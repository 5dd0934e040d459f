-- The terminals of a grammar.
use Rattle.std.specs.Prelude.{◌≡◌, ◌≤◌, ℕ, true, length, List, [], ◌∷◌, ◌++◌, zero, suc, take, slice_index, if◌then◌else◌}
use Rattle.std.specs.List.{flat_map}
use Rattle.production_reader.specs.declared.prod.Form.{Form}
use Rattle.production_reader.specs.declared.prod.Form.TheVariants.{Plain, Prefix, UserList}
use Rattle.k_lexer.specs.Characters.{is_mark}
use Rattle.production_reader.specs.Allowed.{is_among}
use Rattle.grammar_terms.specs.declared.production.Part.{Part}
use Rattle.grammar_terms.specs.declared.production.Part.TheVariants.{Terminal, Sort}
use Rattle.grammar_terms.specs.declared.production.Production.{Production}
use Rattle.grammar_terms.specs.Grammar.{Syntax}

-- the texts of the terminals among items
abbrev pub terminals_in : List Part → List (List ℕ)
terminals_in [] = []
terminals_in (Terminal text ∷ items) = text ∷ terminals_in items
terminals_in (Sort sort ∷ items) = terminals_in items

-- what stands between the elements of a list, where that is not empty
abbrev pub not_empty : List ℕ → List (List ℕ)
not_empty [] = []
not_empty (byte ∷ bytes) = (byte ∷ bytes) ∷ []

abbrev pub separators_of : Form → List (List ℕ)
separators_of Plain = []
separators_of (Prefix word) = []
separators_of (UserList separator) = not_empty separator

abbrev pub terminals_of : Production → List (List ℕ)
terminals_of production = terminals_in production.items ++ separators_of production.form

-- The terminals of a grammar: those of its productions, and the separators of its list productions that are not empty.
abbrev pub terminals : Syntax → List (List ℕ)
terminals g = flat_map terminals_of g.prods

-- two lists have the same texts
abbrev pub AreSame : List (List ℕ) → List (List ℕ) → Type 0
AreSame some others = (text : List ℕ) → is_among some text ≡ is_among others text

-- the size of a text that begins with a mark, and 0 of any other
abbrev pub marks_size : List ℕ → ℕ
marks_size text = if is_mark (slice_index text 0) then length text else 0

-- none of these texts that begins with a mark has more bytes
abbrev pub IsBound : List (List ℕ) → ℕ → Type 0
IsBound texts most = (text : List ℕ) → is_among texts text ≡ true → marks_size text ≤ most

-- The greatest n up to a bound for which the first n bytes are one of these texts; 0 where there is none above 0.
abbrev pub longest : List (List ℕ) → List ℕ → ℕ → ℕ
longest texts bytes zero = 0
longest texts bytes (suc n) = if is_among texts (take (suc n) bytes) then suc n else longest texts bytes n
