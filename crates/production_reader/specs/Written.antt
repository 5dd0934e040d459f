-- How the productions of a sort are written.
use Rattle.std.specs.Prelude.{ℕ, List, [], ◌∷◌, ◌++◌, codes}
use Rattle.production_reader.specs.Lexemes.{Sign, word, mark, digits, quoted}

-- signs of several things with a mark between
abbrev pub further : {X : Type 0} → ℕ → (X → List Sign) → List X → List Sign
further byte signs [] = []
further byte signs (x ∷ xs) = mark byte ∷ signs x ++ further byte signs xs

abbrev pub separated : {X : Type 0} → ℕ → (X → List Sign) → List X → List Sign
separated byte signs [] = []
separated byte signs (x ∷ xs) = signs x ++ further byte signs xs

abbrev pub one_word : List ℕ → List Sign
one_word bytes = word bytes ∷ []

abbrev pub one_number : List ℕ → List Sign
one_number bytes = digits bytes ∷ []

-- an attribute, with the digits of the places of `strict(..)`
pub data Attribute : Type 0 where
  Left : Attribute
  Right : Attribute
  NonAssoc : Attribute
  Bracket : Attribute
  SeqStrict : Attribute
  Strict : Attribute
  StrictAt : List (List ℕ) → Attribute

abbrev pub signs_of_attribute : Attribute → List Sign
signs_of_attribute Left = one_word (codes "left")
signs_of_attribute Right = one_word (codes "right")
signs_of_attribute NonAssoc = word (codes "non") ∷ mark 45 ∷ word (codes "assoc") ∷ []
signs_of_attribute Bracket = one_word (codes "bracket")
signs_of_attribute SeqStrict = one_word (codes "seqstrict")
signs_of_attribute Strict = one_word (codes "strict")
signs_of_attribute (StrictAt places) = word (codes "strict") ∷ mark 40 ∷ separated 44 one_number places ++ mark 41 ∷ []

-- attributes stand in brackets, and where there is none, nothing stands
abbrev pub signs_of_attributes : List Attribute → List Sign
signs_of_attributes [] = []
signs_of_attributes (attribute ∷ attributes) = mark 91 ∷ separated 44 signs_of_attribute (attribute ∷ attributes) ++ mark 93 ∷ []

-- an item of a production: a sort, or a terminal as its string is written
pub data Part : Type 0 where
  SortPart : List ℕ → Part
  TerminalPart : List ℕ → Part

abbrev pub sign_of_part : Part → Sign
sign_of_part (SortPart sort) = word sort
sign_of_part (TerminalPart text) = quoted text

abbrev pub signs_of_parts : List Part → List Sign
signs_of_parts [] = []
signs_of_parts (part ∷ parts) = sign_of_part part ∷ signs_of_parts parts

-- a production: its items, or a word with its arguments' sorts, or the lists of a sort with the string between
pub data Production : Type 0 where
  Plain : List Part → List Attribute → Production
  Prefix : List ℕ → List (List ℕ) → List Attribute → Production
  UserList : List ℕ → List ℕ → Production

abbrev pub signs_of_production : Production → List Sign
signs_of_production (Plain parts attributes) = signs_of_parts parts ++ signs_of_attributes attributes
signs_of_production (Prefix name sorts attributes) =
    word name ∷ mark 40 ∷ separated 44 one_word sorts ++ mark 41 ∷ signs_of_attributes attributes
signs_of_production (UserList sort separator) =
    word (codes "List") ∷ mark 123 ∷ word sort ∷ mark 44 ∷ quoted separator ∷ mark 125 ∷ []

abbrev pub signs_of_group : List Production → List Sign
signs_of_group productions = separated 124 signs_of_production productions

-- what follows the sort of a syntax sentence: nothing, or `::=` and groups
abbrev pub signs_of_groups : List (List Production) → List Sign
signs_of_groups [] = []
signs_of_groups (group ∷ groups) = mark 58 ∷ mark 58 ∷ mark 61 ∷ separated 62 signs_of_group (group ∷ groups)
