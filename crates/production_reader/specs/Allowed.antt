-- Which productions a file may have.
use Rattle.std.specs.Prelude.{◌≡◌, ℕ, ◌+◌, ◌-◌, ◌*◌, ◌<◌, ◌≤◌, ◌^◌, ◌==◌, ◌&&◌, ◌||◌, not, nat_le, if◌then◌else◌, Bool, true, false, List, [], ◌∷◌, length, drop, codes, Option, Some, None, nat_eq, ◌⊎◌}
use Rattle.std.specs.List.{list_any, list_all, AllByRecursion, flat_map}
use Rattle.std.specs.Cmp.Lexicographic.{pointwise}
use Rattle.k_lexer.specs.Characters.{is_mark}
use Rattle.k_lexer.specs.Tokens.{IsToken, opens_comment}
use Rattle.k_lexer.specs.declared.token.Kind.TheVariants.{Word, Int, Str, Mark}
use Rattle.production_reader.specs.Lexemes.{Lexeme}
use Rattle.production_reader.specs.Written.{Attribute, Part, Production}
use Rattle.production_reader.specs.Written.Attribute.{Bracket, StrictAt}
use Rattle.production_reader.specs.Written.Part.{SortPart, TerminalPart}
use Rattle.production_reader.specs.Written.Production.{Plain, Prefix, UserList}

abbrev pub same_text : List ℕ → List ℕ → Bool
same_text = pointwise nat_eq

abbrev pub is_among : List (List ℕ) → List ℕ → Bool
is_among texts text = list_any (same_text text) texts

abbrev pub is_empty : {X : Type 0} → List X → Bool
is_empty [] = true
is_empty (x ∷ xs) = false

-- a word that begins with A to Z
abbrev pub is_sort : List ℕ → Bool
is_sort [] = false
is_sort (byte ∷ bytes) = nat_le 65 byte && nat_le byte 90

-- a sort that may stand in a production
abbrev pub is_item_sort : List ℕ → Bool
is_item_sort bytes = is_sort bytes && not (same_text bytes (codes "Bag"))

-- what a string that is written with its quotes says, by its four escapes
unfoldable mutual
  pub unescaped : List ℕ → List ℕ
  unescaped [] = []
  unescaped (byte ∷ bytes) = if byte == 92 then escaped bytes else (if byte == 34 then [] else byte ∷ unescaped bytes)

  pub escaped : List ℕ → List ℕ
  escaped [] = []
  escaped (byte ∷ bytes) = (if byte == 110 then 10 else (if byte == 116 then 9 else byte)) ∷ unescaped bytes

abbrev pub text_of_string : List ℕ → List ℕ
text_of_string string = unescaped (drop 1 string)

-- what no terminal and no word of a prefix production may be
abbrev pub reserved : List (List ℕ)
reserved = codes "module" ∷ codes "endmodule" ∷ codes "imports" ∷ codes "syntax" ∷ codes "configuration" ∷ codes "rule" ∷ codes "when"
    ∷ codes "requires" ∷ codes "true" ∷ codes "false" ∷ codes "=>" ∷ codes "~>" ∷ codes "|->" ∷ codes "..." ∷ []

-- `//` or `/*` stands somewhere
abbrev pub has_comment : List ℕ → Bool
has_comment [] = false
has_comment (byte ∷ bytes) = opens_comment (byte ∷ bytes) || has_comment bytes

-- one to eight marks
abbrev pub AreMarks : List ℕ → Type 0
AreMarks text = (1 ≤ length text) × (length text ≤ 8) × (list_all is_mark text ≡ true)

abbrev pub IsTerminal : List ℕ → Type 0
IsTerminal text = (IsToken Word text ⊎ AreMarks text) × (is_among reserved text ≡ false) × (has_comment text ≡ false)

-- between the elements of a list stands a terminal, or nothing
abbrev pub IsSeparator : List ℕ → Type 0
IsSeparator text = (text ≡ []) ⊎ IsTerminal text

abbrev pub IsPart : Part → Type 0
IsPart (SortPart sort) = is_item_sort sort ≡ true
IsPart (TerminalPart string) = IsTerminal (text_of_string string)

abbrev pub sorts_of_parts : List Part → List (List ℕ)
sorts_of_parts [] = []
sorts_of_parts (SortPart sort ∷ parts) = sort ∷ sorts_of_parts parts
sorts_of_parts (TerminalPart string ∷ parts) = sorts_of_parts parts

-- a production with these sorts may be a bracket: it has one, which is not K
abbrev pub may_bracket : List (List ℕ) → Bool
may_bracket [] = false
may_bracket (sort ∷ []) = not (same_text sort (codes "K"))
may_bracket (sort ∷ other ∷ sorts) = false

-- the number that decimal digits are, after another number
abbrev pub number_after : ℕ → List ℕ → ℕ
number_after before [] = before
number_after before (digit ∷ digits) = number_after (before * 10 + (digit - 48)) digits

abbrev pub number_of : List ℕ → ℕ
number_of digits = number_after 0 digits

abbrev pub IsPlace : List ℕ → Type 0
IsPlace digits = number_of digits < 2 ^ 32

abbrev pub IsAttribute : Bool → Attribute → Type 0
IsAttribute brackets Bracket = brackets ≡ true
IsAttribute brackets (StrictAt places) = (is_empty places ≡ false) × AllByRecursion IsPlace places
IsAttribute brackets _ = Unit {0}

abbrev pub IsProduction : Production → Type 0
IsProduction (Plain parts attributes) =
    (is_empty parts ≡ false) × AllByRecursion IsPart parts × AllByRecursion (IsAttribute (may_bracket (sorts_of_parts parts))) attributes
IsProduction (Prefix name sorts attributes) =
    (is_among reserved name ≡ false) × AllByRecursion (λ sort. is_item_sort sort ≡ true) sorts × AllByRecursion (IsAttribute (may_bracket sorts)) attributes
IsProduction (UserList sort separator) = (is_item_sort sort ≡ true) × IsSeparator (text_of_string separator)

abbrev pub is_list : Production → Bool
is_list (UserList sort separator) = true
is_list _ = false

-- one sort alone, without attributes
abbrev pub is_subsort : Production → Bool
is_subsort (Plain (SortPart sort ∷ []) []) = true
is_subsort _ = false

-- Whether a sort that has no production yet, or has some, of which one is a list production or none is, may have this one more:
-- a list production is the only one of its sort.
abbrev pub may_join : Option Bool → Production → Bool
may_join None production = true
may_join (Some true) production = false
may_join (Some false) production = not (is_list production)

-- KResult has subsorts alone
abbrev pub suits : List ℕ → Production → Bool
suits sort production = not (same_text sort (codes "KResult")) || is_subsort production

-- these may be the next productions of a sort
abbrev pub AreProductions : List ℕ → Option Bool → List Production → Type 0
AreProductions sort had [] = Unit {0}
AreProductions sort had (production ∷ productions) =
    IsProduction production × (may_join had production ≡ true) × (suits sort production ≡ true) × AreProductions sort (Some (is_list production)) productions

-- what a sort has after these
abbrev pub had_after : Option Bool → List Production → Option Bool
had_after had [] = had
had_after had (production ∷ productions) = had_after (Some (is_list production)) productions

-- the productions of all groups
abbrev pub in_groups : List (List Production) → List Production
in_groups groups = flat_map (λ group. group) groups

abbrev pub AreGroups : List ℕ → Option Bool → List (List Production) → Type 0
AreGroups sort had groups = AllByRecursion (λ group. is_empty group ≡ false) groups × AreProductions sort had (in_groups groups)

abbrev pub is_word_among : List (List ℕ) → Lexeme → Bool
is_word_among words lexeme = elim lexeme.kind [ Word ↦ is_among words lexeme.bytes | Int ↦ false | Str ↦ false | Mark ↦ false ]

-- the words with which a sentence begins, or the module ends
abbrev pub sentence_words : List (List ℕ)
sentence_words = codes "endmodule" ∷ codes "imports" ∷ codes "syntax" ∷ codes "configuration" ∷ codes "rule" ∷ []

-- what follows a sentence in a file
abbrev pub EndsSentence : List Lexeme → Type 0
EndsSentence [] = ⊥
EndsSentence (lexeme ∷ lexemes) = is_word_among sentence_words lexeme ≡ true
