-- Which lexeme stands first.
use Rattle.std.specs.Prelude.{ℕ, ◌+◌, drop, Bool, true, false, ◌||◌, ◌≡◌, List, [], ◌∷◌}
use Rattle.k_lexer.specs.declared.token.Kind.TheVariants.{Word, Int, Str, Mark}
use Rattle.production_reader.specs.Lexemes.{Lexeme, Sign, Reads}
use Rattle.production_reader.specs.Allowed.{same_text, is_item_sort, is_word_among, sentence_words}

-- a lexeme stands first, and passes the test
abbrev pub heads : (Lexeme → Bool) → List Lexeme → Bool
heads test [] = false
heads test (lexeme ∷ lexemes) = test lexeme

abbrev pub is_mark_of : ℕ → Lexeme → Bool
is_mark_of byte lexeme = elim lexeme.kind [ Word ↦ false | Int ↦ false | Str ↦ false | Mark ↦ same_text lexeme.bytes (byte ∷ []) ]

abbrev pub is_word_of : (List ℕ → Bool) → Lexeme → Bool
is_word_of test lexeme = elim lexeme.kind [ Word ↦ test lexeme.bytes | Int ↦ false | Str ↦ false | Mark ↦ false ]

abbrev pub is_text : Lexeme → Bool
is_text lexeme = elim lexeme.kind [ Word ↦ false | Int ↦ false | Str ↦ true | Mark ↦ false ]

abbrev pub is_any_word : Lexeme → Bool
is_any_word lexeme = is_word_of (λ bytes. true) lexeme

abbrev pub is_number : Lexeme → Bool
is_number lexeme = elim lexeme.kind [ Word ↦ false | Int ↦ true | Str ↦ false | Mark ↦ false ]

-- what a part of a production begins with
abbrev pub is_part_start : Lexeme → Bool
is_part_start lexeme = is_text lexeme || is_word_of is_item_sort lexeme

-- what follows a group: a further group, or what follows the sentence
abbrev pub ends_group : Lexeme → Bool
ends_group lexeme = is_mark_of 62 lexeme || is_word_among sentence_words lexeme

-- what follows a production
abbrev pub ends_production : Lexeme → Bool
ends_production lexeme = is_mark_of 124 lexeme || ends_group lexeme

-- what follows the parts of a production
abbrev pub ends_parts : Lexeme → Bool
ends_parts lexeme = is_mark_of 91 lexeme || ends_production lexeme

-- a list of lexemes begins with such a one
abbrev pub Begin : (Lexeme → Bool) → List Lexeme → Type 0
Begin test lexemes = heads test lexemes ≡ true

-- anything follows
abbrev pub Anything : List Lexeme → Type 0
Anything lexemes = Unit {0}

-- a lexeme that the sign asks for stands at this place
abbrev pub Stands : Sign → List Lexeme → ℕ → Type 0
Stands sign all at = Reads (sign ∷ []) (drop at all) (drop (at + 1) all)
