-- Which files there are.
use Rattle.std.specs.Prelude.{◌≡◌, ℕ, ◌&&◌, not, if◌then◌else◌, Bool, true, false, List, [], ◌∷◌, codes, Option, Some, None, map}
use Rattle.std.specs.List.{AllByRecursion}
use Rattle.k_lexer.specs.declared.token.Kind.TheVariants.{Word, Int, Str, Mark}
use Rattle.production_reader.specs.Lexemes.{Lexeme, Sign, Reads}
use Rattle.production_reader.specs.Allowed.{same_text, is_among, is_empty, is_sort, AreGroups, in_groups, had_after}
use Rattle.file_reader.specs.Written.{Sentence, Module, signs_of_modules, text_of_name}
use Rattle.file_reader.specs.Written.Sentence.{Imports, Syntax, Config, Rule}

-- what sorts have: the last production of a sort first, and whether it is a list production
abbrev pub Context : Type 0
Context = List (List ℕ × Bool)

-- whether a sort has a production, and whether that is a list production
abbrev pub had : Context → List ℕ → Option Bool
had [] sort = None
had (one ∷ context) sort = if same_text sort one.0 then Some one.1 else had context sort

abbrev pub noted : Context → List ℕ → Option Bool → Context
noted context sort None = context
noted context sort (Some is_list) = (sort, is_list) ∷ context

-- the sorts that no sentence may declare
abbrev pub built_in : List (List ℕ)
built_in = codes "K" ∷ codes "KItem" ∷ codes "Int" ∷ codes "Bool" ∷ codes "String" ∷ codes "Id" ∷ codes "Map" ∷ codes "List" ∷ codes "Bag" ∷ []

abbrev pub IsDeclared : List ℕ → Type 0
IsDeclared sort = (is_sort sort ≡ true) × (is_among built_in sort ≡ false)

-- the words that end a text
abbrev pub ending_words : List (List ℕ)
ending_words = codes "module" ∷ codes "endmodule" ∷ codes "imports" ∷ codes "syntax" ∷ codes "configuration" ∷ codes "rule" ∷ []

abbrev pub ends_text : Sign → Bool
ends_text sign = elim sign.kind [ Word ↦ is_among ending_words sign.bytes | Int ↦ false | Str ↦ false | Mark ↦ false ]

-- one or more tokens, none of which ends a text
abbrev pub IsText : List Sign → Type 0
IsText text = (is_empty text ≡ false) × AllByRecursion (λ sign. (sign.joined ≡ false) × (ends_text sign ≡ false)) text

abbrev pub IsName : List (List ℕ) → Type 0
IsName words = is_empty words ≡ false

-- the sentence may come after others that left the sorts so
abbrev pub IsSentence : Context → Sentence → Type 0
IsSentence context (Imports name) = IsName name
IsSentence context (Syntax sort groups) = IsDeclared sort × AreGroups sort (had context sort) groups
IsSentence context (Config text) = IsText text
IsSentence context (Rule text) = IsText text

-- what the sorts have after a sentence
abbrev pub after : Context → Sentence → Context
after context (Syntax sort groups) = noted context sort (had_after (had context sort) (in_groups groups))
after context _ = context

abbrev pub after_all : Context → List Sentence → Context
after_all context [] = context
after_all context (sentence ∷ sentences) = after_all (after context sentence) sentences

abbrev pub AreSentences : Context → List Sentence → Type 0
AreSentences context [] = Unit {0}
AreSentences context (sentence ∷ sentences) = IsSentence context sentence × AreSentences (after context sentence) sentences

abbrev pub IsModule : Context → Module → Type 0
IsModule context one = IsName one.name × AreSentences context one.sentences

abbrev pub AreModules : Context → List Module → Type 0
AreModules context [] = Unit {0}
AreModules context (one ∷ modules) = IsModule context one × AreModules (after_all context one.sentences) modules

-- the modules of a file: one or more
abbrev pub AreOfFile : List Module → Type 0
AreOfFile modules = (is_empty modules ≡ false) × AreModules [] modules

abbrev pub IsEnd : List Lexeme → Type 0
IsEnd lexemes = lexemes ≡ []

-- the lexemes are a file of these modules
abbrev pub IsFile : List Lexeme → List Module → Type 0
IsFile all modules = AreOfFile modules × Reads (signs_of_modules modules) all []

abbrev pub names_of : List Module → List (List ℕ)
names_of modules = map (λ one. text_of_name one.name) modules

abbrev pub are_different : List (List ℕ) → Bool
are_different [] = true
are_different (name ∷ names) = not (is_among names name) && are_different names

-- nothing goes on with a name here
abbrev pub EndsName : List Lexeme → Type 0
EndsName [] = Unit {0}
EndsName (lexeme ∷ lexemes) = (lexeme.kind ≡ Mark) → (lexeme.bytes ≡ 45 ∷ []) → lexeme.joined ≡ true → ⊥
