-- What the modules of a file say.
use Rattle.std.specs.Prelude.{ℕ, ◌+◌, ◌-◌, ◌&&◌, if◌then◌else◌, Bool, false, List, [], ◌∷◌, ◌++◌, codes, Option, Some, None, length, drop, map, slice_get, unwrap_or}
use Rattle.std.specs.Option.{option_to_list, option_map_or}
use Rattle.std.specs.List.{flat_map}
use Rattle.k_lexer.specs.declared.token.Token.{Token}
use Rattle.k_terms.specs.Names.{number_of}
use Rattle.production_reader.specs.Lexemes.{Sign}
use Rattle.production_reader.specs.Allowed.{same_text}
use Rattle.production_reader.specs.Meaning.{groups_of}
use Rattle.file_reader.specs.Written.{Sentence, Module, signs_of_sentence, signs_of_header, signs_of_module, text_of_name}
use Rattle.file_reader.specs.Written.Sentence.{Imports, Syntax, Config, Rule}
use Rattle.file_reader.specs.Files.{names_of}
use Rattle.file_reader.specs.declared.sentence.Sentence as code
use Rattle.file_reader.specs.declared.sentence.Sentence.TheVariants as sentence

-- the place of the first byte of a token
abbrev pub start_of : List Token → ℕ → ℕ
start_of tokens at = option_map_or (λ token. token.start) (slice_get tokens at) 0

abbrev pub is_sign : Sign → List ℕ → Bool
is_sign sign bytes = same_text sign.bytes bytes

-- `[structural]`
abbrev pub is_structural : List Sign → Bool
is_structural (first ∷ second ∷ third ∷ []) = is_sign first (codes "[") && is_sign second (codes "structural") && is_sign third (codes "]")
is_structural _ = false

-- how many tokens of a rule's text count: a last `[structural]` doesn't
abbrev pub counted : List Sign → ℕ
counted text = if is_structural (drop (length text - 3) text) then length text - 3 else length text

-- what a sentence is whose first token has this number
abbrev pub sentence_of : List Token → ℕ → Sentence → Option code.Sentence
sentence_of tokens at (Imports name) = None
sentence_of tokens at (Syntax sort groups) = Some (sentence.Syntax sort (groups_of groups))
sentence_of tokens at (Config text) = Some (sentence.Config (at + 1) (at + 1 + length text))
sentence_of tokens at (Rule text) = Some (sentence.Rule (start_of tokens at) (at + 1) (at + 1 + counted text))

abbrev pub sentences_of : List Token → ℕ → List Sentence → List code.Sentence
sentences_of tokens at [] = []
sentences_of tokens at (one ∷ sentences) =
    option_to_list (sentence_of tokens at one) ++ sentences_of tokens (at + length (signs_of_sentence one)) sentences

-- the sentences of each module
abbrev pub sentences_by_module : List Token → ℕ → List Module → List (List code.Sentence)
sentences_by_module tokens at [] = []
sentences_by_module tokens at (one ∷ modules) =
    sentences_of tokens (at + length (signs_of_header one.name)) one.sentences ∷ sentences_by_module tokens (at + length (signs_of_module one)) modules

abbrev pub import_of : Sentence → Option (List ℕ)
import_of (Imports name) = Some (text_of_name name)
import_of _ = None

-- the names that a module imports, in the order of the text
abbrev pub imports_of : List Sentence → List (List ℕ)
imports_of sentences = flat_map (λ one. option_to_list (import_of one)) sentences

abbrev pub imports_by_module : List Module → List (List (List ℕ))
imports_by_module modules = map (λ one. imports_of one.sentences) modules

-- the modules that each module imports, by their numbers
abbrev pub graph_of : List Module → List (List ℕ)
graph_of modules = map (map (λ name. unwrap_or (number_of (names_of modules) name) 0)) (imports_by_module modules)
