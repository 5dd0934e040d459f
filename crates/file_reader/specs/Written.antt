-- How a file of modules is written.
use Rattle.std.specs.Prelude.{ℕ, List, [], ◌∷◌, ◌++◌, codes}
use Rattle.production_reader.specs.Lexemes.{Sign, word, joined_word, joined_mark}
use Rattle.production_reader.specs.Written.{Production, signs_of_groups}

-- the words of a name after its first, with dashes before them and nothing between
abbrev pub further_words : List (List ℕ) → List Sign
further_words [] = []
further_words (next ∷ words) = joined_mark 45 ∷ joined_word next ∷ further_words words

abbrev pub signs_of_name : List (List ℕ) → List Sign
signs_of_name [] = []
signs_of_name (first ∷ words) = word first ∷ further_words words

abbrev pub further_text : List (List ℕ) → List ℕ
further_text [] = []
further_text (next ∷ words) = 45 ∷ next ++ further_text words

-- a name's text
abbrev pub text_of_name : List (List ℕ) → List ℕ
text_of_name [] = []
text_of_name (first ∷ words) = first ++ further_text words

abbrev pub signs_of_text : List Sign → List Sign
signs_of_text text = text

-- a sentence: an import of a module of this name; what stands of a sort; a configuration's text; a rule's text
pub data Sentence : Type 0 where
  Imports : List (List ℕ) → Sentence
  Syntax : List ℕ → List (List Production) → Sentence
  Config : List Sign → Sentence
  Rule : List Sign → Sentence

abbrev pub signs_of_sentence : Sentence → List Sign
signs_of_sentence (Imports name) = word (codes "imports") ∷ signs_of_name name
signs_of_sentence (Syntax sort groups) = word (codes "syntax") ∷ word sort ∷ signs_of_groups groups
signs_of_sentence (Config text) = word (codes "configuration") ∷ signs_of_text text
signs_of_sentence (Rule text) = word (codes "rule") ∷ signs_of_text text

abbrev pub signs_of_sentences : List Sentence → List Sign
signs_of_sentences [] = []
signs_of_sentences (sentence ∷ sentences) = signs_of_sentence sentence ++ signs_of_sentences sentences

pub record Module : Type 0 where
  pub name : List (List ℕ)
  pub sentences : List Sentence

abbrev pub signs_of_header : List (List ℕ) → List Sign
signs_of_header name = word (codes "module") ∷ signs_of_name name

abbrev pub signs_of_body : List Sentence → List Sign
signs_of_body sentences = signs_of_sentences sentences ++ word (codes "endmodule") ∷ []

abbrev pub signs_of_module : Module → List Sign
signs_of_module one = signs_of_header one.name ++ signs_of_body one.sentences

abbrev pub signs_of_modules : List Module → List Sign
signs_of_modules [] = []
signs_of_modules (one ∷ modules) = signs_of_module one ++ signs_of_modules modules
