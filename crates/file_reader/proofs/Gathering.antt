-- The sentences of a module, as the loop gathers them.
use Rattle.std.proofs.Common.{◌≡◌, ℕ, ◌+◌, ◌-◌, ◌<◌, ◌≤◌, List, [], ◌∷◌, ◌++◌, length, drop, refl, sym, ap, ◌∙◌, subst, arith}
use Rattle.std.proofs.lemmas.List.{length-drop}
use Rattle.production_reader.proofs.Lexemes.{reads-length}
use Rattle.std.specs.Option.{option_to_list}
use Rattle.k_lexer.specs.declared.token.Token.{Token}
use Rattle.production_reader.specs.Lexemes.{Lexeme}
use Rattle.production_reader.specs.Allowed.{EndsSentence}
use Rattle.production_reader.specs.Reading.{IsRead, Stops}
use Rattle.production_reader.specs.declared.stop.Stop.{Stop}
use Rattle.file_reader.specs.Heads.{Begins}
use Rattle.file_reader.specs.Written.{Sentence, signs_of_sentence, signs_of_sentences, signs_of_body}
use Rattle.file_reader.specs.Written.Sentence.{Imports, Syntax, Config, Rule}
use Rattle.file_reader.specs.Files.{Context, had, after_all, IsSentence, AreSentences}
use Rattle.file_reader.specs.Meaning.{sentence_of, sentences_of, import_of, imports_of}
use Rattle.file_reader.specs.Reads.{SameHad, Anything, IsSentenceRead, IsBodyRead, read_of, import_in, sentence_in}
use Rattle.file_reader.specs.declared.sentence.Sentence as code
use Rattle.file_reader.specs.declared.read.Read.{Read}
use Rattle.file_reader.proofs.Sentencing.{stops_map, read-length}
use Rattle.file_reader.proofs.Embodied.{end_word, IsBodyBegun, body_start, body_more, body_stops, body_read, after_same, after_all-more, imports_more, sentences_more, some_signs}

-- the sentences of a module up to a place, and what they say
pub record IsGathered (tokens : List Token) (all : List Lexeme) (from : ℕ) (old now : Context) (imports : List (List ℕ)) (sentences : List code.Sentence) (at : ℕ) : Type 0 where
  pub written : List Sentence
  pub begun : IsBodyBegun old all from written at
  pub imports_are : imports ≡ imports_of written
  pub sentences_are : sentences ≡ sentences_of tokens from written
  pub same : SameHad now (after_all old written)

begun-length : {c : Context} {all : List Lexeme} {from : ℕ} {xs : List Sentence} {at : ℕ} → IsBodyBegun c all from xs at → at ≡ from + length (signs_of_sentences xs)
begun-length {c} {all} {from} {xs} {at} so =
    let long : length (drop from all) ≡ length (signs_of_sentences xs) + length (drop at all) = reads-length (signs_of_sentences xs) (drop from all) (drop at all) so.reads in
    let one : length (drop from all) ≡ length all - from = length-drop from all in
    let other : length (drop at all) ≡ length all - at = length-drop at all in
    let order : from ≤ at = so.order in
    let within : at ≤ length all = so.within in
    omega arith

import_is : (tokens : List Token) (at : ℕ) (s : Sentence) → import_in (read_of tokens at s) ≡ option_to_list (import_of s)
import_is tokens at (Imports name) = refl
import_is tokens at (Syntax sort groups) = refl
import_is tokens at (Config text) = refl
import_is tokens at (Rule text) = refl

sentence_is : (tokens : List Token) (at : ℕ) (s : Sentence) → sentence_in (read_of tokens at s) ≡ option_to_list (sentence_of tokens at s)
sentence_is tokens at (Imports name) = refl
sentence_is tokens at (Syntax sort groups) = refl
sentence_is tokens at (Config text) = refl
sentence_is tokens at (Rule text) = refl

module _ (tokens : List Token) (all : List Lexeme) (from : ℕ) (old : Context) where
  pub gathered_none : (imports : List (List ℕ)) (sentences : List code.Sentence) → from ≤ length all → imports ≡ [] → sentences ≡ [] → IsGathered tokens all from old old imports sentences from
  gathered_none imports sentences within none nothing = record {
    written = [];
    begun = body_start old all from within;
    imports_are = none;
    sentences_are = nothing;
    same = λ sort. refl;
  }

  module _ (now : Context) (imports : List (List ℕ)) (sentences : List code.Sentence) (at : ℕ) (so : IsGathered tokens all from old now imports sentences at)
      (goes : Begins end_word (drop at all) → ⊥) where
    where_is : at ≡ from + length (signs_of_sentences so.written)
    where_is = begun-length so.begun

    pub gathered_more : (new : Context) (one : Read) (next : ℕ) (more_imports : List (List ℕ)) (more_sentences : List code.Sentence) → IsSentenceRead tokens all at now new one next
        → more_imports ≡ imports ++ import_in one → more_sentences ≡ sentences ++ sentence_in one → IsGathered tokens all from old new more_imports more_sentences next
    gathered_more new one next more_imports more_sentences is added_import added_sentence = record {
      written = so.written ++ is.written ∷ [];
      begun = body_more old all from so.written at so.begun now so.same goes is.written next is.is;
      imports_are = added_import ∙ (λ i. so.imports_are i ++ import_in (is.means i)) ∙ ap (λ t. imports_of so.written ++ t) (import_is tokens at is.written) ∙ sym (imports_more so.written is.written);
      sentences_are = added_sentence ∙ (λ i. so.sentences_are i ++ sentence_in (is.means i))
          ∙ ap (λ t. sentences_of tokens from so.written ++ t) (sentence_is tokens at is.written ∙ ap (λ n. option_to_list (sentence_of tokens n is.written)) where_is)
          ∙ sym (sentences_more tokens from so.written is.written);
      same = λ sort. is.same sort ∙ after_same now (after_all old so.written) is.written so.same sort ∙ ap (λ c. had c sort) (sym (after_all-more old so.written is.written));
    }

    pub gathered_stop : (stop : Stop) → Stops (IsSentence now) signs_of_sentence EndsSentence all at stop → Stops (AreSentences old) signs_of_body Anything all from stop
    gathered_stop stop =
        stops_map (IsSentence now) signs_of_sentence EndsSentence (AreSentences old) signs_of_body Anything all at from
        (λ n stops. body_stops old all from so.written at so.begun now so.same goes n stops) stop

    pub gathered_next : (new : Context) (one : Read) (next : ℕ) → IsSentenceRead tokens all at now new one next → (at < next) × (next ≤ length all)
    gathered_next new one next is =
        let long : next ≡ at + length (signs_of_sentence is.written) = read-length (IsSentence now) signs_of_sentence EndsSentence all at is.written next is.is in
        let some : 0 < length (signs_of_sentence is.written) = some_signs is.written in
        (omega arith, is.is.within)

  pub gathered_end : (now : Context) (imports : List (List ℕ)) (sentences : List code.Sentence) (at to : ℕ) → IsGathered tokens all from old now imports sentences at
      → Begins end_word (drop at all) → to ≡ at + 1 → IsBodyRead tokens all from old now imports sentences to
  gathered_end now imports sentences at to so ends next = record {
    written = so.written;
    is = subst (λ n. IsRead (AreSentences old) signs_of_body Anything all from so.written n) (sym next) (body_read old all from so.written at so.begun ends);
    imports_are = so.imports_are;
    sentences_are = so.sentences_are;
    same = so.same;
  }
