-- What the reader of modules answers at each of its exits.
use Rattle.std.proofs.Common.{◌≡◌, ℕ, ◌+◌, ◌<◌, ◌≤◌, Bool, true, false, List, [], ◌∷◌, ◌++◌, length, drop, sym, ◌∙◌, subst, arith}
use Rattle.k_lexer.specs.declared.token.Token.{Token}
use Rattle.production_reader.specs.Lexemes.{Lexeme}
use Rattle.production_reader.specs.Allowed.{is_among}
use Rattle.production_reader.specs.Reading.{IsReadAs, Stops}
use Rattle.production_reader.specs.declared.stop.Stop.{Stop}
use Rattle.production_reader.specs.declared.stop.Stop.TheVariants.{Expected, Memory}
use Rattle.file_reader.specs.Written.{signs_of_header, signs_of_body, text_of_name}
use Rattle.file_reader.specs.Files.{Context, IsName, EndsName, AreSentences, names_of}
use Rattle.file_reader.specs.Reads.{Anything, IsBodyRead, IsFileStop, IsFirstTwice, file_stop}
use Rattle.file_reader.specs.Progress.{IsReading}
use Rattle.file_reader.specs.declared.sentence.Sentence as code
use Rattle.file_reader.specs.declared.file.FileModules.{FileModules}
use Rattle.file_reader.specs.declared.file.FileStop.{FileStop}
use Rattle.file_reader.proofs.Sentencing.{read-length}
use Rattle.file_reader.proofs.Completing.{header_stops, twice_stops, body_stops_file, next_reading}

module _ (tokens : List Token) (all : List Lexeme) (seen : List (List ℕ)) (now : Context) (found : FileModules) (at : ℕ) (so : IsReading tokens all seen now found at)
    (going : (at ≡ 0 → ⊥) → at < length all) where
  header_case : (stop : Stop) → Stops IsName signs_of_header EndsName all at stop → IsFileStop all (file_stop stop)
  header_case (Expected k) stops = header_stops tokens all seen now found at so k stops going
  header_case Memory stops = tt

  pub header_answer : (stop : Stop) (answer : FileStop) → answer ≡ file_stop stop → Stops IsName signs_of_header EndsName all at stop → IsFileStop all answer
  header_answer stop answer is stops = subst (λ a. IsFileStop all a) (sym is) (header_case stop stops)

  module _ (name : List ℕ) (past : ℕ) (header : IsReadAs IsName signs_of_header EndsName text_of_name all at name past) where
    known : (answer : Bool) → answer ≡ is_among seen name → is_among (names_of so.modules) (text_of_name header.written) ≡ answer
    known answer is = sym (is ∙ (λ i. is_among (so.seen_are i) (header.means i)))

    pub twice_answer : (answer : Bool) → answer ≡ is_among seen name → answer ≡ true → EndsName (drop past all) → IsFirstTwice all name
    twice_answer answer is seen_before ends = twice_stops tokens all seen now found at so header.written past header.read (known answer is ∙ seen_before) name header.means ends

    module _ (answer : Bool) (is : answer ≡ is_among seen name) (free : answer ≡ false) where
      body_case : (stop : Stop) → Stops (AreSentences now) signs_of_body Anything all past stop → IsFileStop all (file_stop stop)
      body_case (Expected k) stops = body_stops_file tokens all seen now found at so header.written past header.read (known answer is ∙ free) k stops
      body_case Memory stops = tt

      pub body_answer : (stop : Stop) (result : FileStop) → result ≡ file_stop stop → Stops (AreSentences now) signs_of_body Anything all past stop → IsFileStop all result
      body_answer stop result same stops = subst (λ a. IsFileStop all a) (sym same) (body_case stop stops)

      further : (next : ℕ) → past ≤ next → at < next
      further next order =
          let long : past ≡ at + length (signs_of_header header.written) = read-length IsName signs_of_header EndsName all at header.written past header.read in
          let some : 0 < length (signs_of_header header.written) = omega arith in
          omega arith

      pub module_answer : (new : Context) (imports : List (List ℕ)) (sentences : List code.Sentence) (next : ℕ) → IsBodyRead tokens all past now new imports sentences next
          → (more_seen : List (List ℕ)) (more_found : FileModules) → more_seen ≡ seen ++ name ∷ [] → more_found.names ≡ found.names ++ name ∷ []
          → more_found.imports ≡ found.imports ++ imports ∷ [] → more_found.sentences ≡ found.sentences ++ sentences ∷ []
          → IsReading tokens all more_seen new more_found next × (at < next)
      module_answer new imports sentences next body more_seen more_found seen_more names_more imports_more sentences_more = (
        next_reading tokens all seen now found at so header.written past header.read (known answer is ∙ free) new imports sentences next body more_seen more_found name header.means
            seen_more names_more imports_more sentences_more,
        further next body.is.order,
      )
