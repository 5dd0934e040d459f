-- How the header of a module is read.
use Rattle.std.proofs.Common.{◌≡◌, ℕ, ◌+◌, ◌≤◌, List, [], ◌∷◌, length, drop, refl, subst}
use Rattle.std.specs.Prelude.{codes}
use Rattle.production_reader.specs.Lexemes.{Lexeme, word}
use Rattle.production_reader.specs.Reading.{IsRead, IsReadAs, StopsAt, Stops}
use Rattle.production_reader.specs.declared.stop.Stop.{Stop}
use Rattle.file_reader.specs.Heads.{Begins}
use Rattle.file_reader.specs.Written.{signs_of_name, signs_of_header, text_of_name}
use Rattle.file_reader.specs.Files.{IsName, EndsName}
use Rattle.file_reader.proofs.Heads.{alike_begins, reads_begins, read_after, stops_after, stops_here}
use Rattle.file_reader.proofs.Sentencing.{stops_map}

module _ (all : List Lexeme) (from : ℕ) where
  pub header_answer : (first : ℕ) (name : List ℕ) (to : ℕ) → first ≡ from + 1 → Begins (word (codes "module")) (drop from all) → IsReadAs IsName signs_of_name EndsName text_of_name all first name to
      → IsReadAs IsName signs_of_header EndsName text_of_name all from name to
  header_answer first name to place begins is = record {
    written = is.written;
    read = read_after IsName signs_of_name EndsName (word (codes "module")) all from is.written to begins (subst (λ n. IsRead IsName signs_of_name EndsName all n is.written to) place is.read);
    means = is.means;
  }

  pub header_answer_stop : (first : ℕ) (stop : Stop) → first ≡ from + 1 → Begins (word (codes "module")) (drop from all) → Stops IsName signs_of_name EndsName all first stop
      → Stops IsName signs_of_header EndsName all from stop
  header_answer_stop first stop place begins =
      stops_map IsName signs_of_name EndsName IsName signs_of_header EndsName all first from
      (λ at stops. stops_after IsName signs_of_name EndsName (word (codes "module")) all from at begins (subst (λ n. StopsAt IsName signs_of_name EndsName all n at) place stops)) stop

  pub no_header : from ≤ length all → (Begins (word (codes "module")) (drop from all) → ⊥) → StopsAt IsName signs_of_header EndsName all from from
  no_header within none = stops_here IsName signs_of_header EndsName all from (codes "A" ∷ []) refl within
      (λ other y after alike allowed reads ends.
      none (alike_begins (word (codes "module")) from other all alike (reads_begins (word (codes "module")) (signs_of_name y) (drop from other) after reads)))
