-- How the sentences of each kind are read.
use Rattle.std.proofs.Common.{◌≡◌, ℕ, ◌+◌, ◌-◌, ◌≤◌, Bool, true, false, List, [], ◌∷◌, length, drop, refl, sym, ap, ◌∙◌, subst, arith}
use Rattle.std.specs.Prelude.{codes}
use Rattle.std.proofs.lemmas.List.{length-drop}
use Rattle.k_lexer.specs.declared.token.Kind.{Kind}
use Rattle.k_lexer.specs.declared.token.Kind.TheVariants.{Word, Int, Str, Mark}
use Rattle.k_lexer.specs.declared.token.Token.{Token}
use Rattle.production_reader.specs.Lexemes.{Lexeme, Sign, Reads, AreAlike, word}
use Rattle.production_reader.specs.Allowed.{same_text, is_word_among, sentence_words, EndsSentence}
use Rattle.production_reader.specs.Written.{signs_of_groups}
use Rattle.production_reader.specs.Reading.{IsRead, IsReadAs, StopsAt, Stops}
use Rattle.production_reader.specs.declared.stop.Stop.{Stop}
use Rattle.production_reader.specs.declared.stop.Stop.TheVariants.{Expected, Memory}
use Rattle.production_reader.proofs.Lexemes.{reads-length}
use Rattle.file_reader.specs.Heads.{Begins}
use Rattle.file_reader.specs.Written.{Sentence, signs_of_name, signs_of_text, signs_of_sentence, text_of_name}
use Rattle.file_reader.specs.Written.Sentence.{Imports, Syntax, Config, Rule}
use Rattle.file_reader.specs.Files.{Context, IsName, IsText, IsSentence, EndsName}
use Rattle.file_reader.specs.Meaning.{start_of, counted}
use Rattle.file_reader.specs.Passages.{signs_between}
use Rattle.file_reader.specs.Reads.{IsSentenceRead}
use Rattle.file_reader.specs.declared.sentence.Sentence.TheVariants as sentence
use Rattle.file_reader.specs.declared.read.Read.TheVariants as read
use Rattle.file_reader.proofs.Heads.{alike_begins, reads_begins, read_after, stops_after, read_kind, stops_kind, no_true}
use Rattle.file_reader.proofs.Naming.{same_word}

-- how long what was read is
pub read-length : {X : Type 0} (A : X → Type 0) (f : X → List Sign) (Ends : List Lexeme → Type 0) (all : List Lexeme) (from : ℕ) (x : X) (to : ℕ)
    → IsRead A f Ends all from x to → to ≡ from + length (f x)
read-length A f Ends all from x to is =
    let long : length (drop from all) ≡ length (f x) + length (drop to all) = reads-length (f x) (drop from all) (drop to all) is.reads in
    let one : length (drop from all) ≡ length all - from = length-drop from all in
    let other : length (drop to all) ≡ length all - to = length-drop to all in
    let order : from ≤ to = is.order in
    let within : to ≤ length all = is.within in
    omega arith

-- why a reader stops, told for another thing
pub stops_map : {X Z : Type 0} (A : X → Type 0) (f : X → List Sign) (E : List Lexeme → Type 0) (C : Z → Type 0) (h : Z → List Sign) (F : List Lexeme → Type 0)
    (all : List Lexeme) (one other : ℕ) → ((at : ℕ) → StopsAt A f E all one at → StopsAt C h F all other at) → (stop : Stop) → Stops A f E all one stop → Stops C h F all other stop
stops_map A f E C h F all one other turn (Expected at) stops = turn at stops
stops_map A f E C h F all one other turn Memory stops = tt

-- the word with which a sentence begins
unfoldable pub first_word : Sentence → List ℕ
first_word (Imports name) = codes "imports"
first_word (Syntax sort groups) = codes "syntax"
first_word (Config text) = codes "configuration"
first_word (Rule text) = codes "rule"

pub sentence_begins : (z : Sentence) (l after : List Lexeme) → Reads (signs_of_sentence z) l after → Begins (word (first_word z)) l
unfolding first_word
sentence_begins (Imports name) l after reads = reads_begins (word (codes "imports")) (signs_of_name name) l after reads
sentence_begins (Syntax sort groups) l after reads = reads_begins (word (codes "syntax")) (word sort ∷ signs_of_groups groups) l after reads
sentence_begins (Config text) l after reads = reads_begins (word (codes "configuration")) text l after reads
sentence_begins (Rule text) l after reads = reads_begins (word (codes "rule")) text l after reads

pub differ : (one other : List ℕ) → same_text one other ≡ false → same_text other other ≡ true → one ≡ other → ⊥
differ one other apart itself same = no_true (sym apart ∙ ap (λ t. same_text t other) same ∙ itself)

pub import_kind : (c : Context) (z : Sentence) → IsSentence c z → first_word z ≡ codes "imports" → (x : List (List ℕ)) × (Imports x ≡ z) × IsName x
unfolding first_word
import_kind c (Imports name) allowed is = (name, refl, allowed)
import_kind c (Syntax sort groups) allowed is = absurd (differ (codes "syntax") (codes "imports") refl refl is)
import_kind c (Config text) allowed is = absurd (differ (codes "configuration") (codes "imports") refl refl is)
import_kind c (Rule text) allowed is = absurd (differ (codes "rule") (codes "imports") refl refl is)

pub config_kind : (c : Context) (z : Sentence) → IsSentence c z → first_word z ≡ codes "configuration" → (x : List Sign) × (Config x ≡ z) × IsText x
unfolding first_word
config_kind c (Imports name) allowed is = absurd (differ (codes "imports") (codes "configuration") refl refl is)
config_kind c (Syntax sort groups) allowed is = absurd (differ (codes "syntax") (codes "configuration") refl refl is)
config_kind c (Config text) allowed is = (text, refl, allowed)
config_kind c (Rule text) allowed is = absurd (differ (codes "rule") (codes "configuration") refl refl is)

pub rule_kind : (c : Context) (z : Sentence) → IsSentence c z → first_word z ≡ codes "rule" → (x : List Sign) × (Rule x ≡ z) × IsText x
unfolding first_word
rule_kind c (Imports name) allowed is = absurd (differ (codes "imports") (codes "rule") refl refl is)
rule_kind c (Syntax sort groups) allowed is = absurd (differ (codes "syntax") (codes "rule") refl refl is)
rule_kind c (Config text) allowed is = absurd (differ (codes "configuration") (codes "rule") refl refl is)
rule_kind c (Rule text) allowed is = (text, refl, allowed)

word_no_mark : Word ≡ Mark → ⊥
word_no_mark e = cc

-- what ends a sentence ends a name
mark_ends_none : (kind : Kind) (bytes : List ℕ) (joined : Bool) → is_word_among sentence_words record { kind = kind; bytes = bytes; joined = joined } ≡ true → kind ≡ Mark → ⊥
mark_ends_none Word bytes joined ends is = absurd (word_no_mark is)
mark_ends_none Int bytes joined ends is = no_true ends
mark_ends_none Str bytes joined ends is = no_true ends
mark_ends_none Mark bytes joined ends is = no_true ends

pub ends_name : (after : List Lexeme) → EndsSentence after → EndsName after
ends_name [] ends = tt
ends_name (lexeme ∷ after) ends = λ kind bytes joined. mark_ends_none lexeme.kind lexeme.bytes lexeme.joined ends kind

module _ (tokens : List Token) (all : List Lexeme) (from : ℕ) (c : Context) where
  pub first_is : (code : List ℕ) → Begins (word code) (drop from all) → (other : List Lexeme) (z : Sentence) (after : List Lexeme) → AreAlike from other all
      → Reads (signs_of_sentence z) (drop from other) after → first_word z ≡ code
  first_is code begins other z after alike reads =
      same_word (first_word z) code (drop from all) (alike_begins (word (first_word z)) from other all alike (sentence_begins z (drop from other) after reads)) begins

  pub import_read : (words : List (List ℕ)) (to : ℕ) → Begins (word (codes "imports")) (drop from all) → IsRead IsName signs_of_name EndsName all (from + 1) words to
      → IsRead (IsSentence c) signs_of_sentence EndsSentence all from (Imports words) to
  import_read words to begins is =
      read_kind IsName (IsSentence c) (λ y. word (codes "imports") ∷ signs_of_name y) signs_of_sentence EndsName EndsSentence Imports (λ x a. a) (λ x. refl) all from ends_name
      (λ other z after alike allowed reads. import_kind c z allowed (first_is (codes "imports") begins other z after alike reads))
      words to (read_after IsName signs_of_name EndsName (word (codes "imports")) all from words to begins is)

  pub import_stops : (at : ℕ) → Begins (word (codes "imports")) (drop from all) → StopsAt IsName signs_of_name EndsName all (from + 1) at
      → StopsAt (IsSentence c) signs_of_sentence EndsSentence all from at
  import_stops at begins stop =
      stops_kind IsName (IsSentence c) (λ y. word (codes "imports") ∷ signs_of_name y) signs_of_sentence EndsName EndsSentence Imports (λ x a. a) (λ x. refl) all from ends_name
      (λ other z after alike allowed reads. import_kind c z allowed (first_is (codes "imports") begins other z after alike reads))
      at (stops_after IsName signs_of_name EndsName (word (codes "imports")) all from at begins stop)

  pub config_read : (text : List Sign) (to : ℕ) → Begins (word (codes "configuration")) (drop from all) → IsRead IsText signs_of_text EndsSentence all (from + 1) text to
      → IsRead (IsSentence c) signs_of_sentence EndsSentence all from (Config text) to
  config_read text to begins is =
      read_kind IsText (IsSentence c) (λ y. word (codes "configuration") ∷ signs_of_text y) signs_of_sentence EndsSentence EndsSentence Config (λ x a. a) (λ x. refl) all from (λ l e. e)
      (λ other z after alike allowed reads. config_kind c z allowed (first_is (codes "configuration") begins other z after alike reads))
      text to (read_after IsText signs_of_text EndsSentence (word (codes "configuration")) all from text to begins is)

  pub config_stops : (at : ℕ) → Begins (word (codes "configuration")) (drop from all) → StopsAt IsText signs_of_text EndsSentence all (from + 1) at
      → StopsAt (IsSentence c) signs_of_sentence EndsSentence all from at
  config_stops at begins stop =
      stops_kind IsText (IsSentence c) (λ y. word (codes "configuration") ∷ signs_of_text y) signs_of_sentence EndsSentence EndsSentence Config (λ x a. a) (λ x. refl) all from (λ l e. e)
      (λ other z after alike allowed reads. config_kind c z allowed (first_is (codes "configuration") begins other z after alike reads))
      at (stops_after IsText signs_of_text EndsSentence (word (codes "configuration")) all from at begins stop)

  pub rule_read : (text : List Sign) (to : ℕ) → Begins (word (codes "rule")) (drop from all) → IsRead IsText signs_of_text EndsSentence all (from + 1) text to
      → IsRead (IsSentence c) signs_of_sentence EndsSentence all from (Rule text) to
  rule_read text to begins is =
      read_kind IsText (IsSentence c) (λ y. word (codes "rule") ∷ signs_of_text y) signs_of_sentence EndsSentence EndsSentence Rule (λ x a. a) (λ x. refl) all from (λ l e. e)
      (λ other z after alike allowed reads. rule_kind c z allowed (first_is (codes "rule") begins other z after alike reads))
      text to (read_after IsText signs_of_text EndsSentence (word (codes "rule")) all from text to begins is)

  pub rule_stops : (at : ℕ) → Begins (word (codes "rule")) (drop from all) → StopsAt IsText signs_of_text EndsSentence all (from + 1) at
      → StopsAt (IsSentence c) signs_of_sentence EndsSentence all from at
  rule_stops at begins stop =
      stops_kind IsText (IsSentence c) (λ y. word (codes "rule") ∷ signs_of_text y) signs_of_sentence EndsSentence EndsSentence Rule (λ x a. a) (λ x. refl) all from (λ l e. e)
      (λ other z after alike allowed reads. rule_kind c z allowed (first_is (codes "rule") begins other z after alike reads))
      at (stops_after IsText signs_of_text EndsSentence (word (codes "rule")) all from at begins stop)

  -- what the readers of each kind give
  pub import_answer : (first : ℕ) (name : List ℕ) (to : ℕ) → first ≡ from + 1 → Begins (word (codes "imports")) (drop from all)
      → IsReadAs IsName signs_of_name EndsName text_of_name all first name to → IsSentenceRead tokens all from c c (read.Import name) to
  import_answer first name to place begins is = record {
    written = Imports is.written;
    is = import_read is.written to begins (subst (λ n. IsRead IsName signs_of_name EndsName all n is.written to) place is.read);
    means = ap read.Import is.means;
    same = λ sort. refl;
  }

  pub import_answer_stop : (first : ℕ) (stop : Stop) → first ≡ from + 1 → Begins (word (codes "imports")) (drop from all) → Stops IsName signs_of_name EndsName all first stop
      → Stops (IsSentence c) signs_of_sentence EndsSentence all from stop
  import_answer_stop first stop place begins =
      stops_map IsName signs_of_name EndsName (IsSentence c) signs_of_sentence EndsSentence all first from
      (λ at stops. import_stops at begins (subst (λ n. StopsAt IsName signs_of_name EndsName all n at) place stops)) stop

  pub config_answer : (first past : ℕ) → first ≡ from + 1 → Begins (word (codes "configuration")) (drop from all)
      → IsRead IsText signs_of_text EndsSentence all first (signs_between all first past) past → IsSentenceRead tokens all from c c (read.Other (sentence.Config first past)) past
  config_answer first past place begins is = record {
    written = Config (signs_between all first past);
    is = config_read (signs_between all first past) past begins
        (subst (λ n. IsRead IsText signs_of_text EndsSentence all n (signs_between all first past) past) place is);
    means =
        let long : past ≡ first + length (signs_between all first past) = read-length IsText signs_of_text EndsSentence all first (signs_between all first past) past is in
        (λ i. read.Other (sentence.Config (place i) ((long ∙ ap (λ n. n + length (signs_between all first past)) place) i)));
    same = λ sort. refl;
  }

  pub rule_answer : (first past at last : ℕ) → first ≡ from + 1 → at ≡ start_of tokens from → last ≡ first + counted (signs_between all first past) → Begins (word (codes "rule")) (drop from all)
      → IsRead IsText signs_of_text EndsSentence all first (signs_between all first past) past → IsSentenceRead tokens all from c c (read.Other (sentence.Rule at first last)) past
  rule_answer first past at last place start counts begins is = record {
    written = Rule (signs_between all first past);
    is = rule_read (signs_between all first past) past begins
        (subst (λ n. IsRead IsText signs_of_text EndsSentence all n (signs_between all first past) past) place is);
    means = (λ i. read.Other (sentence.Rule (start i) (place i) ((counts ∙ ap (λ n. n + counted (signs_between all first past)) place) i)));
    same = λ sort. refl;
  }

  pub config_answer_stop : (first : ℕ) (stop : Stop) → first ≡ from + 1 → Begins (word (codes "configuration")) (drop from all) → Stops IsText signs_of_text EndsSentence all first stop
      → Stops (IsSentence c) signs_of_sentence EndsSentence all from stop
  config_answer_stop first stop place begins =
      stops_map IsText signs_of_text EndsSentence (IsSentence c) signs_of_sentence EndsSentence all first from
      (λ at stops. config_stops at begins (subst (λ n. StopsAt IsText signs_of_text EndsSentence all n at) place stops)) stop

  pub rule_answer_stop : (first : ℕ) (stop : Stop) → first ≡ from + 1 → Begins (word (codes "rule")) (drop from all) → Stops IsText signs_of_text EndsSentence all first stop
      → Stops (IsSentence c) signs_of_sentence EndsSentence all from stop
  rule_answer_stop first stop place begins =
      stops_map IsText signs_of_text EndsSentence (IsSentence c) signs_of_sentence EndsSentence all first from
      (λ at stops. rule_stops at begins (subst (λ n. StopsAt IsText signs_of_text EndsSentence all n at) place stops)) stop
