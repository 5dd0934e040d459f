-- How the sentences of a module are read one after another.
use Rattle.std.proofs.Common.{◌≡◌, ℕ, ◌+◌, ◌<◌, ◌≤◌, Bool, true, List, [], ◌∷◌, ◌++◌, length, drop, refl, sym, ap, ◌∙◌, subst, arith, append_assoc, append-nil, length-append, Option, Some, None}
use Rattle.std.specs.Prelude.{codes, if◌then◌else◌}
use Rattle.std.specs.Option.{option_to_list}
use Rattle.k_lexer.specs.declared.token.Kind.{Kind}
use Rattle.k_lexer.specs.declared.token.Kind.TheVariants.{Word}
use Rattle.k_lexer.specs.declared.token.Token.{Token}
use Rattle.production_reader.specs.Lexemes.{Lexeme, Sign, Reads, AreAlike, word}
use Rattle.production_reader.specs.Allowed.{same_text, is_among, is_word_among, sentence_words, EndsSentence, AreGroups, in_groups, had_after}
use Rattle.production_reader.specs.Reading.{IsRead, StopsAt}
use Rattle.production_reader.proofs.Lexemes.{reads_join, reads_split, alike_less}
use Rattle.file_reader.specs.Heads.{Begins}
use Rattle.file_reader.specs.Written.{Sentence, signs_of_sentence, signs_of_sentences, signs_of_body}
use Rattle.file_reader.specs.Written.Sentence.{Imports, Syntax, Config, Rule}
use Rattle.file_reader.specs.Files.{Context, had, noted, after, after_all, IsSentence, AreSentences}
use Rattle.file_reader.specs.Meaning.{sentence_of, sentences_of, import_of, imports_of}
use Rattle.file_reader.specs.Reads.{SameHad, Anything}
use Rattle.file_reader.proofs.Heads.{alike_begins, reads_begins, reads_next, reads_from, begins_within}
use Rattle.file_reader.proofs.Naming.{same_word}
use Rattle.file_reader.proofs.Sentencing.{first_word, differ, sentence_begins}

abbrev pub end_word : Sign
end_word = word (codes "endmodule")

-- a context in which each sort has the same serves as well
noted_same : (one other : Context) (sort : List ℕ) (h : Option Bool) → SameHad one other → SameHad (noted one sort h) (noted other sort h)
noted_same one other sort None same = same
noted_same one other sort (Some b) same = λ key. ap (λ t. if same_text key sort then Some b else t) (same key)

pub after_same : (one other : Context) (s : Sentence) → SameHad one other → SameHad (after one s) (after other s)
after_same one other (Imports name) same = same
after_same one other (Syntax sort groups) same = λ key.
    noted_same one other sort (had_after (had one sort) (in_groups groups)) same key
    ∙ ap (λ h. had (noted other sort (had_after h (in_groups groups))) key) (same sort)
after_same one other (Config text) same = same
after_same one other (Rule text) same = same

pub sentence_same : (one other : Context) (s : Sentence) → SameHad one other → IsSentence one s → IsSentence other s
sentence_same one other (Imports name) same is = is
sentence_same one other (Syntax sort groups) same is = (is.0, subst (λ h. AreGroups sort h groups) (same sort) is.1)
sentence_same one other (Config text) same is = is
sentence_same one other (Rule text) same is = is

pub same_turn : (one other : Context) → SameHad one other → SameHad other one
same_turn one other same = λ sort. sym (same sort)

-- sentences after others
pub after_all-more : (c : Context) (xs : List Sentence) (s : Sentence) → after_all c (xs ++ s ∷ []) ≡ after (after_all c xs) s
after_all-more c [] s = refl
after_all-more c (x ∷ xs) s = after_all-more (after c x) xs s

pub sentences_join : (c : Context) (xs ys : List Sentence) → AreSentences c xs → AreSentences (after_all c xs) ys → AreSentences c (xs ++ ys)
sentences_join c [] ys one other = other
sentences_join c (x ∷ xs) ys one other = (one.0, sentences_join (after c x) xs ys one.1 other)

pub sentences_rest : (c : Context) (xs ys : List Sentence) → AreSentences c (xs ++ ys) → AreSentences (after_all c xs) ys
sentences_rest c [] ys are = are
sentences_rest c (x ∷ xs) ys are = sentences_rest (after c x) xs ys are.1

pub signs_of_sentences-more : (xs : List Sentence) (s : Sentence) → signs_of_sentences (xs ++ s ∷ []) ≡ signs_of_sentences xs ++ signs_of_sentence s
signs_of_sentences-more [] s = append-nil (signs_of_sentence s)
signs_of_sentences-more (x ∷ xs) s = ap (λ t. signs_of_sentence x ++ t) (signs_of_sentences-more xs s) ∙ sym (append_assoc (signs_of_sentence x) (signs_of_sentences xs) (signs_of_sentence s))

body_is : (y : Sentence) (more : List Sentence) → signs_of_body (y ∷ more) ≡ signs_of_sentence y ++ signs_of_body more
body_is y more = append_assoc (signs_of_sentence y) (signs_of_sentences more) (end_word ∷ [])

-- no sentence begins with the word that ends the module
no_end : (z : Sentence) → first_word z ≡ codes "endmodule" → ⊥
unfolding first_word
no_end (Imports name) is = differ (codes "imports") (codes "endmodule") refl refl is
no_end (Syntax sort groups) is = differ (codes "syntax") (codes "endmodule") refl refl is
no_end (Config text) is = differ (codes "configuration") (codes "endmodule") refl refl is
no_end (Rule text) is = differ (codes "rule") (codes "endmodule") refl refl is

-- what a body begins with ends a sentence
ends_kind : (kind : Kind) (here : List ℕ) (joined : Bool) (code : List ℕ) → kind ≡ Word → code ≡ here → is_among sentence_words code ≡ true
    → is_word_among sentence_words record { kind = kind; bytes = here; joined = joined } ≡ true
ends_kind kind here joined code is same among = (λ i. is_word_among sentence_words record { kind = is i; bytes = sym same i; joined = joined }) ∙ among

pub word_ends_sentence : (code : List ℕ) (l : List Lexeme) → Begins (word code) l → is_among sentence_words code ≡ true → EndsSentence l
word_ends_sentence code [] is among = absurd is
word_ends_sentence code (lexeme ∷ l) is among = ends_kind lexeme.kind lexeme.bytes lexeme.joined code (sym is.0) is.1 among

first_among : (z : Sentence) → is_among sentence_words (first_word z) ≡ true
unfolding first_word
first_among (Imports name) = refl
first_among (Syntax sort groups) = refl
first_among (Config text) = refl
first_among (Rule text) = refl

pub body_ends : (sentences : List Sentence) (l after : List Lexeme) → Reads (signs_of_body sentences) l after → EndsSentence l
body_ends [] l after read = word_ends_sentence (codes "endmodule") l (reads_begins end_word [] l after read) refl
body_ends (s ∷ sentences) l after read =
    let split = reads_split (signs_of_sentence s) (signs_of_body sentences) l after (subst (λ t. Reads t l after) (body_is s sentences) read) in
    word_ends_sentence (first_word s) l (sentence_begins s l split.middle split.one) (first_among s)

-- a body goes on from these sentences
pub record BodyGoesOn (other : List Lexeme) (at : ℕ) (xs ys : List Sentence) (after : List Lexeme) : Type 0 where
  pub more : List Sentence
  pub is : ys ≡ xs ++ more
  pub reads : Reads (signs_of_body more) (drop at other) after

-- these sentences were read, and each body that is written here goes on from them
pub record IsBodyBegun (c : Context) (all : List Lexeme) (from : ℕ) (xs : List Sentence) (at : ℕ) : Type 0 where
  pub order : from ≤ at
  pub within : at ≤ length all
  pub allowed : AreSentences c xs
  pub reads : Reads (signs_of_sentences xs) (drop from all) (drop at all)
  pub only : (other : List Lexeme) (ys : List Sentence) (after : List Lexeme) → AreAlike at other all → AreSentences c ys → Reads (signs_of_body ys) (drop from other) after
      → BodyGoesOn other at xs ys after

module _ (c : Context) (all : List Lexeme) (from : ℕ) where
  pub body_start : from ≤ length all → IsBodyBegun c all from [] from
  body_start within = record {
    order = omega arith;
    within = within;
    allowed = tt;
    reads = refl;
    only = λ other ys after alike allowed read. record { more = ys; is = refl; reads = read };
  }

  module _ (xs : List Sentence) (at : ℕ) (so : IsBodyBegun c all from xs at) (now : Context) (same : SameHad now (after_all c xs)) (goes : Begins end_word (drop at all) → ⊥) where
    no_end_here : (other : List Lexeme) (after : List Lexeme) → AreAlike at other all → Reads (signs_of_body []) (drop at other) after → ⊥
    no_end_here other after alike read = goes (alike_begins end_word at other all alike (reads_begins end_word [] (drop at other) after read))

    next_allowed : (ys : List Sentence) (y : Sentence) (more : List Sentence) → AreSentences c ys → ys ≡ xs ++ (y ∷ more) → IsSentence now y
    next_allowed ys y more allowed is =
        sentence_same (after_all c xs) now y (same_turn now (after_all c xs) same) (sentences_rest c xs (y ∷ more) (subst (λ t. AreSentences c t) is allowed)).0

    more_goes : (s : Sentence) (next : ℕ) → IsRead (IsSentence now) signs_of_sentence EndsSentence all at s next → (other : List Lexeme) (ys : List Sentence) (after : List Lexeme)
        → AreAlike next other all → AreSentences c ys → (more : List Sentence) → ys ≡ xs ++ more → Reads (signs_of_body more) (drop at other) after → BodyGoesOn other next (xs ++ s ∷ []) ys after
    more_goes s next one other ys after alike allowed [] is read = absurd (no_end_here other after (alike_less at next other all one.order alike) read)
    more_goes s next one other ys after alike allowed (y ∷ more) is read =
        let split = reads_split (signs_of_sentence y) (signs_of_body more) (drop at other) after (subst (λ t. Reads t (drop at other) after) (body_is y more) read) in
        let r = one.only other y split.middle alike (next_allowed ys y more allowed is) split.one (body_ends more split.middle after split.other) in
        record {
          more = more;
          is = is ∙ ap (λ t. xs ++ t ∷ more) r.0 ∙ sym (append_assoc xs (s ∷ []) more);
          reads = subst (λ l. Reads (signs_of_body more) l after) r.1 split.other;
        }

    pub body_more : (s : Sentence) (next : ℕ) → IsRead (IsSentence now) signs_of_sentence EndsSentence all at s next → IsBodyBegun c all from (xs ++ s ∷ []) next
    body_more s next one = record {
      order = let a : from ≤ at = so.order in let b : at ≤ next = one.order in omega arith;
      within = one.within;
      allowed = sentences_join c xs (s ∷ []) so.allowed (sentence_same now (after_all c xs) s same one.allowed, tt);
      reads = subst (λ t. Reads t (drop from all) (drop next all)) (sym (signs_of_sentences-more xs s))
          (reads_join (signs_of_sentences xs) (signs_of_sentence s) (drop from all) (drop at all) (drop next all) so.reads one.reads);
      only = λ other ys after alike allowed read.
          let g = so.only other ys after (alike_less at next other all one.order alike) allowed read in
          more_goes s next one other ys after alike allowed g.more g.is g.reads;
    }

    stops_goes : (stop : ℕ) → StopsAt (IsSentence now) signs_of_sentence EndsSentence all at stop → (other : List Lexeme) (ys : List Sentence) (after : List Lexeme)
        → AreAlike stop other all → AreSentences c ys → (more : List Sentence) → ys ≡ xs ++ more → Reads (signs_of_body more) (drop at other) after → ⊥
    stops_goes stop stops other ys after alike allowed [] is read = no_end_here other after (alike_less at stop other all stops.order alike) read
    stops_goes stop stops other ys after alike allowed (y ∷ more) is read =
        let split = reads_split (signs_of_sentence y) (signs_of_body more) (drop at other) after (subst (λ t. Reads t (drop at other) after) (body_is y more) read) in
        stops.none other y split.middle alike (next_allowed ys y more allowed is) split.one (body_ends more split.middle after split.other)

    pub body_stops : (stop : ℕ) → StopsAt (IsSentence now) signs_of_sentence EndsSentence all at stop → StopsAt (AreSentences c) signs_of_body Anything all from stop
    body_stops stop stops = record {
      order = let a : from ≤ at = so.order in let b : at ≤ stop = stops.order in omega arith;
      within = stops.within;
      none = λ other ys after alike allowed read ends.
          let g = so.only other ys after (alike_less at stop other all stops.order alike) allowed read in
          stops_goes stop stops other ys after alike allowed g.more g.is g.reads;
      begun = xs ++ stops.begun ∷ [];
      allowed = sentences_join c xs (stops.begun ∷ []) so.allowed (sentence_same now (after_all c xs) stops.begun same stops.allowed, tt);
      done = signs_of_sentences xs ++ stops.done;
      left = stops.left ++ end_word ∷ [];
      parts =
          ap (λ t. t ++ end_word ∷ []) (signs_of_sentences-more xs stops.begun ∙ ap (λ t. signs_of_sentences xs ++ t) stops.parts ∙ sym (append_assoc (signs_of_sentences xs) stops.done stops.left))
          ∙ append_assoc (signs_of_sentences xs ++ stops.done) stops.left (end_word ∷ []);
      reads = reads_join (signs_of_sentences xs) stops.done (drop from all) (drop at all) (drop stop all) so.reads stops.reads;
    }

  ends_goes : (xs : List Sentence) (at : ℕ) → Begins end_word (drop at all) → (other : List Lexeme) (ys : List Sentence) (after : List Lexeme) → AreAlike at other all
      → (more : List Sentence) → ys ≡ xs ++ more → Reads (signs_of_body more) (drop at other) after → (ys ≡ xs) × (after ≡ drop (at + 1) other)
  ends_goes xs at ends other ys after alike [] is read = (is ∙ append-nil xs, sym (reads_next end_word [] other after at read))
  ends_goes xs at ends other ys after alike (y ∷ more) is read =
      let split = reads_split (signs_of_sentence y) (signs_of_body more) (drop at other) after (subst (λ t. Reads t (drop at other) after) (body_is y more) read) in
      absurd (no_end y (same_word (first_word y) (codes "endmodule") (drop at all)
      (alike_begins (word (first_word y)) at other all alike (sentence_begins y (drop at other) split.middle split.one)) ends))

  pub body_read : (xs : List Sentence) (at : ℕ) → IsBodyBegun c all from xs at → Begins end_word (drop at all) → IsRead (AreSentences c) signs_of_body Anything all from xs (at + 1)
  body_read xs at so ends = record {
    order = let a : from ≤ at = so.order in omega arith;
    within = let below : at < length all = begins_within end_word all at ends in omega arith;
    allowed = so.allowed;
    reads = reads_join (signs_of_sentences xs) (end_word ∷ []) (drop from all) (drop at all) (drop (at + 1) all) so.reads (reads_from end_word [] all (drop (at + 1) all) at ends refl);
    only = λ other ys after alike allowed read anything.
        let near = alike_less at (at + 1) other all (omega arith) alike in
        let g = so.only other ys after near allowed read in
        ends_goes xs at ends other ys after near g.more g.is g.reads;
  }

-- what the sentences say, with one more
pub imports_more : (xs : List Sentence) (s : Sentence) → imports_of (xs ++ s ∷ []) ≡ imports_of xs ++ option_to_list (import_of s)
imports_more [] s = append-nil (option_to_list (import_of s))
imports_more (x ∷ xs) s = ap (λ t. option_to_list (import_of x) ++ t) (imports_more xs s) ∙ sym (append_assoc (option_to_list (import_of x)) (imports_of xs) (option_to_list (import_of s)))

long : (at : ℕ) (x : Sentence) (xs : List Sentence) → at + length (signs_of_sentence x) + length (signs_of_sentences xs) ≡ at + length (signs_of_sentence x ++ signs_of_sentences xs)
long at x xs = let sum : length (signs_of_sentence x ++ signs_of_sentences xs) ≡ length (signs_of_sentence x) + length (signs_of_sentences xs) = length-append (signs_of_sentence x) (signs_of_sentences xs) in omega arith

pub sentences_more : (tokens : List Token) (at : ℕ) (xs : List Sentence) (s : Sentence)
    → sentences_of tokens at (xs ++ s ∷ []) ≡ sentences_of tokens at xs ++ option_to_list (sentence_of tokens (at + length (signs_of_sentences xs)) s)
sentences_more tokens at [] s = append-nil (option_to_list (sentence_of tokens at s)) ∙ ap (λ n. option_to_list (sentence_of tokens n s)) (omega arith)
sentences_more tokens at (x ∷ xs) s =
    ap (λ t. option_to_list (sentence_of tokens at x) ++ t) (sentences_more tokens (at + length (signs_of_sentence x)) xs s)
    ∙ sym (append_assoc (option_to_list (sentence_of tokens at x)) (sentences_of tokens (at + length (signs_of_sentence x)) xs) (option_to_list (sentence_of tokens (at + length (signs_of_sentence x) + length (signs_of_sentences xs)) s)))
    ∙ ap (λ n. option_to_list (sentence_of tokens at x) ++ sentences_of tokens (at + length (signs_of_sentence x)) xs ++ option_to_list (sentence_of tokens n s)) (long at x xs)

pub some_signs : (s : Sentence) → 0 < length (signs_of_sentence s)
some_signs (Imports name) = omega arith
some_signs (Syntax sort groups) = omega arith
some_signs (Config text) = omega arith
some_signs (Rule text) = omega arith
