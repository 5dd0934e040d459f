-- How a name is read word by word.
use Rattle.std.proofs.Common.{◌≡◌, ℕ, ◌+◌, ◌<◌, ◌≤◌, List, [], ◌∷◌, ◌++◌, length, drop, refl, sym, ap, ◌∙◌, subst, arith, append_assoc, append-nil}
use Rattle.std.specs.Prelude.{codes}
use Rattle.production_reader.specs.Lexemes.{Lexeme, Reads, AreAlike, word, joined_word, joined_mark}
use Rattle.production_reader.specs.Reading.{IsRead, StopsAt}
use Rattle.production_reader.proofs.Lexemes.{reads_join, alike_less}
use Rattle.file_reader.specs.Heads.{Begins}
use Rattle.file_reader.specs.Written.{further_words, signs_of_name, further_text, text_of_name}
use Rattle.file_reader.specs.Files.{IsName, EndsName}
use Rattle.file_reader.proofs.Heads.{alike_begins, reads_begins, reads_next, reads_from, begins_within, stops_here, no_true}

-- a name goes on from these words
pub record GoesOn (other : List Lexeme) (at : ℕ) (words ys : List (List ℕ)) (after : List Lexeme) : Type 0 where
  pub more : List (List ℕ)
  pub is : ys ≡ words ++ more
  pub reads : Reads (further_words more) (drop at other) after

-- these words were read, and each name that is written here goes on from them
pub record IsNaming (all : List Lexeme) (from : ℕ) (words : List (List ℕ)) (at : ℕ) : Type 0 where
  pub order : from < at
  pub within : at ≤ length all
  pub named : IsName words
  pub reads : Reads (signs_of_name words) (drop from all) (drop at all)
  pub only : (other : List Lexeme) (ys : List (List ℕ)) (after : List Lexeme) → AreAlike at other all → IsName ys → Reads (signs_of_name ys) (drop from other) after
      → EndsName after → GoesOn other at words ys after

-- what is read so far is this text
pub record IsNamed (all : List Lexeme) (from at : ℕ) (text : List ℕ) : Type 0 where
  pub words : List (List ℕ)
  pub naming : IsNaming all from words at
  pub text_is : text ≡ text_of_name words

-- two words that stand first are one
pub same_word : (one other : List ℕ) (lexemes : List Lexeme) → Begins (word one) lexemes → Begins (word other) lexemes → one ≡ other
same_word one other [] a b = absurd a
same_word one other (lexeme ∷ lexemes) a b = a.1 ∙ sym b.1

pub same_joined : (one other : List ℕ) (lexemes : List Lexeme) → Begins (joined_word one) lexemes → Begins (joined_word other) lexemes → one ≡ other
same_joined one other [] a b = absurd a
same_joined one other (lexeme ∷ lexemes) a b = a.1 ∙ sym b.1

-- the end of a name is no dash
pub no_dash : (after : List Lexeme) → EndsName after → Begins (joined_mark 45) after → ⊥
no_dash [] ends is = is
no_dash (lexeme ∷ after) ends is = ends (sym is.0) (sym is.1) (is.2 refl)

pub ends_here : (l : List Lexeme) → (Begins (joined_mark 45) l → ⊥) → EndsName l
ends_here [] none = tt
ends_here (lexeme ∷ l) none = λ kind bytes joined. none (sym kind, sym bytes, λ e. joined)

pub further_words-more : (words : List (List ℕ)) (next : List ℕ) → further_words (words ++ next ∷ []) ≡ further_words words ++ joined_mark 45 ∷ joined_word next ∷ []
further_words-more [] next = refl
further_words-more (first ∷ words) next = ap (λ t. joined_mark 45 ∷ joined_word first ∷ t) (further_words-more words next)

pub signs_of_name-more : (words : List (List ℕ)) (next : List ℕ) → IsName words → signs_of_name (words ++ next ∷ []) ≡ signs_of_name words ++ joined_mark 45 ∷ joined_word next ∷ []
signs_of_name-more [] next named = absurd (no_true (sym named))
signs_of_name-more (first ∷ words) next named = ap (λ t. word first ∷ t) (further_words-more words next)

further_text-more : (words : List (List ℕ)) (next : List ℕ) → further_text (words ++ next ∷ []) ≡ further_text words ++ 45 ∷ next
further_text-more [] next = ap (λ t. 45 ∷ t) (append-nil next)
further_text-more (first ∷ words) next = ap (λ t. 45 ∷ first ++ t) (further_text-more words next) ∙ ap (λ t. 45 ∷ t) (sym (append_assoc first (further_text words) (45 ∷ next)))

pub text_of_name-more : (words : List (List ℕ)) (next : List ℕ) → IsName words → text_of_name (words ++ next ∷ []) ≡ text_of_name words ++ 45 ∷ next
text_of_name-more [] next named = absurd (no_true (sym named))
text_of_name-more (first ∷ words) next named = ap (λ t. first ++ t) (further_text-more words next) ∙ sym (append_assoc first (further_text words) (45 ∷ next))

pub named-more : (words : List (List ℕ)) (next : List ℕ) → IsName (words ++ next ∷ [])
named-more [] next = refl
named-more (first ∷ words) next = refl

module _ (all : List Lexeme) (from : ℕ) where
  first_goes : (first : List ℕ) (other : List Lexeme) (ys : List (List ℕ)) (after : List Lexeme) → Begins (word first) (drop from all) → AreAlike from other all → IsName ys
      → Reads (signs_of_name ys) (drop from other) after → GoesOn other (from + 1) (first ∷ []) ys after
  first_goes first other [] after is alike named read = absurd (no_true (sym named))
  first_goes first other (y ∷ ys) after is alike named read =
      let begins : Begins (word y) (drop from all) = alike_begins (word y) from other all alike (reads_begins (word y) (further_words ys) (drop from other) after read) in
      record { more = ys; is = ap (λ w. w ∷ ys) (same_word y first (drop from all) begins is); reads = reads_next (word y) (further_words ys) other after from read }

  pub naming_first : (first : List ℕ) → Begins (word first) (drop from all) → IsNaming all from (first ∷ []) (from + 1)
  naming_first first is = record {
    order = omega arith;
    within = let below : from < length all = begins_within (word first) all from is in omega arith;
    named = refl;
    reads = reads_from (word first) [] all (drop (from + 1) all) from is refl;
    only = λ other ys after alike named read ends. first_goes first other ys after is (alike_less from (from + 1) other all (omega arith) alike) named read;
  }

  more_goes : (words : List (List ℕ)) (at : ℕ) (next : List ℕ) (other : List Lexeme) (ys : List (List ℕ)) (after : List Lexeme)
      → Begins (joined_mark 45) (drop at all) → Begins (joined_word next) (drop (at + 1) all) → AreAlike (at + 1) other all → EndsName after
      → (more : List (List ℕ)) → ys ≡ words ++ more → Reads (further_words more) (drop at other) after → GoesOn other (at + 2) (words ++ next ∷ []) ys after
  more_goes words at next other ys after dash is alike ends [] same read =
      absurd (no_dash (drop at other) (subst (λ t. EndsName t) (sym read) ends)
      (alike_begins (joined_mark 45) at all other (sym (alike_less at (at + 1) other all (omega arith) alike)) dash))
  more_goes words at next other ys after dash is alike ends (y ∷ more) same read =
      let later = reads_next (joined_mark 45) (joined_word y ∷ further_words more) other after at read in
      let begins : Begins (joined_word y) (drop (at + 1) all) =
      alike_begins (joined_word y) (at + 1) other all alike (reads_begins (joined_word y) (further_words more) (drop (at + 1) other) after later) in
      record {
        more = more;
        is = same ∙ ap (λ w. words ++ w ∷ more) (same_joined y next (drop (at + 1) all) begins is) ∙ sym (append_assoc words (next ∷ []) more);
        reads = subst (λ n. Reads (further_words more) (drop n other) after) (omega arith) (reads_next (joined_word y) (further_words more) other after (at + 1) later);
      }

  pub naming_more : (words : List (List ℕ)) (at : ℕ) (next : List ℕ) → IsNaming all from words at → Begins (joined_mark 45) (drop at all)
      → Begins (joined_word next) (drop (at + 1) all) → IsNaming all from (words ++ next ∷ []) (at + 2)
  naming_more words at next so dash is = record {
    order = let below : from < at = so.order in omega arith;
    within = let below : at + 1 < length all = begins_within (joined_word next) all (at + 1) is in omega arith;
    named = named-more words next;
    reads = subst (λ s. Reads s (drop from all) (drop (at + 2) all)) (sym (signs_of_name-more words next so.named))
        (reads_join (signs_of_name words) (joined_mark 45 ∷ joined_word next ∷ []) (drop from all) (drop at all) (drop (at + 2) all) so.reads
        (reads_from (joined_mark 45) (joined_word next ∷ []) all (drop (at + 2) all) at dash
        (reads_from (joined_word next) [] all (drop (at + 2) all) (at + 1) is (ap (λ n. drop n all) (omega arith)))));
    only = λ other ys after alike named read ends.
        let g = so.only other ys after (alike_less at (at + 2) other all (omega arith) alike) named read ends in
        more_goes words at next other ys after dash is (alike_less (at + 1) (at + 2) other all (omega arith) alike) ends g.more g.is g.reads;
  }

  ends_goes : (words : List (List ℕ)) (at : ℕ) (other : List Lexeme) (ys : List (List ℕ)) (after : List Lexeme) → (Begins (joined_mark 45) (drop at all) → ⊥)
      → AreAlike at other all → (more : List (List ℕ)) → ys ≡ words ++ more → Reads (further_words more) (drop at other) after → (ys ≡ words) × (after ≡ drop at other)
  ends_goes words at other ys after none alike [] same read = (same ∙ append-nil words, sym read)
  ends_goes words at other ys after none alike (y ∷ more) same read =
      absurd (none (alike_begins (joined_mark 45) at other all alike (reads_begins (joined_mark 45) (joined_word y ∷ further_words more) (drop at other) after read)))

  pub name_read : (words : List (List ℕ)) (at : ℕ) → IsNaming all from words at → (Begins (joined_mark 45) (drop at all) → ⊥) → IsRead IsName signs_of_name EndsName all from words at
  name_read words at so none = record {
    order = let below : from < at = so.order in omega arith;
    within = so.within;
    allowed = so.named;
    reads = so.reads;
    only = λ other ys after alike named read ends.
        let g = so.only other ys after alike named read ends in ends_goes words at other ys after none alike g.more g.is g.reads;
  }

  stops_goes : (words : List (List ℕ)) (at : ℕ) (other : List Lexeme) (ys : List (List ℕ)) (after : List Lexeme) → Begins (joined_mark 45) (drop at all)
      → ((bytes : List ℕ) → Begins (joined_word bytes) (drop (at + 1) all) → ⊥) → AreAlike (at + 1) other all → EndsName after
      → (more : List (List ℕ)) → Reads (further_words more) (drop at other) after → ⊥
  stops_goes words at other ys after dash none alike ends [] read =
      no_dash (drop at other) (subst (λ t. EndsName t) (sym read) ends)
      (alike_begins (joined_mark 45) at all other (sym (alike_less at (at + 1) other all (omega arith) alike)) dash)
  stops_goes words at other ys after dash none alike ends (y ∷ more) read =
      none y (alike_begins (joined_word y) (at + 1) other all alike
      (reads_begins (joined_word y) (further_words more) (drop (at + 1) other) after (reads_next (joined_mark 45) (joined_word y ∷ further_words more) other after at read)))

  pub name_stops : (words : List (List ℕ)) (at : ℕ) → IsNaming all from words at → Begins (joined_mark 45) (drop at all)
      → ((bytes : List ℕ) → Begins (joined_word bytes) (drop (at + 1) all) → ⊥) → StopsAt IsName signs_of_name EndsName all from (at + 1)
  name_stops words at so dash none = record {
    order = let below : from < at = so.order in omega arith;
    within = let below : at < length all = begins_within (joined_mark 45) all at dash in omega arith;
    none = λ other ys after alike named read ends.
        let g = so.only other ys after (alike_less at (at + 1) other all (omega arith) alike) named read ends in
        stops_goes words at other ys after dash none alike ends g.more g.reads;
    begun = words ++ codes "A" ∷ [];
    allowed = named-more words (codes "A");
    done = signs_of_name words ++ joined_mark 45 ∷ [];
    left = joined_word (codes "A") ∷ [];
    parts = signs_of_name-more words (codes "A") so.named ∙ sym (append_assoc (signs_of_name words) (joined_mark 45 ∷ []) (joined_word (codes "A") ∷ []));
    reads = reads_join (signs_of_name words) (joined_mark 45 ∷ []) (drop from all) (drop at all) (drop (at + 1) all) so.reads
        (reads_from (joined_mark 45) [] all (drop (at + 1) all) at dash refl);
  }

  no_name : (other : List Lexeme) (ys : List (List ℕ)) (after : List Lexeme) → ((bytes : List ℕ) → Begins (word bytes) (drop from all) → ⊥) → AreAlike from other all → IsName ys
      → Reads (signs_of_name ys) (drop from other) after → ⊥
  no_name other [] after none alike named read = no_true (sym named)
  no_name other (y ∷ ys) after none alike named read =
      none y (alike_begins (word y) from other all alike (reads_begins (word y) (further_words ys) (drop from other) after read))

  pub no_first : from ≤ length all → ((bytes : List ℕ) → Begins (word bytes) (drop from all) → ⊥) → StopsAt IsName signs_of_name EndsName all from from
  no_first within none = stops_here IsName signs_of_name EndsName all from (codes "A" ∷ []) refl within (λ other ys after alike named read ends. no_name other ys after none alike named read)
