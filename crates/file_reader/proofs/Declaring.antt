-- How the productions of a sort are read, and that no sentence is there.
use Rattle.std.proofs.Common.{◌≡◌, ℕ, ◌+◌, ◌≤◌, Bool, List, [], ◌∷◌, length, drop, refl, sym, ap, subst, arith, Option}
use Rattle.std.specs.Prelude.{codes}
use Rattle.k_lexer.specs.declared.token.Token.{Token}
use Rattle.production_reader.specs.Lexemes.{Lexeme, Sign, Reads, AreAlike, word}
use Rattle.production_reader.specs.Written.{Production, signs_of_groups}
use Rattle.production_reader.specs.Allowed.{EndsSentence, AreGroups, in_groups, had_after}
use Rattle.production_reader.specs.Meaning.{groups_of}
use Rattle.production_reader.specs.Reading.{IsRead, IsReadAs, StopsAt, Stops}
use Rattle.production_reader.specs.declared.prod.Prod.{Prod}
use Rattle.production_reader.specs.declared.stop.Stop.{Stop}
use Rattle.production_reader.proofs.Lexemes.{alike_less}
use Rattle.file_reader.specs.Heads.{Begins}
use Rattle.file_reader.specs.Written.{Sentence, signs_of_sentence}
use Rattle.file_reader.specs.Written.Sentence.{Imports, Syntax, Config, Rule}
use Rattle.file_reader.specs.Files.{Context, had, noted, after, IsDeclared, IsSentence}
use Rattle.file_reader.specs.Reads.{IsSentenceRead, SameHad}
use Rattle.file_reader.specs.declared.sentence.Sentence.TheVariants as sentence
use Rattle.file_reader.specs.declared.read.Read.TheVariants.{Other}
use Rattle.file_reader.proofs.Heads.{alike_begins, reads_begins, reads_next, reads_from, read_after, stops_after, read_kind, stops_kind, stops_here}
use Rattle.file_reader.proofs.Naming.{same_word}
use Rattle.file_reader.proofs.Sentencing.{first_word, differ, first_is, sentence_begins, stops_map}

-- a sort and its groups
abbrev pub Declares : Context → List ℕ × List (List Production) → Type 0
Declares c p = IsDeclared p.0 × AreGroups p.0 (had c p.0) p.1

abbrev pub signs_declaring : List ℕ × List (List Production) → List Sign
signs_declaring p = word p.0 ∷ signs_of_groups p.1

syntax_of : List ℕ × List (List Production) → Sentence
syntax_of p = Syntax p.0 p.1

syntax_kind : (c : Context) (z : Sentence) → IsSentence c z → first_word z ≡ codes "syntax" → (x : List ℕ × List (List Production)) × (syntax_of x ≡ z) × Declares c x
unfolding first_word syntax_of
syntax_kind c (Imports name) allowed is = absurd (differ (codes "imports") (codes "syntax") refl refl is)
syntax_kind c (Syntax sort groups) allowed is = ((sort, groups), refl, allowed)
syntax_kind c (Config text) allowed is = absurd (differ (codes "configuration") (codes "syntax") refl refl is)
syntax_kind c (Rule text) allowed is = absurd (differ (codes "rule") (codes "syntax") refl refl is)

module _ (all : List Lexeme) (c : Context) where
  same_sort : (at : ℕ) (sort : List ℕ) → Begins (word sort) (drop at all) → (other : List Lexeme) (y : List ℕ × List (List Production)) (after : List Lexeme) → AreAlike at other all
      → Reads (signs_declaring y) (drop at other) after → y.0 ≡ sort
  same_sort at sort begins other y after alike reads =
      same_word y.0 sort (drop at all) (alike_begins (word y.0) at other all alike (reads_begins (word y.0) (signs_of_groups y.1) (drop at other) after reads)) begins

  of_sort : (sort : List ℕ) (h : Option Bool) → h ≡ had c sort → (y : List ℕ × List (List Production)) → y.0 ≡ sort → AreGroups y.0 (had c y.0) y.1 → AreGroups sort h y.1
  of_sort sort h is y same are = subst (λ o. AreGroups sort o y.1) (sym is) (subst (λ t. AreGroups t (had c t) y.1) same are)

  pub declared_read : (at : ℕ) (sort : List ℕ) (h : Option Bool) (groups : List (List Production)) (to : ℕ) → Begins (word sort) (drop at all) → IsDeclared sort → h ≡ had c sort
      → IsRead (AreGroups sort h) signs_of_groups EndsSentence all (at + 1) groups to → IsRead (Declares c) signs_declaring EndsSentence all at (sort, groups) to
  declared_read at sort h groups to begins declared is read = record {
    order = let order : at + 1 ≤ to = read.order in omega arith;
    within = read.within;
    allowed = (declared, subst (λ o. AreGroups sort o groups) is read.allowed);
    reads = reads_from (word sort) (signs_of_groups groups) all (drop to all) at begins read.reads;
    only = λ other y after alike allowed reads ends.
        let e = same_sort at sort begins other y after (alike_less at to other all (let order : at + 1 ≤ to = read.order in omega arith) alike) reads in
        let r = read.only other y.1 after alike (of_sort sort h is y e allowed.1) (reads_next (word y.0) (signs_of_groups y.1) other after at reads) ends in
        ((λ i. (e i, r.0 i)), r.1);
  }

  pub declared_stops : (at : ℕ) (sort : List ℕ) (h : Option Bool) (stop : ℕ) → Begins (word sort) (drop at all) → IsDeclared sort → h ≡ had c sort
      → StopsAt (AreGroups sort h) signs_of_groups EndsSentence all (at + 1) stop → StopsAt (Declares c) signs_declaring EndsSentence all at stop
  declared_stops at sort h stop begins declared is stops = record {
    order = let order : at + 1 ≤ stop = stops.order in omega arith;
    within = stops.within;
    none = λ other y after alike allowed reads ends.
        let e = same_sort at sort begins other y after (alike_less at stop other all (let order : at + 1 ≤ stop = stops.order in omega arith) alike) reads in
        stops.none other y.1 after alike (of_sort sort h is y e allowed.1) (reads_next (word y.0) (signs_of_groups y.1) other after at reads) ends;
    begun = (sort, stops.begun);
    allowed = (declared, subst (λ o. AreGroups sort o stops.begun) is stops.allowed);
    done = word sort ∷ stops.done;
    left = stops.left;
    parts = ap (λ t. word sort ∷ t) stops.parts;
    reads = reads_from (word sort) stops.done all (drop stop all) at begins stops.reads;
  }

  pub declared_missing : (at : ℕ) → at ≤ length all → ((sort : List ℕ) → IsDeclared sort → Begins (word sort) (drop at all) → ⊥)
      → StopsAt (Declares c) signs_declaring EndsSentence all at at
  declared_missing at within none = stops_here (Declares c) signs_declaring EndsSentence all at (codes "A", []) ((refl, refl), (tt, tt)) within
      (λ other y after alike allowed reads ends. none y.0 allowed.0 (alike_begins (word y.0) at other all alike (reads_begins (word y.0) (signs_of_groups y.1) (drop at other) after reads)))

  module _ (tokens : List Token) (from : ℕ) (begins : Begins (word (codes "syntax")) (drop from all)) where
    pub syntax_read : (sort : List ℕ) (groups : List (List Production)) (to : ℕ) → IsRead (Declares c) signs_declaring EndsSentence all (from + 1) (sort, groups) to
        → IsRead (IsSentence c) signs_of_sentence EndsSentence all from (Syntax sort groups) to
    unfolding syntax_of
    syntax_read sort groups to is =
        read_kind (Declares c) (IsSentence c) (λ y. word (codes "syntax") ∷ signs_declaring y) signs_of_sentence EndsSentence EndsSentence syntax_of (λ x a. a) (λ x. refl) all from (λ l e. e)
        (λ other z after alike allowed reads. syntax_kind c z allowed (first_is tokens all from c (codes "syntax") begins other z after alike reads))
        (sort, groups) to (read_after (Declares c) signs_declaring EndsSentence (word (codes "syntax")) all from (sort, groups) to begins is)

    pub syntax_stops : (at : ℕ) → StopsAt (Declares c) signs_declaring EndsSentence all (from + 1) at → StopsAt (IsSentence c) signs_of_sentence EndsSentence all from at
    unfolding syntax_of
    syntax_stops at stops =
        stops_kind (Declares c) (IsSentence c) (λ y. word (codes "syntax") ∷ signs_declaring y) signs_of_sentence EndsSentence EndsSentence syntax_of (λ x a. a) (λ x. refl) all from (λ l e. e)
        (λ other z after alike allowed reads. syntax_kind c z allowed (first_is tokens all from c (codes "syntax") begins other z after alike reads))
        at (stops_after (Declares c) signs_declaring EndsSentence (word (codes "syntax")) all from at begins stops)

    pub syntax_answer : (at first : ℕ) (sort : List ℕ) (h : Option Bool) (groups : List (List Prod)) (to : ℕ) (new : Context) → at ≡ from + 1 → first ≡ at + 1 → Begins (word sort) (drop at all) → IsDeclared sort → h ≡ had c sort
        → (is : IsReadAs (AreGroups sort h) signs_of_groups EndsSentence groups_of all first groups to) → SameHad new (noted c sort (had_after h (in_groups is.written)))
        → IsSentenceRead tokens all from c new (Other (sentence.Syntax sort groups)) to
    syntax_answer at first sort h groups to new place next here declared is read same = record {
      written = Syntax sort read.written;
      is = syntax_read sort read.written to (subst (λ n. IsRead (Declares c) signs_declaring EndsSentence all n (sort, read.written) to) place
          (declared_read at sort h read.written to here declared is (subst (λ n. IsRead (AreGroups sort h) signs_of_groups EndsSentence all n read.written to) next read.read)));
      means = ap (λ g. Other (sentence.Syntax sort g)) read.means;
      same = subst (λ o. SameHad new (noted c sort (had_after o (in_groups read.written)))) is same;
    }

    pub syntax_answer_stop : (at first : ℕ) (sort : List ℕ) (h : Option Bool) (stop : Stop) → at ≡ from + 1 → first ≡ at + 1 → Begins (word sort) (drop at all) → IsDeclared sort → h ≡ had c sort
        → Stops (AreGroups sort h) signs_of_groups EndsSentence all first stop → Stops (IsSentence c) signs_of_sentence EndsSentence all from stop
    syntax_answer_stop at first sort h stop place next here declared is =
        stops_map (AreGroups sort h) signs_of_groups EndsSentence (IsSentence c) signs_of_sentence EndsSentence all first from
        (λ n stops. syntax_stops n (subst (λ m. StopsAt (Declares c) signs_declaring EndsSentence all m n) place
        (declared_stops at sort h n here declared is (subst (λ m. StopsAt (AreGroups sort h) signs_of_groups EndsSentence all m n) next stops)))) stop

    pub syntax_missing : (at : ℕ) → at ≡ from + 1 → at ≤ length all → ((sort : List ℕ) → IsDeclared sort → Begins (word sort) (drop at all) → ⊥)
        → StopsAt (IsSentence c) signs_of_sentence EndsSentence all from at
    syntax_missing at place within none = syntax_stops at (subst (λ m. StopsAt (Declares c) signs_declaring EndsSentence all m at) place (declared_missing at within none))

  -- no sentence begins here
  no_begin : (from : ℕ) (z : Sentence) (l : List Lexeme) → Begins (word (first_word z)) l → (Begins (word (codes "imports")) l → ⊥) → (Begins (word (codes "syntax")) l → ⊥)
      → (Begins (word (codes "configuration")) l → ⊥) → (Begins (word (codes "rule")) l → ⊥) → ⊥
  unfolding first_word
  no_begin from (Imports name) l is a b d e = a is
  no_begin from (Syntax sort groups) l is a b d e = b is
  no_begin from (Config text) l is a b d e = d is
  no_begin from (Rule text) l is a b d e = e is

  pub no_sentence : (from : ℕ) → from ≤ length all → (Begins (word (codes "imports")) (drop from all) → ⊥) → (Begins (word (codes "syntax")) (drop from all) → ⊥)
      → (Begins (word (codes "configuration")) (drop from all) → ⊥) → (Begins (word (codes "rule")) (drop from all) → ⊥)
      → StopsAt (IsSentence c) signs_of_sentence EndsSentence all from from
  no_sentence from within a b d e = stops_here (IsSentence c) signs_of_sentence EndsSentence all from (Imports (codes "A" ∷ [])) refl within
      (λ other z after alike allowed reads ends.
      no_begin from z (drop from all) (alike_begins (word (first_word z)) from other all alike (sentence_begins z (drop from other) after reads)) a b d e)
