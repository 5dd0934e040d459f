-- What is known of a file at each place where its reader goes on or stops.
use Rattle.std.proofs.Common.{◌≡◌, ℕ, ◌+◌, ◌-◌, ◌<◌, ◌≤◌, true, false, List, [], ◌∷◌, ◌++◌, length, take, drop, refl, sym, ap, ◌∙◌, subst, arith, append_assoc, append-nil, length-append, inl, inr}
use Rattle.std.specs.Prelude.{codes, ◌⊎◌}
use Rattle.std.proofs.lemmas.List.{map-append, drop_all, length-drop}
use Rattle.k_lexer.specs.declared.token.Token.{Token}
use Rattle.production_reader.specs.Lexemes.{Lexeme, Reads, AreAlike, word}
use Rattle.production_reader.specs.Allowed.{is_among, is_empty}
use Rattle.production_reader.specs.Reading.{IsRead, StopsAt}
use Rattle.production_reader.proofs.Lexemes.{reads_join, reads_split, reads-length, alike_less, alike_head, alike_refl}
use Rattle.file_reader.specs.Heads.{Begins}
use Rattle.file_reader.specs.Written.{Module, signs_of_name, signs_of_header, signs_of_body, signs_of_module, signs_of_modules, text_of_name}
use Rattle.file_reader.specs.Files.{Context, had, IsName, EndsName, IsModule, AreSentences, AreModules, AreOfFile, names_of, are_different}
use Rattle.file_reader.specs.Meaning.{imports_of, sentences_of, sentences_by_module}
use Rattle.file_reader.specs.Reads.{Anything, IsBodyRead, IsFileRead, IsStopped, IsFirstTwice}
use Rattle.file_reader.specs.Progress.{after_modules, IsFront, IsFurther, IsReading}
use Rattle.file_reader.specs.declared.sentence.Sentence as code
use Rattle.file_reader.specs.declared.file.FileModules.{FileModules}
use Rattle.file_reader.proofs.Heads.{alike_begins, reads_begins, no_true}
use Rattle.file_reader.proofs.Sentencing.{ends_name, read-length}
use Rattle.file_reader.proofs.Embodied.{body_ends, same_turn}
use Rattle.file_reader.proofs.Progressing.{modules_join, modules_rest, after_modules-more, signs_of_modules-append, one_module, all_same, sentences_same, different_more, different_front}

-- a module is its header, its body, and then come further modules
record IsCut (y : Module) (more : List Module) (l after : List Lexeme) : Type 0 where
  named : List Lexeme
  closed : List Lexeme
  header : Reads (signs_of_header y.name) l named
  body : Reads (signs_of_body y.sentences) named closed
  rest : Reads (signs_of_modules more) closed after
  ends : EndsName named

cut : (y : Module) (more : List Module) (l after : List Lexeme) → Reads (signs_of_modules (y ∷ more)) l after → IsCut y more l after
cut y more l after read =
    let one = reads_split (signs_of_module y) (signs_of_modules more) l after read in
    let two = reads_split (signs_of_header y.name) (signs_of_body y.sentences) l one.middle one.one in
    record {
      named = two.middle;
      closed = one.middle;
      header = two.one;
      body = two.other;
      rest = one.other;
      ends = ends_name two.middle (body_ends y.sentences two.middle one.middle two.other);
    }

header_begins : (name : List (List ℕ)) (l after : List Lexeme) → Reads (signs_of_header name) l after → Begins (word (codes "module")) l
header_begins name l after read = reads_begins (word (codes "module")) (signs_of_name name) l after read

-- what is left where nothing is left
nothing_left : (l : List Lexeme) → Begins (word (codes "module")) l → l ≡ [] → ⊥
nothing_left l begins none = subst (λ t. Begins (word (codes "module")) t) none begins

no_signs : (modules : List Module) → is_empty modules ≡ false → length (signs_of_modules modules) ≡ 0 → ⊥
no_signs [] some none = no_true (sym some)
no_signs (one ∷ modules) some none = absurd (omega arith)

nothing_there : (l : List Lexeme) → take 1 l ≡ [] → 0 < length l → ⊥
nothing_there [] none some = absurd (omega arith)
nothing_there (lexeme ∷ l) none some = cc

some_end : (modules : List Module) (one : Module) → is_empty (modules ++ one ∷ []) ≡ false
some_end [] one = refl
some_end (x ∷ modules) one = refl

some_of : (modules : List Module) → (modules ≡ [] → ⊥) → is_empty modules ≡ false
some_of [] some = absurd (some refl)
some_of (one ∷ modules) some = refl

-- the sentences of one more module
module_signs : (at : ℕ) (x : Module) (xs : List Module)
    → at + length (signs_of_module x) + length (signs_of_modules xs) ≡ at + length (signs_of_module x ++ signs_of_modules xs)
module_signs at x xs =
    let sum : length (signs_of_module x ++ signs_of_modules xs) ≡ length (signs_of_module x) + length (signs_of_modules xs) = length-append (signs_of_module x) (signs_of_modules xs) in omega arith

by_module_more : (tokens : List Token) (at : ℕ) (xs : List Module) (one : Module) → sentences_by_module tokens at (xs ++ one ∷ [])
    ≡ sentences_by_module tokens at xs ++ sentences_of tokens (at + length (signs_of_modules xs) + length (signs_of_header one.name)) one.sentences ∷ []
by_module_more tokens at [] one = ap (λ n. sentences_of tokens n one.sentences ∷ []) (omega arith)
by_module_more tokens at (x ∷ xs) one =
    ap (λ t. sentences_of tokens (at + length (signs_of_header x.name)) x.sentences ∷ t)
    (by_module_more tokens (at + length (signs_of_module x)) xs one
    ∙ ap (λ n. sentences_by_module tokens (at + length (signs_of_module x)) xs ++ sentences_of tokens (n + length (signs_of_header one.name)) one.sentences ∷ []) (module_signs at x xs))

module _ (tokens : List Token) (all : List Lexeme) (seen : List (List ℕ)) (now : Context) (found : FileModules) (at : ℕ) (so : IsReading tokens all seen now found at) where
  -- where a front ends, a module begins
  front_begins : (other : List Lexeme) (ys : List Module) (after : List Lexeme) → AreAlike at other all → (f : IsFront all other at so.modules ys after) → Begins (word (codes "module")) after
  front_begins other ys after alike f =
      let order : f.place ≤ f.past = f.header.order in
      let within : f.past ≤ at = f.within in
      subst (λ l. Begins (word (codes "module")) l) (sym f.after_is)
      (alike_begins (word (codes "module")) f.place all other (sym (alike_less f.place at other all (omega arith) alike))
      (header_begins f.one.name (drop f.place all) (drop f.past all) f.header.reads))

  front_ends : (other : List Lexeme) (ys : List Module) (after : List Lexeme) → AreAlike at other all → IsFront all other at so.modules ys after → after ≡ [] → ⊥
  front_ends other ys after alike f none = nothing_left after (front_begins other ys after alike f) none

  -- a name that follows a front is that of a module that was read
  front_name : (ys : List Module) (after rest : List Lexeme) (words : List (List ℕ)) → IsName words → IsFront all all at so.modules ys after → Reads (signs_of_header words) after rest
      → EndsName rest → is_among (names_of ys) (text_of_name words) ≡ true → ⊥
  front_name ys after rest words named f read ends among =
      let same = f.header.only all words rest (alike_refl f.past all) named (subst (λ l. Reads (signs_of_header words) l rest) f.after_is read) ends in
      let names : names_of so.modules ≡ names_of ys ++ text_of_name f.one.name ∷ names_of f.rest = ap names_of f.is ∙ map-append (λ one. text_of_name one.name) ys (f.one ∷ f.rest) in
      different_front (names_of ys) (names_of f.rest) (text_of_name f.one.name) (sym (ap are_different names) ∙ so.different)
      (sym (ap (λ w. is_among (names_of ys) (text_of_name w)) same.0) ∙ among)

  at_is : at ≡ length (signs_of_modules so.modules)
  at_is =
      let long : length all ≡ length (signs_of_modules so.modules) + length (drop at all) = reads-length (signs_of_modules so.modules) all (drop at all) so.reads in
      let rest : length (drop at all) ≡ length all - at = length-drop at all in
      let within : at ≤ length all = so.within in
      omega arith

  some_read : is_empty so.modules ≡ false → at ≡ 0 → ⊥
  some_read some none = no_signs so.modules some (sym at_is ∙ none)

  -- where the modules of a file are those that were read, something is left
  left_none : ((at ≡ 0 → ⊥) → at < length all) → (other : List Lexeme) (ys : List Module) → AreAlike at other all → AreOfFile ys → ys ≡ so.modules → drop at other ≡ [] → ⊥
  left_none going other ys alike allowed is left =
      let below : at < length all = going (some_read (sym (ap is_empty is) ∙ allowed.0)) in
      let none : take 1 (drop at all) ≡ [] = sym (alike_head at other all alike) ∙ ap (take 1) left in
      nothing_there (drop at all) none (let rest : length (drop at all) ≡ length all - at = length-drop at all in omega arith)

  module _ (stop : ℕ) (stops : StopsAt IsName signs_of_header EndsName all at stop) (going : (at ≡ 0 → ⊥) → at < length all) where
    named_next : (ys : List Module) (y : Module) (more : List Module) → AreModules [] ys → ys ≡ so.modules ++ y ∷ more → IsModule (after_modules [] so.modules) y
    named_next ys y more allowed is = (modules_rest [] so.modules (y ∷ more) (subst (λ t. AreModules [] t) is allowed)).0

    header_goes : (other : List Lexeme) (ys : List Module) (after : List Lexeme) → AreAlike stop other all → AreOfFile ys → after ≡ [] → (more : List Module) → ys ≡ so.modules ++ more
        → Reads (signs_of_modules more) (drop at other) after → ⊥
    header_goes other ys after alike allowed end [] is read =
        left_none going other ys (alike_less at stop other all stops.order alike) allowed (is ∙ append-nil so.modules) (read ∙ end)
    header_goes other ys after alike allowed end (y ∷ more) is read =
        let c = cut y more (drop at other) after read in
        stops.none other y.name c.named alike (named_next ys y more allowed.1 is).0 c.header c.ends

    header_none : (other : List Lexeme) (ys : List Module) (after : List Lexeme) → AreAlike stop other all → AreOfFile ys → after ≡ []
        → IsFront all other at so.modules ys after ⊎ IsFurther other at so.modules ys after → ⊥
    header_none other ys after alike allowed end (inl f) = front_ends other ys after (alike_less at stop other all stops.order alike) f end
    header_none other ys after alike allowed end (inr g) = header_goes other ys after alike allowed end g.more g.is g.reads

    header_twice_goes : (ys : List Module) (middle rest : List Lexeme) (words : List (List ℕ)) → AreModules [] ys → IsName words → Reads (signs_of_header words) middle rest → EndsName rest
        → (more : List Module) → ys ≡ so.modules ++ more → Reads (signs_of_modules more) (drop at all) middle → ⊥
    header_twice_goes ys middle rest words allowed named header ends [] is read =
        stops.none all words rest (alike_refl stop all) named (subst (λ l. Reads (signs_of_header words) l rest) (sym read) header) ends
    header_twice_goes ys middle rest words allowed named header ends (y ∷ more) is read =
        let c = cut y more (drop at all) middle read in
        stops.none all y.name c.named (alike_refl stop all) (named_next ys y more allowed is).0 c.header c.ends

    header_once : (ys : List Module) (middle rest : List Lexeme) (words : List (List ℕ)) → AreModules [] ys → IsName words → Reads (signs_of_header words) middle rest → EndsName rest
        → is_among (names_of ys) (text_of_name words) ≡ true → IsFront all all at so.modules ys middle ⊎ IsFurther all at so.modules ys middle → ⊥
    header_once ys middle rest words allowed named header ends among (inl f) = front_name ys middle rest words named f header ends among
    header_once ys middle rest words allowed named header ends among (inr g) = header_twice_goes ys middle rest words allowed named header ends g.more g.is g.reads

    begun_module : Module
    begun_module = record { name = stops.begun; sentences = [] }

    pub header_stops : IsStopped all stop
    unfolding begun_module
    header_stops = record {
      stops = record {
        order = omega arith;
        within = stops.within;
        none = λ other ys after alike allowed read end.
            header_none other ys after alike allowed end (so.only other ys after (alike_less at stop other all stops.order alike) allowed.1 read);
        begun = so.modules ++ begun_module ∷ [];
        allowed = (some_end so.modules begun_module, modules_join [] so.modules (begun_module ∷ []) so.allowed ((stops.allowed, tt), tt));
        done = signs_of_modules so.modules ++ stops.done;
        left = stops.left ++ signs_of_body [];
        parts =
            signs_of_modules-append so.modules (begun_module ∷ []) ∙ ap (λ t. signs_of_modules so.modules ++ t) (one_module begun_module ∙ ap (λ t. t ++ signs_of_body []) stops.parts
            ∙ append_assoc stops.done stops.left (signs_of_body [])) ∙ sym (append_assoc (signs_of_modules so.modules) stops.done (stops.left ++ signs_of_body []));
        reads = reads_join (signs_of_modules so.modules) stops.done all (drop at all) (drop stop all) so.reads stops.reads;
      };
      once = λ name t.
          let s = reads_split (signs_of_modules t.before) (signs_of_header t.words) all t.rest t.reads in
          header_once t.before s.middle t.rest t.words t.allowed t.named s.other t.ends t.twice (so.only all t.before s.middle (alike_refl at all) t.allowed s.one);
    }

  -- the header of the next module
  module _ (words : List (List ℕ)) (past : ℕ) (header : IsRead IsName signs_of_header EndsName all at words past) where
    at_end : (other : List Lexeme) → AreAlike at other all → drop at other ≡ [] → ⊥
    at_end other alike none =
        nothing_left (drop at other) (alike_begins (word (codes "module")) at all other (sym alike) (header_begins words (drop at all) (drop past all) header.reads)) none

    -- the name of the next module in a list that is alike
    next_name : (other : List Lexeme) (y : Module) (more : List Module) (after : List Lexeme) → AreAlike past other all → IsName y.name → (c : IsCut y more (drop at other) after)
        → (y.name ≡ words) × (c.named ≡ drop past other)
    next_name other y more after alike named c = header.only other y.name c.named alike named c.header c.ends

    next_is : (ys : List Module) (y : Module) (more : List Module) → AreModules [] ys → ys ≡ so.modules ++ y ∷ more → IsModule (after_modules [] so.modules) y
    next_is ys y more allowed is = (modules_rest [] so.modules (y ∷ more) (subst (λ t. AreModules [] t) is allowed)).0

    -- modules that go on by one of the name of an earlier one don't have different names
    not_different : (ys : List Module) (y : Module) (more : List Module) → ys ≡ so.modules ++ y ∷ more → y.name ≡ words → is_among (names_of so.modules) (text_of_name words) ≡ true
        → are_different (names_of ys) ≡ true → ⊥
    not_different ys y more is same among different =
        let names : names_of ys ≡ names_of so.modules ++ text_of_name y.name ∷ names_of more = ap names_of is ∙ map-append (λ one. text_of_name one.name) so.modules (y ∷ more) in
        different_front (names_of so.modules) (names_of more) (text_of_name y.name) (sym (ap are_different names) ∙ different) (ap (λ w. is_among (names_of so.modules) (text_of_name w)) same ∙ among)

    module _ (among : is_among (names_of so.modules) (text_of_name words) ≡ true) where
      twice_goes : (ys : List Module) (middle rest : List Lexeme) (others : List (List ℕ)) → AreModules [] ys → IsName others → Reads (signs_of_header others) middle rest → EndsName rest
          → are_different (names_of ys) ≡ true → (more : List Module) → ys ≡ so.modules ++ more → Reads (signs_of_modules more) (drop at all) middle → others ≡ words
      twice_goes ys middle rest others allowed named next ends different [] is read =
          (header.only all others rest (alike_refl past all) named (subst (λ l. Reads (signs_of_header others) l rest) (sym read) next) ends).0
      twice_goes ys middle rest others allowed named next ends different (y ∷ more) is read =
          let c = cut y more (drop at all) middle read in
          absurd (not_different ys y more is (next_name all y more middle (alike_refl past all) (next_is ys y more allowed is).0 c).0 among different)

      twice_only : (ys : List Module) (middle rest : List Lexeme) (others : List (List ℕ)) → AreModules [] ys → IsName others → Reads (signs_of_header others) middle rest → EndsName rest
          → are_different (names_of ys) ≡ true → is_among (names_of ys) (text_of_name others) ≡ true → IsFront all all at so.modules ys middle ⊎ IsFurther all at so.modules ys middle → others ≡ words
      twice_only ys middle rest others allowed named next ends different twice (inl f) = absurd (front_name ys middle rest others named f next ends twice)
      twice_only ys middle rest others allowed named next ends different twice (inr g) = twice_goes ys middle rest others allowed named next ends different g.more g.is g.reads

      alone_goes : (ys : List Module) → AreModules [] ys → are_different (names_of ys) ≡ true → (more : List Module) → ys ≡ so.modules ++ more → Reads (signs_of_modules more) (drop at all) [] → ⊥
      alone_goes ys allowed different [] is read = at_end all (alike_refl at all) read
      alone_goes ys allowed different (y ∷ more) is read =
          let c = cut y more (drop at all) [] read in
          not_different ys y more is (next_name all y more [] (alike_refl past all) (next_is ys y more allowed is).0 c).0 among different

      alone_by : (ys : List Module) → AreModules [] ys → are_different (names_of ys) ≡ true → IsFront all all at so.modules ys [] ⊎ IsFurther all at so.modules ys [] → ⊥
      alone_by ys allowed different (inl f) = front_ends all ys [] (alike_refl at all) f refl
      alone_by ys allowed different (inr g) = alone_goes ys allowed different g.more g.is g.reads

      pub twice_stops : (name : List ℕ) → name ≡ text_of_name words → EndsName (drop past all) → IsFirstTwice all name
      twice_stops name is ends = record {
        twice = record {
          before = so.modules;
          words = words;
          rest = drop past all;
          allowed = so.allowed;
          named = header.allowed;
          reads = reads_join (signs_of_modules so.modules) (signs_of_header words) all (drop at all) (drop past all) so.reads header.reads;
          ends = ends;
          different = so.different;
          twice = among;
          is = is;
        };
        only = λ other t.
            let s = reads_split (signs_of_modules t.before) (signs_of_header t.words) all t.rest t.reads in
            t.is ∙ ap text_of_name (twice_only t.before s.middle t.rest t.words t.allowed t.named s.other t.ends t.different t.twice (so.only all t.before s.middle (alike_refl at all) t.allowed s.one)) ∙ sym is;
        alone = λ modules file different. alone_by modules file.0.1 different (so.only all modules [] (alike_refl at all) file.0.1 file.1);
      }

    -- the header is there, and its module is not
    module _ (free : is_among (names_of so.modules) (text_of_name words) ≡ false) (stop : ℕ) (stops : StopsAt (AreSentences now) signs_of_body Anything all past stop) where
      near : (other : List Lexeme) → AreAlike stop other all → AreAlike at other all
      near other alike = alike_less at stop other all (let a : at ≤ past = header.order in let b : past ≤ stop = stops.order in omega arith) alike

      body_none : (other : List Lexeme) (ys : List Module) (y : Module) (more : List Module) (after : List Lexeme) → AreAlike stop other all → AreModules [] ys → ys ≡ so.modules ++ y ∷ more
          → IsCut y more (drop at other) after → ⊥
      body_none other ys y more after alike allowed is c =
          let are = next_is ys y more allowed is in
          let n = next_name other y more after (alike_less past stop other all stops.order alike) are.0 c in
          stops.none other y.sentences c.closed alike (sentences_same (after_modules [] so.modules) now y.sentences (same_turn now (after_modules [] so.modules) so.same) are.1)
          (subst (λ l. Reads (signs_of_body y.sentences) l c.closed) n.1 c.body) tt

      file_goes : (other : List Lexeme) (ys : List Module) (after : List Lexeme) → AreAlike stop other all → AreModules [] ys → after ≡ [] → (more : List Module) → ys ≡ so.modules ++ more
          → Reads (signs_of_modules more) (drop at other) after → ⊥
      file_goes other ys after alike allowed end [] is read = at_end other (near other alike) (read ∙ end)
      file_goes other ys after alike allowed end (y ∷ more) is read = body_none other ys y more after alike allowed is (cut y more (drop at other) after read)

      file_none : (other : List Lexeme) (ys : List Module) (after : List Lexeme) → AreAlike stop other all → AreModules [] ys → after ≡ []
          → IsFront all other at so.modules ys after ⊎ IsFurther other at so.modules ys after → ⊥
      file_none other ys after alike allowed end (inl f) = front_ends other ys after (near other alike) f end
      file_none other ys after alike allowed end (inr g) = file_goes other ys after alike allowed end g.more g.is g.reads

      once_goes : (ys : List Module) (middle rest : List Lexeme) (others : List (List ℕ)) → AreModules [] ys → IsName others → Reads (signs_of_header others) middle rest → EndsName rest
          → is_among (names_of ys) (text_of_name others) ≡ true → (more : List Module) → ys ≡ so.modules ++ more → Reads (signs_of_modules more) (drop at all) middle → ⊥
      once_goes ys middle rest others allowed named next ends among [] is read =
          let same : others ≡ words = (header.only all others rest (alike_refl past all) named (subst (λ l. Reads (signs_of_header others) l rest) (sym read) next) ends).0 in
          no_true (sym free ∙ (λ i. is_among (names_of ((sym (append-nil so.modules) ∙ sym is) i)) (text_of_name (sym same i))) ∙ among)
      once_goes ys middle rest others allowed named next ends among (y ∷ more) is read =
          body_none all ys y more middle (alike_refl stop all) allowed is (cut y more (drop at all) middle read)

      once_by : (ys : List Module) (middle rest : List Lexeme) (others : List (List ℕ)) → AreModules [] ys → IsName others → Reads (signs_of_header others) middle rest → EndsName rest
          → is_among (names_of ys) (text_of_name others) ≡ true → IsFront all all at so.modules ys middle ⊎ IsFurther all at so.modules ys middle → ⊥
      once_by ys middle rest others allowed named next ends among (inl f) = front_name ys middle rest others named f next ends among
      once_by ys middle rest others allowed named next ends among (inr g) = once_goes ys middle rest others allowed named next ends among g.more g.is g.reads

      unended_module : Module
      unended_module = record { name = words; sentences = stops.begun }

      pub body_stops_file : IsStopped all stop
      unfolding unended_module
      body_stops_file = record {
        stops = record {
          order = omega arith;
          within = stops.within;
          none = λ other ys after alike allowed read end. file_none other ys after alike allowed.1 end (so.only other ys after (near other alike) allowed.1 read);
          begun = so.modules ++ unended_module ∷ [];
          allowed = (
            some_end so.modules unended_module,
            modules_join [] so.modules (unended_module ∷ []) so.allowed
                ((header.allowed, sentences_same now (after_modules [] so.modules) stops.begun so.same stops.allowed), tt),
          );
          done = signs_of_modules so.modules ++ (signs_of_header words ++ stops.done);
          left = stops.left;
          parts =
              signs_of_modules-append so.modules (unended_module ∷ [])
              ∙ ap (λ t. signs_of_modules so.modules ++ t) (one_module unended_module ∙ ap (λ t. signs_of_header words ++ t) stops.parts ∙ sym (append_assoc (signs_of_header words) stops.done stops.left))
              ∙ sym (append_assoc (signs_of_modules so.modules) (signs_of_header words ++ stops.done) stops.left);
          reads = reads_join (signs_of_modules so.modules) (signs_of_header words ++ stops.done) all (drop at all) (drop stop all) so.reads
              (reads_join (signs_of_header words) stops.done (drop at all) (drop past all) (drop stop all) header.reads stops.reads);
        };
        once = λ name t.
            let s = reads_split (signs_of_modules t.before) (signs_of_header t.words) all t.rest t.reads in
            once_by t.before s.middle t.rest t.words t.allowed t.named s.other t.ends t.twice (so.only all t.before s.middle (alike_refl at all) t.allowed s.one);
      }

    -- the module is there
    module _ (free : is_among (names_of so.modules) (text_of_name words) ≡ false) (new : Context) (imports : List (List ℕ)) (sentences : List code.Sentence) (next : ℕ)
        (body : IsBodyRead tokens all past now new imports sentences next) where
      whole_module : Module
      whole_module = record { name = words; sentences = body.written }

      at_next : at ≤ next
      at_next = let a : at ≤ past = header.order in let b : past ≤ next = body.is.order in omega arith

      step_goes : (other : List Lexeme) (ys : List Module) (after : List Lexeme) → AreAlike next other all → AreModules [] ys → (more : List Module) → ys ≡ so.modules ++ more
          → Reads (signs_of_modules more) (drop at other) after → IsFront all other next (so.modules ++ whole_module ∷ []) ys after ⊎ IsFurther other next (so.modules ++ whole_module ∷ []) ys after
      unfolding whole_module
      step_goes other ys after alike allowed [] is read = inl (record {
        one = whole_module;
        rest = [];
        is = ap (λ t. t ++ whole_module ∷ []) (sym (is ∙ append-nil so.modules));
        place = at;
        past = past;
        header = header;
        within = body.is.order;
        after_is = sym read;
      })
      step_goes other ys after alike allowed (y ∷ more) is read =
          let c = cut y more (drop at other) after read in
          let are = next_is ys y more allowed is in
          let n = next_name other y more after (alike_less past next other all body.is.order alike) are.0 c in
          let b = body.is.only other y.sentences c.closed alike
          (sentences_same (after_modules [] so.modules) now y.sentences (same_turn now (after_modules [] so.modules) so.same) are.1)
          (subst (λ l. Reads (signs_of_body y.sentences) l c.closed) n.1 c.body) tt in
          let one : y ≡ whole_module = λ i. record { name = n.0 i; sentences = b.0 i } in
          inr (record {
            more = more;
            is = is ∙ ap (λ t. so.modules ++ t ∷ more) one ∙ sym (append_assoc so.modules (whole_module ∷ []) more);
            reads = subst (λ l. Reads (signs_of_modules more) l after) b.1 c.rest;
          })

      step_front : (other : List Lexeme) (ys : List Module) (after : List Lexeme) → IsFront all other at so.modules ys after → IsFront all other next (so.modules ++ whole_module ∷ []) ys after
      step_front other ys after f = record {
        one = f.one;
        rest = f.rest ++ whole_module ∷ [];
        is = ap (λ t. t ++ whole_module ∷ []) f.is ∙ append_assoc ys (f.one ∷ f.rest) (whole_module ∷ []);
        place = f.place;
        past = f.past;
        header = f.header;
        within = let a : f.past ≤ at = f.within in let b : at ≤ next = at_next in omega arith;
        after_is = f.after_is;
      }

      step_by : (other : List Lexeme) (ys : List Module) (after : List Lexeme) → AreAlike next other all → AreModules [] ys → IsFront all other at so.modules ys after ⊎ IsFurther other at so.modules ys after
          → IsFront all other next (so.modules ++ whole_module ∷ []) ys after ⊎ IsFurther other next (so.modules ++ whole_module ∷ []) ys after
      step_by other ys after alike allowed (inl f) = inl (step_front other ys after f)
      step_by other ys after alike allowed (inr g) = step_goes other ys after alike allowed g.more g.is g.reads

      past_is : past ≡ 0 + length (signs_of_modules so.modules) + length (signs_of_header words)
      past_is =
          let long : past ≡ at + length (signs_of_header words) = read-length IsName signs_of_header EndsName all at words past header in
          let here : at ≡ length (signs_of_modules so.modules) = at_is in
          omega arith

      pub next_reading : (more_seen : List (List ℕ)) (more_found : FileModules) (name : List ℕ) → name ≡ text_of_name words → more_seen ≡ seen ++ name ∷ []
          → more_found.names ≡ found.names ++ name ∷ [] → more_found.imports ≡ found.imports ++ imports ∷ [] → more_found.sentences ≡ found.sentences ++ sentences ∷ []
          → IsReading tokens all more_seen new more_found next
      unfolding whole_module
      next_reading more_seen more_found name is seen_more names_more imports_more sentences_more = record {
        modules = so.modules ++ whole_module ∷ [];
        within = body.is.within;
        allowed = modules_join [] so.modules (whole_module ∷ []) so.allowed
            ((header.allowed, sentences_same now (after_modules [] so.modules) body.written so.same body.is.allowed), tt);
        reads = subst (λ s. Reads s all (drop next all)) (sym (signs_of_modules-append so.modules (whole_module ∷ []) ∙ ap (λ t. signs_of_modules so.modules ++ t) (one_module whole_module)))
            (reads_join (signs_of_modules so.modules) (signs_of_module whole_module) all (drop at all) (drop next all) so.reads
            (reads_join (signs_of_header words) (signs_of_body body.written) (drop at all) (drop past all) (drop next all) header.reads body.is.reads));
        only = λ other ys after alike allowed read. step_by other ys after alike allowed (so.only other ys after (alike_less at next other all at_next alike) allowed read);
        different = ap are_different (map-append (λ one. text_of_name one.name) so.modules (whole_module ∷ [])) ∙ different_more (names_of so.modules) (text_of_name words) so.different free;
        seen_are = seen_more ∙ (λ i. so.seen_are i ++ is i ∷ []) ∙ sym (map-append (λ one. text_of_name one.name) so.modules (whole_module ∷ []));
        same = λ sort. body.same sort ∙ all_same now (after_modules [] so.modules) body.written so.same sort ∙ ap (λ c. had c sort) (sym (after_modules-more [] so.modules whole_module));
        names = names_more ∙ (λ i. so.names i ++ is i ∷ []) ∙ sym (map-append (λ one. text_of_name one.name) so.modules (whole_module ∷ []));
        imports = imports_more ∙ (λ i. so.imports i ++ body.imports_are i ∷ []) ∙ sym (map-append (λ one. imports_of one.sentences) so.modules (whole_module ∷ []));
        sentences = sentences_more ∙ (λ i. so.sentences i ++ body.sentences_are i ∷ []) ∙ ap (λ n. sentences_by_module tokens 0 so.modules ++ sentences_of tokens n body.written ∷ []) past_is
            ∙ sym (by_module_more tokens 0 so.modules whole_module);
      }

  -- the end of the text, after one module or more
  module _ (some : at ≡ 0 → ⊥) (end : at ≡ length all) where
    rest_is : drop at all ≡ []
    rest_is = drop_all at all (omega arith)

    end_goes : (ys : List Module) → (more : List Module) → ys ≡ so.modules ++ more → Reads (signs_of_modules more) (drop at all) [] → ys ≡ so.modules
    end_goes ys [] is read = is ∙ append-nil so.modules
    end_goes ys (y ∷ more) is read =
        let c = cut y more (drop at all) [] read in absurd (nothing_left (drop at all) (header_begins y.name (drop at all) c.named c.header) rest_is)

    end_only : (ys : List Module) → IsFront all all at so.modules ys [] ⊎ IsFurther all at so.modules ys [] → ys ≡ so.modules
    end_only ys (inl f) = absurd (front_ends all ys [] (alike_refl at all) f refl)
    end_only ys (inr g) = end_goes ys g.more g.is g.reads

    end_further : (ys : List Module) (middle rest : List Lexeme) (words : List (List ℕ)) → Reads (signs_of_header words) middle rest → (more : List Module)
        → Reads (signs_of_modules more) (drop at all) middle → ⊥
    end_further ys middle rest words header [] read = nothing_left middle (header_begins words middle rest header) (sym read ∙ rest_is)
    end_further ys middle rest words header (y ∷ more) read =
        let c = cut y more (drop at all) middle read in nothing_left (drop at all) (header_begins y.name (drop at all) c.named c.header) rest_is

    end_twice : (ys : List Module) (middle rest : List Lexeme) (words : List (List ℕ)) → IsName words → Reads (signs_of_header words) middle rest → EndsName rest
        → is_among (names_of ys) (text_of_name words) ≡ true → IsFront all all at so.modules ys middle ⊎ IsFurther all at so.modules ys middle → ⊥
    end_twice ys middle rest words named header ends among (inl f) = front_name ys middle rest words named f header ends among
    end_twice ys middle rest words named header ends among (inr g) = end_further ys middle rest words header g.more g.reads

    pub file_read : is_empty so.modules ≡ false → IsFileRead tokens all found
    file_read some_modules = record {
      modules = so.modules;
      file = ((some_modules, so.allowed), subst (λ l. Reads (signs_of_modules so.modules) all l) rest_is so.reads);
      different = so.different;
      names = so.names;
      imports = so.imports;
      sentences = so.sentences;
      only = λ others file. end_only others (so.only all others [] (alike_refl at all) file.0.1 file.1);
      once = λ name t.
          let s = reads_split (signs_of_modules t.before) (signs_of_header t.words) all t.rest t.reads in
          end_twice t.before s.middle t.rest t.words t.named s.other t.ends t.twice (so.only all t.before s.middle (alike_refl at all) t.allowed s.one);
    }

    pub file_is : IsFileRead tokens all found
    file_is = file_read (some_of so.modules (λ none. some (at_is ∙ ap (λ m. length (signs_of_modules m)) none)))

-- nothing of a file was read yet
pub reading_start : (tokens : List Token) (all : List Lexeme) (found : FileModules) → found.names ≡ [] → found.imports ≡ [] → found.sentences ≡ [] → IsReading tokens all [] [] found 0
reading_start tokens all found names imports sentences = record {
  modules = [];
  within = omega arith;
  allowed = tt;
  reads = refl;
  only = λ other ys after alike allowed read. inr (record { more = ys; is = refl; reads = read });
  different = refl;
  seen_are = refl;
  same = λ sort. refl;
  names = names;
  imports = imports;
  sentences = sentences;
}
