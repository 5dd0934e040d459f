-- How a text is read up to a word that ends it.
use Rattle.std.proofs.Common.{◌≡◌, ℕ, zero, suc, ◌+◌, ◌-◌, ◌<◌, ◌≤◌, Bool, true, false, ◌||◌, ◌&&◌, List, [], ◌∷◌, length, map, take, drop, refl, sym, ap, ◌∙◌, subst, arith, add-one}
use Rattle.std.specs.Prelude.{codes, if◌then◌else◌, slice_get, Some, None}
use Rattle.std.specs.Option.{option_to_list}
use Rattle.std.specs.List.{AllByRecursion}
use Rattle.std.proofs.lemmas.List.{drop-drop, length-drop, drop-map, drop-take, length-map, length-take}
use Rattle.k_lexer.specs.declared.token.Kind.{Kind}
use Rattle.k_lexer.specs.declared.token.Kind.TheVariants.{Word, Int, Str, Mark}
use Rattle.production_reader.specs.Lexemes.{Lexeme, Sign, Is, Reads, AreAlike, word}
use Rattle.production_reader.specs.Allowed.{same_text, is_among, is_word_among, sentence_words, EndsSentence, is_empty}
use Rattle.production_reader.specs.Reading.{IsRead, StopsAt}
use Rattle.production_reader.proofs.Lexemes.{alike_behind}
use Rattle.file_reader.specs.Written.{signs_of_text}
use Rattle.file_reader.specs.Files.{ending_words, ends_text, IsText}
use Rattle.file_reader.specs.Meaning.{is_structural, counted}
use Rattle.file_reader.specs.Passages.{plain_sign, signs_between, ends_here, stands_here, IsFree, IsPassage}
use Rattle.file_reader.proofs.Heads.{stops_here, no_true, head_at}
use Rattle.file_reader.specs.Heads.{Begins}

abbrev pub AreFree : List Sign → Type 0
AreFree text = AllByRecursion (λ sign. (sign.joined ≡ false) × (ends_text sign ≡ false)) text

-- a lexeme ends a text where its sign does
ends_same : (lexeme : Lexeme) → is_word_among ending_words lexeme ≡ ends_text (plain_sign lexeme)
ends_same lexeme = refl

-- what ends a sentence ends a text
or_right : (a b : Bool) → b ≡ true → (a || b) ≡ true
or_right true b is = refl
or_right false b is = is

among_more : (bytes : List ℕ) → is_among sentence_words bytes ≡ true → is_among ending_words bytes ≡ true
among_more bytes is = or_right (same_text bytes (codes "module")) (is_among sentence_words bytes) is

ends_of_kind : (kind : Kind) (bytes : List ℕ) (joined : Bool) → is_word_among sentence_words record { kind = kind; bytes = bytes; joined = joined } ≡ true
    → is_word_among ending_words record { kind = kind; bytes = bytes; joined = joined } ≡ true
ends_of_kind Word bytes joined is = among_more bytes is
ends_of_kind Int bytes joined is = absurd (no_true is)
ends_of_kind Str bytes joined is = absurd (no_true is)
ends_of_kind Mark bytes joined is = absurd (no_true is)

pub sentence_ends : (lexemes : List Lexeme) → EndsSentence lexemes → ends_here lexemes ≡ true
sentence_ends [] is = absurd is
sentence_ends (lexeme ∷ lexemes) is = ends_of_kind lexeme.kind lexeme.bytes lexeme.joined is

first_or : Lexeme → List Lexeme → Lexeme
first_or other [] = other
first_or other (lexeme ∷ lexemes) = lexeme

same_first : (n : ℕ) (x y : Lexeme) (a b : List Lexeme) → take (suc n) (x ∷ a) ≡ take (suc n) (y ∷ b) → x ≡ y
unfolding first_or
same_first n x y a b same = ap (first_or x) same

same_rest : (n : ℕ) (x y : Lexeme) (a b : List Lexeme) → take (suc n) (x ∷ a) ≡ take (suc n) (y ∷ b) → take n a ≡ take n b
same_rest n x y a b same = ap (λ l. drop 1 l) same

nil_cons : (x : Lexeme) (a : List Lexeme) → [] ≡ x ∷ a → ⊥
nil_cons x a same = cc

plain_is : (sign : Sign) (lexeme : Lexeme) → Is sign lexeme → sign.joined ≡ false → sign ≡ plain_sign lexeme
plain_is sign lexeme is free = λ i. record { kind = is.0 i; bytes = is.1 i; joined = free i }

-- In a list that is alike, a text that is followed by the end of a sentence is this one.
pub text_only : (n : ℕ) (a b : List Lexeme) (ys : List Sign) (after : List Lexeme) → take (suc n) b ≡ take (suc n) a → n ≤ length a → IsFree n a
    → (n < length a → ends_here (drop n a) ≡ true) → AreFree ys → Reads ys b after → EndsSentence after → (ys ≡ map plain_sign (take n a)) × (after ≡ drop n b)
text_only n a [] [] after same within free ends allowed read end = absurd (subst (λ l. EndsSentence l) (sym read) end)
text_only n a [] (y ∷ ys) after same within free ends allowed read end = absurd read
text_only zero a (x ∷ b) [] after same within free ends allowed read end = (refl, sym read)
text_only zero [] (x ∷ b) (y ∷ ys) after same within free ends allowed read end = absurd (nil_cons x [] (sym same))
text_only zero (z ∷ a) (x ∷ b) (y ∷ ys) after same within free ends allowed read end =
    let here : ends_text (plain_sign z) ≡ true = ends (omega arith) in
    let sign : y ≡ plain_sign z = plain_is y x read.0 allowed.0.0 ∙ ap plain_sign (same_first 0 x z b a same) in
    absurd (no_true (sym allowed.0.1 ∙ ap ends_text sign ∙ here))
text_only (suc n) [] (x ∷ b) ys after same within free ends allowed read end = absurd (nil_cons x (take (suc n) b) (sym same))
text_only (suc n) (z ∷ a) (x ∷ b) [] after same within free ends allowed read end =
    absurd (no_true (sym (free 0 (omega arith)) ∙ ap (λ l. is_word_among ending_words l) (sym (same_first (suc n) x z b a same)) ∙ sentence_ends (x ∷ b) (subst (λ l. EndsSentence l) (sym read) end)))
text_only (suc n) (z ∷ a) (x ∷ b) (y ∷ ys) after same within free ends allowed read end =
    let more = text_only n a b ys after (same_rest (suc n) x z b a same) (omega arith) (λ k below. free (suc k) (omega arith)) (λ below. ends (omega arith)) allowed.1 read.1 end in
    let sign : y ≡ plain_sign z = plain_is y x read.0 allowed.0.0 ∙ ap plain_sign (same_first (suc n) x z b a same) in
    ((λ i. sign i ∷ more.0 i), more.1)

free_text : (n : ℕ) (a : List Lexeme) → n ≤ length a → IsFree n a → AreFree (map plain_sign (take n a))
free_text zero a within free = tt
free_text (suc n) [] within free = tt
free_text (suc n) (x ∷ a) within free = ((refl, free 0 (omega arith)), free_text n a (omega arith) (λ k below. free (suc k) (omega arith)))

reads_text : (n : ℕ) (a : List Lexeme) → Reads (map plain_sign (take n a)) a (drop n a)
reads_text zero a = refl
reads_text (suc n) [] = refl
reads_text (suc n) (x ∷ a) = ((refl, refl, λ e. absurd (no_true e)), reads_text n a)

some_text : (n : ℕ) (a : List Lexeme) → 0 < n → n ≤ length a → is_empty (map plain_sign (take n a)) ≡ false
some_text zero a some within = absurd (omega arith)
some_text (suc n) [] some within = absurd (omega arith)
some_text (suc n) (x ∷ a) some within = refl

module _ (all : List Lexeme) (from to : ℕ) (passage : IsPassage all from to) where
  between : to - from ≤ length (drop from all)
  between = let order : from ≤ to = passage.order in let within : to ≤ length all = passage.within in rw (length-drop from all) (omega arith)

  behind : (other : List Lexeme) → drop (to - from) (drop from other) ≡ drop to other
  behind other = drop-drop (to - from) from other ∙ ap (λ n. drop n other) (let order : from ≤ to = passage.order in omega arith)

  alike_here : (other : List Lexeme) → AreAlike to other all → take (suc (to - from)) (drop from other) ≡ take (suc (to - from)) (drop from all)
  alike_here other alike =
      let order : from ≤ to = passage.order in
      let same : AreAlike (to - from) (drop from other) (drop from all) = alike_behind from (to - from) other all (subst (λ n. AreAlike n other all) (omega arith) alike) in
      subst (λ n. take n (drop from other) ≡ take n (drop from all)) (add-one (to - from)) same

  ends_there : to - from < length (drop from all) → ends_here (drop (to - from) (drop from all)) ≡ true
  ends_there below =
      let order : from ≤ to = passage.order in
      let long : length (drop from all) ≡ length all - from = length-drop from all in
      ap ends_here (behind all) ∙ passage.ends (omega arith)

  pub passage_read : from < to → IsRead IsText signs_of_text EndsSentence all from (signs_between all from to) to
  passage_read some = record {
    order = passage.order;
    within = passage.within;
    allowed = (some_text (to - from) (drop from all) (omega arith) between, free_text (to - from) (drop from all) between passage.free);
    reads = subst (λ l. Reads (signs_between all from to) (drop from all) l) (behind all) (reads_text (to - from) (drop from all));
    only = λ other ys after alike allowed read end.
        let t = text_only (to - from) (drop from all) (drop from other) ys after (alike_here other alike) between passage.free ends_there allowed.1 read end in
        (t.0, t.1 ∙ behind other);
  }

  pub passage_stops : from ≡ to → StopsAt IsText signs_of_text EndsSentence all from from
  passage_stops empty = stops_here IsText signs_of_text EndsSentence all from (word (codes "a") ∷ []) (refl, ((refl, refl), tt)) (let within : to ≤ length all = passage.within in omega arith)
      (λ other ys after alike allowed read end.
      let t = text_only (to - from) (drop from all) (drop from other) ys after (alike_here other (subst (λ n. AreAlike n other all) empty alike)) between passage.free ends_there allowed.1 read end in
      let none : to - from ≡ 0 = omega arith in
      no_true (sym allowed.0 ∙ ap is_empty (t.0 ∙ ap (λ n. map plain_sign (take n (drop from all))) none)))

-- the last three signs of a text
structural_is : (b : List Lexeme) → 3 ≤ length b
    → is_structural (map plain_sign (take 3 b)) ≡ (stands_here (codes "[") b && stands_here (codes "structural") (drop 1 b) && stands_here (codes "]") (drop 2 b))
structural_is [] long = absurd (omega arith)
structural_is (x ∷ []) long = absurd (omega arith)
structural_is (x ∷ y ∷ []) long = absurd (omega arith)
structural_is (x ∷ y ∷ z ∷ b) long = refl

pub counts_as : (text : List Sign) (b : Bool) → is_structural (drop (length text - 3) text) ≡ b → counted text ≡ (if b then (length text - 3) else length text)
counts_as text b is = ap (λ t. if t then (length text - 3) else length text) is

short_text : (text : List Sign) → length text < 3 → is_structural (drop (length text - 3) text) ≡ false
short_text [] short = refl
short_text (x ∷ []) short = refl
short_text (x ∷ y ∷ []) short = refl
short_text (x ∷ y ∷ z ∷ text) short = absurd (omega arith)

pub and_first : (a b c : Bool) → a ≡ false → (a && b && c) ≡ false
and_first a b c is = ap (λ t. t && b && c) is

pub and_second : (a b c : Bool) → b ≡ false → (a && b && c) ≡ false
and_second true b c is = ap (λ t. t && c) is
and_second false b c is = refl

pub and_third : (a b c : Bool) → c ≡ false → (a && b && c) ≡ false
and_third true true c is = is
and_third true false c is = refl
and_third false b c is = refl

pub and_all : (a b c : Bool) → a ≡ true → b ≡ true → c ≡ true → (a && b && c) ≡ true
and_all a b c x y z = λ i. x i && y i && z i

module _ (all : List Lexeme) (first past : ℕ) (order : first ≤ past) (within : past ≤ length all) where
  pub between-length : length (signs_between all first past) ≡ past - first
  between-length = length-map (take (past - first) (drop first all)) plain_sign ∙ length-take (past - first) (drop first all)
      ∙ (let long : length (drop first all) ≡ length all - first = length-drop first all in rw long (omega arith))

  three : 3 ≤ past - first → past - first ≡ (past - first - 3) + 3
  three some = omega arith

  rest : 3 ≤ past - first → first + (past - first - 3) ≡ past - 3
  rest some = omega arith

  last_three : 3 ≤ past - first → drop (length (signs_between all first past) - 3) (signs_between all first past) ≡ map plain_sign (take 3 (drop (past - 3) all))
  last_three some =
      ap (λ n. drop (n - 3) (signs_between all first past)) between-length
      ∙ drop-map plain_sign (past - first - 3) (take (past - first) (drop first all))
      ∙ ap (map plain_sign) (ap (λ n. drop (past - first - 3) (take n (drop first all))) (three some) ∙ drop-take (past - first - 3) 3 (drop first all)
      ∙ ap (take 3) (drop-drop (past - first - 3) first all ∙ ap (λ n. drop n all) (rest some)))

  behind_one : 3 ≤ past - first → drop 1 (drop (past - 3) all) ≡ drop (past - 2) all
  behind_one some = drop-drop 1 (past - 3) all ∙ ap (λ n. drop n all) (omega arith)

  behind_two : 3 ≤ past - first → drop 2 (drop (past - 3) all) ≡ drop (past - 1) all
  behind_two some = drop-drop 2 (past - 3) all ∙ ap (λ n. drop n all) (omega arith)

  pub structural_last : 3 ≤ past - first → is_structural (drop (length (signs_between all first past) - 3) (signs_between all first past))
      ≡ (stands_here (codes "[") (drop (past - 3) all) && stands_here (codes "structural") (drop (past - 2) all) && stands_here (codes "]") (drop (past - 1) all))
  structural_last some =
      ap is_structural (last_three some)
      ∙ structural_is (drop (past - 3) all) (let long : length (drop (past - 3) all) ≡ length all - (past - 3) = length-drop (past - 3) all in omega arith)
      ∙ (λ i. stands_here (codes "[") (drop (past - 3) all) && stands_here (codes "structural") (behind_one some i) && stands_here (codes "]") (behind_two some i))

  counts : (b : Bool) → is_structural (drop (length (signs_between all first past) - 3) (signs_between all first past)) ≡ b
      → counted (signs_between all first past) ≡ (if b then (past - first - 3) else (past - first))
  counts b is = counts_as (signs_between all first past) b is ∙ ap (λ n. if b then (n - 3) else n) between-length

  pub counted_short : past - first < 3 → past ≡ first + counted (signs_between all first past)
  counted_short short =
      let c : counted (signs_between all first past) ≡ past - first = counts false (short_text (signs_between all first past) (subst (λ n. n < 3) (sym between-length) short)) in
      omega arith

  pub counted_all : 3 ≤ past - first
      → (stands_here (codes "[") (drop (past - 3) all) && stands_here (codes "structural") (drop (past - 2) all) && stands_here (codes "]") (drop (past - 1) all)) ≡ false
      → past ≡ first + counted (signs_between all first past)
  counted_all some none =
      let c : counted (signs_between all first past) ≡ past - first = counts false (structural_last some ∙ none) in
      omega arith

  pub counted_less : 3 ≤ past - first
      → (stands_here (codes "[") (drop (past - 3) all) && stands_here (codes "structural") (drop (past - 2) all) && stands_here (codes "]") (drop (past - 1) all)) ≡ true
      → past - 3 ≡ first + counted (signs_between all first past)
  counted_less some is =
      let c : counted (signs_between all first past) ≡ past - first - 3 = counts true (structural_last some ∙ is) in
      omega arith

stands_one : (bytes : List ℕ) (lexemes : List Lexeme) → stands_here bytes lexemes ≡ stands_here bytes (take 1 lexemes)
stands_one bytes [] = refl
stands_one bytes (lexeme ∷ lexemes) = refl

-- what stands first, by the lexeme of its number
pub stands_at : (bytes : List ℕ) (all : List Lexeme) (at : ℕ) (lexeme : Lexeme) → slice_get all at ≡ Some lexeme → stands_here bytes (drop at all) ≡ same_text lexeme.bytes bytes
stands_at bytes all at lexeme is =
    stands_one bytes (drop at all) ∙ ap (stands_here bytes) (head_at all at ∙ ap option_to_list is)

pub stands_not : (bytes : List ℕ) (all : List Lexeme) (at : ℕ) → slice_get all at ≡ None → stands_here bytes (drop at all) ≡ false
stands_not bytes all at is = stands_one bytes (drop at all) ∙ ap (stands_here bytes) (head_at all at ∙ ap option_to_list is)

ends_by_kind : (kind : Kind) (here : List ℕ) (joined : Bool) (bytes : List ℕ) → kind ≡ Word → bytes ≡ here
    → is_word_among ending_words record { kind = kind; bytes = here; joined = joined } ≡ is_among ending_words bytes
ends_by_kind kind here joined bytes is same =
    (λ i. is_word_among ending_words record { kind = is i; bytes = sym same i; joined = joined })

-- a word that stands first ends a text where it is one of those that do
pub word_ends : (bytes : List ℕ) (lexemes : List Lexeme) → Begins (word bytes) lexemes → ends_here lexemes ≡ is_among ending_words bytes
word_ends bytes [] is = absurd is
word_ends bytes (lexeme ∷ lexemes) is = ends_by_kind lexeme.kind lexeme.bytes lexeme.joined bytes (sym is.0) is.1

no_kind_ends : (kind : Kind) (here : List ℕ) (joined : Bool) → (kind ≡ Word → ⊥) → is_word_among ending_words record { kind = kind; bytes = here; joined = joined } ≡ false
no_kind_ends Word here joined none = absurd (none refl)
no_kind_ends Int here joined none = refl
no_kind_ends Str here joined none = refl
no_kind_ends Mark here joined none = refl

pub no_word_ends : (lexemes : List Lexeme) → ((bytes : List ℕ) → Begins (word bytes) lexemes → ⊥) → ends_here lexemes ≡ false
no_word_ends [] none = refl
no_word_ends (lexeme ∷ lexemes) none = no_kind_ends lexeme.kind lexeme.bytes lexeme.joined (λ is. none lexeme.bytes (sym is, refl, λ e. absurd (no_true e)))

-- a passage from what was passed over
pub passage_to : (all : List Lexeme) (from to : ℕ) → from ≤ to → to ≤ length all → ((k : ℕ) → from ≤ k → k < to → ends_here (drop k all) ≡ false)
    → (to < length all → ends_here (drop to all) ≡ true) → IsPassage all from to
passage_to all from to order within free ends = record {
  order = order;
  within = within;
  free = λ k below. ap ends_here (drop-drop k from all) ∙ free (from + k) (omega arith) (omega arith);
  ends = ends;
}
