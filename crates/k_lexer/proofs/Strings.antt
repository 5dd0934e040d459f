-- How strings go on after their first quote.
use Rattle.std.proofs.Common.{◌≡◌, ℕ, ◌+◌, ◌<◌, Bool, true, false, ◌&&◌, ◌==◌, cond, List, [], ◌∷◌, ◌++◌, length, take, drop, refl, sym, ap, subst, ◌∙◌, arith, append_assoc, append-nil, slice_index, ⊎_elim}
use Rattle.std.specs.Char.{encode_utf8}
use Rattle.std.specs.Str.{all_scalars, encode_utf8_all, StartsWithNoChar}
use Rattle.std.proofs.lemmas.Bool.{and_parts, cases_lt}
use Rattle.std.proofs.lemmas.Str.{encode_ascii, byte_from_char, encodes_same}
use lib.Utf8.{low_scalar}
use Rattle.std.proofs.lemmas.Bool.Decides.{nat_tests}
use Rattle.std.proofs.lemmas.List.{take_at}
use Rattle.k_lexer.specs.declared.token.Kind.TheVariants.{Str}
use Rattle.k_lexer.specs.Characters.{is_plain, is_escape, is_empty, ends_string, ends_escape}
use Rattle.k_lexer.specs.Fronts.{IsFirstChar, IsTail, NoTail, IsPart, NoPart}
use Rattle.k_lexer.proofs.Chars.{both_true, scalars_after, longer, first_begins, begins_on, begins_nowhere, begins_is, begins_size, first_is}

-- one test after another, at two lists
by_tests : (quote slash plain : Bool) (i j x y s t : Bool)
    → cond quote i (cond slash x (plain && s)) ≡ true → cond quote j (cond slash y (plain && t)) ≡ true
    → (i ≡ true → j ≡ true → ⊥) → (x ≡ true → y ≡ true → ⊥) → (s ≡ true → t ≡ true → ⊥) → ⊥
by_tests true slash plain i j x y s t f g first second third = first f g
by_tests false true plain i j x y s t f g first second third = second f g
by_tests false false true i j x y s t f g first second third = third f g
by_tests false false false i j x y s t f g first second third = cc

not_longer : (cs : List ℕ) (e : ℕ) (es : List ℕ) → is_empty cs ≡ true → is_empty (cs ++ e ∷ es) ≡ true → ⊥
not_longer [] e es f g = cc
not_longer (c ∷ cs) e es f g = cc

-- a string that has ended doesn't go on
mutual
  unfolding ends_string ends_escape

  pub ended : (cs : List ℕ) (e : ℕ) (es : List ℕ) → ends_string cs ≡ true → ends_string (cs ++ e ∷ es) ≡ true → ⊥
  ended [] e es f g = cc
  ended (c ∷ cs) e es f g =
      by_tests (c == 34) (c == 92) (is_plain c) (is_empty cs) (is_empty (cs ++ e ∷ es)) (ends_escape cs) (ends_escape (cs ++ e ∷ es)) (ends_string cs) (ends_string (cs ++ e ∷ es))
      f g (not_longer cs e es) (ended_escape cs e es) (ended cs e es)

  pub ended_escape : (cs : List ℕ) (e : ℕ) (es : List ℕ) → ends_escape cs ≡ true → ends_escape (cs ++ e ∷ es) ≡ true → ⊥
  ended_escape [] e es f g = cc
  ended_escape (c ∷ cs) e es f g = ended cs e es (and_parts (is_escape c) (ends_string cs) f).1 (and_parts (is_escape c) (ends_string (cs ++ e ∷ es)) g).1

-- ---- the parts of a string

plain_only : (quote slash plain i x s : Bool) → quote ≡ false → slash ≡ false → plain ≡ true → cond quote i (cond slash x (plain && s)) ≡ s
plain_only false false true i x s f g h = refl
plain_only true slash plain i x s f g h = absurd (cc)
plain_only false true plain i x s f g h = absurd (cc)
plain_only false false false i x s f g h = absurd (cc)

quote_only : (quote slash plain i x s : Bool) → cond quote i (cond slash x (plain && s)) ≡ true → slash ≡ false → plain ≡ false → quote ≡ true
quote_only true slash plain i x s e f g = refl
quote_only false true plain i x s e f g = absurd (cc)
quote_only false false true i x s e f g = absurd (cc)
quote_only false false false i x s e f g = absurd (cc)

plain_quote : (c : ℕ) → is_plain c ≡ true → (c == 34) ≡ false
plain_quote c plain = grind (arith, nat_tests)

plain_slash : (c : ℕ) → is_plain c ≡ true → (c == 92) ≡ false
plain_slash c plain = grind (arith, nat_tests)

other_slash : (c : ℕ) → (c ≡ 92 → ⊥) → (c == 92) ≡ false
other_slash c other = grind (arith, nat_tests)

escape_low : (c : ℕ) → is_escape c ≡ true → (0 < c) × (c < 128)
escape_low c escape = (grind (arith, nat_tests), grind (arith, nat_tests))

is_quote : (c : ℕ) → (c == 34) ≡ true → c ≡ 34
is_quote c test = grind (arith, nat_tests)

plain_keeps : (c : ℕ) → is_plain c ≡ true → (more : List ℕ) → ends_string (c ∷ more) ≡ ends_string more
unfolding ends_string
plain_keeps c plain more = plain_only (c == 34) (c == 92) (is_plain c) (is_empty more) (ends_escape more) (ends_string more) (plain_quote c plain) (plain_slash c plain) plain

escape_keeps : (c : ℕ) → is_escape c ≡ true → (more : List ℕ) → ends_string (92 ∷ c ∷ more) ≡ ends_string more
unfolding ends_string ends_escape
escape_keeps c escape more = ap (λ b. b && ends_string more) escape

pub part_begins : (rest : List ℕ) → IsPart rest 0
part_begins rest = record { chars = []; begins = begins_nowhere rest; keeps = λ more. refl }

pub part_more : (rest : List ℕ) (m n : ℕ) → IsPart rest m → IsPart (drop m rest) n → IsPart rest (m + n)
part_more rest m n first second = record {
  chars = first.chars ++ second.chars;
  begins = begins_on rest first.chars second.chars m n first.begins second.begins;
  keeps = λ more. ap ends_string (append_assoc first.chars second.chars more) ∙ first.keeps (second.chars ++ more) ∙ second.keeps more;
}

pub plain_part : (rest : List ℕ) (c size : ℕ) → IsFirstChar rest c size → is_plain c ≡ true → IsPart rest size × (0 < size)
plain_part rest c size first plain = (record { chars = c ∷ []; begins = first_begins rest c size first; keeps = plain_keeps c plain }, first.some)

low_part : (x y : ℕ) (r : List ℕ) → x ≡ 92 → is_escape y ≡ true → IsPart (x ∷ y ∷ r) 2
low_part x y r slash escape =
    let low = escape_low y escape in
    record {
      chars = x ∷ y ∷ [];
      begins = record {
        within = omega arith;
        scalars = both_true _ _ (low_scalar x (omega arith)) (both_true _ true (low_scalar y (omega (arith, low.1))) refl);
        spelled = ap (λ t. t ++ (encode_utf8 y ++ [])) (encode_ascii x (omega arith)) ∙ ap (λ t. x ∷ (t ++ [])) (encode_ascii y low.1);
      };
      keeps = λ more. ap (λ t. ends_string (t ∷ y ∷ more)) slash ∙ escape_keeps y escape more;
    }

escape_part_at : (rest : List ℕ) → slice_index rest 0 ≡ 92 → is_escape (slice_index rest 1) ≡ true → IsPart rest 2
escape_part_at [] slash escape = absurd (omega arith)
escape_part_at (x ∷ []) slash escape = absurd (cc)
escape_part_at (x ∷ y ∷ r) slash escape = low_part x y r slash escape

pub escape_part : (rest : List ℕ) (c size : ℕ) → IsFirstChar rest c size → c ≡ 92 → is_escape (slice_index rest 1) ≡ true → IsPart rest 2 × (0 < 2)
escape_part rest c size first slash escape =
    (escape_part_at rest (byte_from_char rest (drop size rest) c first.is (omega arith) ∙ slash) escape, omega arith)

-- ---- where no part stands

spelled_first : (rest : List ℕ) (d : ℕ) (ds after : List ℕ) → rest ≡ encode_utf8_all (d ∷ ds) ++ after → rest ≡ encode_utf8 d ++ (encode_utf8_all ds ++ after)
spelled_first rest d ds after is = is ∙ append_assoc (encode_utf8 d) (encode_utf8_all ds) after

pub no_part_none : (rest : List ℕ) → StartsWithNoChar rest → NoPart rest
unfolding ends_string
no_part_none rest none [] after scalars ends is = absurd (cc)
no_part_none rest none (d ∷ ds) after scalars ends is =
    absurd (none d (encode_utf8_all ds ++ after) (and_parts _ (all_scalars ds) scalars).0 (spelled_first rest d ds after is))

quote_first : (rest : List ℕ) (d : ℕ) (ds after : List ℕ) → ends_string (d ∷ ds) ≡ true → is_plain d ≡ false → (d == 92) ≡ false
    → rest ≡ encode_utf8_all (d ∷ ds) ++ after → slice_index rest 0 ≡ 34
unfolding ends_string
quote_first rest d ds after ends plain slash is =
    let quote : d ≡ 34 = is_quote d (quote_only (d == 34) (d == 92) (is_plain d) (is_empty ds) (ends_escape ds) (ends_string ds) ends slash plain) in
    byte_from_char rest (encode_utf8_all ds ++ after) d (spelled_first rest d ds after is) (omega arith) ∙ quote

pub no_part_other : (rest : List ℕ) (c size : ℕ) → IsFirstChar rest c size → is_plain c ≡ false → (c ≡ 92 → ⊥) → NoPart rest
unfolding ends_string
no_part_other rest c size first plain other [] after scalars ends is = absurd (cc)
no_part_other rest c size first plain other (d ∷ ds) after scalars ends is =
    let same : d ≡ c = first_is rest (encode_utf8_all ds ++ after) c size d first (spelled_first rest d ds after is) in
    quote_first rest d ds after ends (ap is_plain same ∙ plain) (ap (λ x. x == 92) same ∙ other_slash c other) is

no_escape : (ds : List ℕ) (rest after : List ℕ) → ends_escape ds ≡ true → rest ≡ 92 ∷ (encode_utf8_all ds ++ after) → is_escape (slice_index rest 1) ≡ false → ⊥
unfolding ends_escape
no_escape [] rest after ends is none = absurd (cc)
no_escape (e ∷ es) rest after ends is none =
    let escape = (and_parts (is_escape e) (ends_string es) ends).0 in
    let whole : rest ≡ 92 ∷ e ∷ (encode_utf8_all es ++ after) =
    is ∙ ap (λ t. 92 ∷ (t ++ encode_utf8_all es) ++ after) (encode_ascii e (escape_low e escape).1) in
    let second : slice_index rest 1 ≡ e = ap (λ t. slice_index t 1) whole in
    let yes : is_escape (slice_index rest 1) ≡ true = ap is_escape second ∙ escape in
    absurd (cc)

pub no_part_escape : (rest : List ℕ) (c size : ℕ) → IsFirstChar rest c size → c ≡ 92 → is_escape (slice_index rest 1) ≡ false → NoPart rest
unfolding ends_string
no_part_escape rest c size first slash none [] after scalars ends is = absurd (cc)
no_part_escape rest c size first slash none (d ∷ ds) after scalars ends is =
    let same : d ≡ 92 = first_is rest (encode_utf8_all ds ++ after) c size d first (spelled_first rest d ds after is) ∙ slash in
    let begins : rest ≡ 92 ∷ (encode_utf8_all ds ++ after) =
    spelled_first rest d ds after is ∙ ap (λ t. t ++ (encode_utf8_all ds ++ after)) (ap encode_utf8 same ∙ encode_ascii 92 (omega arith)) in
    let later : ends_escape ds ≡ true = subst (λ x. ends_string (x ∷ ds) ≡ true) same ends in
    absurd (no_escape ds rest after later begins none)

-- ---- the end of a string

pub byte_first : (rest : List ℕ) (b : ℕ) → slice_index rest 0 ≡ b → 0 < b → b < 128 → IsFirstChar rest b 1
byte_first [] b is some low = absurd (omega arith)
byte_first (x ∷ r) b is some low = record {
  scalar = low_scalar b (omega arith);
  is = ap (λ t. t ∷ r) is ∙ ap (λ t. t ++ r) (sym (encode_ascii b low));
  width = ap length (encode_ascii b low);
  some = omega arith;
  within = omega arith;
}

closing : ends_string (34 ∷ []) ≡ true
unfolding ends_string
closing = refl

pub string_ends : (rest : List ℕ) (n : ℕ) → IsPart rest n → slice_index (drop n rest) 0 ≡ 34 → IsTail Str rest (n + 1)
string_ends rest n part quote =
    let goes : ends_string (part.chars ++ 34 ∷ []) ≡ true = part.keeps (34 ∷ []) ∙ closing in
    record {
      chars = part.chars ++ 34 ∷ [];
      begins = begins_on rest part.chars (34 ∷ []) n 1 part.begins (first_begins (drop n rest) 34 1 (byte_first (drop n rest) 34 quote (omega arith) (omega arith)));
      goes = goes;
      ends = λ c more after scalar later is. ended (part.chars ++ 34 ∷ []) c more goes later;
    }

-- where no part and no quote follow the parts, no string stands
module _ (rest : List ℕ) (n : ℕ) (part : IsPart rest n) (none : NoPart (drop n rest)) (open_end : slice_index (drop n rest) 0 ≡ 34 → ⊥) where
  past_parts : (chars after : List ℕ) → all_scalars chars ≡ true → ends_string chars ≡ true → rest ≡ encode_utf8_all chars ++ after
      → n < length (encode_utf8_all chars) → ⊥
  past_parts chars after scalars ends is less =
      let more = longer chars part.chars after (drop n rest) (sym is ∙ begins_is rest part.chars n part.begins)
      (omega (arith, less, begins_size rest part.chars n part.begins)) in
      let all : all_scalars (part.chars ++ more.0 ∷ more.1) ≡ true = subst (λ t. all_scalars t ≡ true) more.2 scalars in
      let left : ends_string (more.0 ∷ more.1) ≡ true = sym (part.keeps (more.0 ∷ more.1)) ∙ sym (ap ends_string more.2) ∙ ends in
      open_end (none (more.0 ∷ more.1) after (scalars_after part.chars (more.0 ∷ more.1) all) left (more.3 ∙ sym (append_assoc (encode_utf8 more.0) (encode_utf8_all more.1) after)))

  within_parts : (chars after : List ℕ) → ends_string chars ≡ true → rest ≡ encode_utf8_all chars ++ after → length (encode_utf8_all chars) < n → ⊥
  within_parts chars after ends is less =
      let more = longer part.chars chars (drop n rest) after (sym (begins_is rest part.chars n part.begins) ∙ is)
      (omega (arith, less, begins_size rest part.chars n part.begins)) in
      let whole : ends_string (part.chars ++ 34 ∷ []) ≡ true = part.keeps (34 ∷ []) ∙ closing in
      let grouped : part.chars ++ 34 ∷ [] ≡ chars ++ more.0 ∷ (more.1 ++ 34 ∷ []) = ap (λ t. t ++ 34 ∷ []) more.2 ∙ append_assoc chars (more.0 ∷ more.1) (34 ∷ []) in
      ended chars more.0 (more.1 ++ 34 ∷ []) ends (sym (ap ends_string grouped) ∙ whole)

  at_parts : (chars after : List ℕ) → ends_string chars ≡ true → rest ≡ encode_utf8_all chars ++ after → length (encode_utf8_all chars) ≡ n → ⊥
  unfolding ends_string
  at_parts chars after ends is size =
      let bytes : encode_utf8_all chars ≡ encode_utf8_all part.chars = sym (ap (take n) is ∙ take_at (encode_utf8_all chars) after n size) ∙ sym part.begins.spelled in
      let same : chars ≡ part.chars = encodes_same chars part.chars bytes in
      let none2 : ends_string part.chars ≡ false = sym (ap ends_string (append-nil part.chars)) ∙ part.keeps [] in
      let some : ends_string part.chars ≡ true = sym (ap ends_string same) ∙ ends in
      absurd (cc)

  pub no_string : NoTail Str rest
  no_string chars after scalars goes is =
      ⊎_elim (λ less. past_parts chars after scalars goes is less)
      (λ most. ⊎_elim (λ less. within_parts chars after goes is less) (λ least. at_parts chars after goes is (omega (arith, most, least)))
      (cases_lt (length (encode_utf8_all chars)) n))
      (cases_lt n (length (encode_utf8_all chars)))
