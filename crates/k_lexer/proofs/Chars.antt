-- Characters at the front of a text.
use Rattle.std.proofs.Common.{◌≡◌, ℕ, ◌+◌, ◌<◌, Bool, true, false, ◌&&◌, List, [], ◌∷◌, ◌++◌, length, take, drop, refl, sym, ap, ◌∙◌, arith, append_assoc, append-nil, length-append, length-drop}
use Rattle.std.specs.Char.{IsScalar, encode_utf8}
use Rattle.std.specs.Str.{all_scalars, encode_utf8_all}
use Rattle.std.proofs.Math.Seq.{take-add}
use Rattle.std.proofs.lemmas.Bool.{and_parts}
use Rattle.std.proofs.lemmas.List.{take-append-drop, take_at, length-take-le}
use Rattle.std.proofs.lemmas.Str.{encode_same, encodes-append}
use Rattle.k_lexer.specs.Fronts.{IsFirstChar, Begins}

pub both_true : (a b : Bool) → a ≡ true → b ≡ true → (a && b) ≡ true
both_true true b first second = second
both_true false b first second = absurd (cc)

pub scalars-append : (cs ds : List ℕ) → all_scalars cs ≡ true → all_scalars ds ≡ true → all_scalars (cs ++ ds) ≡ true
scalars-append [] ds first second = second
scalars-append (c ∷ cs) ds first second =
    let parts = and_parts _ (all_scalars cs) first in
    both_true _ (all_scalars (cs ++ ds)) parts.0 (scalars-append cs ds parts.1 second)

pub scalar_among : (cs : List ℕ) (e : ℕ) (es : List ℕ) → all_scalars (cs ++ e ∷ es) ≡ true → IsScalar e
scalar_among [] e es all = (and_parts _ (all_scalars es) all).0
scalar_among (c ∷ cs) e es all = scalar_among cs e es (and_parts _ (all_scalars (cs ++ e ∷ es)) all).1

pub scalars_after : (cs ds : List ℕ) → all_scalars (cs ++ ds) ≡ true → all_scalars ds ≡ true
scalars_after [] ds all = all
scalars_after (c ∷ cs) ds all = scalars_after cs ds (and_parts _ (all_scalars (cs ++ ds)) all).1

-- of two lists of characters at one place, the one with more bytes goes on where the other ends
pub longer : (cs ds a b : List ℕ) → encode_utf8_all cs ++ a ≡ encode_utf8_all ds ++ b → length (encode_utf8_all ds) < length (encode_utf8_all cs)
    → (e : ℕ) × (es : List ℕ) × (cs ≡ ds ++ e ∷ es) × (b ≡ encode_utf8 e ++ (encode_utf8_all es ++ a))
longer [] [] a b same less = absurd (omega arith)
longer (c ∷ cs) [] a b same less = (c, cs, refl, sym same ∙ append_assoc (encode_utf8 c) (encode_utf8_all cs) a)
longer [] (d ∷ ds) a b same less = absurd (omega arith)
longer (c ∷ cs) (d ∷ ds) a b same less =
    let both = encode_same c d (encode_utf8_all cs ++ a) (encode_utf8_all ds ++ b)
    (sym (append_assoc (encode_utf8 c) (encode_utf8_all cs) a) ∙ same ∙ append_assoc (encode_utf8 d) (encode_utf8_all ds) b) in
    let size : length (encode_utf8 c) ≡ length (encode_utf8 d) = ap (λ x. length (encode_utf8 x)) both.0 in
    let less2 : length (encode_utf8_all ds) < length (encode_utf8_all cs) =
    omega (arith, length-append (encode_utf8 c) (encode_utf8_all cs), length-append (encode_utf8 d) (encode_utf8_all ds)) in
    let more = longer cs ds a b both.1 less2 in
    (more.0, more.1, ap (λ t. c ∷ t) more.2 ∙ ap (λ x. x ∷ (ds ++ more.0 ∷ more.1)) both.0, more.3)

-- the first character's bytes begin with it
pub first_begins : (rest : List ℕ) (c size : ℕ) → IsFirstChar rest c size → Begins rest (c ∷ []) size
first_begins rest c size first = record {
  within = first.within;
  scalars = both_true _ true first.scalar refl;
  spelled = append-nil (encode_utf8 c) ∙ sym (ap (take size) first.is ∙ take_at (encode_utf8 c) (drop size rest) size first.width);
}

-- what begins where characters end goes on with them
pub begins_on : (rest cs ds : List ℕ) (m n : ℕ) → Begins rest cs m → Begins (drop m rest) ds n → Begins rest (cs ++ ds) (m + n)
begins_on rest cs ds m n first second = record {
  within = omega (arith, first.within, second.within, length-drop m rest);
  scalars = scalars-append cs ds first.scalars second.scalars;
  spelled = encodes-append cs ds ∙ ap (λ t. t ++ encode_utf8_all ds) first.spelled ∙ ap (λ t. take m rest ++ t) second.spelled ∙ sym (take-add m n rest);
}

pub begins_nowhere : (rest : List ℕ) → Begins rest [] 0
begins_nowhere rest = record { within = omega arith; scalars = refl; spelled = refl }

pub begins_is : (rest cs : List ℕ) (n : ℕ) → Begins rest cs n → rest ≡ encode_utf8_all cs ++ drop n rest
begins_is rest cs n begins = sym (ap (λ t. t ++ drop n rest) begins.spelled ∙ take-append-drop n rest)

pub begins_size : (rest cs : List ℕ) (n : ℕ) → Begins rest cs n → length (encode_utf8_all cs) ≡ n
begins_size rest cs n begins = ap length begins.spelled ∙ length-take-le n rest begins.within

-- the character that stands first is one alone
pub first_is : (rest after : List ℕ) (c size d : ℕ) → IsFirstChar rest c size → rest ≡ encode_utf8 d ++ after → d ≡ c
first_is rest after c size d first other = (encode_same d c after (drop size rest) (sym other ∙ first.is)).0
