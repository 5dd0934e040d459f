-- What strings say, and which texts are terminals.
use Rattle.std.proofs.Common.{◌≡◌, ℕ, suc, zero, ◌+◌, ◌*◌, ◌-◌, ◌<◌, ◌≤◌, ◌^◌, Bool, true, false, ◌==◌, ◌||◌, List, [], ◌∷◌, length, drop, refl, sym, ap, ◌∙◌, subst, arith, slice_index}
use Rattle.std.specs.Prelude.{if◌then◌else◌}
use Rattle.std.proofs.lemmas.Bool.Decides.{nat_tests}
use Rattle.k_lexer.specs.Tokens.{opens_comment}
use Rattle.production_reader.specs.Allowed.{unescaped, escaped, text_of_string, has_comment, number_after, number_of}

choose_else : {X : Type 0} (b : Bool) (x y : X) → b ≡ false → (if b then x else y) ≡ y
choose_else true x y e = absurd (cc)
choose_else false x y e = refl

choose_then : {X : Type 0} (b : Bool) (x y : X) → b ≡ true → (if b then x else y) ≡ x
choose_then true x y e = refl
choose_then false x y e = absurd (cc)

not_same : (a b : ℕ) → (a ≡ b → ⊥) → (a == b) ≡ false
not_same a b other = grind (arith, nat_tests)

same : (a b : ℕ) → a ≡ b → (a == b) ≡ true
same a b is = grind (arith, nat_tests)

pub says_nothing : (rest : List ℕ) → length rest ≡ 0 → unescaped rest ≡ []
unfolding unescaped escaped
says_nothing [] none = refl
says_nothing (b ∷ bs) none = absurd (omega arith)

pub says_end : (byte : ℕ) (tail rest : List ℕ) → rest ≡ byte ∷ tail → byte ≡ 34 → unescaped rest ≡ []
unfolding unescaped escaped
says_end byte tail rest is quote = ap unescaped is ∙ ap (λ b. unescaped (b ∷ tail)) quote

pub says_byte : (byte : ℕ) (tail rest : List ℕ) → rest ≡ byte ∷ tail → (byte ≡ 34 → ⊥) → (byte ≡ 92 → ⊥) → unescaped rest ≡ byte ∷ unescaped tail
unfolding unescaped escaped
says_byte byte tail rest is quote escape =
    ap unescaped is ∙ choose_else (byte == 92) (escaped tail) (if byte == 34 then [] else byte ∷ unescaped tail) (not_same byte 92 escape)
    ∙ choose_else (byte == 34) [] (byte ∷ unescaped tail) (not_same byte 34 quote)

pub says_no_escape : (byte : ℕ) (tail rest : List ℕ) → rest ≡ byte ∷ tail → byte ≡ 92 → length tail ≡ 0 → unescaped rest ≡ []
unfolding unescaped escaped
says_no_escape byte [] rest is escape none = ap unescaped is ∙ ap (λ b. unescaped (b ∷ [])) escape
says_no_escape byte (c ∷ tail) rest is escape none = absurd (omega arith)

pub says_escape : (byte letter : ℕ) (tail after rest : List ℕ) → rest ≡ byte ∷ tail → byte ≡ 92 → tail ≡ letter ∷ after
    → unescaped rest ≡ (if letter == 110 then 10 else (if letter == 116 then 9 else letter)) ∷ unescaped after
unfolding unescaped escaped
says_escape byte letter tail after rest is escape more = ap unescaped is ∙ ap (λ b. unescaped (b ∷ tail)) escape ∙ ap escaped more

pub comment_at : (text : List ℕ) (at : ℕ) → at < length text → has_comment (drop at text) ≡ (opens_comment (drop at text) || has_comment (drop (at + 1) text))
comment_at [] at within = absurd (omega arith)
comment_at (b ∷ bs) zero within = refl
comment_at (b ∷ bs) (suc at) within =
    let e : suc (at + 1) ≡ suc at + 1 = omega arith in
    subst (λ n. has_comment (drop at bs) ≡ (opens_comment (drop at bs) || has_comment (drop n (b ∷ bs)))) e (comment_at bs at (omega arith))

pub no_comment_at : (text : List ℕ) (at : ℕ) → at < length text → has_comment text ≡ has_comment (drop at text) → opens_comment (drop at text) ≡ false
    → has_comment text ≡ has_comment (drop (at + 1) text)
no_comment_at text at within before none = before ∙ comment_at text at within ∙ ap (λ b. b || has_comment (drop (at + 1) text)) none

pub comment_there : (text : List ℕ) (at : ℕ) → at < length text → has_comment text ≡ has_comment (drop at text) → opens_comment (drop at text) ≡ true → has_comment text ≡ true
comment_there text at within before some = before ∙ comment_at text at within ∙ ap (λ b. b || has_comment (drop (at + 1) text)) some

pub comment_nowhere : (text : List ℕ) (at : ℕ) → length text ≤ at → has_comment (drop at text) ≡ false
comment_nowhere [] zero within = refl
comment_nowhere [] (suc at) within = refl
comment_nowhere (b ∷ bs) zero within = absurd (omega arith)
comment_nowhere (b ∷ bs) (suc at) within = comment_nowhere bs at (omega arith)

pub number_least : (digits : List ℕ) (before : ℕ) → before ≤ number_after before digits
number_least [] before = omega arith
number_least (d ∷ digits) before = let more : before * 10 + (d - 48) ≤ number_after (before * 10 + (d - 48)) digits = number_least digits (before * 10 + (d - 48)) in omega arith

pub number_at : (digits : List ℕ) (at before digit : ℕ) → at < length digits → digit ≡ slice_index digits at
    → number_after before (drop at digits) ≡ number_after (before * 10 + (digit - 48)) (drop (at + 1) digits)
number_at [] at before digit within is = absurd (omega arith)
number_at (d ∷ digits) zero before digit within is = ap (λ x. number_after (before * 10 + (x - 48)) digits) (sym is)
number_at (d ∷ digits) (suc at) before digit within is =
    let e : suc (at + 1) ≡ suc at + 1 = omega arith in
    subst (λ n. number_after before (drop at digits) ≡ number_after (before * 10 + (digit - 48)) (drop n (d ∷ digits))) e (number_at digits at before digit (omega arith) is)

pub too_great : (digits : List ℕ) (at before digit : ℕ) → number_of digits ≡ number_after before (drop at digits) → at < length digits → digit ≡ slice_index digits at
    → 2 ^ 32 ≤ before * 10 + (digit - 48) → number_of digits < 2 ^ 32 → ⊥
too_great digits at before digit is within here great less =
    let least = number_least (drop (at + 1) digits) (before * 10 + (digit - 48)) in
    let next = number_at digits at before digit within here in
    omega (arith, is, least, next)

pub says_empty : (string : List ℕ) → length string ≡ 0 → text_of_string string ≡ []
unfolding unescaped escaped
says_empty [] none = refl
says_empty (b ∷ bs) none = absurd (omega arith)
