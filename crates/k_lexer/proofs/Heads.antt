-- The kinds of tokens are told apart by their first characters.
use Rattle.std.proofs.Common.{◌≡◌, ℕ, ◌<◌, true, ◌||◌, ◌==◌, List, refl, subst, arith}
use Rattle.std.specs.Char.{is_ascii_digit, is_ascii_alphabetic}
use Rattle.std.specs.List.{list_all}
use Rattle.std.proofs.lemmas.Bool.Decides.{nat_tests}
use Rattle.unicode_ident.proofs.IdentLemmas.{is_xid_start-ascii}
use Rattle.k_lexer.specs.declared.token.Kind.{Kind}
use Rattle.k_lexer.specs.declared.token.Kind.TheVariants.{Word, Int, Str, Mark}
use Rattle.k_lexer.specs.Characters.{starts, continues, goes_on, is_mark, is_blank}

-- what a word may begin with below 128
pub word_low : (c : ℕ) → c < 128 → starts Word c ≡ true → (is_ascii_alphabetic c || c == 95) ≡ true
word_low c low begins = subst (λ b. (b || c == 95) ≡ true) (is_xid_start-ascii c low) begins

word_digit : (c : ℕ) → starts Word c ≡ true → is_ascii_digit c ≡ true → ⊥
word_digit c word digit =
    let low : c < 128 = grind (arith, nat_tests) in
    let letter = word_low c low word in
    grind (arith, nat_tests)

word_quote : (c : ℕ) → starts Word c ≡ true → (c == 34) ≡ true → ⊥
word_quote c word quote =
    let low : c < 128 = grind (arith, nat_tests) in
    let letter = word_low c low word in
    grind (arith, nat_tests)

word_mark : (c : ℕ) → starts Word c ≡ true → is_mark c ≡ true → ⊥
word_mark c word mark =
    let low : c < 128 = grind (arith, nat_tests) in
    let letter = word_low c low word in
    grind (arith, nat_tests)

digit_quote : (c : ℕ) → is_ascii_digit c ≡ true → (c == 34) ≡ true → ⊥
digit_quote c digit quote = grind (arith, nat_tests)

digit_mark : (c : ℕ) → is_ascii_digit c ≡ true → is_mark c ≡ true → ⊥
digit_mark c digit mark = grind (arith, nat_tests)

quote_mark : (c : ℕ) → (c == 34) ≡ true → is_mark c ≡ true → ⊥
quote_mark c quote mark = grind (arith, nat_tests)

-- a character begins tokens of one kind alone
pub one_kind : (c : ℕ) (j k : Kind) → starts j c ≡ true → starts k c ≡ true → j ≡ k
one_kind c Word Word f g = refl
one_kind c Word Int f g = absurd (word_digit c f g)
one_kind c Word Str f g = absurd (word_quote c f g)
one_kind c Word Mark f g = absurd (word_mark c f g)
one_kind c Int Word f g = absurd (word_digit c g f)
one_kind c Int Int f g = refl
one_kind c Int Str f g = absurd (digit_quote c f g)
one_kind c Int Mark f g = absurd (digit_mark c f g)
one_kind c Str Word f g = absurd (word_quote c g f)
one_kind c Str Int f g = absurd (digit_quote c g f)
one_kind c Str Str f g = refl
one_kind c Str Mark f g = absurd (quote_mark c f g)
one_kind c Mark Word f g = absurd (word_mark c g f)
one_kind c Mark Int f g = absurd (digit_mark c g f)
one_kind c Mark Str f g = absurd (quote_mark c g f)
one_kind c Mark Mark f g = refl

-- no token begins with a blank
pub no_blank : (c : ℕ) (kind : Kind) → is_blank c ≡ true → starts kind c ≡ true → ⊥
no_blank c Word blank begins =
    let low : c < 128 = grind (arith, nat_tests) in
    let letter = word_low c low begins in
    grind (arith, nat_tests)
no_blank c Int blank begins = grind (arith, nat_tests)
no_blank c Str blank begins = grind (arith, nat_tests)
no_blank c Mark blank begins = grind (arith, nat_tests)

pub goes_on_is : (kind : Kind) → (kind ≡ Str → ⊥) → (cs : List ℕ) → goes_on kind cs ≡ list_all (continues kind) cs
goes_on_is Word other cs = refl
goes_on_is Int other cs = refl
goes_on_is Str other cs = absurd (other refl)
goes_on_is Mark other cs = refl
