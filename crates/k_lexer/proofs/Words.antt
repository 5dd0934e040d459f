-- Whether a whole text is a word.
use Rattle.std.proofs.Common.{◌≡◌, ℕ, ◌+◌, ◌≤◌, true, false, List, length, take, drop, sym, ap, subst, ◌∙◌, arith, length-drop}
use Rattle.std.specs.Str.{encode_utf8_all, StartsWithNoChar}
use Rattle.std.proofs.Common.{◌++◌, IsTrue, nat_eq, ⊎_elim}
use Rattle.std.proofs.lemmas.Bool.{eqb-true}
use Rattle.std.proofs.lemmas.Bool.Decides.{eqb_tells}
use Rattle.std.proofs.lemmas.List.{take_all}
use Rattle.k_lexer.specs.declared.token.Kind.TheVariants.{Word}
use Rattle.k_lexer.specs.Characters.{starts}
use Rattle.k_lexer.specs.Tokens.{IsToken}
use Rattle.k_lexer.specs.Fronts.{IsFirstChar, IsTail}
use Rattle.k_lexer.proofs.Chars.{first_is}
use Rattle.k_lexer.proofs.Stopping.{splits}
use Rattle.k_lexer.proofs.Tails.{is_longest}

whole : (text : List ℕ) → take (length text) text ≡ text
whole text = take_all (length text) text (omega arith)

pub no_char : (text : List ℕ) → StartsWithNoChar text → IsToken Word text → ⊥
no_char text none token =
    let s = splits Word text (length text) (subst (λ t. IsToken Word t) (sym (whole text)) token) in
    none s.head (encode_utf8_all s.tail ++ s.after) s.scalar s.is

pub other_first : (text : List ℕ) (first width : ℕ) → IsFirstChar text first width → starts Word first ≡ false → IsToken Word text → ⊥
other_first text first width begins other token =
    let s = splits Word text (length text) (subst (λ t. IsToken Word t) (sym (whole text)) token) in
    let same : s.head ≡ first = first_is text (encode_utf8_all s.tail ++ s.after) first width s.head begins s.is in
    let yes : starts Word first ≡ true = ap (λ c. starts Word c) (sym same) ∙ s.starts in
    absurd (cc)

pub is_whole : (text : List ℕ) (first width n : ℕ) → IsFirstChar text first width → starts Word first ≡ true → IsTail Word (drop width text) n
    → n ≡ length (drop width text) → IsToken Word text
is_whole text first width n begins start tail all =
    let longest = is_longest Word text first width n begins start tail in
    subst (λ t. IsToken Word t) (take_all (width + n) text (omega (arith, length-drop width text))) longest.token

pub is_part : (text : List ℕ) (first width n : ℕ) → IsFirstChar text first width → starts Word first ≡ true → IsTail Word (drop width text) n
    → (n ≡ length (drop width text) → ⊥) → IsToken Word text → ⊥
is_part text first width n begins start tail less token =
    let longest = is_longest Word text first width n begins start tail in
    let within : n ≤ length (drop width text) = tail.begins.within in
    let fits : width ≤ length text = begins.within in
    longest.longest Word (length text) (omega (arith, length-drop width text)) (omega arith) (subst (λ t. IsToken Word t) (sym (whole text)) token)

-- the run up to the end of the text decides
pub decides : (text rest : List ℕ) (first width n : ℕ) → IsFirstChar text first width → starts Word first ≡ true → IsTail Word rest n → rest ≡ drop width text
    → (IsTrue (nat_eq n (length rest)) → IsToken Word text) × (IsToken Word text → IsTrue (nat_eq n (length rest)))
decides text rest first width n begins start tail back =
    let tail2 = subst (λ t. IsTail Word t n) back tail in
    let size : length rest ≡ length (drop width text) = ap length back in (
      λ same. is_whole text first width n begins start tail2 (eqb-true n (length rest) same ∙ size),
      λ token. ⊎_elim (λ yes. yes.0) (λ no. absurd (is_part text first width n begins start tail2 (λ all. no.1 (all ∙ sym size)) token)) (eqb_tells n (length rest)),
    )
