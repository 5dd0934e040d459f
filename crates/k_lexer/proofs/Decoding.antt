-- What decoding the front of a text says of the character there.
use Rattle.std.proofs.Common.{◌≡◌, ℕ, ◌≤◌, List, length, Option, Some, None, sym, ap, ◌∙◌, subst, arith}
use Rattle.std.specs.Char.{encode_utf8}
use Rattle.std.specs.Str.{StartsWithNoChar}
use Rattle.std.proofs.lemmas.Str.{length-encode, len_utf8_bounds}
use Rattle.bstr.specs.Utf8.{Decoded, decoded, good}
use Rattle.bstr.proofs.lemmas.PieceLemmas.{size-within}
use Rattle.bstr.proofs.lemmas.SoundLemmas.{SpellsChar, SpellsChar-decoded}
use Rattle.bstr.proofs.lemmas.EncodeLemmas.{decoded-encode}
use Rattle.k_lexer.specs.Fronts.{IsFirstChar}

first_of : (rest : List ℕ) (c size : ℕ) → SpellsChar rest c size → size ≤ length rest → IsFirstChar rest c size
first_of rest c size spelled within = record {
  scalar = spelled.scalar;
  is = spelled.bytes;
  width = spelled.width;
  some = omega (arith, spelled.width, length-encode c, (len_utf8_bounds c).0);
  within = within;
}

pub decoded_first : (rest : List ℕ) (c size : ℕ) (char : Option ℕ) → char ≡ (decoded rest).char → size ≡ (decoded rest).size → char ≡ Some c → IsFirstChar rest c size
decoded_first rest c size char is width found =
    subst (λ n. IsFirstChar rest c n) (sym width) (first_of rest c (decoded rest).size (SpellsChar-decoded rest c (sym is ∙ found)) (size-within rest))

pub decoded_none : (rest : List ℕ) (char : Option ℕ) → char ≡ (decoded rest).char → char ≡ None → StartsWithNoChar rest
decoded_none rest char is none = λ c after scalar begins.
    let read : decoded rest ≡ good c (length (encode_utf8 c)) = ap decoded begins ∙ decoded-encode c after scalar in
    let some : None ≡ Some c = sym none ∙ is ∙ ap (λ (d : Decoded). d.char) read in
    absurd (cc)
