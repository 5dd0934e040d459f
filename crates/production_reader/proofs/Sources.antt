-- The lexeme of a number.
use Rattle.std.proofs.Common.{◌≡◌, ℕ, zero, suc, ◌≤◌, ◌-◌, arith, List, [], ◌∷◌, length, refl, sym, ap, ◌∙◌, subst, Option, Some, None}
use Rattle.std.specs.Prelude.{slice_get, option_map, unwrap_or}
use Rattle.std.specs.Option.{option_map_or}
use Rattle.k_lexer.specs.declared.token.Token.{Token}
use Rattle.production_reader.specs.Lexemes.{lexeme_of, lexemes_after}
use Rattle.production_reader.specs.Sources.{AreWithin, last_end}

pub last_end_is : (last : ℕ) (tokens : List Token) (at : ℕ) → last_end last tokens (suc at) ≡ option_map_or (λ token. token.end) (slice_get tokens at) 0
last_end_is last [] at = refl
last_end_is last (token ∷ tokens) zero = refl
last_end_is last (token ∷ tokens) (suc at) = last_end_is token.end tokens at

pub end_is : (tokens : List Token) (at : ℕ) (found : Option Token) → (at ≡ 0 → ⊥) → found ≡ slice_get tokens (at - 1)
    → option_map_or (λ token. token.end) found 0 ≡ last_end 0 tokens at
end_is tokens zero found some is = absurd (some refl)
end_is tokens (suc at) found some is =
    ap (λ o. option_map_or (λ token. token.end) o 0) (is ∙ ap (λ n. slice_get tokens n) (omega arith)) ∙ sym (last_end_is 0 tokens at)

pub lexeme_is : (text : List ℕ) (last : ℕ) (tokens : List Token) (at : ℕ)
    → slice_get (lexemes_after text last tokens) at ≡ option_map (lexeme_of text (last_end last tokens at)) (slice_get tokens at)
lexeme_is text last [] at = refl
lexeme_is text last (token ∷ tokens) zero = refl
lexeme_is text last (token ∷ tokens) (suc at) = lexeme_is text token.end tokens at

none_some : {X : Type 0} {x : X} → ◌≡◌ {A = Option X} None (Some x) → ⊥
none_some e = cc

unwrapped : {x y : Token} → Some x ≡ Some y → x ≡ y
unwrapped {x} {y} e = ap (λ o. unwrap_or o x) e

pub token_within : (text : List ℕ) (tokens : List Token) (at : ℕ) (token : Token) → AreWithin text tokens → slice_get tokens at ≡ Some token
    → (token.start ≤ token.end) × (token.end ≤ length text)
token_within text [] at token all is = absurd (none_some is)
token_within text (first ∷ tokens) zero token all is = subst (λ t. (t.start ≤ t.end) × (t.end ≤ length text)) (unwrapped is) all.0
token_within text (first ∷ tokens) (suc at) token all is = token_within text tokens at token all.1 is
