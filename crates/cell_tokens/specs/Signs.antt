-- Adjacent base tokens, by what is asked of each.
use Rattle.std.specs.Prelude.{ℕ, ◌==◌, ◌&&◌, Bool, true, false, if◌then◌else◌, List, [], ◌∷◌, map, Some, None, slice_get, slice_index}
use Rattle.k_lexer.specs.declared.token.Kind.{Kind}
use Rattle.k_lexer.specs.declared.token.Kind.TheVariants.{Word as WordToken, Int, Str, Mark as MarkToken}
use Rattle.k_lexer.specs.declared.token.Token.{Token}
use Rattle.program_tokens.specs.Base.{bytes_of}
use Rattle.program_tokens.specs.Words.{is_mark}
use Rattle.cell_tokens.specs.declared.signs.Sign.{Sign}
use Rattle.cell_tokens.specs.declared.signs.Sign.TheVariants.{Word, Mark}

abbrev pub is_word : Kind → Bool
is_word WordToken = true
is_word Int = false
is_word Str = false
is_word MarkToken = false

-- a base token is a word, or this mark
abbrev pub is_sign : List ℕ → Sign → Token → Bool
is_sign text Word token = is_word token.kind
is_sign text (Mark byte) token = is_mark token.kind && (slice_index text token.start == byte)

-- the signs of a text of marks
abbrev pub marks : List ℕ → List Sign
marks text = map (λ byte. Mark byte) text

-- Base tokens of these signs stand first, the first at a place and each other where the one before it ends.
abbrev pub fits : List ℕ → List Sign → ℕ → List Token → Bool
fits text [] at tokens = true
fits text (sign ∷ signs) at [] = false
fits text (sign ∷ signs) at (token ∷ tokens) = (token.start == at) && is_sign text sign token && fits text signs token.end tokens

-- the ends of the base tokens that stand first, the first at a place and each other where the one before it ends
abbrev pub ends : ℕ → List Token → List ℕ
ends at [] = []
ends at (token ∷ tokens) = if token.start == at then token.end ∷ ends token.end tokens else []

-- the bytes of the token at a place among tokens, counted from 0, and its end
abbrev pub bytes_at : List ℕ → List Token → ℕ → List ℕ
bytes_at text tokens place = elim (slice_get tokens place) [ Some token ↦ bytes_of text token | None ↦ [] ]

abbrev pub end_at : List Token → ℕ → ℕ
end_at tokens place = elim (slice_get tokens place) [ Some token ↦ token.end | None ↦ 0 ]
