-- The definitions tried on closed values, by computation.
use Rattle.std.proofs.Common.{◌≡◌, true, false, [], ◌∷◌, refl, arith}
use Rattle.std.specs.Prelude.{codes}
use Rattle.std.proofs.lemmas.Str.{IsUtf8-nil}
use Rattle.unicode_ident.proofs.Computing.{unicode_ident}
use Rattle.k_lexer.specs.declared.token.Kind.TheVariants.{Word, Int, Str, Mark}
use Rattle.k_lexer.specs.declared.fault.LexFault.TheVariants.{OpenComment}
use Rattle.k_lexer.specs.Characters.{is_token, ends_string, ends_escape}
use Rattle.k_lexer.specs.Tokens.{opens_line, IsOpenComment}
use Rattle.k_lexer.specs.Lexing.{Reaches, start, blank, AreTokens, IsStop}

word : is_token Word (codes "_ab1") ≡ true
unfolding unicode_ident
word = refl

-- e with an acute accent, and then a small alpha
word_beyond_ascii : is_token Word (0xE9 ∷ 0x3B1 ∷ []) ≡ true
unfolding unicode_ident
word_beyond_ascii = refl

no_word : is_token Word (codes "1a") ≡ false
unfolding unicode_ident
no_word = refl

int : is_token Int (codes "007") ≡ true
int = refl

no_int : is_token Int [] ≡ false
no_int = refl

mark : is_token Mark (codes "<") ≡ true
mark = refl

two_marks : is_token Mark (codes "=>") ≡ false
two_marks = refl

underscore_is_no_mark : is_token Mark (codes "_") ≡ false
underscore_is_no_mark = refl

-- a quote, a backslash, a quote, a backslash, n, and a quote
escapes : is_token Str (34 ∷ 92 ∷ 34 ∷ 92 ∷ 110 ∷ 34 ∷ []) ≡ true
unfolding ends_string ends_escape
escapes = refl

-- a backslash and r between quotes
no_escape : is_token Str (34 ∷ 92 ∷ 114 ∷ 34 ∷ []) ≡ false
unfolding ends_string ends_escape
no_escape = refl

no_line_feed : is_token Str (34 ∷ 10 ∷ 34 ∷ []) ≡ false
unfolding ends_string
no_line_feed = refl

lone_quote : is_token Str (34 ∷ []) ≡ false
unfolding ends_string
lone_quote = refl

line : opens_line (codes "//") ≡ true
line = refl

no_line : opens_line (codes "/") ≡ false
no_line = refl

-- the star of `/*` ends no comment
closes_nothing : IsOpenComment (codes "/*/")
closes_nothing = (refl, λ k low high occurs. omega (arith, occurs.fits))

open_comment : IsStop (codes "/*/") (OpenComment 0)
open_comment = record { tokens = []; reached = start; stops = closes_nothing }

empty_text : AreTokens [] []
empty_text = record { utf8 = IsUtf8-nil; whole = start }

two_blanks : Reaches (32 ∷ 10 ∷ []) [] 2
two_blanks = blank [] 1 (blank [] 0 start refl) refl
