-- What each kind of token is, by its characters.
use Rattle.std.specs.Prelude.{ℕ, Bool, true, false, ◌&&◌, ◌||◌, ◌==◌, not, nat_le, if◌then◌else◌, List, [], ◌∷◌}
use Rattle.std.specs.List.{list_all}
use Rattle.std.specs.Char.{is_ascii_digit, is_ascii_alphanumeric, is_ascii_graphic}
use Rattle.unicode_ident.specs.Ident.{is_xid_start, is_xid_continue}
use Rattle.k_lexer.specs.declared.token.Kind.{Kind}
use Rattle.k_lexer.specs.declared.token.Kind.TheVariants.{Word, Int, Str, Mark}

-- space, tab, line feed and carriage return
abbrev pub is_blank : ℕ → Bool
is_blank b = b == 32 || b == 9 || b == 10 || b == 13

-- a character that stands for itself in a string: no control character, quote, backslash or delete
abbrev pub is_plain : ℕ → Bool
is_plain c = nat_le 32 c && not (c == 34 || c == 92 || c == 127)

-- what may follow a backslash in a string: a quote, a backslash, `n` or `t`
abbrev pub is_escape : ℕ → Bool
is_escape c = c == 34 || c == 92 || c == 110 || c == 116

-- a printable ASCII character that is no letter, digit, underscore, quote or space
abbrev pub is_mark : ℕ → Bool
is_mark c = is_ascii_graphic c && not (is_ascii_alphanumeric c || c == 95 || c == 34)

abbrev pub is_empty : List ℕ → Bool
is_empty [] = true
is_empty (c ∷ cs) = false

-- what follows the first quote of a string: plain characters and escapes, and then one quote
unfoldable mutual
  pub ends_string : List ℕ → Bool
  ends_string [] = false
  ends_string (c ∷ cs) = if c == 34 then is_empty cs else (if c == 92 then ends_escape cs else is_plain c && ends_string cs)

  pub ends_escape : List ℕ → Bool
  ends_escape [] = false
  ends_escape (c ∷ cs) = is_escape c && ends_string cs

-- which characters begin a token of a kind
abbrev pub starts : Kind → ℕ → Bool
starts Word c = is_xid_start c || c == 95
starts Int c = is_ascii_digit c
starts Str c = c == 34
starts Mark c = is_mark c

-- which characters go on with a token that is no string
abbrev pub continues : Kind → ℕ → Bool
continues Word c = is_xid_continue c
continues Int c = is_ascii_digit c
continues _ c = false

-- what follows the first character of a token
abbrev pub goes_on : Kind → List ℕ → Bool
goes_on Str cs = ends_string cs
goes_on kind cs = list_all (continues kind) cs

-- the characters are a token of this kind
abbrev pub is_token : Kind → List ℕ → Bool
is_token kind [] = false
is_token kind (c ∷ cs) = starts kind c && goes_on kind cs
