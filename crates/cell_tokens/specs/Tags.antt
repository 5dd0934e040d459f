-- The attributes of an opening tag.
use Rattle.std.specs.Prelude.{ℕ, ◌+◌, ◌==◌, ◌&&◌, ◌||◌, cond, nat_le, Bool, true, false, List, [], ◌∷◌, codes, Option, Some, None, option_map, slice_index}
use Rattle.std.specs.List.{list_all}
use Rattle.std.specs.Str.{bytes_eq}
use Rattle.k_lexer.specs.declared.token.Kind.{Kind}
use Rattle.k_lexer.specs.declared.token.Kind.TheVariants.{Word, Int, Str, Mark}
use Rattle.k_lexer.specs.declared.token.Token.{Token}
use Rattle.k_lexer.specs.Characters.{is_blank}
use Rattle.production_reader.specs.Lexemes.{span}
use Rattle.program_tokens.specs.Base.{bytes_of}
use Rattle.program_tokens.specs.Words.{is_mark}
use Rattle.cell_tokens.specs.Signs.{is_word}

abbrev pub is_string : Kind → Bool
is_string Word = false
is_string Int = false
is_string Str = true
is_string Mark = false

-- this mark stands directly behind a place
abbrev pub is_mark_at : List ℕ → ℕ → ℕ → Token → Bool
is_mark_at text byte at token = (token.start == at) && (is_mark token.kind && (slice_index text token.start == byte))

abbrev pub is_multiplicity : List ℕ → Bool
is_multiplicity name = bytes_eq name (codes "multiplicity")

-- a colour of any text, or `multiplicity="*"`
abbrev pub is_allowed : List ℕ → List ℕ → Bool
is_allowed name value = bytes_eq name (codes "color") || (is_multiplicity name && bytes_eq value (codes "\"*\""))

-- a word stands behind a place, with blanks alone between
abbrev pub is_name_behind : List ℕ → ℕ → Token → Bool
is_name_behind text at token = nat_le at token.start && (is_word token.kind && list_all is_blank (span text at token.start))

-- An attribute behind a place: a name, `=` and a text, with blanks alone before it and nothing between.
abbrev pub is_attribute : List ℕ → ℕ → Token → Token → Token → Bool
is_attribute text at name equals value =
    is_name_behind text at name && (is_mark_at text 61 name.end equals && ((value.start == equals.end) && (is_string value.kind && is_allowed (bytes_of text name) (bytes_of text value))))

-- the first three tokens, if there are so many
abbrev pub three_first : List Token → Option (Token × Token × Token)
three_first [] = None
three_first (first ∷ []) = None
three_first (first ∷ second ∷ []) = None
three_first (first ∷ second ∷ third ∷ tokens) = Some (first, second, third)

-- behind one more attribute
abbrev pub with_attribute : Bool → Bool × ℕ → Bool × ℕ
with_attribute many rest = (many || rest.0, 3 + rest.1)

-- the `>` of a tag stands directly behind a place
abbrev pub closing : List ℕ → ℕ → Token → Option (Bool × ℕ)
closing text at token = cond (is_mark_at text 62 at token) (Some (false, 1)) None

-- The attributes of a tag and its `>` behind a place, by the base tokens from there on: whether one is `multiplicity="*"`, and of
-- how many base tokens they are.
unfoldable pub attributes : List ℕ → ℕ → List Token → Option (Bool × ℕ)
attributes text at [] = None
attributes text at (token ∷ []) = closing text at token
attributes text at (token ∷ other ∷ []) = closing text at token
attributes text at (name ∷ equals ∷ value ∷ tokens) =
    cond (is_mark_at text 62 at name) (Some (false, 1))
    (cond (is_attribute text at name equals value) (option_map (with_attribute (is_multiplicity (bytes_of text name))) (attributes text value.end tokens)) None)
