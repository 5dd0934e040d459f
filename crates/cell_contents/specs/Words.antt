-- The tokens of a content as words.
use Rattle.std.specs.Prelude.{ℕ, List, [], codes, map}
use Rattle.k_terms.specs.Sorts.{sort_k, sort_kitem, sort_int, sort_bool, sort_string, sort_id}
use Rattle.k_terms.specs.declared.value.Value.{Value, Int, Bool as Truth, Str, Id, Node', Items', Seq', Map', List' as Listed', Freezer'}
use Rattle.grammar_terms.specs.declared.word.Word.{Word}
use Rattle.grammar_terms.specs.declared.word.WordKind.TheVariants.{Literal as LiteralWord}
use Rattle.cell_tokens.specs.declared.token.CellKind.{CellKind}
use Rattle.cell_tokens.specs.declared.token.CellKind.TheVariants.{Open, Close, Program, Input, Then, MapsTo, Dot, ListItem, LeftBracket, RightBracket, Terminal, Literal, Bad}
use Rattle.cell_tokens.specs.declared.token.CellToken.{CellToken}
use Rattle.cell_contents.specs.Marks.{terminal}

-- what stands in no reading: a terminal without bytes, which no production has
abbrev pub nowhere : Word
nowhere = terminal []

-- the sort of a literal or an identifier
abbrev pub literal_sort : Value → ℕ
literal_sort (Int number) = sort_int
literal_sort (Truth truth) = sort_bool
literal_sort (Str text) = sort_string
literal_sort (Id symbol) = sort_id
literal_sort (Node' _ _ _) = sort_kitem
literal_sort (Items' _ _ _) = sort_kitem
literal_sort (Seq' _ _) = sort_k
literal_sort (Map' _ _) = sort_kitem
literal_sort (Listed' _ _) = sort_kitem
literal_sort (Freezer' _ _ _ _) = sort_kitem

-- the word of a token: the marks of a content are terminals that its items have only where the grammar has them
abbrev pub word_of : CellKind → Word
word_of (Open name many) = nowhere
word_of (Close name) = nowhere
word_of (Program sort) = nowhere
word_of Input = nowhere
word_of Then = terminal (codes "~>")
word_of MapsTo = terminal (codes "|->")
word_of (Dot sort) = nowhere
word_of ListItem = terminal (codes "ListItem")
word_of LeftBracket = terminal (codes "(")
word_of RightBracket = terminal (codes ")")
word_of (Terminal text) = terminal text
word_of (Literal value) = record { kind = LiteralWord value; sort = literal_sort value; start = 0; end = 0 }
word_of Bad = nowhere

abbrev pub words_of : List CellToken → List Word
words_of tokens = map (λ (token : CellToken). word_of token.kind) tokens
