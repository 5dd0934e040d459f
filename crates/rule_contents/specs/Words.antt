-- The tokens of a rule as words of a content or a condition.
use Rattle.std.specs.Prelude.{ℕ, ◌==◌, cond, List, [], ◌∷◌, codes, Option, Some, None}
use Rattle.k_terms.specs.Sorts.{sort_k, sort_kitem, sort_int, sort_bool, sort_string, sort_id}
use Rattle.k_terms.specs.declared.value.Symbol.{Symbol}
use Rattle.k_terms.specs.declared.value.Value.{Value, Int, Bool as Truth, Str, Id, Node', Items', Seq', Map', List' as Listed', Freezer'}
use Rattle.grammar_terms.specs.declared.word.Word.{Word}
use Rattle.grammar_terms.specs.declared.word.WordKind.TheVariants.{Terminal as TerminalWord, Literal as LiteralWord, Variable as VariableWord, Wild, EmptyList}
use Rattle.grammar_terms.specs.Places.{rewrite_place, open_place, close_place}
use Rattle.production_reader.specs.Allowed.{same_text}
use Rattle.rule_tokens.specs.declared.token.RuleKind.{RuleKind}
use Rattle.rule_tokens.specs.declared.token.RuleKind.TheVariants.{Open, Close, Rewrite, Then, MapsTo, Dots, Dot, ListItem, Terminal, Literal, Variable}
use Rattle.rule_tokens.specs.declared.token.RuleToken.{RuleToken}
use Rattle.rule_contents.specs.declared.words.Meant.{Meant}

-- the number of the places that ask for a terminal, where there are such
abbrev pub place_of_text : List ℕ → ℕ
place_of_text text =
    cond (same_text text (codes "=>")) rewrite_place
    (cond (same_text text (codes "(")) open_place (cond (same_text text (codes ")")) close_place 0))

abbrev pub terminal : List ℕ → Meant
terminal text = record { kind = TerminalWord text; sort = place_of_text text }

-- what stands in no content: a terminal without bytes, which no production has
abbrev pub nowhere : Meant
nowhere = terminal []

abbrev pub variable_of : ℕ → Meant
variable_of sort = record { kind = VariableWord; sort = sort }

abbrev pub empty_of : ℕ → Meant
empty_of sort = record { kind = EmptyList; sort = sort }

-- the sort of a literal
abbrev pub literal_sort : Value → ℕ
literal_sort (Int number) = sort_int
literal_sort (Truth truth) = sort_bool
literal_sort (Str text) = sort_string
literal_sort (Id symbol) = sort_id
literal_sort (Node' _ _ _) = sort_kitem
literal_sort (Items' _ _ _) = sort_kitem
literal_sort (Seq' _ _) = sort_k
literal_sort (Map' _ _) = sort_kitem
literal_sort (Listed' _ _) = sort_kitem
literal_sort (Freezer' _ _ _ _) = sort_kitem

-- the sort of a name among variables with their sorts
abbrev pub sort_of_name : List (Symbol × ℕ) → ℕ → Option ℕ
sort_of_name [] name = None
sort_of_name (variable ∷ variables) name = cond (variable.0.0 == name) (Some variable.1) (sort_of_name variables name)

abbrev pub named : List (Symbol × ℕ) → ℕ → Meant
named sorts name = elim (sort_of_name sorts name) [ None ↦ nowhere | Some sort ↦ variable_of sort ]

-- A named variable has its own sort at each occurrence, also where none is written.
abbrev pub variable_meant : List (Symbol × ℕ) → Option Symbol → Option ℕ → Meant
variable_meant sorts None None = record { kind = Wild; sort = 0 }
variable_meant sorts None (Some sort) = variable_of sort
variable_meant sorts (Some name) sort = named sorts name.0

abbrev pub dot_meant : Option ℕ → Meant
dot_meant None = empty_of sort_k
dot_meant (Some sort) = empty_of sort

-- what a token is in a content
abbrev pub meant : List (Symbol × ℕ) → RuleKind → Meant
meant sorts (Open cell) = nowhere
meant sorts (Close cell) = nowhere
meant sorts Rewrite = terminal (codes "=>")
meant sorts Then = terminal (codes "~>")
meant sorts MapsTo = terminal (codes "|->")
meant sorts Dots = nowhere
meant sorts (Dot sort) = dot_meant sort
meant sorts ListItem = terminal (codes "ListItem")
meant sorts (Terminal text) = terminal text
meant sorts (Literal value) = record { kind = LiteralWord value; sort = literal_sort value }
meant sorts (Variable name sort) = variable_meant sorts name sort

abbrev pub placed : Meant → RuleToken → Word
placed it token = record { kind = it.kind; sort = it.sort; start = token.start; end = token.end }

-- the word of a token, where each named variable has a sort
abbrev pub word_of : List (Symbol × ℕ) → RuleToken → Word
word_of sorts token = placed (meant sorts token.kind) token
