-- What the tokens of a rule are where they stand for parts of terms.
use Rattle.std.specs.Prelude.{ℕ, ◌+◌, ◌==◌, Bool, false, List, [], ◌∷◌, Option, Some, None, slice_get, unwrap_or}
use Rattle.std.specs.List.{position_from}
use Rattle.k_terms.specs.declared.value.Symbol.{Symbol}
use Rattle.grammar_terms.specs.declared.word.Word.{Word}
use Rattle.grammar_terms.specs.declared.word.WordKind.TheVariants.{Terminal as TerminalWord, Literal as LiteralWord, Variable as VariableWord, Wild, EmptyList}
use Rattle.rule_tokens.specs.declared.token.RuleKind.{RuleKind}
use Rattle.rule_tokens.specs.declared.token.RuleKind.TheVariants.{Open, Close, Rewrite, Then, MapsTo, Dots, Dot, ListItem, Terminal, Literal, Variable}
use Rattle.rule_tokens.specs.declared.token.RuleToken.{RuleToken}
use Rattle.rule_parts.specs.declared.leaves.LeafKind.{LeafKind}
use Rattle.rule_parts.specs.declared.leaves.LeafKind.TheVariants.{Variable as VariableLeaf, Literal as LiteralLeaf, Other}
use Rattle.rule_parts.specs.declared.leaves.Leaf.{Leaf}

-- the name of a token that is a variable with one
abbrev pub name_in : RuleKind → Option Symbol
name_in (Variable name sort) = name
name_in (Open cell) = None
name_in (Close cell) = None
name_in Rewrite = None
name_in Then = None
name_in MapsTo = None
name_in Dots = None
name_in (Dot sort) = None
name_in ListItem = None
name_in (Terminal text) = None
name_in (Literal value) = None

abbrev pub is_same_name : Symbol → Option Symbol → Bool
is_same_name name None = false
is_same_name name (Some other) = other.0 == name.0

-- a token is a variable of a name
abbrev pub is_of_name : Symbol → RuleToken → Bool
is_of_name name token = is_same_name name (name_in token.kind)

-- the first token of a name
abbrev pub named_home : List RuleToken → Symbol → ℕ → ℕ
named_home tokens name at = unwrap_or (position_from (is_of_name name) 0 tokens) at

abbrev pub home_by : List RuleToken → ℕ → Option Symbol → ℕ
home_by tokens at None = at
home_by tokens at (Some name) = named_home tokens name at

-- A variable is told by its first token: that of its name, and where it has none the token itself.
abbrev pub home_of : List RuleToken → ℕ → ℕ
home_of tokens at = elim (slice_get tokens at) [ None ↦ at | Some token ↦ home_by tokens at (name_in token.kind) ]

-- what the token of a word is
abbrev pub leaf_kind : List RuleToken → ℕ → Word → LeafKind
leaf_kind tokens at word =
    elim word.kind [
      | VariableWord ↦ VariableLeaf (home_of tokens at) (Some word.sort)
      | Wild ↦ VariableLeaf (home_of tokens at) None
      | LiteralWord value ↦ LiteralLeaf value
      | TerminalWord text ↦ Other
      | EmptyList ↦ Other
    ]

abbrev pub leaf_of : List RuleToken → ℕ → Word → Leaf
leaf_of tokens at word = record { at = at; kind = leaf_kind tokens at word }

-- what the tokens of words are, from the token `at` on
abbrev pub leaves_from : List RuleToken → ℕ → List Word → List Leaf
leaves_from tokens at [] = []
leaves_from tokens at (word ∷ words) = leaf_of tokens at word ∷ leaves_from tokens (at + 1) words

-- what the tokens are
abbrev pub leaves_of : List RuleToken → List Word → List Leaf
leaves_of tokens words = leaves_from tokens 0 words
