-- What the tokens of a rule are to its cells.
use Rattle.std.specs.Prelude.{ℕ, ◌==◌, if◌then◌else◌, List, [], ◌∷◌, codes, map, Option, Some, None}
use Rattle.k_terms.specs.Sorts.{sort_bag}
use Rattle.production_reader.specs.Allowed.{same_text}
use Rattle.rule_tokens.specs.declared.token.RuleKind.{RuleKind}
use Rattle.rule_tokens.specs.declared.token.RuleKind.TheVariants as kind
use Rattle.rule_tokens.specs.declared.token.RuleToken.{RuleToken}
use Rattle.rule_cells.specs.declared.mark.Mark.{Mark}
use Rattle.rule_cells.specs.declared.mark.Mark.TheVariants.{Open, Close, Rewrite, Dots, Bag, Dot, LeftBracket, RightBracket, Other}

abbrev pub dot_mark : Option ℕ → Mark
dot_mark None = Dot
dot_mark (Some sort) = if sort == sort_bag then Bag else Other

abbrev pub terminal_mark : List ℕ → Mark
terminal_mark text = if same_text text (codes "(") then LeftBracket else (if same_text text (codes ")") then RightBracket else Other)

abbrev pub kind_mark : RuleKind → Mark
kind_mark (kind.Open cell) = Open cell
kind_mark (kind.Close cell) = Close cell
kind_mark kind.Rewrite = Rewrite
kind_mark kind.Dots = Dots
kind_mark (kind.Dot sort) = dot_mark sort
kind_mark (kind.Terminal text) = terminal_mark text
kind_mark kind.Then = Other
kind_mark kind.MapsTo = Other
kind_mark kind.ListItem = Other
kind_mark (kind.Literal value) = Other
kind_mark (kind.Variable name sort) = Other

abbrev pub marks : List RuleToken → List Mark
marks tokens = map (λ token. kind_mark token.kind) tokens
