-- Contents whose values may stand in a configuration.
use Rattle.std.specs.Prelude.{◌≡◌, ◌≤◌, ℕ, Bool, true, ◌&&◌, List, length, Some, IsTrue, slice_get}
use Rattle.std.specs.List.{AllByRecursion, list_all}
use Rattle.k_terms.specs.Sorts.{SortOrder}
use Rattle.k_terms.specs.declared.value.Value.{Value}
use Rattle.k_terms.specs.declared.value.Content.{Content}
use Rattle.k_terms.specs.declared.value.Content.TheVariants.{Cells, Seq, Map, List as Listed, One}
use Rattle.grammar_terms.specs.Grammar.{Syntax, order_of}
use Rattle.grammar_terms.specs.Values.{is_plain_value}
use Rattle.rule_terms.specs.InRange.{is_value_in_range}
use Rattle.rule_terms.specs.Kinds.{IsOfKind}
use Rattle.cell_tokens.specs.declared.token.CellKind.{CellKind}
use Rattle.cell_tokens.specs.declared.token.CellKind.TheVariants as kind
use Rattle.cell_tokens.specs.declared.token.CellToken.{CellToken}
use Rattle.cell_trees.specs.declared.declared.Declared.TheVariants.{Fixed}
use Rattle.cell_trees.specs.Trees.{Tree as Declaration, kind_of_content}
use Rattle.cell_contents.specs.Contents.{IsDeclared}

-- a literal is one of a program, or an identifier
abbrev pub has_plain_literal : CellKind → Bool
has_plain_literal (kind.Literal value) = is_plain_value value
has_plain_literal (kind.Open name many) = true
has_plain_literal (kind.Close name) = true
has_plain_literal (kind.Program sort) = true
has_plain_literal kind.Input = true
has_plain_literal kind.Then = true
has_plain_literal kind.MapsTo = true
has_plain_literal (kind.Dot sort) = true
has_plain_literal kind.ListItem = true
has_plain_literal kind.LeftBracket = true
has_plain_literal kind.RightBracket = true
has_plain_literal (kind.Terminal text) = true
has_plain_literal kind.Bad = true

abbrev pub HavePlainLiterals : List CellToken → Type 0
HavePlainLiterals tokens = AllByRecursion (λ (token : CellToken). has_plain_literal token.kind ≡ true) tokens

abbrev pub entry_in_range : SortOrder → Value × Value → Bool
entry_in_range o entry = is_value_in_range o entry.0 && is_value_in_range o entry.1

-- each production in a content is one of the definition's
abbrev pub is_content_in_range : SortOrder → Content → Bool
is_content_in_range o Cells = true
is_content_in_range o (Seq values) = list_all (is_value_in_range o) values
is_content_in_range o (Map entries) = list_all (entry_in_range o) entries
is_content_in_range o (Listed values) = list_all (is_value_in_range o) values
is_content_in_range o (One value) = is_value_in_range o value

-- A content is of its own kind, and its numbers are in range. A single value that is no literal is an item.
pub record IsSoundContent (o : SortOrder) (content : Content) : Type 0 where
  pub of_kind : IsOfKind o (kind_of_content content) content
  pub in_range : IsTrue (is_content_in_range o content)

-- each content that a cell declares is sound
abbrev pub AreSoundContents : SortOrder → Declaration → Type 0
AreSoundContents o d = (number : ℕ) (content : Content) → slice_get d.held number ≡ Some (Some (Fixed content)) → IsSoundContent o content

-- What tokens declare is sound, in a grammar without builtin productions.
abbrev pub ContentsAreSound : Type 0
ContentsAreSound =
    (g : Syntax) (tokens : List CellToken) (content : Content) → length g.prods ≤ g.declared → HavePlainLiterals tokens
    → IsDeclared g tokens (Fixed content) → IsSoundContent (order_of g) content
