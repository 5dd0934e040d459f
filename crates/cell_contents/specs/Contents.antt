-- What a cell of a configuration holds.
use Rattle.std.specs.Prelude.{◌≡◌, ℕ, ◌==◌, cond, List, [], ◌∷◌, Option, Some, None}
use Rattle.k_terms.specs.Sorts.{sort_k, sort_map}
use Rattle.k_terms.specs.declared.value.Value.{Value, Int, Bool as Truth, Str, Id, Node', Items', Seq' as Sequence', Map' as Mapped', List' as Listed', Freezer'}
use Rattle.k_terms.specs.declared.value.Content.{Content}
use Rattle.k_terms.specs.declared.value.Content.TheVariants.{Seq, Map, List as Listed, One}
use Rattle.grammar_terms.specs.Grammar.{Syntax}
use Rattle.cell_tokens.specs.declared.token.CellKind.{CellKind}
use Rattle.cell_tokens.specs.declared.token.CellKind.TheVariants as kind
use Rattle.cell_tokens.specs.declared.token.CellToken.{CellToken}
use Rattle.cell_trees.specs.declared.declared.Declared.{Declared}
use Rattle.cell_trees.specs.declared.declared.Declared.TheVariants.{Program, Input, Fixed}
use Rattle.cell_contents.specs.declared.fault.ContentFault.{ContentFault}
use Rattle.cell_contents.specs.declared.fault.ContentFault.TheVariants.{NoContent, Memory}
use Rattle.cell_contents.specs.Words.{words_of}
use Rattle.cell_contents.specs.Readings.{IsContent}

-- ---- one token

-- `.` and `.K`, `.Map`, `.List`
abbrev pub empty_of : Option ℕ → Content
empty_of None = Seq []
empty_of (Some sort) = cond (sort == sort_k) (Seq []) (cond (sort == sort_map) (Map []) (Listed []))

-- a literal makes a cell of one value; an identifier is an item
abbrev pub literal_alone : Value → Option Declared
literal_alone (Int number) = Some (Fixed (One (Int number)))
literal_alone (Truth truth) = Some (Fixed (One (Truth truth)))
literal_alone (Str text) = Some (Fixed (One (Str text)))
literal_alone (Id symbol) = None
literal_alone (Node' _ _ _) = None
literal_alone (Items' _ _ _) = None
literal_alone (Sequence' _ _) = None
literal_alone (Mapped' _ _) = None
literal_alone (Listed' _ _) = None
literal_alone (Freezer' _ _ _ _) = None

abbrev pub token_alone : CellKind → Option Declared
token_alone (kind.Program sort) = Some (Program sort)
token_alone kind.Input = Some Input
token_alone (kind.Dot sort) = Some (Fixed (empty_of sort))
token_alone (kind.Literal value) = literal_alone value
token_alone (kind.Open name many) = None
token_alone (kind.Close name) = None
token_alone kind.Then = None
token_alone kind.MapsTo = None
token_alone kind.ListItem = None
token_alone kind.LeftBracket = None
token_alone kind.RightBracket = None
token_alone (kind.Terminal text) = None
token_alone kind.Bad = None

abbrev pub alone : List CellToken → Option Declared
alone (token ∷ []) = token_alone token.kind
alone _ = None

-- ---- more

abbrev pub IsRest : Syntax → List CellToken → Declared → Type 0
IsRest g tokens (Fixed content) = IsContent g (words_of tokens) content
IsRest g tokens (Program sort) = ⊥
IsRest g tokens Input = ⊥

abbrev pub IsDeclaredBy : Option Declared → Syntax → List CellToken → Declared → Type 0
IsDeclaredBy (Some one) g tokens declared = declared ≡ one
IsDeclaredBy None g tokens declared = IsRest g tokens declared

-- what the tokens of a content declare
abbrev pub IsDeclared : Syntax → List CellToken → Declared → Type 0
IsDeclared g tokens declared = IsDeclaredBy (alone tokens) g tokens declared

-- they are none of these forms
abbrev pub IsContentFault : Syntax → List CellToken → ContentFault → Type 0
IsContentFault g tokens NoContent = (declared : Declared) → IsDeclared g tokens declared → ⊥
IsContentFault g tokens Memory = Unit {0}
