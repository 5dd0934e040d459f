-- How the text of a rule is divided.
use Rattle.std.specs.Prelude.{◌≡◌, ℕ, ◌+◌, ◌-◌, ◌<◌, ◌||◌, ◌&&◌, suc, if◌then◌else◌, Bool, true, false, List, [], ◌∷◌, ◌++◌, length, take, Option, Some, None, option_map, unwrap_or, codes, ◌⊎◌}
use Rattle.std.specs.List.{list_any, position_from}
use Rattle.std.specs.Option.{option_map_or}
use Rattle.std.specs.Prelude.{slice_get}
use Rattle.k_terms.specs.declared.value.Value.{Value, Int, Bool as Truth, Str, Id, Node', Items', Seq', Map', List', Freezer'}
use Rattle.production_reader.specs.Allowed.{same_text}
use Rattle.production_reader.specs.Lexemes.{span}
use Rattle.rule_terms.specs.declared.defs.CellShape.{CellShape}
use Rattle.rule_tokens.specs.declared.token.RuleKind.{RuleKind}
use Rattle.rule_tokens.specs.declared.token.RuleKind.TheVariants as kind
use Rattle.rule_tokens.specs.declared.token.RuleToken.{RuleToken}
use Rattle.rule_cells.specs.declared.form.FormFault.{FormFault}
use Rattle.rule_cells.specs.declared.form.FormFault.TheVariants.{NoReading, Memory}
use Rattle.rule_cells.specs.declared.form.Inside.{Inside, Cells, Content}
use Rattle.rule_cells.specs.declared.form.RuleForm.{RuleForm}
use Rattle.rule_cells.specs.declared.mark.Mark.{Mark}
use Rattle.rule_cells.specs.declared.mark.Mark.TheVariants.{Open, Close, Rewrite, Dots, Bag, Dot, LeftBracket, RightBracket, Other}
use Rattle.rule_cells.specs.Marks.{marks}
use Rattle.rule_cells.specs.Written.{Side, signs_of_side, IsSide, side_at}

-- ---- the condition

abbrev pub is_identifier : Value → Bool
is_identifier (Id symbol) = true
is_identifier (Int number) = false
is_identifier (Truth truth) = false
is_identifier (Str text) = false
is_identifier (Node' _ _ _) = false
is_identifier (Items' _ _ _) = false
is_identifier (Seq' _ _) = false
is_identifier (Map' _ _) = false
is_identifier (List' _ _) = false
is_identifier (Freezer' _ _ _ _) = false

abbrev pub is_word : RuleKind → Bool
is_word (kind.Literal value) = is_identifier value
is_word (kind.Open cell) = false
is_word (kind.Close cell) = false
is_word kind.Rewrite = false
is_word kind.Then = false
is_word kind.MapsTo = false
is_word kind.Dots = false
is_word (kind.Dot sort) = false
is_word kind.ListItem = false
is_word (kind.Terminal text) = false
is_word (kind.Variable name sort) = false

abbrev pub is_when : List ℕ → Bool
is_when word = same_text word (codes "when") || same_text word (codes "requires")

-- the token is the word `when` or `requires`
abbrev pub begins_condition : List ℕ → RuleToken → Bool
begins_condition text token = is_word token.kind && is_when (span text token.start token.end)

-- the number of the first such token, if there is one
abbrev pub condition_word : List ℕ → List RuleToken → Option ℕ
condition_word text tokens = position_from (begins_condition text) 0 tokens

-- the tokens of the condition, from one up to another
abbrev pub condition_of : List ℕ → List RuleToken → Option (ℕ × ℕ)
condition_of text tokens = option_map (λ n. (n + 1, length tokens)) (condition_word text tokens)

-- the tokens before it
abbrev pub body_of : List ℕ → List RuleToken → List RuleToken
body_of text tokens = take (unwrap_or (condition_word text tokens) (length tokens)) tokens

-- ---- the body

-- a tag or `.Bag`
abbrev pub is_of_bag : Mark → Bool
is_of_bag (Open cell) = true
is_of_bag (Close cell) = true
is_of_bag Bag = true
is_of_bag Rewrite = false
is_of_bag Dots = false
is_of_bag Dot = false
is_of_bag LeftBracket = false
is_of_bag RightBracket = false
is_of_bag Other = false

-- these tokens are this side
pub record IsWritten (cells : List CellShape) (signs : List Mark) (side : Side) : Type 0 where
  pub allowed : IsSide cells side
  pub signs_are : signs_of_side side ≡ signs

-- some body of cells begins with these tokens
pub record Begins (cells : List CellShape) (signs : List Mark) : Type 0 where
  pub side : Side
  pub more : List Mark
  pub written : IsWritten cells (signs ++ more) side

-- what a body of these tokens is: cells exactly where it has a tag or `.Bag`, else one content
abbrev pub IsBodyBy : List CellShape → List Mark → Bool → Inside → Type 0
IsBodyBy cells signs true body = (side : Side) × IsWritten cells signs side × (body ≡ Cells (side_at 0 side))
IsBodyBy cells signs false body = body ≡ Content 0 (length signs)

abbrev pub IsBody : List CellShape → List Mark → Inside → Type 0
IsBody cells signs body = IsBodyBy cells signs (list_any is_of_bag signs) body

abbrev pub IsForm : List CellShape → List ℕ → List RuleToken → RuleForm → Type 0
IsForm cells text tokens form = IsBody cells (marks (body_of text tokens)) form.body × (form.condition ≡ condition_of text tokens)

-- ---- no reading

abbrev pub start_of : List RuleToken → ℕ → ℕ
start_of tokens at = option_map_or (λ (token : RuleToken). token.start) (slice_get tokens at) 0

-- where the last token ends
abbrev pub end_of : List RuleToken → ℕ
end_of tokens = option_map_or (λ (token : RuleToken). token.end) (slice_get tokens (length tokens - 1)) 0

-- a body of cells can begin with the tokens up to the one of this number, and none begins with this one behind them
pub record StopsAt (cells : List CellShape) (tokens : List RuleToken) (at number : ℕ) : Type 0 where
  pub within : number < length tokens
  pub place : at ≡ start_of tokens number
  pub begins : Begins cells (take number (marks tokens))
  pub none : Begins cells (take (number + 1) (marks tokens)) → ⊥

-- a body of cells can begin with all the tokens, and they are none: a tag or a bracket is open
pub record StaysOpen (cells : List CellShape) (tokens : List RuleToken) (at : ℕ) : Type 0 where
  pub place : at ≡ end_of tokens
  pub begins : Begins cells (marks tokens)
  pub none : (side : Side) → IsWritten cells (marks tokens) side → ⊥

abbrev pub IsNoReading : List CellShape → List RuleToken → ℕ → Type 0
IsNoReading cells tokens at = (list_any is_of_bag (marks tokens) ≡ true) × (((number : ℕ) × StopsAt cells tokens at number) ⊎ StaysOpen cells tokens at)

abbrev pub IsBodyFault : List CellShape → List RuleToken → FormFault → Type 0
IsBodyFault cells tokens (NoReading at) = IsNoReading cells tokens at
IsBodyFault cells tokens Memory = Unit {0}

abbrev pub IsFormFault : List CellShape → List ℕ → List RuleToken → FormFault → Type 0
IsFormFault cells text tokens fault = IsBodyFault cells (body_of text tokens) fault
