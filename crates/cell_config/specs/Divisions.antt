-- What the text of a configuration is: its cells with what they declare, and the first place at which it is none of a
-- configuration, if there is one.
use Rattle.std.specs.Prelude.{◌≡◌, ◌⊎◌, ℕ, ◌+◌, ◌-◌, ◌==◌, ◌&&◌, cond, Bool, List, [], ◌∷◌, ◌++◌, map, take, drop, fold, Option, Some, None, slice_get}
use Rattle.std.specs.List.{AllZip}
use Rattle.std.specs.Option.{option_and_then}
use Rattle.k_lexer.specs.declared.token.Token.{Token}
use Rattle.grammar_terms.specs.Grammar.{Syntax}
use Rattle.program_tokens.specs.Base.{bytes_of}
use Rattle.cell_forms.specs.declared.form.Sign.{Sign}
use Rattle.cell_forms.specs.declared.form.Sign.TheVariants as sign
use Rattle.cell_forms.specs.declared.form.CellForm.{CellForm}
use Rattle.cell_forms.specs.declared.form.Stop.{Stop}
use Rattle.cell_forms.specs.Forms.{IsForm, IsStop}
use Rattle.cell_tokens.specs.declared.token.CellKind.{CellKind}
use Rattle.cell_tokens.specs.declared.token.CellKind.TheVariants as kind
use Rattle.cell_tokens.specs.declared.token.CellToken.{CellToken}
use Rattle.cell_tokens.specs.Signs.{is_word}
use Rattle.cell_tokens.specs.Tags.{is_mark_at}
use Rattle.cell_trees.specs.declared.declared.Declared.{Declared}
use Rattle.cell_contents.specs.declared.fault.ContentFault.TheVariants.{NoContent}
use Rattle.cell_contents.specs.Contents.{IsDeclared, IsContentFault}
use Rattle.cell_config.specs.declared.division.ConfigCell.{ConfigCell}
use Rattle.cell_config.specs.declared.division.Place.{Place}
use Rattle.cell_config.specs.declared.division.Division.{Division}

-- a part of a list, from one number up to another
abbrev pub between : {A : Type 0} → List A → ℕ → ℕ → List A
between xs first past = take (past - first) (drop first xs)

-- ---- tokens

-- what a token is to cells
abbrev pub sign_of : CellKind → Sign
sign_of (kind.Open name many) = sign.Open name many
sign_of (kind.Close name) = sign.Close name
sign_of (kind.Program sort) = sign.Other
sign_of kind.Input = sign.Other
sign_of kind.Then = sign.Other
sign_of kind.MapsTo = sign.Other
sign_of (kind.Dot sort) = sign.Other
sign_of kind.ListItem = sign.Other
sign_of kind.LeftBracket = sign.Other
sign_of kind.RightBracket = sign.Other
sign_of (kind.Terminal text) = sign.Other
sign_of (kind.Literal value) = sign.Other
sign_of kind.Bad = sign.Other

abbrev pub signs_of : List CellToken → List Sign
signs_of tokens = map (λ (token : CellToken). sign_of token.kind) tokens

-- the base tokens behind the first tokens
abbrev pub base_behind : List Token → List CellToken → List Token
base_behind base tokens = fold (λ (rest : List Token) (token : CellToken). drop token.size rest) base tokens

-- a word directly behind a `<`
abbrev pub is_begun : List ℕ → Token → Token → Bool
is_begun text mark word = is_mark_at text 60 mark.start mark && ((word.start == mark.end) && is_word word.kind)

-- the name in an opening tag, whole or not, with which base tokens begin
abbrev pub begun_name : List ℕ → List Token → Option (List ℕ)
begun_name text [] = None
begun_name text (mark ∷ []) = None
begun_name text (mark ∷ word ∷ base) = cond (is_begun text mark word) (Some (bytes_of text word)) None

-- ---- what cells hold

-- cells, or a content that declares something; a content that has not ended is not asked
abbrev pub Holds : Syntax → List CellToken → Option (ℕ × ℕ) → Option Declared → Type 0
Holds g tokens None None = Unit {0}
Holds g tokens None (Some declared) = ⊥
Holds g tokens (Some range) None = ⊥
Holds g tokens (Some range) (Some declared) = IsDeclared g (between tokens range.0 range.1) declared

-- the cell of a form that declares this
abbrev pub cell_of : CellForm → Option Declared → ConfigCell
cell_of form held = record { name = form.name; parent = form.parent; many = form.many; held = held }

pub record IsCellOf (g : Syntax) (tokens : List CellToken) (form : CellForm) (cell : ConfigCell) : Type 0 where
  pub holds : Holds g tokens form.content cell.held
  pub is : cell ≡ cell_of form cell.held

abbrev pub AreCellsOf : Syntax → List CellToken → List CellForm → List ConfigCell → Type 0
AreCellsOf g tokens forms cells = AllZip (IsCellOf g tokens) forms cells

-- a cell whose content is none
pub record HasNoContent (g : Syntax) (tokens : List CellToken) (form : CellForm) : Type 0 where
  pub range : ℕ × ℕ
  pub is : form.content ≡ Some range
  pub none : IsContentFault g (between tokens range.0 range.1) NoContent

-- the content of the cell of this number is the first that is none; these are the cells up to it
pub record IsBadAt (g : Syntax) (tokens : List CellToken) (forms : List CellForm) (number : ℕ) (cells : List ConfigCell) : Type 0 where
  pub form : CellForm
  pub at : slice_get forms number ≡ Some form
  pub none : HasNoContent g tokens form
  pub before : List ConfigCell
  pub hold : AreCellsOf g tokens (take number forms) before
  pub cells_are : cells ≡ before ++ cell_of form None ∷ []

-- ---- where the text is none of a configuration

abbrev pub cell_at : List CellForm → Option ℕ → Option CellForm
cell_at forms inside = option_and_then (slice_get forms) inside

-- the name of the innermost open cell, empty where no cell is open
abbrev pub name_in : Option CellForm → List ℕ
name_in None = []
name_in (Some form) = form.name

-- the name that is begun where the content of a cell begins
abbrev pub begun_in : List ℕ → List Token → List CellToken → Option CellForm → Option (List ℕ)
begun_in text base tokens None = None
begun_in text base tokens (Some form) = begun_name text (base_behind base (take (form.tag + 1) tokens))

-- at the content of a cell
abbrev pub content_place : List ℕ → List Token → List CellToken → Option CellForm → Place
content_place text base tokens cell = record { inside = name_in cell; begun = begun_in text base tokens cell }

-- Where cells stop: at that place where the tag of a cell could stand there, else at the content that has not ended.
abbrev pub stop_place : List ℕ → List Token → List CellToken → Stop → Place
stop_place text base tokens stop =
    cond stop.takes_cell (record { inside = name_in (cell_at stop.cells stop.inside); begun = begun_name text (base_behind base (take stop.at tokens)) })
    (content_place text base tokens (cell_at stop.cells stop.inside))

-- ---- the whole

-- the text is a configuration
pub record IsWhole (g : Syntax) (tokens : List CellToken) (division : Division) : Type 0 where
  pub forms : List CellForm
  pub form : IsForm (signs_of tokens) forms
  pub cells : AreCellsOf g tokens forms division.cells
  pub no_place : division.place ≡ None

-- its cells stop, and all contents that have ended there are contents
pub record IsStopped (g : Syntax) (text : List ℕ) (base : List Token) (tokens : List CellToken) (division : Division) : Type 0 where
  pub stop : Stop
  pub is_stop : IsStop (signs_of tokens) stop
  pub cells : AreCellsOf g tokens stop.cells division.cells
  pub place_is : division.place ≡ Some (stop_place text base tokens stop)

-- the cells of the tokens, all or up to where they stop
abbrev pub AreForms : List CellToken → List CellForm → Type 0
AreForms tokens forms = IsForm (signs_of tokens) forms ⊎ ((stop : Stop) × IsStop (signs_of tokens) stop × (forms ≡ stop.cells))

-- the content of one of these is none
pub record IsBad (g : Syntax) (text : List ℕ) (base : List Token) (tokens : List CellToken) (division : Division) : Type 0 where
  pub forms : List CellForm
  pub are : AreForms tokens forms
  pub number : ℕ
  pub bad : IsBadAt g tokens forms number division.cells
  pub place_is : division.place ≡ Some (content_place text base tokens (cell_at forms (Some number)))

-- What the tokens of a configuration are. Its first place that is none is told with the cells whose opening tags stand before it.
abbrev pub IsDivision : Syntax → List ℕ → List Token → List CellToken → Division → Type 0
IsDivision g text base tokens division = IsWhole g tokens division ⊎ IsStopped g text base tokens division ⊎ IsBad g text base tokens division
