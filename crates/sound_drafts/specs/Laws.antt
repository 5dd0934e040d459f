-- The laws of drafts that fit declared cells.
use Rattle.std.specs.Prelude.{◌≡◌, ℕ, ◌<◌, ◌||◌, not, List, ◌++◌, length, map, filter, Some, None, IsTrue, Contains, slice_get}
use Rattle.k_terms.specs.Sorts.{sort_bag}
use Rattle.k_lexer.specs.declared.token.Token.{Token}
use Rattle.grammar_terms.specs.Builtins.{with_builtins}
use Rattle.grammar_terms.specs.Grammar.{Syntax, order_of}
use Rattle.sorted_grammar.specs.Sorting.{IsGrammar}
use Rattle.file_reader.specs.declared.sentence.Sentence.{Sentence}
use Rattle.rule_terms.specs.declared.defs.CellShape.{CellShape}
use Rattle.rule_terms.specs.declared.rule.Draft.{Draft}
use Rattle.rule_terms.specs.Numbers.{all_different}
use Rattle.rule_terms.specs.Sound.{cells_rest, side_mentions, conditions_mention}
use Rattle.rule_terms.specs.Spots.{Spot}
use Rattle.rule_reader.specs.Rules.{IsRule}
use Rattle.strictness.specs.Drafts.{strict_drafts}
use Rattle.strictness.specs.SoundDrafts.{spots_of}
use Rattle.cell_trees.specs.Trees.{Tree as Declaration, IsTree}
use Rattle.rule_completion.specs.Writing.{is_new}
use Rattle.completed_rules.specs.Fits.{occurs_beside, FitsCells}

-- the rules of heating and cooling over the cell of programs
abbrev pub StrictFit : Type 0
StrictFit = (d : Declaration) (g : Syntax) (draft : Draft) → IsTree d → Contains (strict_drafts g d.k) draft → FitsCells d (order_of g) draft

-- What is asked of the cells of a draft and of no content: each is declared, marks differ on a side, a cell of both sides is one and stands in one
-- cell, a new one has no rest of cells, and a rest of cells has the sort of such rests.
pub record HasFitCells (d : Declaration) (draft : Draft) : Type 0 where
  pub left_marks : IsTrue (all_different (map (λ (p : Spot). p.mark) (spots_of draft.left)))
  pub right_marks : IsTrue (all_different (map (λ (p : Spot). p.mark) (spots_of draft.right)))
  pub staying : (p q : Spot) → Contains (spots_of draft.left) p → Contains (spots_of draft.right) q → p.mark ≡ q.mark
      → (p.cell ≡ q.cell) × (cells_rest p.body ≡ cells_rest q.body)
  pub above : (p q : Spot) → Contains (spots_of draft.left) p → Contains (spots_of draft.right) q → p.mark ≡ q.mark → p.above ≡ q.above
  pub new_closed : (q : Spot) → Contains (filter (is_new draft) (spots_of draft.right)) q → cells_rest q.body ≡ None
  pub bag_sorts : (p : Spot) (x : ℕ) → Contains (spots_of draft.left) p → cells_rest p.body ≡ Some x → slice_get draft.vars x ≡ Some sort_bag
  pub declared : (p : Spot) → Contains (spots_of draft.left ++ spots_of draft.right) p → (shape : CellShape) × (slice_get d.shapes p.cell ≡ Some shape)

-- the draft of a rule over declared cells
abbrev pub CellsFit : Type 0
CellsFit =
    (d : Declaration) (g : Syntax) (before : List (List ℕ)) (text : List ℕ) (tokens : List Token) (rule : Sentence) (after : List (List ℕ)) (draft : Draft)
    → IsTree d → IsRule g d.shapes before text tokens rule after draft → HasFitCells d draft

-- What is asked of the variables of a draft: each that stands anywhere is declared, and a rest of cells has the sort of such rests and stands in its cell alone.
pub record HasKnownVariables (draft : Draft) : Type 0 where
  pub known : (x : ℕ) → IsTrue (side_mentions x (spots_of draft.left ++ spots_of draft.right) || conditions_mention x draft.when) → x < length draft.vars
  pub rests : (p : Spot) (x : ℕ) → Contains (spots_of draft.left) p → cells_rest p.body ≡ Some x
      → (slice_get draft.vars x ≡ Some sort_bag) × IsTrue (not (occurs_beside draft p.mark x))

-- the draft of a rule over declared cells
abbrev pub KnowsItsVariables : Type 0
KnowsItsVariables =
    (d : Declaration) (g : Syntax) (before : List (List ℕ)) (text : List ℕ) (tokens : List Token) (rule : Sentence) (after : List (List ℕ)) (draft : Draft)
    → IsTree d → IsRule g d.shapes before text tokens rule after draft → HasKnownVariables draft

-- each variable of a draft stands on the left
abbrev pub HasBoundVariables : Draft → Type 0
HasBoundVariables draft = (x : ℕ) → x < length draft.vars → IsTrue (side_mentions x (spots_of draft.left))

-- the draft of a rule over declared cells and the grammar of a definition: its sorts have names, so that no sort of contents is one of them
abbrev pub BindsItsVariables : Type 0
BindsItsVariables =
    (sentences : List Sentence) (grammar : Syntax) (d : Declaration) (before : List (List ℕ)) (text : List ℕ) (tokens : List Token) (rule : Sentence)
    (after : List (List ℕ)) (draft : Draft)
    → IsGrammar sentences grammar → IsTree d → IsRule (with_builtins grammar) d.shapes before text tokens rule after draft → HasBoundVariables draft
