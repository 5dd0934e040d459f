-- The declared cells of a definition, or why there are none.
use Rattle.std.specs.Prelude.{◌≡◌, ℕ, List, [], ◌∷◌, map, Some, None, slice_get}
use Rattle.std.specs.List.{flat_map}
use Rattle.k_lexer.specs.declared.token.Token.{Token}
use Rattle.grammar_terms.specs.Grammar.{Syntax}
use Rattle.file_reader.specs.declared.sentence.Sentence.{Sentence}
use Rattle.file_reader.specs.declared.sentence.Sentence.TheVariants.{Syntax as SyntaxOf, Config, Rule as RuleOf}
use Rattle.rule_terms.specs.declared.defs.CellShape.{CellShape}
use Rattle.cell_tokens.specs.declared.token.CellToken.{CellToken}
use Rattle.cell_tokens.specs.CellTokens.{IsCellSplit}
use Rattle.cell_trees.specs.declared.declared.Declared.{Declared}
use Rattle.cell_trees.specs.declared.declared.Declared.TheVariants.{Program}
use Rattle.cell_trees.specs.Trees.{Tree, kind_of}
use Rattle.cell_config.specs.declared.refusal.CellRefusal.{CellRefusal}
use Rattle.cell_config.specs.declared.division.ConfigCell.{ConfigCell}
use Rattle.cell_config.specs.declared.division.Division.{Division}
use Rattle.cell_config.specs.Divisions.{between, IsDivision}
use Rattle.cell_config.specs.Refusals.{refusal_of}

-- ---- the configurations among sentences

-- the tokens of the text of a configuration, from one number up to another
abbrev pub range_of : Sentence → List (ℕ × ℕ)
range_of (Config first past) = (first, past) ∷ []
range_of (SyntaxOf sort groups) = []
range_of (RuleOf at first past) = []

abbrev pub ranges_of : List Sentence → List (ℕ × ℕ)
ranges_of sentences = flat_map range_of sentences

-- the base tokens of each configuration
abbrev pub bases_of : List Token → List Sentence → List (List Token)
bases_of tokens sentences = map (λ range. between tokens range.0 range.1) (ranges_of sentences)

-- ---- what they are

module _ (g : Syntax) (text : List ℕ) where
  -- What a configuration of these base tokens is. The names go on by its words.
  pub record IsDivided (before : List (List ℕ)) (base : List Token) (after : List (List ℕ)) (division : Division) : Type 0 where
    pub tokens : List CellToken
    pub split : IsCellSplit g before text base after tokens
    pub is : IsDivision g text base tokens division

  -- each configuration, one after the other
  abbrev pub AreDivided : List (List ℕ) → List (List Token) → List (List ℕ) → List Division → Type 0
  AreDivided before [] after [] = after ≡ before
  AreDivided before [] after (division ∷ divisions) = ⊥
  AreDivided before (base ∷ bases) after [] = ⊥
  AreDivided before (base ∷ bases) after (division ∷ divisions) =
      (middle : List (List ℕ)) × IsDivided before base middle division × AreDivided middle bases after divisions

-- ---- the tree

abbrev pub shape_of : ConfigCell → CellShape
shape_of cell = record { name = cell.name; parent = cell.parent; many = cell.many; kind = kind_of cell.held }

-- the tree of these cells, in which a cell has the program
pub record IsTreeOf (cells : List ConfigCell) (tree : Tree) : Type 0 where
  pub shapes_are : tree.shapes ≡ map shape_of cells
  pub held_are : tree.held ≡ map (λ (cell : ConfigCell). cell.held) cells
  pub program : slice_get tree.held tree.k ≡ Some (Some (Program tree.sort))

module _ (g : Syntax) (before : List (List ℕ)) (text : List ℕ) (tokens : List Token) (sentences : List Sentence) (after : List (List ℕ)) where
  -- There is one configuration among the sentences, and nothing is wrong with it: these are its cells.
  pub record IsCells (tree : Tree) : Type 0 where
    pub division : Division
    pub divided : AreDivided g text before (bases_of tokens sentences) after (division ∷ [])
    pub fine : refusal_of (division ∷ []) ≡ None
    pub is : IsTreeOf division.cells tree

  -- The configurations are refused so.
  pub record IsCellRefusal (refusal : CellRefusal) : Type 0 where
    pub divisions : List Division
    pub divided : AreDivided g text before (bases_of tokens sentences) after divisions
    pub is : refusal_of divisions ≡ Some refusal
