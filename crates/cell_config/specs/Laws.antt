-- The laws of declared cells.
use Rattle.std.specs.Prelude.{◌≡◌, ◌≤◌, ℕ, List, length}
use Rattle.k_lexer.specs.declared.token.Token.{Token}
use Rattle.grammar_terms.specs.Grammar.{Syntax, order_of}
use Rattle.file_reader.specs.declared.sentence.Sentence.{Sentence}
use Rattle.cell_trees.specs.Trees.{Tree}
use Rattle.cell_contents.specs.Soundness.{AreSoundContents}
use Rattle.cell_config.specs.declared.refusal.CellRefusal.{CellRefusal}
use Rattle.cell_config.specs.Cells.{IsCells, IsCellRefusal}

-- the configurations are one tree
abbrev pub HasOneTree : Type 0
HasOneTree =
    (g : Syntax) (before : List (List ℕ)) (text : List ℕ) (tokens : List Token) (sentences : List Sentence) (after later : List (List ℕ)) (one other : Tree)
    → IsCells g before text tokens sentences after one → IsCells g before text tokens sentences later other → (after ≡ later) × (one ≡ other)

-- or they have one refusal
abbrev pub HasOneRefusal : Type 0
HasOneRefusal =
    (g : Syntax) (before : List (List ℕ)) (text : List ℕ) (tokens : List Token) (sentences : List Sentence) (after later : List (List ℕ)) (one other : CellRefusal)
    → IsCellRefusal g before text tokens sentences after one → IsCellRefusal g before text tokens sentences later other → (after ≡ later) × (one ≡ other)

-- never both
abbrev pub HasNotBoth : Type 0
HasNotBoth =
    (g : Syntax) (before : List (List ℕ)) (text : List ℕ) (tokens : List Token) (sentences : List Sentence) (after later : List (List ℕ)) (tree : Tree) (refusal : CellRefusal)
    → IsCells g before text tokens sentences after tree → IsCellRefusal g before text tokens sentences later refusal → ⊥

-- The cells of a definition, in a grammar without builtin productions, have sound contents.
abbrev pub AreDeclaredSoundly : Type 0
AreDeclaredSoundly =
    (g : Syntax) (before : List (List ℕ)) (text : List ℕ) (tokens : List Token) (sentences : List Sentence) (after : List (List ℕ)) (tree : Tree)
    → length g.prods ≤ g.declared → IsCells g before text tokens sentences after tree → AreSoundContents (order_of g) tree
