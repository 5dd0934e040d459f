-- The laws of contents.
use Rattle.std.specs.Prelude.{◌≡◌, List}
use Rattle.grammar_terms.specs.Grammar.{Syntax}
use Rattle.cell_tokens.specs.declared.token.CellToken.{CellToken}
use Rattle.cell_trees.specs.declared.declared.Declared.{Declared}
use Rattle.cell_contents.specs.declared.fault.ContentFault.TheVariants.{NoContent}
use Rattle.cell_contents.specs.Contents.{IsDeclared, IsContentFault}

-- tokens declare one thing at most
abbrev pub DeclareOne : Type 0
DeclareOne =
    (g : Syntax) (tokens : List CellToken) (one other : Declared) → IsDeclared g tokens one → IsDeclared g tokens other → one ≡ other

-- and none where they are no content
abbrev pub HaveNotBoth : Type 0
HaveNotBoth = (g : Syntax) (tokens : List CellToken) (declared : Declared) → IsDeclared g tokens declared → IsContentFault g tokens NoContent → ⊥
