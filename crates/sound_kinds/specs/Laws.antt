-- The law of the kinds of a draft's cells.
use Rattle.std.specs.Prelude.{ℕ, List, ◌++◌, Contains}
use Rattle.k_lexer.specs.declared.token.Token.{Token}
use Rattle.file_reader.specs.declared.sentence.Sentence.{Sentence}
use Rattle.grammar_terms.specs.Builtins.{with_builtins}
use Rattle.grammar_terms.specs.Grammar.{order_of}
use Rattle.definition_syntax.specs.declared.syntax.Definition.{Definition}
use Rattle.definition_syntax.specs.Syntaxes.{IsDefinition}
use Rattle.rule_terms.specs.declared.rule.Draft.{Draft}
use Rattle.rule_terms.specs.Spots.{Spot}
use Rattle.rule_reader.specs.Rules.{IsRule}
use Rattle.strictness.specs.SoundDrafts.{spots_of}
use Rattle.cell_trees.specs.Trees.{Tree as Declaration, IsTree}
use Rattle.completed_rules.specs.Fits.{IsOfItsKind}
use Rattle.sound_kinds.specs.Literals.{DeclaresLiterals}

-- Each cell of the draft of a rule over the grammar of a definition, for rules, is of its declared kind, and a single value is of the cell's sort. The
-- single values that are declared are literals.
abbrev pub IsOfKinds : Type 0
IsOfKinds =
    (text : List ℕ) (definition : Definition) (d : Declaration) (before : List (List ℕ)) (tokens : List Token) (rule : Sentence) (after : List (List ℕ)) (draft : Draft)
    → IsDefinition text definition → IsTree d → DeclaresLiterals d → IsRule (with_builtins definition.grammar) d.shapes before text tokens rule after draft
    → (p : Spot) → Contains (spots_of draft.left ++ spots_of draft.right) p → IsOfItsKind d (order_of definition.grammar) draft.vars p
