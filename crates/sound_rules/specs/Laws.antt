-- The laws of the rules of a definition.
use Rattle.std.specs.Prelude.{◌≡◌, ℕ, List, Contains}
use Rattle.k_lexer.specs.declared.token.Token.{Token}
use Rattle.grammar_terms.specs.Grammar.{Syntax, order_of}
use Rattle.grammar_terms.specs.Builtins.{with_builtins}
use Rattle.file_reader.specs.declared.sentence.Sentence.{Sentence}
use Rattle.definition_syntax.specs.declared.syntax.Definition.{Definition}
use Rattle.definition_syntax.specs.Syntaxes.{IsDefinition}
use Rattle.rule_terms.specs.declared.rule.Draft.{Draft}
use Rattle.rule_terms.specs.declared.rule.Rule.{Rule}
use Rattle.rule_terms.specs.Language.{Language}
use Rattle.rule_terms.specs.Sound.{IsSoundRule}
use Rattle.rule_reader.specs.Rules.{IsRule}
use Rattle.strictness.specs.Places.{declared_in, HaveNoBadPlace}
use Rattle.strictness.specs.Drafts.{strict_drafts}
use Rattle.cell_trees.specs.Trees.{Tree as Declaration, IsTree}
use Rattle.cell_contents.specs.Soundness.{AreSoundContents}
use Rattle.cell_config.specs.Cells.{IsCells}
use Rattle.sound_kinds.specs.Literals.{DeclaresLiterals}
use Rattle.rule_completion.specs.Rules.{IsCompleted}

-- A language is that of a grammar and of declared cells whose contents are sound, single values being literals; its rules and labels are
-- not asked.
pub record IsLanguageOf (g : Syntax) (d : Declaration) (language : Language) : Type 0 where
  pub tree : IsTree d
  pub contents : AreSoundContents (order_of g) d
  pub literals : DeclaresLiterals d
  pub sorts : language.sorts ≡ order_of g
  pub cells : language.cells ≡ d.shapes

-- each rule that a text writes is sound
abbrev pub WrittenRulesAreSound : Type 0
WrittenRulesAreSound =
    (text : List ℕ) (definition : Definition) (d : Declaration) (language : Language)
    (before : List (List ℕ)) (tokens : List Token) (sentence : Sentence) (after : List (List ℕ)) (draft : Draft) (rule : Rule)
    → IsDefinition text definition → IsLanguageOf definition.grammar d language
    → IsRule (with_builtins definition.grammar) d.shapes before text tokens sentence after draft → IsCompleted d draft rule → IsSoundRule language rule

-- and so are those of heating and cooling
abbrev pub StrictRulesAreSound : Type 0
StrictRulesAreSound =
    (g : Syntax) (d : Declaration) (language : Language) (draft : Draft) (rule : Rule)
    → HaveNoBadPlace (declared_in g) → IsLanguageOf g d language
    → Contains (strict_drafts g d.k) draft → IsCompleted d draft rule → IsSoundRule language rule

-- the single values that cells declare are literals
abbrev pub CellsDeclareLiterals : Type 0
CellsDeclareLiterals =
    (g : Syntax) (before : List (List ℕ)) (text : List ℕ) (tokens : List Token) (sentences : List Sentence) (after : List (List ℕ)) (tree : Declaration)
    → IsCells g before text tokens sentences after tree → DeclaresLiterals tree
