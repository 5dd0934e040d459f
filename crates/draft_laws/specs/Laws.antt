-- The laws of drafts: each may be completed.
use Rattle.std.specs.Prelude.{ℕ, ◌<◌, List, length, Contains}
use Rattle.k_lexer.specs.declared.token.Token.{Token}
use Rattle.grammar_terms.specs.Grammar.{Syntax}
use Rattle.file_reader.specs.declared.sentence.Sentence.{Sentence}
use Rattle.rule_terms.specs.declared.rule.Draft.{Draft}
use Rattle.rule_reader.specs.Rules.{IsRule}
use Rattle.strictness.specs.Drafts.{strict_drafts}
use Rattle.cell_trees.specs.Trees.{Tree as Declaration, IsTree}
use Rattle.rule_completion.specs.Rules.{IsWrittenDraft}

-- the draft that a rule is over declared cells
abbrev pub AreWrittenRules : Type 0
AreWrittenRules =
    (d : Declaration) (g : Syntax) (before : List (List ℕ)) (text : List ℕ) (tokens : List Token) (rule : Sentence) (after : List (List ℕ)) (draft : Draft)
    → IsTree d → IsRule g d.shapes before text tokens rule after draft → IsWrittenDraft d draft

-- the rules of heating and cooling over a declared cell
abbrev pub AreWrittenStrict : Type 0
AreWrittenStrict = (d : Declaration) (g : Syntax) (k : ℕ) (draft : Draft) → k < length d.shapes → Contains (strict_drafts g k) draft → IsWrittenDraft d draft
