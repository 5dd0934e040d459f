-- The laws of sequences in drafts.
use Rattle.std.specs.Prelude.{ℕ, List, ◌++◌, IsTrue}
use Rattle.std.specs.List.{list_all}
use Rattle.k_lexer.specs.declared.token.Token.{Token}
use Rattle.grammar_terms.specs.Builtins.{with_builtins}
use Rattle.file_reader.specs.declared.sentence.Sentence.{Sentence}
use Rattle.definition_syntax.specs.declared.syntax.Definition.{Definition}
use Rattle.definition_syntax.specs.Syntaxes.{IsDefinition}
use Rattle.rule_terms.specs.declared.rule.Draft.{Draft}
use Rattle.rule_terms.specs.Sound.{has_whole_sequences, all_patterns, condition_test, has_one_form, is_item}
use Rattle.rule_terms.specs.Spots.{Spot}
use Rattle.rule_reader.specs.Rules.{IsRule}
use Rattle.strictness.specs.SoundDrafts.{spots_of}
use Rattle.cell_trees.specs.Trees.{Tree as Declaration, IsTree}

-- No part of a sequence, no argument of an operator and no part of a content is a variable of sort K: such a one is a whole sequence or
-- the rest of one. A list has no rest between members. So it is also where further variables are declared behind those of the draft.
pub record HasWholeSequences (draft : Draft) : Type 0 where
  pub sequences : (more : List ℕ)
      → IsTrue (list_all (λ (p : Spot). all_patterns (has_whole_sequences (draft.vars ++ more)) p.body)
      (spots_of draft.left ++ spots_of draft.right))
  pub condition_sequences : (more : List ℕ)
      → IsTrue (list_all (condition_test (has_whole_sequences (draft.vars ++ more))) draft.when)
  pub forms : (more : List ℕ)
      → IsTrue (list_all (λ (p : Spot). has_one_form (draft.vars ++ more) p.body)
      (spots_of draft.left ++ spots_of draft.right))
  pub condition_forms : (more : List ℕ) → IsTrue (list_all (condition_test (is_item (draft.vars ++ more))) draft.when)

-- the draft of a rule of a definition
abbrev pub WholeSequences : Type 0
WholeSequences =
    (text : List ℕ) (definition : Definition) (d : Declaration) (before : List (List ℕ)) (tokens : List Token) (rule : Sentence) (after : List (List ℕ)) (draft : Draft)
    → IsDefinition text definition → IsTree d → IsRule (with_builtins definition.grammar) d.shapes before text tokens rule after draft → HasWholeSequences draft
