-- The laws of the patterns of drafts.
use Rattle.std.specs.Prelude.{ℕ, ◌&&◌, not, List, ◌++◌, IsTrue}
use Rattle.std.specs.List.{list_all}
use Rattle.k_terms.specs.Sorts.{SortOrder}
use Rattle.k_lexer.specs.declared.token.Token.{Token}
use Rattle.file_reader.specs.declared.sentence.Sentence.{Sentence}
use Rattle.grammar_terms.specs.Builtins.{with_builtins}
use Rattle.grammar_terms.specs.Grammar.{order_of}
use Rattle.definition_syntax.specs.declared.syntax.Definition.{Definition}
use Rattle.definition_syntax.specs.Syntaxes.{IsDefinition}
use Rattle.rule_terms.specs.declared.rule.Draft.{Draft}
use Rattle.rule_terms.specs.InRange.{is_pattern_in_range, is_origin_in_range}
use Rattle.rule_terms.specs.Sound.{has_formed_values, has_no_operator, all_patterns, condition_test, is_made}
use Rattle.rule_terms.specs.Spots.{Spot}
use Rattle.rule_reader.specs.Rules.{IsRule}
use Rattle.strictness.specs.SoundDrafts.{spots_of}
use Rattle.cell_trees.specs.Trees.{Tree as Declaration, IsTree}

-- What is asked of the values, the operators and the numbers in a draft: each literal is well formed, no operator stands on the left and no whole content
-- of the left is an expression, and each number of a production is one of this order.
pub record HasSoundValues (o : SortOrder) (draft : Draft) : Type 0 where
  pub values : IsTrue (list_all (λ (p : Spot). all_patterns has_formed_values p.body) (spots_of draft.left ++ spots_of draft.right))
  pub condition_values : IsTrue (list_all (condition_test has_formed_values) draft.when)
  pub no_operator : IsTrue (list_all (λ (p : Spot). all_patterns has_no_operator p.body && not (is_made p.body)) (spots_of draft.left))
  pub origin : IsTrue (is_origin_in_range o draft.origin)
  pub numbers : IsTrue (list_all (λ (p : Spot). all_patterns (is_pattern_in_range o) p.body) (spots_of draft.left ++ spots_of draft.right))
  pub condition_numbers : IsTrue (list_all (condition_test (is_pattern_in_range o)) draft.when)

-- the draft of a rule over the grammar of a definition, for rules
abbrev pub SoundValues : Type 0
SoundValues =
    (text : List ℕ) (definition : Definition) (d : Declaration) (before : List (List ℕ)) (tokens : List Token) (rule : Sentence) (after : List (List ℕ)) (draft : Draft)
    → IsDefinition text definition → IsTree d → IsRule (with_builtins definition.grammar) d.shapes before text tokens rule after draft
    → HasSoundValues (order_of definition.grammar) draft
