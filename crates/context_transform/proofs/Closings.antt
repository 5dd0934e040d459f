-- The outcomes of a text, from those of its parts.
use Rattle.std.proofs.Common.{◌≡◌, ◌⊎◌, inl, inr, ℕ, ◌≤◌, List, length, sym, subst}
use Rattle.k_lexer.specs.declared.token.Token.{Token}
use Rattle.grammar_terms.specs.Builtins.{with_builtins}
use Rattle.file_reader.specs.declared.sentence.Sentence.{Sentence}
use Rattle.definition_syntax.specs.declared.syntax.Definition.{Definition}
use Rattle.definition_syntax.specs.Syntaxes.{IsOnlyDefinition}
use Rattle.rule_terms.specs.declared.rule.Rule.{Rule}
use Rattle.rule_terms.specs.Language.{Language}
use Rattle.cell_trees.specs.Trees.{Tree as Declaration, IsTree}
use Rattle.cell_config.specs.Laws.{HasOneTree, HasOneRefusal, HasNotBoth}
use Rattle.draft_laws.specs.Laws.{AreWrittenRules, AreWrittenStrict}
use Rattle.context_transform.specs.declared.fault.DefFault.{DefFault}
use Rattle.context_transform.specs.declared.fault.DefFault.TheVariants.{Memory}
use Rattle.context_transform.specs.Assembling.{definition_limit, AreCells, HasCellFault, AreRules, HasRuleFault, Assembly, language_of, IsOnlyAssembly, IsOnlyFault}
use Rattle.context_transform.proofs.Telling.{strict_written}
use Rattle.context_transform.proofs.Endings.{cell_fault_only, rule_fault_only, assembly_only}

-- what is said of tokens and sentences is said of others that are the same
moved : (P : List Token → List Sentence → Type 0) (tokens tokens2 : List Token) (sentences sentences2 : List Sentence) → tokens ≡ tokens2 → sentences ≡ sentences2 → P tokens sentences → P tokens2 sentences2
moved P tokens tokens2 sentences sentences2 same_tokens same_sentences holds = subst (λ (p : List Token × List Sentence). P p.0 p.1) (λ i. (same_tokens i, same_sentences i)) holds

module _ (text : List ℕ) (short : length text ≤ definition_limit) (definition : Definition) (defined : IsOnlyDefinition text definition)
    (has_one_tree : HasOneTree) (has_one_refusal : HasOneRefusal) (has_not_both : HasNotBoth)
    (tokens : List Token) (sentences : List Sentence) (tokens_are : tokens ≡ definition.tokens) (sentences_are : sentences ≡ definition.sentences) where
  pub cells_end : (fault : DefFault) → (fault ≡ Memory) ⊎ HasCellFault definition.grammar definition.names text tokens sentences fault → (fault ≡ Memory) ⊎ IsOnlyFault text fault
  cells_end fault (inl memory) = inl memory
  cells_end fault (inr bad) =
      inr (cell_fault_only text short definition defined has_one_tree has_one_refusal has_not_both fault
      (moved (λ ts ss. HasCellFault definition.grammar definition.names text ts ss fault) tokens definition.tokens sentences definition.sentences tokens_are sentences_are bad))

  module _ (d : Declaration) (names : List (List ℕ)) (cells : AreCells definition.grammar definition.names text tokens sentences d names) (is_tree : IsTree d)
      (drafts_are : AreWrittenRules) (strict_are : AreWrittenStrict) where
    cells_are : AreCells definition.grammar definition.names text definition.tokens definition.sentences d names
    cells_are = moved (λ ts ss. AreCells definition.grammar definition.names text ts ss d names) tokens definition.tokens sentences definition.sentences tokens_are sentences_are cells

    pub rules_end : (fault : DefFault) → (fault ≡ Memory) ⊎ HasRuleFault definition.grammar names text tokens sentences d fault → (fault ≡ Memory) ⊎ IsOnlyFault text fault
    rules_end fault (inl memory) = inl memory
    rules_end fault (inr bad) =
        inr (rule_fault_only text short definition defined has_one_tree has_one_refusal has_not_both d names cells_are is_tree
        (λ before after sentence draft is. drafts_are d (with_builtins definition.grammar) before text definition.tokens sentence after draft is_tree is)
        (strict_written strict_are d definition.grammar is_tree) fault
        (moved (λ ts ss. HasRuleFault definition.grammar names text ts ss d fault) tokens definition.tokens sentences definition.sentences tokens_are sentences_are bad))

    pub all_end : (rules : List Rule) (language : Language) (after : List (List ℕ)) → language ≡ language_of definition.grammar d rules → AreRules definition.grammar names text tokens sentences d rules after
        → IsOnlyAssembly text (record { grammar = definition.grammar; tree = d; language = language; names = after })
    all_end rules language after is are =
        subst (λ l. IsOnlyAssembly text (record { grammar = definition.grammar; tree = d; language = l; names = after })) (sym is)
        (assembly_only text short definition defined has_one_tree has_one_refusal has_not_both d names cells_are is_tree
        (λ before after sentence draft is. drafts_are d (with_builtins definition.grammar) before text definition.tokens sentence after draft is_tree is)
        (strict_written strict_are d definition.grammar is_tree) rules after
        (moved (λ ts ss. AreRules definition.grammar names text ts ss d rules after) tokens definition.tokens sentences definition.sentences tokens_are sentences_are are))
