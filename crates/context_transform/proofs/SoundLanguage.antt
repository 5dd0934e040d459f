-- The language of a definition is sound.
use Rattle.std.proofs.Common.{◌≡◌, inl, inr, ℕ, ◌<◌, ◌≤◌, List, [], ◌∷◌, ◌++◌, map, take, length, refl, sym, ap, subst, ◌∙◌, arith, Contains}
use Rattle.std.proofs.lemmas.List.{length-map, take_all}
use Rattle.k_lexer.specs.declared.token.Token.{Token}
use Rattle.grammar_terms.specs.declared.production.Production.{Production}
use Rattle.grammar_terms.specs.Grammar.{Syntax, order_of, label_of}
use Rattle.grammar_terms.specs.Builtins.{with_builtins}
use Rattle.file_reader.specs.declared.sentence.Sentence.{Sentence}
use Rattle.definition_syntax.specs.declared.syntax.Definition.{Definition}
use Rattle.definition_syntax.specs.Syntaxes.{IsDefinition}
use Rattle.rule_terms.specs.declared.rule.Draft.{Draft}
use Rattle.rule_terms.specs.declared.rule.Rule.{Rule}
use Rattle.rule_terms.specs.Language.{Language}
use Rattle.rule_terms.specs.Sound.{IsSoundRule, IsSound}
use Rattle.live_config.proofs.Members.{Has, contains-has, has-contains, has_either}
use Rattle.strictness.specs.Places.{declared_in, HaveNoBadPlace}
use Rattle.strictness.specs.Drafts.{strict_drafts}
use Rattle.cell_trees.specs.Trees.{Tree as Declaration, IsTree}
use Rattle.cell_config.specs.Laws.{AreDeclaredSoundly}
use Rattle.rule_completion.specs.Rules.{IsCompleted}
use Rattle.sound_rules.specs.Laws.{IsLanguageOf, WrittenRulesAreSound, StrictRulesAreSound, CellsDeclareLiterals}
use Rattle.context_transform.specs.WrittenRules.{rules_in, IsWrittenRule, AreWrittenRules, AreCompleted}
use Rattle.context_transform.specs.Assembling.{AreCells, AreRules, language_of}

-- ---- each rule comes from a sentence or a draft

module _ (g : Syntax) (d : Declaration) (text : List ℕ) (tokens : List Token) (P : Rule → Type 0)
    (each : (before : List (List ℕ)) (sentence : Sentence) (rule : Rule) (after : List (List ℕ)) → IsWrittenRule g d text tokens before sentence rule after → P rule) where
  written_has : (before : List (List ℕ)) (sentences : List Sentence) (rules : List Rule) (after : List (List ℕ))
      → AreWrittenRules g d text tokens before sentences rules after → (rule : Rule) → Has rules rule → P rule
  written_has before [] [] after are rule has = absurd has
  written_has before [] (first ∷ rules) after are rule has = absurd are
  written_has before (sentence ∷ sentences) [] after are rule has = absurd has
  written_has before (sentence ∷ sentences) (first ∷ rules) after are rule (inl is) = subst P is (each before sentence first are.0 are.1)
  written_has before (sentence ∷ sentences) (first ∷ rules) after are rule (inr has) = written_has are.0 sentences rules after are.2 rule has

completed_has : (d : Declaration) (P : Rule → Type 0) (drafts : List Draft) (rules : List Rule)
    → ((draft : Draft) (rule : Rule) → Has drafts draft → IsCompleted d draft rule → P rule)
    → AreCompleted d drafts rules → (rule : Rule) → Has rules rule → P rule
completed_has d P [] [] each are rule has = absurd has
completed_has d P [] (first ∷ rules) each are rule has = absurd are
completed_has d P (draft ∷ drafts) [] each are rule has = absurd has
completed_has d P (draft ∷ drafts) (first ∷ rules) each are rule (inl is) = subst P is (each draft first (inl refl) are.0)
completed_has d P (draft ∷ drafts) (first ∷ rules) each are rule (inr has) =
    completed_has d P drafts rules (λ one made h. each one made (inr h)) are.1 rule has

-- ---- the language

-- all productions of a definition's grammar are declared
all_declared : (text : List ℕ) (definition : Definition) → IsDefinition text definition → definition.grammar.declared ≡ length definition.grammar.prods
all_declared text definition is = ap (λ (g : Syntax). g.declared) is.grammar.is ∙ sym (ap (λ (g : Syntax). length g.prods) is.grammar.is)

module _ (text : List ℕ) (definition : Definition) (defined : IsDefinition text definition)
    (declared_soundly : AreDeclaredSoundly) (declare_literals : CellsDeclareLiterals) (written_sound : WrittenRulesAreSound) (strict_sound : StrictRulesAreSound)
    (tokens : List Token) (sentences : List Sentence)
    (d : Declaration) (names : List (List ℕ)) (cells : AreCells definition.grammar definition.names text tokens sentences d names) (is_tree : IsTree d)
    (rules : List Rule) (after : List (List ℕ)) (are : AreRules definition.grammar names text tokens sentences d rules after) where
  abbrev g : Syntax
  g = definition.grammar

  abbrev language : Language
  language = language_of g d rules

  declared_all : length g.prods ≤ g.declared
  declared_all = let all = all_declared text definition defined in omega (arith, all)

  is_language : IsLanguageOf g d language
  is_language = record {
    tree = is_tree;
    contents = declared_soundly g definition.names text tokens sentences names d declared_all cells.cells;
    literals = declare_literals g definition.names text tokens sentences names d cells.cells;
    sorts = refl;
    cells = refl;
  }

  rule_sound : (rule : Rule) → Has rules rule → IsSoundRule language rule
  rule_sound rule has =
      elim (has_either are.all.written are.all.behind rule (subst (λ rs. Has rs rule) are.all.all has)) [
        | inl h ↦ written_has (with_builtins g) d text tokens (IsSoundRule language)
            (λ before sentence made later is. written_sound text definition d language before tokens sentence later is.0 made defined is_language is.1 is.2)
            names (rules_in sentences) are.all.written after are.all.are_written rule h
        | inr h ↦ completed_has d (IsSoundRule language) (strict_drafts g d.k) are.all.behind
            (λ draft made is completed. strict_sound g d language draft made cells.no_bad is_language (has-contains (strict_drafts g d.k) draft is) completed)
            are.all.are_completed rule h
      ]

  -- the language of a definition is sound
  pub sound_language : IsSound language
  sound_language = record {
    some_cell = is_tree.some_cell;
    few_cells = is_tree.few_cells;
    tree = is_tree.placed;
    labels = length-map g.prods (label_of g.names)
        ∙ sym (length-map (take g.declared g.prods) (λ (production : Production). production.sort) ∙ ap length (take_all g.declared g.prods declared_all));
    rules = λ rule has. rule_sound rule (contains-has rules rule has);
  }
