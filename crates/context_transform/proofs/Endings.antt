-- What a text defines is one thing, or it has one fault.
use Rattle.std.proofs.Common.{◌≡◌, inl, inr, ℕ, ◌<◌, ◌≤◌, List, length, refl, sym, ap, ◌∙◌, subst, arith}
use Rattle.std.specs.List.{AllByRecursion}
use Rattle.grammar_terms.specs.Grammar.{Syntax}
use Rattle.grammar_terms.specs.Builtins.{with_builtins}
use Rattle.file_reader.specs.declared.sentence.Sentence.{Sentence}
use Rattle.definition_syntax.specs.declared.syntax.Definition.{Definition}
use Rattle.definition_syntax.specs.declared.fault.SyntaxFault.{SyntaxFault}
use Rattle.definition_syntax.specs.Syntaxes.{IsDefinition, IsOnlyDefinition, IsOnlyFault as IsOnlySyntaxFault}
use Rattle.rule_terms.specs.declared.rule.Draft.{Draft}
use Rattle.rule_terms.specs.declared.rule.Rule.{Rule}
use Rattle.rule_reader.specs.Rules.{IsRule}
use Rattle.strictness.specs.Places.{declared_in}
use Rattle.strictness.proofs.Outcomes.{one_fault as one_strict_fault, not_both as strict_not_both}
use Rattle.cell_trees.specs.Trees.{Tree as Declaration, IsTree}
use Rattle.cell_config.specs.Laws.{HasOneTree, HasOneRefusal, HasNotBoth}
use Rattle.rule_completion.specs.Rules.{IsWrittenDraft}
use Rattle.context_transform.specs.declared.fault.DefFault.{DefFault}
use Rattle.context_transform.specs.declared.fault.DefFault.TheVariants.{Strict, Cell}
use Rattle.context_transform.specs.Told.{told_syntax}
use Rattle.context_transform.specs.WrittenRules.{rules_in}
use Rattle.context_transform.specs.Assembling.{definition_limit, AreCells, HasCellFault, strict_in, AreRules, HasRuleFault, IsAssemblyOf, HasRuleFaultOf, HasFaultOf, IsAssembly, IsTooLong, IsDefFault, Assembly, language_of, IsOnlyAssembly, IsOnlyFault}
use Rattle.context_transform.proofs.Rows.{same_all, all_or_fault, same_fault}

not_short_and_long : (n limit : ℕ) → n ≤ limit → limit < n → ⊥
not_short_and_long n limit short long = omega (arith, short, long)

-- ---- a text that is too long

pub too_long : (text : List ℕ) (fault : DefFault) → IsTooLong text fault → IsOnlyFault text fault
too_long text fault long = record {
  is = inl long;
  only = other_is;
  none = λ assembly h. not_short_and_long (length text) definition_limit h.short long.long;
}
  where
    other_is : (other : DefFault) → IsDefFault text other → other ≡ fault
    other_is other (inl h) = h.fault_is ∙ sym long.fault_is
    other_is other (inr (inl h)) = absurd (not_short_and_long (length text) definition_limit h.short long.long)
    other_is other (inr (inr h)) = absurd (not_short_and_long (length text) definition_limit h.short long.long)

module _ (text : List ℕ) (short : length text ≤ definition_limit) where
  -- ---- a fault of the syntax

  pub syntax_only : (why : SyntaxFault) (fault : DefFault) → fault ≡ told_syntax why → IsOnlySyntaxFault text why → IsOnlyFault text fault
  syntax_only why fault told only = record {
    is = inr (inl (record { short = short; why = why; is = only.is; fault_is = told }));
    only = other_is;
    none = λ assembly h. only.none h.definition h.is_definition;
  }
    where
      other_is : (other : DefFault) → IsDefFault text other → other ≡ fault
      other_is other (inl h) = absurd (not_short_and_long (length text) definition_limit short h.long)
      other_is other (inr (inl h)) = h.fault_is ∙ ap told_syntax (only.only h.why h.is) ∙ sym told
      other_is other (inr (inr h)) = absurd (only.none h.definition h.is_definition)

  module _ (definition : Definition) (defined : IsOnlyDefinition text definition) (has_one_tree : HasOneTree) (has_one_refusal : HasOneRefusal) (has_not_both : HasNotBoth) where
    abbrev g : Syntax
    g = definition.grammar

    abbrev CellsAre : Declaration → List (List ℕ) → Type 0
    CellsAre d after = AreCells definition.grammar definition.names text definition.tokens definition.sentences d after

    abbrev CellFault : DefFault → Type 0
    CellFault fault = HasCellFault definition.grammar definition.names text definition.tokens definition.sentences fault

    -- what is said of another definition of the text is said of this one
    moved : (P : Definition → Type 0) (other : Definition) → IsDefinition text other → P other → P definition
    moved P other is holds = subst P (defined.only other is) holds

    -- ---- the cells

    one_cells : (d e : Declaration) (after later : List (List ℕ)) → CellsAre d after → CellsAre e later → (after ≡ later) × (d ≡ e)
    one_cells d e after later a b = has_one_tree g definition.names text definition.tokens definition.sentences after later d e a.cells b.cells

    cells_or_fault : (d : Declaration) (after : List (List ℕ)) (fault : DefFault) → CellsAre d after → CellFault fault → ⊥
    cells_or_fault d after fault a (inl b) = strict_not_both (declared_in g) b.why a.no_bad b.is
    cells_or_fault d after fault a (inr b) = has_not_both g definition.names text definition.tokens definition.sentences after b.after d b.refusal a.cells b.refused

    one_cell_fault : (one other : DefFault) → CellFault one → CellFault other → one ≡ other
    one_cell_fault one other (inl a) (inl b) = a.fault_is ∙ ap Strict (one_strict_fault (declared_in g) a.why b.why a.is b.is) ∙ sym b.fault_is
    one_cell_fault one other (inl a) (inr b) = absurd (strict_not_both (declared_in g) a.why b.no_bad a.is)
    one_cell_fault one other (inr a) (inl b) = absurd (strict_not_both (declared_in g) b.why a.no_bad b.is)
    one_cell_fault one other (inr a) (inr b) =
        a.fault_is
        ∙ ap Cell (has_one_refusal g definition.names text definition.tokens definition.sentences a.after b.after a.refusal b.refusal a.refused b.refused).1
        ∙ sym b.fault_is

    -- what is wrong with the definition is wrong with the text
    late : (fault : DefFault) → HasFaultOf text definition fault → IsDefFault text fault
    late fault is = inr (inr (record { short = short; definition = definition; is_definition = defined.is; is = is }))

    -- any fault of the text is one of the definition
    is_late : (fault : DefFault) → IsDefFault text fault → HasFaultOf text definition fault
    is_late fault (inl h) = absurd (not_short_and_long (length text) definition_limit short h.long)
    is_late fault (inr (inl h)) = absurd (defined.no_fault h.why h.is)
    is_late fault (inr (inr h)) = moved (λ d. HasFaultOf text d fault) h.definition h.is_definition h.is

    assembled : (assembly : Assembly) → IsAssembly text assembly → IsAssemblyOf text definition assembly
    assembled assembly h = moved (λ d. IsAssemblyOf text d assembly) h.definition h.is_definition h.is

    pub cell_fault_only : (fault : DefFault) → CellFault fault → IsOnlyFault text fault
    cell_fault_only fault bad = record {
      is = late fault (inl bad);
      only = λ other h. other_is other (is_late other h);
      none = λ assembly h. let a = assembled assembly h in cells_or_fault assembly.tree a.names fault a.cells bad;
    }
      where
        other_is : (other : DefFault) → HasFaultOf text definition other → other ≡ fault
        other_is other (inl h) = one_cell_fault other fault h bad
        other_is other (inr h) = absurd (cells_or_fault h.tree h.names fault h.cells bad)

    -- ---- the rules

    module _ (d : Declaration) (names : List (List ℕ)) (cells : CellsAre d names) (is_tree : IsTree d)
        (drafts_are : (before after : List (List ℕ)) (sentence : Sentence) (draft : Draft)
        → IsRule (with_builtins definition.grammar) d.shapes before text definition.tokens sentence after draft → IsWrittenDraft d draft)
        (strict_are : AllByRecursion (IsWrittenDraft d) (strict_in definition.grammar names text definition.tokens definition.sentences d)) where
      abbrev RulesAre : List Rule → List (List ℕ) → Type 0
      RulesAre rules after = AreRules definition.grammar names text definition.tokens definition.sentences d rules after

      abbrev RuleFault : DefFault → Type 0
      RuleFault fault = HasRuleFault definition.grammar names text definition.tokens definition.sentences d fault

      one_rules : (rules others : List Rule) (after later : List (List ℕ)) → RulesAre rules after → RulesAre others later → (rules ≡ others) × (after ≡ later)
      one_rules rules others after later a b =
          same_all (with_builtins g) d is_tree text definition.tokens drafts_are names (rules_in definition.sentences) (strict_in g names text definition.tokens definition.sentences d) strict_are
          rules others after later a.all b.all

      rules_or_fault : (rules : List Rule) (after : List (List ℕ)) (fault : DefFault) → RulesAre rules after → RuleFault fault → ⊥
      rules_or_fault rules after fault a (inl b) = not_short_and_long _ _ a.few b.many
      rules_or_fault rules after fault a (inr b) =
          all_or_fault (with_builtins g) d is_tree text definition.tokens drafts_are names (rules_in definition.sentences) (strict_in g names text definition.tokens definition.sentences d) strict_are
          rules after fault a.all b.first

      one_rule_fault : (one other : DefFault) → RuleFault one → RuleFault other → one ≡ other
      one_rule_fault one other (inl a) (inl b) = a.fault_is ∙ sym b.fault_is
      one_rule_fault one other (inl a) (inr b) = absurd (not_short_and_long _ _ b.few a.many)
      one_rule_fault one other (inr a) (inl b) = absurd (not_short_and_long _ _ a.few b.many)
      one_rule_fault one other (inr a) (inr b) =
          same_fault (with_builtins g) d is_tree text definition.tokens drafts_are names (rules_in definition.sentences) (strict_in g names text definition.tokens definition.sentences d) strict_are
          one other a.first b.first

      -- what is said of the rules over other cells of the definition is said of them over these
      over_these : (P : Declaration → List (List ℕ) → Type 0) (e : Declaration) (later : List (List ℕ)) → CellsAre e later → P e later → P d names
      over_these P e later are holds =
          let same = one_cells e d later names are cells in
          subst (λ (p : Declaration × List (List ℕ)). P p.0 p.1) (λ i. (same.1 i, same.0 i)) holds

      here : (fault : DefFault) → HasRuleFaultOf text definition fault → RuleFault fault
      here fault h =
          over_these (λ e later. HasRuleFault definition.grammar later text definition.tokens definition.sentences e fault) h.tree h.names h.cells h.fault_is

      same_assembly : (one other : Assembly) → one.tree ≡ d → IsAssemblyOf text definition one → RulesAre one.language.rules one.names → IsAssemblyOf text definition other → other ≡ one
      same_assembly one other tree a rules b =
          let trees : other.tree ≡ one.tree = (one_cells other.tree d b.names names b.cells cells).1 ∙ sym tree in
          let theirs : RulesAre other.language.rules other.names =
          over_these (λ e later. AreRules definition.grammar later text definition.tokens definition.sentences e other.language.rules other.names) other.tree b.names b.cells b.rules in
          let same = one_rules other.language.rules one.language.rules other.names one.names theirs rules in
          let grammars : other.grammar ≡ one.grammar = b.grammar ∙ sym a.grammar in
          let languages : other.language ≡ one.language =
          b.language ∙ (λ i. language_of (grammars i) (trees i) (same.0 i)) ∙ sym a.language in
          λ i. record { grammar = grammars i; tree = trees i; language = languages i; names = same.1 i }

      pub rule_fault_only : (fault : DefFault) → RuleFault fault → IsOnlyFault text fault
      rule_fault_only fault bad = record {
        is = late fault (inr (record { tree = d; names = names; cells = cells; fault_is = bad }));
        only = λ other h. other_is other (is_late other h);
        none = λ assembly h. none_of assembly (assembled assembly h);
      }
        where
          other_is : (other : DefFault) → HasFaultOf text definition other → other ≡ fault
          other_is other (inl h) = absurd (cells_or_fault d names other cells h)
          other_is other (inr h) = one_rule_fault other fault (here other h) bad

          none_of : (assembly : Assembly) → IsAssemblyOf text definition assembly → ⊥
          none_of assembly h =
              rules_or_fault assembly.language.rules assembly.names fault
              (over_these (λ e later. AreRules definition.grammar later text definition.tokens definition.sentences e assembly.language.rules assembly.names) assembly.tree h.names h.cells h.rules) bad

      pub assembly_only : (rules : List Rule) (after : List (List ℕ)) → RulesAre rules after → IsOnlyAssembly text (record { grammar = definition.grammar; tree = d; language = language_of definition.grammar d rules; names = after })
      assembly_only rules after are = record {
        is = record { short = short; definition = definition; is_definition = defined.is; is = this };
        only = λ other h. same_assembly assembly other refl this are (assembled other h);
        no_fault = λ fault h. none_of fault (is_late fault h);
      }
        where
          assembly : Assembly
          assembly = record { grammar = definition.grammar; tree = d; language = language_of definition.grammar d rules; names = after }

          this : IsAssemblyOf text definition assembly
          this = record { grammar = refl; names = names; cells = cells; rules = are; language = refl }

          none_of : (fault : DefFault) → HasFaultOf text definition fault → ⊥
          none_of fault (inl h) = cells_or_fault d names fault cells h
          none_of fault (inr h) = rules_or_fault rules after fault are (here fault h)
