-- What a text defines, whole, and why it defines nothing.
use Rattle.std.specs.Prelude.{◌≡◌, ◌⊎◌, ℕ, ◌+◌, ◌<◌, ◌≤◌, List, length, map}
use Rattle.std.specs.Arc.{arc_value}
use Rattle.k_lexer.specs.declared.token.Token.{Token}
use Rattle.grammar_terms.specs.Grammar.{Syntax, order_of, label_of}
use Rattle.grammar_terms.specs.Builtins.{with_builtins}
use Rattle.file_reader.specs.declared.sentence.Sentence.{Sentence}
use Rattle.sorted_grammar.specs.declared.fault.What.TheVariants.{Rules}
use Rattle.definition_syntax.specs.declared.syntax.Definition.{Definition}
use Rattle.definition_syntax.specs.declared.fault.SyntaxFault.{SyntaxFault}
use Rattle.definition_syntax.specs.Syntaxes.{IsDefinition, IsSyntaxFault}
use Rattle.rule_terms.specs.declared.rule.Draft.{Draft}
use Rattle.rule_terms.specs.declared.rule.Rule.{Rule}
use Rattle.rule_terms.specs.Language.{Language}
use Rattle.strictness.specs.declared.fault.StrictFault.{StrictFault}
use Rattle.strictness.specs.Places.{declared_in, HaveNoBadPlace}
use Rattle.strictness.specs.Drafts.{strict_drafts}
use Rattle.strictness.specs.Heating.{IsFault as IsStrictFault}
use Rattle.cell_trees.specs.Trees.{Tree as Declaration}
use Rattle.cell_config.specs.declared.refusal.CellRefusal.{CellRefusal}
use Rattle.cell_config.specs.Cells.{IsCells, IsCellRefusal}
use Rattle.context_transform.specs.declared.fault.DefFault.{DefFault}
use Rattle.context_transform.specs.declared.fault.DefFault.TheVariants.{TooBig, Strict, Cell, TooMany}
use Rattle.context_transform.specs.declared.assembling.Definition.{Definition as Defined}
use Rattle.context_transform.specs.Told.{told_syntax}
use Rattle.context_transform.specs.WrittenRules.{rules_in, AreAllRules, IsFirstFault}

-- the greatest length of a definition, in bytes
abbrev pub definition_limit : ℕ
definition_limit = 1048576

-- the greatest number of rules, with those of strictness
abbrev pub rule_limit : ℕ
rule_limit = 1024

-- Over the grammar of a definition, its names before, its text with its base tokens, and its sentences.
module _ (g : Syntax) (before : List (List ℕ)) (text : List ℕ) (tokens : List Token) (sentences : List Sentence) where
  -- ---- the declared cells

  -- no production is strict as it may not be, and the configurations declare these cells
  pub record AreCells (d : Declaration) (after : List (List ℕ)) : Type 0 where
    pub no_bad : HaveNoBadPlace (declared_in g)
    pub cells : IsCells g before text tokens sentences after d

  -- a production is strict as it may not be
  pub record HasStrictFault (fault : DefFault) : Type 0 where
    pub why : StrictFault
    pub is : IsStrictFault (declared_in g) why
    pub fault_is : fault ≡ Strict why

  -- or the configurations declare no cells
  pub record HasNoCells (fault : DefFault) : Type 0 where
    pub no_bad : HaveNoBadPlace (declared_in g)
    pub refusal : CellRefusal
    pub after : List (List ℕ)
    pub refused : IsCellRefusal g before text tokens sentences after refusal
    pub fault_is : fault ≡ Cell refusal

  abbrev pub HasCellFault : DefFault → Type 0
  HasCellFault fault = HasStrictFault fault ⊎ HasNoCells fault

  -- ---- the rules

  module _ (d : Declaration) where
    -- the rules of heating and cooling, in the cell `k`
    abbrev pub strict_in : List Draft
    strict_in = strict_drafts g d.k

    abbrev pub rule_count : ℕ
    rule_count = length (rules_in sentences) + length strict_in

    -- the written rules, and behind them those of strictness
    pub record AreRules (rules : List Rule) (after : List (List ℕ)) : Type 0 where
      pub few : rule_count ≤ rule_limit
      pub all : AreAllRules (with_builtins g) d text tokens before (rules_in sentences) strict_in rules after

    -- the first that is none
    pub record HasBadRule (fault : DefFault) : Type 0 where
      pub few : rule_count ≤ rule_limit
      pub first : IsFirstFault (with_builtins g) d text tokens before (rules_in sentences) strict_in fault

    -- there are more than there may be
    pub record AreManyRules (fault : DefFault) : Type 0 where
      pub many : rule_limit < rule_count
      pub fault_is : fault ≡ TooMany Rules rule_count

    abbrev pub HasRuleFault : DefFault → Type 0
    HasRuleFault fault = AreManyRules fault ⊎ HasBadRule fault

-- ---- the definition

-- What a text defines: its sorts and productions, its declared cells, the language that is run, and the words of the text by
-- their numbers.
pub record Assembly : Type 0 where
  pub grammar : Syntax
  pub tree : Declaration
  pub language : Language
  pub names : List (List ℕ)

abbrev pub assembly_of : Defined → Assembly
assembly_of it = record { grammar = it.grammar; tree = it.tree; language = arc_value it.defs; names = it.names }

-- the language of a grammar, of declared cells and of rules
abbrev pub language_of : Syntax → Declaration → List Rule → Language
language_of g d rules = record { sorts = order_of g; cells = d.shapes; rules = rules; labels = map (label_of g.names) g.prods }

-- what the parts of a text define
pub record IsAssemblyOf (text : List ℕ) (definition : Definition) (assembly : Assembly) : Type 0 where
  pub grammar : assembly.grammar ≡ definition.grammar
  pub names : List (List ℕ)
  pub cells : AreCells definition.grammar definition.names text definition.tokens definition.sentences assembly.tree names
  pub rules : AreRules definition.grammar names text definition.tokens definition.sentences assembly.tree assembly.language.rules assembly.names
  pub language : assembly.language ≡ language_of assembly.grammar assembly.tree assembly.language.rules

-- their cells are declared, and a rule is none
pub record HasRuleFaultOf (text : List ℕ) (definition : Definition) (fault : DefFault) : Type 0 where
  pub tree : Declaration
  pub names : List (List ℕ)
  pub cells : AreCells definition.grammar definition.names text definition.tokens definition.sentences tree names
  pub fault_is : HasRuleFault definition.grammar names text definition.tokens definition.sentences tree fault

abbrev pub HasFaultOf : List ℕ → Definition → DefFault → Type 0
HasFaultOf text definition fault =
    HasCellFault definition.grammar definition.names text definition.tokens definition.sentences fault ⊎ HasRuleFaultOf text definition fault

pub record IsAssembly (text : List ℕ) (assembly : Assembly) : Type 0 where
  pub short : length text ≤ definition_limit
  pub definition : Definition
  pub is_definition : IsDefinition text definition
  pub is : IsAssemblyOf text definition assembly

pub record HasLateFault (text : List ℕ) (fault : DefFault) : Type 0 where
  pub short : length text ≤ definition_limit
  pub definition : Definition
  pub is_definition : IsDefinition text definition
  pub is : HasFaultOf text definition fault

-- it has a fault of its tokens, its modules, or its sorts and productions
pub record HasSyntaxFault (text : List ℕ) (fault : DefFault) : Type 0 where
  pub short : length text ≤ definition_limit
  pub why : SyntaxFault
  pub is : IsSyntaxFault text why
  pub fault_is : fault ≡ told_syntax why

-- it is too long
pub record IsTooLong (text : List ℕ) (fault : DefFault) : Type 0 where
  pub long : definition_limit < length text
  pub fault_is : fault ≡ TooBig definition_limit

-- Why a text defines nothing: it is too long; or it has a fault of its tokens, its modules, or its sorts and productions; or of its
-- strict productions, its configurations, or its rules.
abbrev pub IsDefFault : List ℕ → DefFault → Type 0
IsDefFault text fault = IsTooLong text fault ⊎ HasSyntaxFault text fault ⊎ HasLateFault text fault

-- the text defines this, and nothing else, and has no fault
pub record IsOnlyAssembly (text : List ℕ) (assembly : Assembly) : Type 0 where
  pub is : IsAssembly text assembly
  pub only : (other : Assembly) → IsAssembly text other → other ≡ assembly
  pub no_fault : (fault : DefFault) → IsDefFault text fault → ⊥

-- the text has this fault, and no other, and defines nothing
pub record IsOnlyFault (text : List ℕ) (fault : DefFault) : Type 0 where
  pub is : IsDefFault text fault
  pub only : (other : DefFault) → IsDefFault text other → other ≡ fault
  pub none : (assembly : Assembly) → IsAssembly text assembly → ⊥
