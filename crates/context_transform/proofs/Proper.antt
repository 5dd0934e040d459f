-- No fault of a text is want of memory.
use Rattle.std.proofs.Common.{◌≡◌, ◌⊎◌, inl, inr, ℕ, ◌+◌, Bool, true, false, List, [], ◌∷◌, length, Option, Some, None, refl, ap, ◌∙◌}
use Rattle.std.specs.Option.{option_or}
use Rattle.std.specs.Prelude.{option_map, cond, nat_lt}
use Rattle.std.specs.List.{list_all}
use Rattle.k_lexer.specs.declared.token.Token.{Token}
use Rattle.k_lexer.specs.declared.fault.LexFault.TheVariants.{BadByte, OpenString, OpenComment, Memory as LexMemory}
use Rattle.k_lexer.specs.Lexing.{IsFault as IsLexFault}
use Rattle.module_reader.specs.declared.fault.ModuleFault.TheVariants.{Expected, NoModule, ImportCycle, TwoModules, Memory as ModuleMemory}
use Rattle.sorted_grammar.specs.declared.fault.SortFault.TheVariants.{TooMany as TooManySorts, NoSort, SubsortCycle, CyclicProduction, Memory as SortMemory}
use Rattle.sorted_grammar.specs.declared.fault.What.TheVariants.{Cells as CellCount}
use Rattle.grammar_terms.specs.Builtins.{with_builtins}
use Rattle.grammar_terms.specs.Grammar.{Syntax}
use Rattle.file_reader.specs.declared.sentence.Sentence.{Sentence}
use Rattle.definition_syntax.specs.declared.fault.SyntaxFault.{SyntaxFault}
use Rattle.definition_syntax.specs.declared.fault.SyntaxFault.TheVariants.{Lex as LexOf, Module as ModuleOf, Sort as SortOf, Memory as NoSyntaxMemory}
use Rattle.definition_syntax.specs.Syntaxes.{IsSyntaxFault}
use Rattle.rule_terms.specs.Sound.{cell_limit}
use Rattle.rule_terms.specs.declared.rule.Draft.{Draft}
use Rattle.strictness.specs.declared.fault.StrictFault.{StrictFault}
use Rattle.strictness.specs.declared.fault.StrictFault.TheVariants.{BadStrict, Memory as StrictMemory}
use Rattle.strictness.specs.Places.{declared_in}
use Rattle.strictness.specs.Heating.{IsFault as IsStrictFault}
use Rattle.cell_trees.specs.Trees.{Tree as Declaration}
use Rattle.cell_config.specs.declared.refusal.CellRefusal.{CellRefusal}
use Rattle.cell_config.specs.declared.refusal.CellRefusal.TheVariants.{TwoCells, NoK, CellContent, TooMany as TooManyCells, Memory as CellMemory}
use Rattle.cell_config.specs.declared.division.Division.{Division}
use Rattle.cell_config.specs.Refusals.{first_some, twice_in, lacks_program, bad_content, too_many, refusal_of}
use Rattle.context_transform.specs.declared.fault.CellsUnclear.{CellsUnclear}
use Rattle.context_transform.specs.declared.fault.CellsUnclear.TheVariants.{CellMisplaced, Unclear, TooMany as TooManyUnclear, Memory as UnclearMemory}
use Rattle.context_transform.specs.declared.fault.DefFault.{DefFault}
use Rattle.context_transform.specs.declared.fault.DefFault.TheVariants.{Strict, Cell, Complete}
use Rattle.context_transform.specs.Told.{wants_memory, told_syntax}
use Rattle.context_transform.specs.Completing.{IsUnclear}
use Rattle.context_transform.specs.WrittenRules.{rules_in, IsBadRule, IsFirstBad, IsFirstUnclear, IsFirstFault}
use Rattle.context_transform.specs.Assembling.{strict_in, HasCellFault, HasRuleFault, HasFaultOf, IsDefFault}
use Rattle.context_transform.proofs.Telling.{no_want}

no_memory_fault : (text : List ℕ) → IsLexFault text LexMemory → ⊥
no_memory_fault text h = elim h.is [ inl stop ↦ stop.stops | inr bad ↦ cc ]

syntax_proper : (text : List ℕ) (why : SyntaxFault) → IsSyntaxFault text why → wants_memory (told_syntax why) ≡ false
syntax_proper text (LexOf (BadByte at)) h = refl
syntax_proper text (LexOf (OpenString at)) h = refl
syntax_proper text (LexOf (OpenComment at)) h = refl
syntax_proper text (LexOf LexMemory) h = absurd (no_memory_fault text h)
syntax_proper text (ModuleOf (Expected at)) h = refl
syntax_proper text (ModuleOf (NoModule name)) h = refl
syntax_proper text (ModuleOf (ImportCycle name)) h = refl
syntax_proper text (ModuleOf (TwoModules name)) h = refl
syntax_proper text (ModuleOf ModuleMemory) h = absurd h.2
syntax_proper text (SortOf (TooManySorts what n)) h = refl
syntax_proper text (SortOf (NoSort name)) h = refl
syntax_proper text (SortOf (SubsortCycle sort)) h = refl
syntax_proper text (SortOf (CyclicProduction p)) h = refl
syntax_proper text (SortOf SortMemory) h = absurd h.3
syntax_proper text NoSyntaxMemory h = absurd h

strict_proper : (g : Syntax) (why : StrictFault) → IsStrictFault (declared_in g) why → wants_memory (Strict why) ≡ false
strict_proper g (BadStrict p place) h = refl
strict_proper g StrictMemory h = absurd h

-- ---- refusals of configurations

-- an answer that is one of two
one_of_two : {A : Type 0} (o p : Option A) (x : A) → option_or o p ≡ Some x → (o ≡ Some x) ⊎ (p ≡ Some x)
one_of_two None p x is = inr is
one_of_two (Some y) p x is = inl is

twice_proper : (name : Option (List ℕ)) → option_map (λ n. TwoCells n) name ≡ Some CellMemory → ⊥
twice_proper None is = cc
twice_proper (Some name) is = cc

content_proper : (name : Option (List ℕ)) → option_map (λ n. CellContent n) name ≡ Some CellMemory → ⊥
content_proper None is = cc
content_proper (Some name) is = cc

lacking_proper : (lacks : Bool) → cond lacks (Some NoK) None ≡ Some CellMemory → ⊥
lacking_proper true is = cc
lacking_proper false is = cc

counted_proper : (many : Bool) (n : ℕ) → cond many (Some (TooManyCells CellCount n)) None ≡ Some CellMemory → ⊥
counted_proper true n is = cc
counted_proper false n is = cc

many_proper : (divisions : List Division) → too_many divisions ≡ Some CellMemory → ⊥
many_proper [] is = cc
many_proper (division ∷ others) is = counted_proper (nat_lt cell_limit (length division.cells)) (length division.cells) is

pub no_want_of_cells : (divisions : List Division) → refusal_of divisions ≡ Some CellMemory → ⊥
no_want_of_cells divisions is = elim (one_of_two _ _ CellMemory is) [
  | inl twice ↦ twice_proper (twice_in divisions) twice
  | inr later ↦ elim (one_of_two _ _ CellMemory later) [
    | inl lacks ↦ lacking_proper (list_all lacks_program divisions) lacks
    | inr last ↦ elim (one_of_two _ _ CellMemory last) [
      | inl content ↦ content_proper (first_some bad_content divisions) content
      | inr many ↦ many_proper divisions many
    ]
  ]
]

cells_proper : (divisions : List Division) (refusal : CellRefusal) → refusal_of divisions ≡ Some refusal → wants_memory (Cell refusal) ≡ false
cells_proper divisions (TwoCells name) is = refl
cells_proper divisions NoK is = refl
cells_proper divisions (CellContent name) is = refl
cells_proper divisions (TooManyCells what n) is = refl
cells_proper divisions CellMemory is = absurd (no_want_of_cells divisions is)

-- ---- rules

module _ (d : Declaration) where
  unclear_proper : (number : ℕ) (draft : Draft) (why : CellsUnclear) → IsUnclear d draft number why → wants_memory (Complete why) ≡ false
  unclear_proper number draft (CellMisplaced rule cell) is = refl
  unclear_proper number draft (Unclear rule) is = refl
  unclear_proper number draft (TooManyUnclear what n) is = refl
  unclear_proper number draft UnclearMemory is = absurd (no_want d number is.why is.of_draft is.told)

  strict_rule_proper : (number : ℕ) (drafts : List Draft) (why : CellsUnclear) → IsFirstUnclear d number drafts why → wants_memory (Complete why) ≡ false
  strict_rule_proper number [] why is = absurd is
  strict_rule_proper number (draft ∷ drafts) why (inl first) = unclear_proper number draft why first
  strict_rule_proper number (draft ∷ drafts) why (inr later) = strict_rule_proper (number + 1) drafts why later.1

  module _ (g : Syntax) (text : List ℕ) (tokens : List Token) where
    bad_proper : (before : List (List ℕ)) (number : ℕ) (sentence : Sentence) (fault : DefFault) → IsBadRule g d text tokens before number sentence fault → wants_memory fault ≡ false
    bad_proper before number sentence fault (inl refused) = ap wants_memory refused.fault_is ∙ refused.refused.proper
    bad_proper before number sentence fault (inr unclear) = ap wants_memory unclear.fault_is ∙ unclear_proper number unclear.draft unclear.why unclear.unclear

    first_bad_proper : (before : List (List ℕ)) (number : ℕ) (sentences : List Sentence) (fault : DefFault) → IsFirstBad g d text tokens before number sentences fault → wants_memory fault ≡ false
    first_bad_proper before number [] fault is = absurd is
    first_bad_proper before number (sentence ∷ sentences) fault (inl first) = bad_proper before number sentence fault first
    first_bad_proper before number (sentence ∷ sentences) fault (inr later) = first_bad_proper later.0 (number + 1) sentences fault later.3

    first_proper : (before : List (List ℕ)) (sentences : List Sentence) (drafts : List Draft) (fault : DefFault) → IsFirstFault g d text tokens before sentences drafts fault
        → wants_memory fault ≡ false
    first_proper before sentences drafts fault (inl bad) = first_bad_proper before 1 sentences fault bad
    first_proper before sentences drafts fault (inr h) = ap wants_memory h.1 ∙ strict_rule_proper (length sentences + 1) drafts h.0 h.2.unclear

-- ---- texts

cell_fault_proper : (g : Syntax) (before : List (List ℕ)) (text : List ℕ) (tokens : List Token) (sentences : List Sentence) (fault : DefFault)
    → HasCellFault g before text tokens sentences fault → wants_memory fault ≡ false
cell_fault_proper g before text tokens sentences fault (inl strict) = ap wants_memory strict.fault_is ∙ strict_proper g strict.why strict.is
cell_fault_proper g before text tokens sentences fault (inr cells) = ap wants_memory cells.fault_is ∙ cells_proper cells.refused.divisions cells.refusal cells.refused.is

rule_fault_proper : (g : Syntax) (before : List (List ℕ)) (text : List ℕ) (tokens : List Token) (sentences : List Sentence) (d : Declaration) (fault : DefFault)
    → HasRuleFault g before text tokens sentences d fault → wants_memory fault ≡ false
rule_fault_proper g before text tokens sentences d fault (inl many) = ap wants_memory many.fault_is
rule_fault_proper g before text tokens sentences d fault (inr bad) = first_proper d (with_builtins g) text tokens before (rules_in sentences) (strict_in g before text tokens sentences d) fault bad.first

-- no fault of a text is want of memory
pub fault_proper : (text : List ℕ) (fault : DefFault) → IsDefFault text fault → wants_memory fault ≡ false
fault_proper text fault (inl long) = ap wants_memory long.fault_is
fault_proper text fault (inr (inl syntax)) = ap wants_memory syntax.fault_is ∙ syntax_proper text syntax.why syntax.is
fault_proper text fault (inr (inr late)) = of_definition late.is
  where
    of_definition : HasFaultOf text late.definition fault → wants_memory fault ≡ false
    of_definition (inl cells) = cell_fault_proper late.definition.grammar late.definition.names text late.definition.tokens late.definition.sentences fault cells
    of_definition (inr rules) = rule_fault_proper late.definition.grammar rules.names text late.definition.tokens late.definition.sentences rules.tree fault rules.fault_is
