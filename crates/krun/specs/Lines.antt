-- The line of each refusal of a definition.
use Rattle.std.specs.Prelude.{ℕ, List, [], ◌∷◌, ◌++◌, codes}
use Rattle.std.specs.Fmt.{decimal}
use Rattle.k_lexer.specs.declared.fault.LexFault.{LexFault}
use Rattle.k_lexer.specs.declared.fault.LexFault.TheVariants.{BadByte, OpenString, OpenComment, Memory as LexMemory}
use Rattle.module_reader.specs.declared.fault.ModuleFault.{ModuleFault}
use Rattle.module_reader.specs.declared.fault.ModuleFault.TheVariants.{Expected, NoModule, ImportCycle, TwoModules, Memory as ModuleMemory}
use Rattle.context_transform.specs.declared.fault.DefFault.{DefFault}
use Rattle.context_transform.specs.declared.fault.DefFault.TheVariants.{TooBig, Lex, Module, Sort, Strict, Cell, TooMany as TooManyRules, Rule, Complete, Memory}
use Rattle.context_transform.specs.declared.fault.CellsUnclear.{CellsUnclear}
use Rattle.context_transform.specs.declared.fault.CellsUnclear.TheVariants.{CellMisplaced, Unclear, TooMany as TooManyInRule, Memory as UnclearMemory}
use Rattle.cell_config.specs.declared.refusal.CellRefusal.{CellRefusal}
use Rattle.cell_config.specs.declared.refusal.CellRefusal.TheVariants.{TwoCells, NoK, CellContent, TooMany as TooManyCells, Memory as CellMemory}
use Rattle.sorted_grammar.specs.declared.fault.What.{What}
use Rattle.sorted_grammar.specs.declared.fault.What.TheVariants.{Sorts, Productions, Rules, Cells, RuleTokens, PatternCells, NewCells}
use Rattle.sorted_grammar.specs.declared.fault.SortFault.{SortFault}
use Rattle.sorted_grammar.specs.declared.fault.SortFault.TheVariants.{TooMany, NoSort, SubsortCycle, CyclicProduction, Memory as SortMemory}
use Rattle.strictness.specs.declared.fault.StrictFault.{StrictFault}
use Rattle.strictness.specs.declared.fault.StrictFault.TheVariants.{BadStrict, Memory as StrictMemory}
use Rattle.rule_reader.specs.declared.refusal.RuleFault.{RuleFault}
use Rattle.rule_reader.specs.declared.refusal.RuleFault.TheVariants.{TooMany as TooMuch, BadToken, WideNumber, Unsorted, SortClash, NoReading, AmbiguousAt, PatternForm, NotBoundLeft, Memory as RuleMemory}

-- a line feed
abbrev pub line_end : List ℕ
line_end = 10 ∷ []

-- a line of a text and a number in decimal
abbrev pub numbered : List ℕ → ℕ → List ℕ
numbered text number = text ++ decimal number ++ line_end

-- a line of a text and the bytes of a name
abbrev pub named : List ℕ → List ℕ → List ℕ
named text name = text ++ name ++ line_end

abbrev pub lex_line : LexFault → List ℕ
lex_line (BadByte at) = numbered (codes "definition 1 BadByte at=") at
lex_line (OpenString at) = numbered (codes "definition 2 OpenString at=") at
lex_line (OpenComment at) = numbered (codes "definition 3 OpenComment at=") at
lex_line LexMemory = []

abbrev pub module_line : ModuleFault → List ℕ
module_line (Expected at) = numbered (codes "definition 4 Expected at=") at
module_line (NoModule name) = named (codes "definition 5 NoModule name=") name
module_line (ImportCycle name) = named (codes "definition 6 ImportCycle name=") name
module_line (TwoModules name) = named (codes "definition 7 TwoModules name=") name
module_line ModuleMemory = []

abbrev pub what_word : What → List ℕ
what_word Sorts = codes "sorts"
what_word Productions = codes "productions"
what_word Rules = codes "rules"
what_word Cells = codes "cells"
what_word RuleTokens = codes "rule tokens"
what_word PatternCells = codes "pattern cells"
what_word NewCells = codes "new cells"

-- what there is too much of
abbrev pub counted : What → ℕ → List ℕ
counted what n = codes "definition 11 TooMany what=" ++ what_word what ++ codes " n=" ++ decimal n ++ line_end

abbrev pub sort_line : SortFault → List ℕ
sort_line (TooMany what n) = counted what n
sort_line (NoSort name) = named (codes "definition 8 NoSort name=") name
sort_line (SubsortCycle sort) = named (codes "definition 9 SubsortCycle sort=") sort
sort_line (CyclicProduction p) = numbered (codes "definition 10 CyclicProduction prod=") p
sort_line SortMemory = []

abbrev pub strict_line : StrictFault → List ℕ
strict_line (BadStrict p place) = codes "definition 21 BadStrict prod=" ++ decimal p ++ codes " place=" ++ decimal place ++ line_end
strict_line StrictMemory = []

-- a refusal of a rule, with the byte of its word `rule`
abbrev pub of_rule : List ℕ → ℕ → List ℕ
of_rule name rule = name ++ codes " rule=" ++ decimal rule

abbrev pub rule_numbered : List ℕ → ℕ → ℕ → List ℕ
rule_numbered name rule at = of_rule name rule ++ codes " at=" ++ decimal at ++ line_end

abbrev pub rule_named : List ℕ → ℕ → List ℕ → List ℕ
rule_named name rule var = of_rule name rule ++ codes " var=" ++ var ++ line_end

abbrev pub rule_fault_line : ℕ → RuleFault → List ℕ
rule_fault_line rule (TooMuch what n) = of_rule (codes "definition 11 TooMany") rule ++ codes " what=" ++ what_word what ++ codes " n=" ++ decimal n ++ line_end
rule_fault_line rule (BadToken at) = rule_numbered (codes "definition 12 BadToken") rule at
rule_fault_line rule (WideNumber at) = rule_numbered (codes "definition 16 WideNumber") rule at
rule_fault_line rule (Unsorted var) = rule_named (codes "definition 17 Unsorted") rule var
rule_fault_line rule (SortClash var first second) =
    of_rule (codes "definition 18 SortClash") rule ++ codes " var=" ++ var ++ codes " first=" ++ first ++ codes " second=" ++ second ++ line_end
rule_fault_line rule (NoReading at) = rule_numbered (codes "definition 13 NoReading") rule at
rule_fault_line rule (AmbiguousAt at) = rule_numbered (codes "definition 14 AmbiguousAt") rule at
rule_fault_line rule (PatternForm at) = rule_numbered (codes "definition 20 PatternForm") rule at
rule_fault_line rule (NotBoundLeft var) = rule_named (codes "definition 19 NotBoundLeft") rule var
rule_fault_line rule RuleMemory = []

abbrev pub cell_refusal_line : CellRefusal → List ℕ
cell_refusal_line (TwoCells name) = named (codes "definition 22 TwoCells name=") name
cell_refusal_line NoK = codes "definition 23 NoK" ++ line_end
cell_refusal_line (CellContent name) = named (codes "definition 24 CellContent name=") name
cell_refusal_line (TooManyCells what n) = counted what n
cell_refusal_line CellMemory = []

-- rules are told by their numbers
abbrev pub unclear_line : CellsUnclear → List ℕ
unclear_line (CellMisplaced rule cell) = codes "definition 26 CellMisplaced rule=" ++ decimal rule ++ codes " cell=" ++ cell ++ line_end
unclear_line (Unclear rule) = numbered (codes "definition 25 Unclear rule=") rule
unclear_line (TooManyInRule what n) = counted what n
unclear_line UnclearMemory = []

-- want of memory is no refusal, and has no line
abbrev pub fault_line : DefFault → List ℕ
fault_line (TooBig bytes) = numbered (codes "definition 27 TooBig bytes=") bytes
fault_line (Lex fault) = lex_line fault
fault_line (Module fault) = module_line fault
fault_line (Sort fault) = sort_line fault
fault_line (Strict fault) = strict_line fault
fault_line (Cell refusal) = cell_refusal_line refusal
fault_line (TooManyRules what n) = counted what n
fault_line (Rule refusal) = rule_fault_line refusal.at refusal.fault
fault_line (Complete why) = unclear_line why
fault_line Memory = []
