-- What the faults of the phases are told as.
use Rattle.std.specs.Prelude.{cond, Bool, true, false}
use Rattle.k_lexer.specs.declared.fault.LexFault.TheVariants.{Memory as LexMemory}
use Rattle.module_reader.specs.declared.fault.ModuleFault.TheVariants.{Memory as ModuleMemory}
use Rattle.sorted_grammar.specs.declared.fault.SortFault.TheVariants.{Memory as SortMemory}
use Rattle.definition_syntax.specs.declared.fault.SyntaxFault.{SyntaxFault}
use Rattle.definition_syntax.specs.declared.fault.SyntaxFault.TheVariants.{Lex as LexOf, Module as ModuleOf, Sort as SortOf, Memory as NoSyntaxMemory}
use Rattle.strictness.specs.declared.fault.StrictFault.{StrictFault}
use Rattle.strictness.specs.declared.fault.StrictFault.TheVariants.{Memory as NoStrictMemory}
use Rattle.cell_config.specs.declared.refusal.CellRefusal.{CellRefusal}
use Rattle.cell_config.specs.declared.refusal.CellRefusal.TheVariants.{Memory as NoCellMemory}
use Rattle.rule_reader.specs.declared.refusal.RuleRefusal.{RuleRefusal}
use Rattle.rule_reader.specs.Told.{is_memory}
use Rattle.context_transform.specs.declared.fault.CellsUnclear.{CellsUnclear}
use Rattle.context_transform.specs.declared.fault.CellsUnclear.TheVariants.{Memory as NoUnclearMemory}
use Rattle.context_transform.specs.declared.fault.DefFault.{DefFault}
use Rattle.context_transform.specs.declared.fault.DefFault.TheVariants.{Lex, Module, Sort, Strict, Cell, Rule, Complete, Memory}

abbrev pub told_syntax : SyntaxFault → DefFault
told_syntax (LexOf fault) = Lex fault
told_syntax (ModuleOf fault) = Module fault
told_syntax (SortOf fault) = Sort fault
told_syntax NoSyntaxMemory = Memory

abbrev pub told_strict : StrictFault → DefFault
told_strict NoStrictMemory = Memory
told_strict fault = Strict fault

abbrev pub told_cells : CellRefusal → DefFault
told_cells NoCellMemory = Memory
told_cells refusal = Cell refusal

abbrev pub told_rule : RuleRefusal → DefFault
told_rule refusal = cond (is_memory refusal.fault) Memory (Rule refusal)

abbrev pub told_unclear : CellsUnclear → DefFault
told_unclear NoUnclearMemory = Memory
told_unclear refusal = Complete refusal

-- memory was wanting, and nothing is wrong with the text
abbrev pub wants_memory : DefFault → Bool
wants_memory Memory = true
wants_memory (Lex LexMemory) = true
wants_memory (Module ModuleMemory) = true
wants_memory (Sort SortMemory) = true
wants_memory (Strict NoStrictMemory) = true
wants_memory (Cell NoCellMemory) = true
wants_memory (Rule refusal) = is_memory refusal.fault
wants_memory (Complete NoUnclearMemory) = true
wants_memory _ = false
