-- The status and the text of each outcome.
use Rattle.std.specs.Prelude.{◌≡◌, ◌⊎◌, ℕ, Bool, true, false, List, [], ◌++◌, Option, Some, None, codes}
use Rattle.context_transform.specs.declared.fault.DefFault.{DefFault}
use Rattle.context_transform.specs.declared.fault.DefFault.TheVariants.{Memory as DefMemory}
use Rattle.program_reader.specs.declared.refusal.ReadRefusal.TheVariants.{NoReading}
use Rattle.krun.specs.declared.outcome.Outcome.{Outcome}
use Rattle.krun.specs.declared.outcome.Outcome.TheVariants.{Final, Budget, Shown, Usage, Definition, Unbuilt, Program, ReadFault, Memory}
use Rattle.krun.specs.Lines.{line_end, fault_line}

abbrev pub status_of : Outcome → ℕ
status_of Final = 0
status_of Budget = 1
status_of Shown = 0
status_of Usage = 2
status_of (Definition _) = 3
status_of Unbuilt = 3
status_of (Program _) = 4
status_of (ReadFault _) = 5
status_of Memory = 7

-- what a refusal writes; a run has a text of its own, and so has what is shown and a program that is refused otherwise
abbrev pub text_of : Outcome → List ℕ
text_of Usage = codes "usage: krun MODE DEF [PGM] [TRACE] [--depth N] [--workers N] [--in LIST] [--trace | --waves | --cover]" ++ line_end
text_of (Definition fault) = fault_line fault
text_of Unbuilt = codes "definition 29 Unbuilt" ++ line_end
text_of (Program (NoReading _)) = codes "program 13 NoReading at=0" ++ line_end
text_of _ = []

-- the outcome refuses no definition by a fault of it, so that its text is always the same
abbrev pub HasFixedText : Outcome → Type 0
HasFixedText (Definition _) = ⊥
HasFixedText _ = Unit {0}

-- the word that begins the text of a run
abbrev pub run_word : Outcome → Option (List ℕ)
run_word Final = Some (codes "Final")
run_word Budget = Some (codes "Budget")
run_word _ = None

-- the call ended before its work was done
abbrev pub is_stop : Outcome → Bool
is_stop Final = false
is_stop Budget = false
is_stop Shown = false
is_stop _ = true

-- the outcome of a call whose definition has this fault
abbrev pub outcome_of : DefFault → Outcome
outcome_of DefMemory = Memory
outcome_of fault = Definition fault

-- what is reported of a refusal: the refusal, or want of memory where its line must be made
abbrev pub IsReported : Outcome → Outcome → Type 0
IsReported (Definition fault) reported = (reported ≡ Definition fault) ⊎ (reported ≡ Memory)
IsReported refusal reported = reported ≡ refusal

-- the outcome answers with a text that depends on the definition's words: what is shown, or a refused program
abbrev pub is_answer : Outcome → Bool
is_answer Shown = true
is_answer (Program _) = true
is_answer _ = false
