-- What `kast` answers: the term of a program, or why there is none.
use Rattle.std.specs.Prelude.{◌≡◌, ℕ, ◌≤◌, List, length, Option, IfSome, codes}
use Rattle.k_terms.specs.declared.value.Value.{Value}
use Rattle.program_reader.specs.Programs.{IsProgram, IsRefused as IsProgramRefused, IsLike}
use Rattle.program_answer.specs.declared.answer.Answer.{Answer}
use Rattle.program_answer.specs.declared.answer.Answer.TheVariants.{Shown as TermShown, Refused}
use Rattle.program_answer.specs.Answers.{IsTold}
use Rattle.context_transform.specs.Assembling.{Assembly, IsAssembly}
use Rattle.krun.specs.declared.outcome.Outcome.{Outcome}
use Rattle.krun.specs.declared.outcome.Outcome.TheVariants.{Shown, Program, ReadFault}
use Rattle.krun.specs.declared.outcome.Which.TheVariants.{Program as TheProgram}
use Rattle.krun.specs.Assembled.{FileDefines, IsUndefined}
use Rattle.krun.specs.Causes.{AskFor}

-- the words ask for `kast`, and so for the term of a program
abbrev pub IsKast : List (List ℕ) → Type 0
IsKast words = AskFor words (codes "kast") 2

-- what an answer is told as
abbrev pub told_answer : Answer → Outcome
told_answer TermShown = Shown
told_answer (Refused refusal) = Program refusal

-- the greatest length of a program's file, in bytes
abbrev pub program_limit : ℕ
program_limit = 65536

-- the bytes that were read of a file: all of it, or of one that is longer than a program more than the limit
pub record IsReadOf (file bytes : List ℕ) : Type 0 where
  pub whole : length bytes ≤ program_limit → bytes ≡ file
  pub all : length file ≤ program_limit → bytes ≡ file

-- the answer of two files, with its text
pub record IsAnswer (definition program : Option (List ℕ)) (outcome : Outcome) (text : List ℕ) : Type 0 where
  pub assembly : Assembly
  pub defines : FileDefines definition assembly
  pub answer : Answer
  pub is : outcome ≡ told_answer answer
  pub told : IfSome program (λ bytes. IsTold assembly.grammar assembly.names assembly.tree.sort bytes answer text)

-- Why there is no answer: the definition's file defines nothing; or the program's could not be read, behind a definition.
abbrev pub IsStopped : Option (List ℕ) → Type 0 → Type 0 → Outcome → Type 0
IsStopped definition definition_rose program_rose (ReadFault TheProgram) = ((assembly : Assembly) × FileDefines definition assembly) × program_rose
IsStopped definition definition_rose program_rose o = IsUndefined definition definition_rose o

-- what must be answered for two files
abbrev pub Answers : List ℕ → List ℕ → Outcome → Type 0
Answers definition program Shown =
    (assembly : Assembly) × (after : List (List ℕ)) × (value : Value) × IsAssembly definition assembly
    × IsProgram assembly.grammar assembly.names assembly.tree.sort program after value
Answers definition program (Program refusal) =
    (assembly : Assembly) × (after : List (List ℕ)) × IsAssembly definition assembly
    × IsProgramRefused assembly.grammar assembly.names assembly.tree.sort program after refusal
Answers definition program _ = ⊥

-- the same outcome, or refusals of a program that are alike
abbrev pub AreAlike : Outcome → Outcome → Type 0
AreAlike (Program refusal) (Program other) = IsLike refusal other
AreAlike one other = one ≡ other
