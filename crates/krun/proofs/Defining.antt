-- What a file defines, or why it defines nothing, follows from what its phases say.
use Rattle.std.proofs.Common.{◌≡◌, ◌⊎◌, inl, inr, ℕ, ◌<◌, ◌≤◌, true, false, List, length, Option, Some, None, IfSome, Result, Ok, Err, IfOk, IfErr, refl, sym, ap, ◌∙◌, subst, arith}
use Rattle.std.proofs.lemmas.Bool.{cases_lt}
use Rattle.context_transform.specs.declared.fault.DefFault.{DefFault}
use Rattle.context_transform.specs.declared.fault.DefFault.TheVariants.{TooBig, Lex, Module, Sort, Strict, Cell, TooMany, Rule, Complete, Memory}
use Rattle.context_transform.specs.declared.assembling.Definition.{Definition as Whole}
use Rattle.context_transform.specs.Assembling.{assembly_of, IsDefFault, IsOnlyAssembly, IsOnlyFault}
use Rattle.context_transform.specs.Told.{wants_memory}
use Rattle.context_transform.proofs.Proper.{fault_proper}
use Rattle.program_reader.specs.declared.refusal.ReadRefusal.{ReadRefusal}
use Rattle.krun.specs.declared.outcome.Outcome.{Outcome}
use Rattle.krun.specs.declared.outcome.Outcome.TheVariants.{Final, Budget, Shown, Usage, Definition, Unbuilt, Program, ReadFault, Memory as NoMemoryLeft}
use Rattle.krun.specs.declared.outcome.Which.TheVariants.{Definition as TheDefinition, Program as TheProgram}
use Rattle.krun.specs.Outcome.{is_stop, outcome_of}
use Rattle.krun.specs.Refusals.{def_limit}
use Rattle.krun.specs.Causes.{IsCauseOf}
use Rattle.krun.specs.Assembled.{FileDefines, IsUndefined}

pub over_and_under : (limit n : ℕ) → limit < n → n ≤ limit → ⊥
over_and_under limit n over under = omega (arith, over, under)

-- ---- definitions that are too long

-- such a definition has no other fault, and is none
pub too_long : (bytes : List ℕ) → def_limit < length bytes → IsOnlyFault bytes (TooBig def_limit)
too_long bytes long = record {
  is = inl (record { long = long; fault_is = refl });
  only = other_is;
  none = λ assembly is. over_and_under def_limit (length bytes) long is.short;
}
  where
    other_is : (other : DefFault) → IsDefFault bytes other → other ≡ TooBig def_limit
    other_is other (inl big) = big.fault_is
    other_is other (inr (inl syntax)) = absurd (over_and_under def_limit (length bytes) long syntax.short)
    other_is other (inr (inr late)) = absurd (over_and_under def_limit (length bytes) long late.short)

-- of a file that is longer than a definition, more bytes than the limit were read
pub too_long_file : (file : Option (List ℕ)) (bytes : List ℕ) → def_limit < length bytes → IfSome file (λ told. length told ≤ def_limit → bytes ≡ told)
    → IfSome file (λ told. IsOnlyFault told (TooBig def_limit))
too_long_file None bytes long all = tt
too_long_file (Some told) bytes long all = too_long told (elim (cases_lt def_limit (length told)) [
  | inl over ↦ over
  | inr under ↦ absurd (over_and_under def_limit (length bytes) long (subst (λ b. length b ≤ def_limit) (sym (all under)) under))
])

-- the fault of an outcome
of_definition : (one other : DefFault) → Definition one ≡ Definition other → one ≡ other
of_definition one other same = ap faults same
  where
    faults : Outcome → DefFault
    faults (Definition fault) = fault
    faults o = one

pub same_fault : (file : Option (List ℕ)) (one other : DefFault) → Definition one ≡ Definition other → IfSome file (λ told. IsOnlyFault told one) → IfSome file (λ told. IsOnlyFault told other)
same_fault file one other same is = subst (λ fault. IfSome file (λ told. IsOnlyFault told fault)) (of_definition one other same) is

-- ---- what a fault is told as

-- but for want of memory it is a refusal of the definition
told_as : (fault : DefFault) → wants_memory fault ≡ false → outcome_of fault ≡ Definition fault
told_as (TooBig bytes) proper = refl
told_as (Lex fault) proper = refl
told_as (Module fault) proper = refl
told_as (Sort fault) proper = refl
told_as (Strict fault) proper = refl
told_as (Cell refusal) proper = refl
told_as (TooMany what n) proper = refl
told_as (Rule refusal) proper = refl
told_as (Complete why) proper = refl
told_as Memory proper = cc

pub fault_told : (bytes : List ℕ) (rose : Type 0) (fault : DefFault) (o : Outcome) → o ≡ outcome_of fault → (fault ≡ Memory) ⊎ IsOnlyFault bytes fault → IsUndefined (Some bytes) rose o
fault_told bytes rose fault o told (inl memory) = subst (IsUndefined (Some bytes) rose) (sym (told ∙ ap outcome_of memory)) tt
fault_told bytes rose fault o told (inr only) =
    let proper : wants_memory fault ≡ false = fault_proper bytes fault only.is in
    subst (IsUndefined (Some bytes) rose) (sym (told ∙ told_as fault proper)) (only, proper)

-- ---- files

-- what holds of the bytes holds of the file that they are
pub of_file : (file : Option (List ℕ)) (bytes : List ℕ) (P : List ℕ → Type 0) → IfSome file (λ told. bytes ≡ told) → P bytes → IfSome file P
of_file None bytes P whole holds = tt
of_file (Some told) bytes P whole holds = subst P whole holds

-- the bytes of a definition could not be had
pub bytes_stopped : (file : Option (List ℕ)) (rose : Type 0) (o : Outcome) → is_stop o ≡ true → (o ≡ Usage → ⊥) → (o ≡ Unbuilt → ⊥) → ((cause : ReadRefusal) → o ≡ Program cause → ⊥)
    → (o ≡ ReadFault TheProgram → ⊥) → (o ≡ ReadFault TheDefinition → rose)
    → ((fault : DefFault) → o ≡ Definition fault → IfSome file (λ bytes. IsOnlyFault bytes fault))
    → ((fault : DefFault) → o ≡ Definition fault → wants_memory fault ≡ false) → IsUndefined file rose o
bytes_stopped file rose Final stop usage unbuilt program other fault only proper = cc
bytes_stopped file rose Budget stop usage unbuilt program other fault only proper = cc
bytes_stopped file rose Shown stop usage unbuilt program other fault only proper = cc
bytes_stopped file rose Usage stop usage unbuilt program other fault only proper = usage refl
bytes_stopped file rose (Definition f) stop usage unbuilt program other fault only proper = (only f refl, proper f refl)
bytes_stopped file rose Unbuilt stop usage unbuilt program other fault only proper = absurd (unbuilt refl)
bytes_stopped file rose (Program cause) stop usage unbuilt program other fault only proper = program cause refl
bytes_stopped file rose (ReadFault TheDefinition) stop usage unbuilt program other fault only proper = fault refl
bytes_stopped file rose (ReadFault TheProgram) stop usage unbuilt program other fault only proper = absurd (other refl)
bytes_stopped file rose NoMemoryLeft stop usage unbuilt program other fault only proper = tt

-- the bytes define nothing, and so the file that they are
undefined_of : (file : Option (List ℕ)) (bytes : List ℕ) (rose : Type 0) (o : Outcome) → IfSome file (λ told. bytes ≡ told) → IsUndefined (Some bytes) ⊥ o → IsUndefined file rose o
undefined_of file bytes rose (Definition fault) whole none = (of_file file bytes (λ told. IsOnlyFault told fault) whole none.0, none.1)
undefined_of file bytes rose (ReadFault TheDefinition) whole none = absurd none
undefined_of file bytes rose (ReadFault TheProgram) whole none = elim none [ ]
undefined_of file bytes rose NoMemoryLeft whole none = tt
undefined_of file bytes rose Final whole none = elim none [ ]
undefined_of file bytes rose Budget whole none = elim none [ ]
undefined_of file bytes rose Shown whole none = elim none [ ]
undefined_of file bytes rose Usage whole none = elim none [ ]
undefined_of file bytes rose Unbuilt whole none = elim none [ ]
undefined_of file bytes rose (Program refusal) whole none = elim none [ ]

pub undefined_file : (file : Option (List ℕ)) (bytes : List ℕ) (rose : Type 0) (result : Result Whole Outcome) → IfSome file (λ told. bytes ≡ told)
    → IfErr result (IsUndefined (Some bytes) ⊥) → IfErr result (IsUndefined file rose)
undefined_file file bytes rose (Ok assembly) whole none = tt
undefined_file file bytes rose (Err o) whole none = undefined_of file bytes rose o whole none

pub file_defines : (file : Option (List ℕ)) (bytes : List ℕ) (result : Result Whole Outcome) → IfSome file (λ told. bytes ≡ told)
    → IfOk result (λ whole. IsOnlyAssembly bytes (assembly_of whole)) → IfOk result (λ whole. FileDefines file (assembly_of whole))
file_defines file bytes (Ok definition) whole only = of_file file bytes (λ told. IsOnlyAssembly told (assembly_of definition)) whole only
file_defines file bytes (Err o) whole only = tt

-- ---- runs

-- why bytes define nothing is why a run of them stops
pub undefined_cause : (bytes : List ℕ) (o : Outcome) → IsUndefined (Some bytes) ⊥ o → IsCauseOf bytes o
undefined_cause bytes (Definition fault) none = none
undefined_cause bytes (ReadFault TheDefinition) none = absurd none
undefined_cause bytes (ReadFault TheProgram) none = elim none [ ]
undefined_cause bytes NoMemoryLeft none = tt
undefined_cause bytes Final none = elim none [ ]
undefined_cause bytes Budget none = elim none [ ]
undefined_cause bytes Shown none = elim none [ ]
undefined_cause bytes Usage none = elim none [ ]
undefined_cause bytes Unbuilt none = elim none [ ]
undefined_cause bytes (Program refusal) none = elim none [ ]
