-- What `kast` answers follows from what its phases say.
use Rattle.std.proofs.Common.{◌≡◌, ◌⊎◌, inl, inr, ℕ, Bool, ◌<◌, ◌≤◌, true, false, List, length, Option, Some, None, IfSome, refl, sym, ap, ◌∙◌, subst}
use Rattle.std.proofs.lemmas.Bool.{cases_lt}
use Rattle.k_terms.specs.declared.value.Value.{Value}
use Rattle.grammar_terms.specs.Grammar.{Syntax}
use Rattle.program_reader.specs.declared.refusal.ReadRefusal.{ReadRefusal}
use Rattle.program_reader.specs.declared.refusal.ReadRefusal.TheVariants.{TooBig as ProgramTooBig, TooLong, BadToken, WideNumber, NoReading, Ambiguous, TooDeep, Memory as NoProgramMemory}
use Rattle.program_reader.specs.Programs.{IsProgram, IsFaulty as IsFaultyText, IsRefused as IsProgramRefused}
use Rattle.program_reader.proofs.Determined.{not_both, one_refusal}
use Rattle.program_tokens.proofs.Once.{one_split}
use Rattle.program_answer.specs.declared.answer.Answer.{Answer}
use Rattle.program_answer.specs.declared.answer.Answer.TheVariants.{Shown as TermShown, Refused}
use Rattle.program_answer.specs.Answers.{IsTold}
use Rattle.context_transform.specs.declared.fault.DefFault.{DefFault}
use Rattle.context_transform.specs.Assembling.{Assembly, IsAssembly, IsDefFault}
use Rattle.context_transform.specs.Told.{wants_memory}
use Rattle.krun.specs.declared.outcome.Outcome.{Outcome}
use Rattle.krun.specs.declared.outcome.Outcome.TheVariants.{Final, Budget, Shown, Usage, Definition, Unbuilt, Program, ReadFault, Memory as NoMemoryLeft}
use Rattle.krun.specs.declared.outcome.Which.TheVariants.{Definition as TheDefinition, Program as TheProgram}
use Rattle.krun.specs.Outcome.{is_answer, run_word, IsReported}
use Rattle.krun.specs.Assembled.{FileDefines, IsUndefined}
use Rattle.krun.specs.Kast.{IsAnswer, IsStopped, IsReadOf, Answers, AreAlike, told_answer, program_limit}
use Rattle.krun.proofs.Defining.{over_and_under}

-- ---- both files

-- where the definition stopped, the program's file makes no difference
pub stopped_first : (file : Option (List ℕ)) (rose other : Type 0) (o : Outcome) → IsUndefined file rose o → IsStopped file rose other o
stopped_first file rose other (Definition fault) h = h
stopped_first file rose other (ReadFault TheDefinition) h = h
stopped_first file rose other (ReadFault TheProgram) h = elim h [ ]
stopped_first file rose other NoMemoryLeft h = tt
stopped_first file rose other Unbuilt h = elim h [ ]
stopped_first file rose other Final h = elim h [ ]
stopped_first file rose other Budget h = elim h [ ]
stopped_first file rose other Shown h = elim h [ ]
stopped_first file rose other Usage h = elim h [ ]
stopped_first file rose other (Program refusal) h = elim h [ ]

pub stopped_second : (file : Option (List ℕ)) (assembly : Assembly) (rose other : Type 0) (o : Outcome) → FileDefines file assembly
    → (o ≡ NoMemoryLeft) ⊎ ((o ≡ ReadFault TheProgram) × other) → IsStopped file rose other o
stopped_second file assembly rose other o defines (inl memory) = subst (IsStopped file rose other) (sym memory) tt
stopped_second file assembly rose other o defines (inr h) = subst (IsStopped file rose other) (sym h.0) ((assembly, defines), h.1)

-- the bytes that were read are a program exactly where the file is
refused_of_file : (g : Syntax) (before : List (List ℕ)) (sort : ℕ) (file bytes : List ℕ) (after : List (List ℕ)) (refusal : ReadRefusal) → IsReadOf file bytes
    → IsProgramRefused g before sort bytes after refusal → IsProgramRefused g before sort file after refusal
refused_of_file g before sort file bytes after (ProgramTooBig limit) read h = (h.0, longer, h.2)
  where
    longer : program_limit < length file
    longer = elim (cases_lt program_limit (length file)) [
      | inl long ↦ long
      | inr fits ↦ absurd (over_and_under program_limit (length bytes) h.1 (subst (λ b. length b ≤ program_limit) (sym (read.all fits)) fits))
    ]
refused_of_file g before sort file bytes after (TooLong tokens) read h = subst (λ b. IsFaultyText g before sort b after (TooLong tokens)) (read.whole h.fits) h
refused_of_file g before sort file bytes after (BadToken at) read h = subst (λ b. IsFaultyText g before sort b after (BadToken at)) (read.whole h.fits) h
refused_of_file g before sort file bytes after (WideNumber at) read h = subst (λ b. IsFaultyText g before sort b after (WideNumber at)) (read.whole h.fits) h
refused_of_file g before sort file bytes after (NoReading at) read h = subst (λ b. IsFaultyText g before sort b after (NoReading at)) (read.whole h.fits) h
refused_of_file g before sort file bytes after (Ambiguous v w) read h = subst (λ b. IsFaultyText g before sort b after (Ambiguous v w)) (read.whole h.fits) h
refused_of_file g before sort file bytes after (TooDeep depth) read h = subst (λ b. IsFaultyText g before sort b after (TooDeep depth)) (read.whole h.fits) h
refused_of_file g before sort file bytes after NoProgramMemory read h = subst (λ b. IsFaultyText g before sort b after NoProgramMemory) (read.whole h.fits) h

told_of_file : (g : Syntax) (names : List (List ℕ)) (sort : ℕ) (file bytes : List ℕ) (answer : Answer) (text : List ℕ) → IsReadOf file bytes
    → IsTold g names sort bytes answer text → IsTold g names sort file answer text
told_of_file g names sort file bytes TermShown text read told =
    (told.0, told.1, subst (λ b. IsProgram g names sort b told.0 told.1) (read.whole told.2.fits) told.2, told.3)
told_of_file g names sort file bytes (Refused refusal) text read told = (told.0, refused_of_file g names sort file bytes told.0 refusal read told.1, told.2)

pub answered : (definition program : Option (List ℕ)) (assembly : Assembly) (bytes : List ℕ) (answer : Answer) (text : List ℕ) → FileDefines definition assembly
    → IfSome program (λ file. IsReadOf file bytes) → IsTold assembly.grammar assembly.names assembly.tree.sort bytes answer text
    → IsAnswer definition program (told_answer answer) text
answered definition program assembly bytes answer text defines read told = record {
  assembly = assembly;
  defines = defines;
  answer = answer;
  is = refl;
  told = by_file program read;
}
  where
    by_file : (program : Option (List ℕ)) → IfSome program (λ file. IsReadOf file bytes)
        → IfSome program (λ file. IsTold assembly.grammar assembly.names assembly.tree.sort file answer text)
    by_file None read = tt
    by_file (Some file) read = told_of_file assembly.grammar assembly.names assembly.tree.sort file bytes answer text read told

-- ---- reports

pub answer_is : (answer : Answer) → is_answer (told_answer answer) ≡ true
answer_is TermShown = refl
answer_is (Refused refusal) = refl

-- what stopped is no answer, and is reported as it is or as want of memory
pub stopped_reported : (file : Option (List ℕ)) (rose other : Type 0) (o reported : Outcome) → IsReported o reported → IsStopped file rose other o
    → (is_answer reported ≡ false) × IsStopped file rose other reported
stopped_reported file rose other (Definition fault) reported (inl same) h = subst (λ r. (is_answer r ≡ false) × IsStopped file rose other r) (sym same) (refl, h)
stopped_reported file rose other (Definition fault) reported (inr memory) h = subst (λ r. (is_answer r ≡ false) × IsStopped file rose other r) (sym memory) (refl, tt)
stopped_reported file rose other (ReadFault TheDefinition) reported same h = subst (λ r. (is_answer r ≡ false) × IsStopped file rose other r) (sym same) (refl, h)
stopped_reported file rose other (ReadFault TheProgram) reported same h = subst (λ r. (is_answer r ≡ false) × IsStopped file rose other r) (sym same) (refl, h)
stopped_reported file rose other NoMemoryLeft reported same h = subst (λ r. (is_answer r ≡ false) × IsStopped file rose other r) (sym same) (refl, h)
stopped_reported file rose other Unbuilt reported same h = elim h [ ]
stopped_reported file rose other Final reported same h = elim h [ ]
stopped_reported file rose other Budget reported same h = elim h [ ]
stopped_reported file rose other Shown reported same h = elim h [ ]
stopped_reported file rose other Usage reported same h = elim h [ ]
stopped_reported file rose other (Program refusal) reported same h = elim h [ ]

-- ---- what must be answered

module _ (g : Syntax) (names : List (List ℕ)) (sort : ℕ) (program : List ℕ) where
  told_alike : (answer : Answer) (text : List ℕ) → IsTold g names sort program answer text
      → ((after : List (List ℕ)) (value : Value) → IsProgram g names sort program after value → told_answer answer ≡ Shown)
      × ((after : List (List ℕ)) (refusal : ReadRefusal) → IsProgramRefused g names sort program after refusal → AreAlike (Program refusal) (told_answer answer))
  told_alike TermShown text told = (
    λ after value is. refl,
    λ after refusal is. absurd (not_both one_split g names sort program told.0 after told.1 refusal told.2 is),
  )
  told_alike (Refused other) text told = (
    λ after value is. absurd (not_both one_split g names sort program after told.0 value other is told.1),
    λ after refusal is. (one_refusal one_split g names sort program after told.0 refusal other is told.1).1,
  )

-- what is told of a file of an assembly
abbrev alike_of : (assembly : Assembly) (program : List ℕ) (answer : Answer) (text : List ℕ)
    → IsTold assembly.grammar assembly.names assembly.tree.sort program answer text
    → ((after : List (List ℕ)) (value : Value) → IsProgram assembly.grammar assembly.names assembly.tree.sort program after value → told_answer answer ≡ Shown)
    × ((after : List (List ℕ)) (refusal : ReadRefusal) → IsProgramRefused assembly.grammar assembly.names assembly.tree.sort program after refusal
    → AreAlike (Program refusal) (told_answer answer))
alike_of assembly program answer text told = told_alike assembly.grammar assembly.names assembly.tree.sort program answer text told

module _ (definition program : List ℕ) (rose other_rose : Type 0) (no_rose : rose → ⊥) (no_other : other_rose → ⊥) where
  -- an answer is like the one that must be given
  answer_alike : (outcome : Outcome) (text : List ℕ) (o : Outcome) → IsAnswer (Some definition) (Some program) outcome text → Answers definition program o → AreAlike o outcome
  answer_alike outcome text Shown answer must =
      let same : must.0 ≡ answer.assembly = answer.defines.only must.0 must.3 in
      let moved : IsProgram answer.assembly.grammar answer.assembly.names answer.assembly.tree.sort program must.1 must.2 =
      subst (λ (k : Assembly). IsProgram k.grammar k.names k.tree.sort program must.1 must.2) same must.4 in
      sym (answer.is ∙ (alike_of answer.assembly program answer.answer text answer.told).0 must.1 must.2 moved)
  answer_alike outcome text (Program refusal) answer must =
      let same : must.0 ≡ answer.assembly = answer.defines.only must.0 must.2 in
      let moved : IsProgramRefused answer.assembly.grammar answer.assembly.names answer.assembly.tree.sort program must.1 refusal =
      subst (λ (k : Assembly). IsProgramRefused k.grammar k.names k.tree.sort program must.1 refusal) same must.3 in
      subst (AreAlike (Program refusal)) (sym answer.is) ((alike_of answer.assembly program answer.answer text answer.told).1 must.1 refusal moved)
  answer_alike outcome text Final answer must = elim must [ ]
  answer_alike outcome text Budget answer must = elim must [ ]
  answer_alike outcome text Usage answer must = elim must [ ]
  answer_alike outcome text (Definition fault) answer must = elim must [ ]
  answer_alike outcome text Unbuilt answer must = elim must [ ]
  answer_alike outcome text (ReadFault which) answer must = elim must [ ]
  answer_alike outcome text NoMemoryLeft answer must = elim must [ ]

  -- what must be answered has a definition
  must_define : (o : Outcome) → Answers definition program o → (assembly : Assembly) × IsAssembly definition assembly
  must_define Shown must = (must.0, must.3)
  must_define (Program refusal) must = (must.0, must.2)
  must_define Final must = elim must [ ]
  must_define Budget must = elim must [ ]
  must_define Usage must = elim must [ ]
  must_define (Definition fault) must = elim must [ ]
  must_define Unbuilt must = elim must [ ]
  must_define (ReadFault which) must = elim must [ ]
  must_define NoMemoryLeft must = elim must [ ]

  stopped_memory : (outcome o : Outcome) → IsStopped (Some definition) rose other_rose outcome → Answers definition program o → outcome ≡ NoMemoryLeft
  stopped_memory (Definition fault) o stop must = let defined = must_define o must in absurd (stop.0.none defined.0 defined.1)
  stopped_memory (ReadFault TheDefinition) o stop must = absurd (no_rose stop)
  stopped_memory (ReadFault TheProgram) o stop must = absurd (no_other stop.1)
  stopped_memory NoMemoryLeft o stop must = refl
  stopped_memory Unbuilt o stop must = elim stop [ ]
  stopped_memory Final o stop must = elim stop [ ]
  stopped_memory Budget o stop must = elim stop [ ]
  stopped_memory Shown o stop must = elim stop [ ]
  stopped_memory Usage o stop must = elim stop [ ]
  stopped_memory (Program refusal) o stop must = elim stop [ ]

module _ (definition : List ℕ) (rose other_rose : Type 0) (no_rose : rose → ⊥) where
  stopped_nothing : (outcome : Outcome) (fault : DefFault) → IsStopped (Some definition) rose other_rose outcome → IsDefFault definition fault
      → (outcome ≡ Definition fault) ⊎ (outcome ≡ NoMemoryLeft)
  stopped_nothing (Definition other) fault stop is = inl (ap Definition (sym (stop.0.only fault is)))
  stopped_nothing (ReadFault TheDefinition) fault stop is = absurd (no_rose stop)
  stopped_nothing (ReadFault TheProgram) fault stop is = absurd (stop.0.1.no_fault fault is)
  stopped_nothing NoMemoryLeft fault stop is = inr refl
  stopped_nothing Unbuilt fault stop is = elim stop [ ]
  stopped_nothing Final fault stop is = elim stop [ ]
  stopped_nothing Budget fault stop is = elim stop [ ]
  stopped_nothing Shown fault stop is = elim stop [ ]
  stopped_nothing Usage fault stop is = elim stop [ ]
  stopped_nothing (Program refusal) fault stop is = elim stop [ ]

either : (b : Bool) → (b ≡ true) ⊎ (b ≡ false)
either true = inl refl
either false = inr refl

-- ---- the same where the files may be told

-- what a report of an answer says of its outcome
pub record Reported (definition program : Option (List ℕ)) (rose other_rose : Type 0) (outcome : Outcome) : Type 0 where
  pub answer : is_answer outcome ≡ true → (text : List ℕ) × IsAnswer definition program outcome text
  pub stop : is_answer outcome ≡ false → IsStopped definition rose other_rose outcome

-- the same by the names of the files
pub reported_of : (told : List ℕ → Option (List ℕ)) (rose : List ℕ → Type 0) (one other first second : List ℕ) (outcome : Outcome) → one ≡ first → other ≡ second
    → (is_answer outcome ≡ true → (text : List ℕ) × IsAnswer (told one) (told other) outcome text)
    → (is_answer outcome ≡ false → IsStopped (told one) (rose one) (rose other) outcome)
    → Reported (told first) (told second) (rose first) (rose second) outcome
reported_of told rose one other first second outcome same also answer stop =
    subst (λ (names : List ℕ × List ℕ). Reported (told names.0) (told names.1) (rose names.0) (rose names.1) outcome)
    (λ i. (same i, also i)) (record { answer = answer; stop = stop })

pub nothing_where : (definition program : Option (List ℕ)) (rose other_rose : Type 0) (outcome : Outcome) → Reported definition program rose other_rose outcome
    → IfSome definition (λ bytes. (fault : DefFault) → IsDefFault bytes fault → (rose → ⊥) → (outcome ≡ Definition fault) ⊎ (outcome ≡ NoMemoryLeft))
nothing_where None program rose other_rose outcome reported = tt
nothing_where (Some bytes) program rose other_rose outcome reported = λ fault is no_rose. elim (either (is_answer outcome)) [
  | inl answer ↦ absurd ((reported.answer answer).1.defines.no_fault fault is)
  | inr stop ↦ stopped_nothing bytes rose other_rose no_rose outcome fault (reported.stop stop) is
]

pub answer_where : (definition program : Option (List ℕ)) (rose other_rose : Type 0) (outcome : Outcome) → Reported definition program rose other_rose outcome
    → IfSome definition (λ bytes. IfSome program (λ text. (o : Outcome) → Answers bytes text o → (rose → ⊥) → (other_rose → ⊥) → AreAlike o outcome ⊎ (outcome ≡ NoMemoryLeft)))
answer_where None program rose other_rose outcome reported = tt
answer_where (Some bytes) None rose other_rose outcome reported = tt
answer_where (Some bytes) (Some text) rose other_rose outcome reported = λ o must no_rose no_other. elim (either (is_answer outcome)) [
  | inl answer ↦ let told = reported.answer answer in inl (answer_alike bytes text rose other_rose no_rose no_other outcome told.0 o told.1 must)
  | inr stop ↦ inr (stopped_memory bytes text rose other_rose no_rose no_other outcome o (reported.stop stop) must)
]

-- an answer is no run and no want of words, and a stop of the definition has its cause
module _ (definition program : Option (List ℕ)) (rose other_rose : Type 0) where
  pub no_run : (outcome : Outcome) → Reported definition program rose other_rose outcome → run_word outcome ≡ None
  no_run Final reported = elim (reported.stop refl) [ ]
  no_run Budget reported = elim (reported.stop refl) [ ]
  no_run Shown reported = refl
  no_run Usage reported = refl
  no_run (Definition fault) reported = refl
  no_run Unbuilt reported = refl
  no_run (Program refusal) reported = refl
  no_run (ReadFault which) reported = refl
  no_run NoMemoryLeft reported = refl

  pub no_usage : (outcome : Outcome) → Reported definition program rose other_rose outcome → outcome ≡ Usage → ⊥
  no_usage outcome reported is = subst (IsStopped definition rose other_rose) is (reported.stop (ap is_answer is))

  pub first_fault : (outcome : Outcome) → Reported definition program rose other_rose outcome → outcome ≡ ReadFault TheDefinition → rose
  first_fault outcome reported is = subst (IsStopped definition rose other_rose) is (reported.stop (ap is_answer is))

  pub proper_fault : (outcome : Outcome) → Reported definition program rose other_rose outcome → (fault : DefFault) → outcome ≡ Definition fault → wants_memory fault ≡ false
  proper_fault outcome reported fault is = (subst (IsStopped definition rose other_rose) is (reported.stop (ap is_answer is))).1
