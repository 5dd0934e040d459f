-- What follows from the causes of the refusals.
use Rattle.std.proofs.Common.{◌≡◌, ◌≢◌, ◌↔◌, ◌⊎◌, inl, inr, List, ℕ, Option, Some, None, IfSome, refl, ap, sym, subst, true, false}
use Rattle.std.specs.Prelude.{IsSomeAnd}
use Rattle.live_config.specs.declared.site.Fired.{Fired}
use Rattle.live_config.specs.Live.{LiveState}
use Rattle.context_transform.specs.declared.fault.DefFault.{DefFault}
use Rattle.context_transform.specs.Assembling.{IsDefFault, IsOnlyFault}
use Rattle.context_transform.specs.Told.{wants_memory}
use Rattle.program_reader.specs.declared.refusal.ReadRefusal.{ReadRefusal}
use Rattle.program_reader.specs.declared.refusal.ReadRefusal.TheVariants.{NoReading}
use Rattle.krun.specs.declared.outcome.Which.TheVariants.{Definition as TheDefinition, Program as TheProgram}
use Rattle.krun.specs.declared.outcome.Outcome.{Outcome}
use Rattle.krun.specs.declared.outcome.Outcome.TheVariants.{Final, Budget, Shown, Usage, Definition, Unbuilt, Program, ReadFault, Memory}
use Rattle.krun.specs.Outcome.{status_of, run_word, is_stop, IsReported}
use Rattle.krun.specs.Refusals.{HasNoRefusal}
use Rattle.krun.specs.Headline.{IsRun, Took}
use Rattle.krun.specs.Causes.{IsJob, IsOfSmallForm, IsDefinition, IsUnbuilt, IsProgram, IsWholeRun}

-- the causes of a refusal
pub record Refused (words : List (List ℕ)) (definition program : Option (List ℕ)) (definition_rose program_rose : Type 0) (o : Outcome) : Type 0 where
  pub refused : is_stop o ≡ true
  pub usage : (o ≡ Usage) ↔ (IsJob words → ⊥)
  pub definition_fault : o ≡ ReadFault TheDefinition → definition_rose
  pub of_definition : (fault : DefFault) → o ≡ Definition fault → IfSome definition (λ bytes. IsOnlyFault bytes fault)
  pub never_memory : (fault : DefFault) → o ≡ Definition fault → wants_memory fault ≡ false
  pub unbuilt : o ≡ Unbuilt → IfSome definition IsUnbuilt
  pub program_fault : o ≡ ReadFault TheProgram → IfSome definition IsDefinition × program_rose
  pub no_reading : (cause : ReadRefusal) → o ≡ Program cause → (cause ≡ NoReading 0) × IfSome definition (λ bytes. IsDefinition bytes × IfSome program (λ text. IsProgram bytes text → ⊥))

-- what is said of a word, where there is none
pub none_holds : {A : Type 0} (o : Option A) (P : A → Type 0) → o ≡ None → IfSome o P
none_holds None P is = tt
none_holds (Some x) P is = cc

-- what ended before its work was done has no word of a run
pub stop_word : (o : Outcome) → is_stop o ≡ true → run_word o ≡ None
stop_word Final stop = cc
stop_word Budget stop = cc
stop_word Shown stop = refl
stop_word Usage stop = refl
stop_word (Definition fault) stop = refl
stop_word Unbuilt stop = refl
stop_word (Program refusal) stop = refl
stop_word (ReadFault which) stop = refl
stop_word Memory stop = refl

-- what is reported of a refusal has the causes that it has
pub reported : (words : List (List ℕ)) (definition program : Option (List ℕ)) (definition_rose program_rose : Type 0) (o other : Outcome)
    → IsReported o other → Refused words definition program definition_rose program_rose o → Refused words definition program definition_rose program_rose other
reported words definition program definition_rose program_rose (Definition fault) other (inl same) h =
    subst (Refused words definition program definition_rose program_rose) (sym same) h
reported words definition program definition_rose program_rose (Definition fault) other (inr memory) h =
    subst (Refused words definition program definition_rose program_rose) (sym memory)
    (record {
      refused = refl;
      usage = (λ is. cc, λ none. let not : Definition fault ≡ Usage = h.usage.1 none in cc);
      definition_fault = λ is. cc;
      of_definition = λ fault is. cc;
      never_memory = λ fault is. cc;
      unbuilt = λ is. cc;
      program_fault = λ is. cc;
      no_reading = λ cause is. cc;
    })
reported words definition program definition_rose program_rose Final other same h = subst (Refused words definition program definition_rose program_rose) (sym same) h
reported words definition program definition_rose program_rose Budget other same h = subst (Refused words definition program definition_rose program_rose) (sym same) h
reported words definition program definition_rose program_rose Shown other same h = subst (Refused words definition program definition_rose program_rose) (sym same) h
reported words definition program definition_rose program_rose Usage other same h = subst (Refused words definition program definition_rose program_rose) (sym same) h
reported words definition program definition_rose program_rose Unbuilt other same h = subst (Refused words definition program definition_rose program_rose) (sym same) h
reported words definition program definition_rose program_rose (Program _) other same h = subst (Refused words definition program definition_rose program_rose) (sym same) h
reported words definition program definition_rose program_rose (ReadFault _) other same h = subst (Refused words definition program definition_rose program_rose) (sym same) h
reported words definition program definition_rose program_rose Memory other same h = subst (Refused words definition program definition_rose program_rose) (sym same) h

module _ (words : List (List ℕ)) (bytes : List ℕ) (definition_rose program_rose : Type 0) where
  -- a definition that has a refusal is refused as it says
  pub definition_alone : (program : Option (List ℕ)) (fault : DefFault) (o : Outcome) → Refused words (Some bytes) program definition_rose program_rose o → IsJob words
      → IsDefFault bytes fault → (definition_rose → ⊥) → (o ≡ Definition fault) ⊎ (o ≡ Memory)
  definition_alone program fault Usage h job is rose = absurd (h.usage.0 refl job)
  definition_alone program fault (Definition other) h job is rose = inl (ap Definition (sym ((h.of_definition other refl).only fault is)))
  definition_alone program fault Unbuilt h job is rose = absurd ((h.unbuilt refl).accepted fault is)
  definition_alone program fault (Program cause) h job is rose = absurd ((h.no_reading cause refl).1.0.accepted fault is)
  definition_alone program fault (ReadFault TheDefinition) h job is rose = absurd (rose (h.definition_fault refl))
  definition_alone program fault (ReadFault TheProgram) h job is rose = absurd ((h.program_fault refl).0.accepted fault is)
  definition_alone program fault Memory h job is rose = inr refl
  definition_alone program fault Final h job is rose = cc
  definition_alone program fault Budget h job is rose = cc
  definition_alone program fault Shown h job is rose = cc

  -- a file that nothing refuses and that is not of the small form is refused as such
  pub unbuilt_alone : (program : Option (List ℕ)) (o : Outcome) → Refused words (Some bytes) program definition_rose program_rose o → IsJob words
      → HasNoRefusal bytes → (IsOfSmallForm bytes → ⊥) → (definition_rose → ⊥) → (o ≡ Unbuilt) ⊎ (o ≡ Memory)
  unbuilt_alone program Usage h job accepted none rose = absurd (h.usage.0 refl job)
  unbuilt_alone program (Definition fault) h job accepted none rose = absurd (accepted fault (h.of_definition fault refl).is)
  unbuilt_alone program Unbuilt h job accepted none rose = inl refl
  unbuilt_alone program (Program cause) h job accepted none rose = absurd (none (h.no_reading cause refl).1.0.small)
  unbuilt_alone program (ReadFault TheDefinition) h job accepted none rose = absurd (rose (h.definition_fault refl))
  unbuilt_alone program (ReadFault TheProgram) h job accepted none rose = absurd (none (h.program_fault refl).0.small)
  unbuilt_alone program Memory h job accepted none rose = inr refl
  unbuilt_alone program Final h job accepted none rose = cc
  unbuilt_alone program Budget h job accepted none rose = cc
  unbuilt_alone program Shown h job accepted none rose = cc

  -- a file that is no program of the definition is refused as such
  pub no_reading_alone : (text : List ℕ) (o : Outcome) → Refused words (Some bytes) (Some text) definition_rose program_rose o → IsJob words
      → IsDefinition bytes → (definition_rose → ⊥) → (program_rose → ⊥) → (o ≡ Program (NoReading 0)) ⊎ (o ≡ Memory)
  no_reading_alone text Usage h job read rose program_rose = absurd (h.usage.0 refl job)
  no_reading_alone text (Definition fault) h job read rose program_rose = absurd (read.accepted fault (h.of_definition fault refl).is)
  no_reading_alone text Unbuilt h job read rose program_rose = absurd ((h.unbuilt refl).other_form read.small)
  no_reading_alone text (Program cause) h job read rose program_rose = inl (ap Program (h.no_reading cause refl).0)
  no_reading_alone text (ReadFault TheDefinition) h job read rose program_rose = absurd (rose (h.definition_fault refl))
  no_reading_alone text (ReadFault TheProgram) h job read rose program_rose = absurd (program_rose (h.program_fault refl).1)
  no_reading_alone text Memory h job read rose program_rose = inr refl
  no_reading_alone text Final h job read rose program_rose = cc
  no_reading_alone text Budget h job read rose program_rose = cc
  no_reading_alone text Shown h job read rose program_rose = cc

  -- where both files are read, memory alone may be wanting
  pub memory_alone : (text : List ℕ) (o : Outcome) → Refused words (Some bytes) (Some text) definition_rose program_rose o → IsJob words
      → IsProgram bytes text → (definition_rose → ⊥) → (program_rose → ⊥) → o ≡ Memory
  memory_alone text o h job is rose program_rose =
      elim (no_reading_alone text o h job (record { accepted = is.accepted; small = (is.read.0, is.read.2) }) rose program_rose) [
        | inl refused ↦ absurd ((h.no_reading (NoReading 0) refused).1.1 is)
        | inr memory ↦ memory
      ]

-- a run read a definition and a program of it
abbrev pub HasRead : Option (List ℕ) → Option (List ℕ) → Type 0
HasRead definition program = IfSome definition (λ bytes. IsDefinition bytes × IfSome program (λ text. IsProgram bytes text))

pub run_read : (definition program : Option (List ℕ)) (o outcome : Outcome) (fired : List Fired) (end : Option LiveState) (text : List ℕ) → (run_word o ≡ None → ⊥)
    → IfSome (run_word o) (λ word. IsRun definition program outcome word fired end text) → HasRead definition program
run_read definition program o outcome fired end text ended run = by_word (run_word o) ended run
  where
    of_run : (d p : Option (List ℕ)) (word : List ℕ) → IsRun d p outcome word fired end text → HasRead d p
    of_run None p word run = tt
    of_run (Some bytes) None word run = (record { accepted = run.accepted; small = (run.language, run.definition_read) }, tt)
    of_run (Some bytes) (Some source) word run = (
      record { accepted = run.accepted; small = (run.language, run.definition_read) },
      record { accepted = run.accepted; read = (run.language, run.value, run.definition_read, run.program_read) },
    )

    by_word : (w : Option (List ℕ)) → (w ≡ None → ⊥) → IfSome w (λ word. IsRun definition program outcome word fired end text) → HasRead definition program
    by_word None some run = absurd (some refl)
    by_word (Some word) some run = of_run definition program word run

-- ---- the same where the files may be told

module _ (words : List (List ℕ)) (definition_rose program_rose : Type 0) (o : Outcome) where
  -- the refusal itself, without that it is the only one
  pub refused_definition : (definition program : Option (List ℕ)) (fault : DefFault) → Refused words definition program definition_rose program_rose o
      → o ≡ Definition fault → IfSome definition (λ bytes. IsDefFault bytes fault)
  refused_definition None program fault h is = tt
  refused_definition (Some bytes) program fault h is = (h.of_definition fault is).is

  pub refused_definition_where : (definition program : Option (List ℕ)) (fault : DefFault) → Refused words definition program definition_rose program_rose o → IsJob words
      → IfSome definition (λ bytes. IsDefFault bytes fault → (definition_rose → ⊥) → (o ≡ Definition fault) ⊎ (o ≡ Memory))
  refused_definition_where None program fault h job = tt
  refused_definition_where (Some bytes) program fault h job = definition_alone words bytes definition_rose program_rose program fault o h job

  pub refused_unbuilt : (definition program : Option (List ℕ)) → Refused words definition program definition_rose program_rose o → IsJob words
      → IfSome definition (λ bytes. HasNoRefusal bytes → (IsOfSmallForm bytes → ⊥) → (definition_rose → ⊥) → (o ≡ Unbuilt) ⊎ (o ≡ Memory))
  refused_unbuilt None program h job = tt
  refused_unbuilt (Some bytes) program h job = unbuilt_alone words bytes definition_rose program_rose program o h job

  pub refused_no_reading : (definition program : Option (List ℕ)) → Refused words definition program definition_rose program_rose o → IsJob words
      → IfSome definition (λ bytes. IsDefinition bytes → IfSome program (λ text. (IsProgram bytes text → ⊥) → (definition_rose → ⊥) → (program_rose → ⊥) → (o ≡ Program (NoReading 0)) ⊎ (o ≡ Memory)))
  refused_no_reading None program h job = tt
  refused_no_reading (Some bytes) None h job = λ read. tt
  refused_no_reading (Some bytes) (Some text) h job = λ read none. no_reading_alone words bytes definition_rose program_rose text o h job read

  pub refused_complete : (definition program : Option (List ℕ)) (C : Type 0) (W : List ℕ → List ℕ → Type 0) → Refused words definition program definition_rose program_rose o → IsJob words
      → IfSome definition (λ bytes. IfSome program (λ text. IsProgram bytes text → (definition_rose → ⊥) → (program_rose → ⊥) → C → (o ≡ Memory) ⊎ W bytes text))
  refused_complete None program C W h job = tt
  refused_complete (Some bytes) None C W h job = tt
  refused_complete (Some bytes) (Some text) C W h job = λ is no_fault no_program_fault _. inl (memory_alone words bytes definition_rose program_rose text o h job is no_fault no_program_fault)

pub ran_definition : (definition program : Option (List ℕ)) (fault : DefFault) (A B : Type 0) → HasRead definition program → IfSome definition (λ bytes. IsDefFault bytes fault → A → B)
ran_definition None program fault A B read = tt
ran_definition (Some bytes) program fault A B read = λ is _. absurd (read.0.accepted fault is)

pub ran_unbuilt : (definition program : Option (List ℕ)) (A B : Type 0) → HasRead definition program → IfSome definition (λ bytes. HasNoRefusal bytes → (IsOfSmallForm bytes → ⊥) → A → B)
ran_unbuilt None program A B read = tt
ran_unbuilt (Some bytes) program A B read = λ _ none _. absurd (none read.0.small)

pub ran_no_reading : (definition program : Option (List ℕ)) (A B C : Type 0) → HasRead definition program
    → IfSome definition (λ bytes. IsDefinition bytes → IfSome program (λ text. (IsProgram bytes text → ⊥) → A → B → C))
ran_no_reading None program A B C read = tt
ran_no_reading (Some bytes) None A B C read = λ _. tt
ran_no_reading (Some bytes) (Some text) A B C read = λ _ none _ _. absurd (none read.1)

-- a run whose text was written is whole
module _ (status : ℕ) (o : Outcome) (fired : List Fired) (end : Option LiveState) (text : List ℕ) (before after : Option (List ℕ)) (rose : Type 0)
    (status_is : (status ≡ 6) ⊎ (status ≡ status_of o)) (took : status ≢ 6 → Took before after text) (fault : status ≡ 6 → rose) where
  whole : (definition program : Option (List ℕ)) → (run_word o ≡ None → ⊥) → IfSome (run_word o) (λ word. IsRun definition program o word fired end text) → (rose → ⊥)
      → IsWholeRun definition program status o fired end before after
  whole definition program ended run no_fault =
      (elim status_is [ inl six ↦ absurd (no_fault (fault six)) | inr same ↦ same ], by_word (run_word o) ended run)
    where
      by_word : (w : Option (List ℕ)) → (w ≡ None → ⊥) → IfSome w (λ word. IsRun definition program o word fired end text)
          → IsSomeAnd w (λ word. (t : List ℕ) × IsRun definition program o word fired end t × Took before after t)
      by_word None some run = absurd (some refl)
      by_word (Some word) some run = (text, run, took (λ six. no_fault (fault six)))

  pub ran_whole : (definition program : Option (List ℕ)) (A B C : Type 0) → (run_word o ≡ None → ⊥) → IfSome (run_word o) (λ word. IsRun definition program o word fired end text)
      → IfSome definition (λ bytes. IfSome program (λ source. IsProgram bytes source → A → B → (rose → ⊥) → C ⊎ IsWholeRun (Some bytes) (Some source) status o fired end before after))
  ran_whole None program A B C ended run = tt
  ran_whole (Some bytes) None A B C ended run = tt
  ran_whole (Some bytes) (Some source) A B C ended run = λ _ _ _ no_fault. inr (whole (Some bytes) (Some source) ended run no_fault)
