-- A run that ended is what the headline says, and a program without a reading is none of its definition.
use Rattle.std.proofs.Common.{◌≡◌, ◌≤◌, ◌∷◌, [], List, ℕ, Option, Some, None, Result, Ok, Err, length, IfSome, IfOk, IfErr, refl, sym, ap, subst}
use Rattle.std.specs.Result.{IsErrAnd}
use Rattle.k_terms.specs.declared.value.Value.{Value}
use Rattle.rule_terms.specs.Rewriting.{IsStuck}
use Rattle.live_config.specs.Configuration.{plain}
use Rattle.std.specs.List.{AllByRecursion}
use Rattle.live_config.specs.declared.site.Fired.{Fired}
use Rattle.live_config.specs.Runs.{IsLog}
use Rattle.small_form.specs.declared.small.Small.{Small}
use Rattle.small_form.specs.Small.{IsSmall, IsSmallText, unplaced, language_of}
use Rattle.small_form.specs.Program.{IsTermText}
use Rattle.front_run.specs.Front.{one_cell, AreFrontRules}
use Rattle.krun.specs.declared.outcome.Outcome.{Outcome}
use Rattle.krun.specs.declared.outcome.Outcome.TheVariants.{Final, Budget, Shown, Usage, Definition, Unbuilt, Program, ReadFault, Memory}
use Rattle.program_reader.specs.declared.refusal.ReadRefusal.{ReadRefusal}
use Rattle.program_reader.specs.declared.refusal.ReadRefusal.TheVariants.{NoReading}
use Rattle.krun.specs.declared.top.Ran.{Ran}
use Rattle.krun.specs.Outcome.{run_word}
use Rattle.krun.specs.Refusals.{HasNoRefusal}
use Rattle.krun.specs.Causes.{IsDefinition, IsProgram}
use Rattle.krun.specs.Headline.{IsRun, budget}
use Rattle.krun.specs.Headline.{run_text as text_of_run}
use Rattle.krun.proofs.Fronts.{small_fronts}

-- what follows from a property of a value that may be there
if_some_then : {A : Type 0} (o : Option A) (P Q : A → Type 0) → ((x : A) → o ≡ Some x → P x → Q x) → IfSome o P → IfSome o Q
if_some_then None P Q f p = tt
if_some_then (Some x) P Q f p = f x refl p

-- an outcome of a run that isn't Budget is Final
other_is_final : (o : Outcome) (word : List ℕ) → run_word o ≡ Some word → (o ≡ Budget → ⊥) → o ≡ Final
other_is_final Final word is not = refl
other_is_final Budget word is not = absurd (not refl)
other_is_final Shown word is not = cc
other_is_final Usage word is not = cc
other_is_final (Definition _) word is not = cc
other_is_final Unbuilt word is not = cc
other_is_final (Program _) word is not = cc
other_is_final (ReadFault _) word is not = cc
other_is_final Memory word is not = cc

other_is_budget : (o : Outcome) (word : List ℕ) → run_word o ≡ Some word → (o ≡ Final → ⊥) → o ≡ Budget
other_is_budget Final word is not = absurd (not refl)
other_is_budget Budget word is not = refl
other_is_budget Shown word is not = cc
other_is_budget Usage word is not = cc
other_is_budget (Definition _) word is not = cc
other_is_budget Unbuilt word is not = cc
other_is_budget (Program _) word is not = cc
other_is_budget (ReadFault _) word is not = cc
other_is_budget Memory word is not = cc

-- a run that ended is the run that its text says
pub is_run : (definition program : Option (List ℕ)) (language : Small) (value : Value) (result : Result Ran Outcome)
    → IfSome definition HasNoRefusal
    → IfSome definition (λ bytes. IsSmallText bytes language)
    → IfSome program (λ bytes. IsTermText language.productions bytes value)
    → IsSmall language
    → IfOk result (λ ran. IsLog (language_of language) (one_cell (value ∷ [])) ran.fired ran.end.now)
    → IfOk result (λ ran. length ran.fired ≤ budget)
    → IfOk result (λ ran. AllByRecursion (λ (entry : Fired). entry.by ≡ 0) ran.fired)
    → IfOk result (λ ran. ran.outcome ≡ Final → AreFrontRules (language_of language) → IsStuck (language_of language) (plain ran.end.now))
    → IfOk result (λ ran. ran.outcome ≡ Budget → IsStuck (language_of language) (plain ran.end.now) → ⊥)
    → IfOk result (λ ran. ran.outcome ≡ Budget → length ran.fired ≡ budget)
    → IfOk result (λ ran. IfSome (run_word ran.outcome) (λ word. ran.text.items ≡ text_of_run word (language_of language) ran.fired ran.end.now))
    → IfOk result (λ ran. IfSome (run_word ran.outcome) (λ word. IsRun definition program ran.outcome word ran.fired (Some ran.end) ran.text.items))
is_run definition program language value (Err e) accepted read_d read_p small log within alone stuck goes_on used_up text = tt
is_run definition program language value (Ok ran) accepted read_d read_p small log within alone stuck goes_on used_up text =
    if_some_then (run_word ran.outcome) _ _
    (λ word is text_is. record {
      language = language;
      value = value;
      last = ran.end;
      is_last = refl;
      definition_read = read_d;
      accepted = accepted;
      program_read = read_p;
      log = log;
      within = within;
      alone = alone;
      final = (λ final. stuck final (small_fronts language small), λ is_stuck. other_is_final ran.outcome word is (λ more. goes_on more is_stuck));
      used_up = (
        λ more. (used_up more, goes_on more),
        λ both. other_is_budget ran.outcome word is (λ final. both.1 (stuck final (small_fronts language small))),
      );
      text_is = text_is;
    })
    text

-- a definition that is accepted and read is one
pub is_definition : (definition : Option (List ℕ)) (small : Small) → IfSome definition HasNoRefusal → IfSome definition (λ bytes. IsSmallText bytes small) → IfSome definition IsDefinition
is_definition None small accepted read = tt
is_definition (Some bytes) small accepted read = record { accepted = accepted; small = (small, read) }

-- where no value is read under the definition that is read, there is none under any that the same bytes spell
pub no_program : (definition program : Option (List ℕ)) (small : Small)
    → IfSome definition HasNoRefusal
    → IfSome definition (λ bytes. IsSmallText bytes small)
    → IfSome definition (λ bytes. (d : Small) → IsSmallText bytes d → unplaced small ≡ unplaced d)
    → IfSome program (λ bytes. (v : Value) → IsTermText small.productions bytes v → ⊥)
    → IfSome definition (λ bytes. IsDefinition bytes × IfSome program (λ text. IsProgram bytes text → ⊥))
no_program None program small accepted read only none = tt
no_program (Some bytes) None small accepted read only none = (record { accepted = accepted; small = (small, read) }, tt)
no_program (Some bytes) (Some text) small accepted read only none = (
  record { accepted = accepted; small = (small, read) },
  λ is. none is.read.1 (subst (λ ps. IsTermText ps text is.read.1) (sym (ap (λ (e : Small). e.productions) (only is.read.0 is.read.2))) is.read.3),
)

-- a refused program has no reading under its definition
pub refused_program : (definition program : Option (List ℕ)) (small : Small) (cause : ReadRefusal) (refusal : Outcome)
    → IfSome definition HasNoRefusal
    → IfSome definition (λ bytes. IsSmallText bytes small)
    → IfSome definition (λ bytes. (d : Small) → IsSmallText bytes d → unplaced small ≡ unplaced d)
    → (refusal ≡ Program cause → (cause ≡ NoReading 0) × IfSome program (λ bytes. (v : Value) → IsTermText small.productions bytes v → ⊥))
    → refusal ≡ Program cause → (cause ≡ NoReading 0) × IfSome definition (λ bytes. IsDefinition bytes × IfSome program (λ text. IsProgram bytes text → ⊥))
refused_program definition program small cause refusal accepted read only none is =
    let here = none is in (here.0, no_program definition program small accepted read only here.1)

-- what is said of a refusal that is handed on
pub handed_on : (result : Result Ran Outcome) (refusal : Outcome) (P : Outcome → Type 0) → IsErrAnd result (λ e. e ≡ refusal) → P refusal → IfErr result P
handed_on (Ok ran) refusal P is holds = tt
handed_on (Err e) refusal P is holds = subst P (sym is) holds
