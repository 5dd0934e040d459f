-- When each refusal comes.
use Rattle.std.specs.Prelude.{◌≡◌, ℕ, ◌+◌, List, length, Option, false, codes, IsSomeAnd}
use Rattle.k_terms.specs.declared.value.Value.{Value}
use Rattle.small_form.specs.declared.small.Small.{Small}
use Rattle.small_form.specs.Small.{IsSmallText}
use Rattle.small_form.specs.Program.{IsTermText}
use Rattle.live_config.specs.declared.site.Fired.{Fired}
use Rattle.live_config.specs.Live.{LiveState}
use Rattle.context_transform.specs.Assembling.{IsOnlyFault}
use Rattle.context_transform.specs.Told.{wants_memory}
use Rattle.krun.specs.declared.outcome.Outcome.{Outcome}
use Rattle.krun.specs.Outcome.{status_of, run_word}
use Rattle.krun.specs.declared.outcome.Outcome.TheVariants.{Definition, Unbuilt, Memory}
use Rattle.krun.specs.Refusals.{HasNoRefusal}
use Rattle.krun.specs.Headline.{word_at, IsRun, Took}

-- the words ask for a mode: the program's name, the mode, and the names of so many files
pub record AskFor (words : List (List ℕ)) (mode : List ℕ) (files : ℕ) : Type 0 where
  pub all : length words ≡ 2 + files
  pub mode_is : word_at words 1 ≡ mode

-- the words are a job: they ask for `run`
abbrev pub IsJob : List (List ℕ) → Type 0
IsJob words = AskFor words (codes "run") 2

-- the bytes are of the small form
abbrev pub IsOfSmallForm : List ℕ → Type 0
IsOfSmallForm bytes = (d : Small) × IsSmallText bytes d

-- the bytes are a definition: nothing refuses them, and they are of the small form
pub record IsDefinition (bytes : List ℕ) : Type 0 where
  pub accepted : HasNoRefusal bytes
  pub small : IsOfSmallForm bytes

-- nothing refuses the bytes, and they are not of the small form
pub record IsUnbuilt (bytes : List ℕ) : Type 0 where
  pub accepted : HasNoRefusal bytes
  pub other_form : IsOfSmallForm bytes → ⊥

-- why the bytes of a definition are read and no definition is given
abbrev pub IsCauseOf : List ℕ → Outcome → Type 0
IsCauseOf bytes (Definition fault) = IsOnlyFault bytes fault × (wants_memory fault ≡ false)
IsCauseOf bytes Unbuilt = IsUnbuilt bytes
IsCauseOf bytes Memory = Unit {0}
IsCauseOf bytes _ = ⊥

-- the bytes of a definition and of a program are a definition and a program of it
pub record IsProgram (definition program : List ℕ) : Type 0 where
  pub accepted : HasNoRefusal definition
  pub read : (d : Small) × (v : Value) × IsSmallText definition d × IsTermText d.productions program v

-- a run that ended, with its own status, and all of whose text the sink took
abbrev pub IsWholeRun : Option (List ℕ) → Option (List ℕ) → ℕ → Outcome → List Fired → Option LiveState → Option (List ℕ) → Option (List ℕ) → Type 0
IsWholeRun definition program status outcome fired end before after =
    (status ≡ status_of outcome)
    × IsSomeAnd (run_word outcome) (λ word. (text : List ℕ) × IsRun definition program outcome word fired end text × Took before after text)
