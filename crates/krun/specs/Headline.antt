-- What a report of a run says: the instances fired lead from the initial configuration to the one that is printed.
use Rattle.std.specs.Prelude.{◌≡◌, ◌↔◌, ℕ, ◌≤◌, List, [], ◌∷◌, ◌++◌, Option, Some, IfSome, length, slice_get, unwrap_or}
use Rattle.std.specs.List.{AllByRecursion}
use Rattle.std.specs.Fmt.{decimal}
use Rattle.k_terms.specs.declared.value.Value.{Value}
use Rattle.rule_terms.specs.Language.{Language}
use Rattle.rule_terms.specs.Rewriting.{IsStuck}
use Rattle.live_config.specs.declared.site.Fired.{Fired}
use Rattle.live_config.specs.Configuration.{Configuration, plain}
use Rattle.live_config.specs.Runs.{IsLog}
use Rattle.live_config.specs.Live.{LiveState}
use Rattle.small_form.specs.declared.small.Small.{Small}
use Rattle.small_form.specs.Small.{IsSmallText, language_of}
use Rattle.small_form.specs.Program.{IsTermText}
use Rattle.front_run.specs.Front.{one_cell}
use Rattle.printed_form.specs.Words.{Words}
use Rattle.printed_form.specs.Configurations.{configuration_text, names_of}
use Rattle.krun.specs.declared.outcome.Outcome.{Outcome}
use Rattle.krun.specs.declared.outcome.Outcome.TheVariants.{Final, Budget}
use Rattle.krun.specs.Lines.{line_end}
use Rattle.krun.specs.Refusals.{HasNoRefusal}

-- how many instances may fire
abbrev pub budget : ℕ
budget = 100000

-- how many instances each worker fired, the caller first, where the caller alone fires and there are four workers
abbrev pub caller_fired : ℕ → List ℕ
caller_fired fired = fired ∷ 0 ∷ 0 ∷ 0 ∷ 0 ∷ []

-- a word of the command line, as bytes
abbrev pub word_at : List (List ℕ) → ℕ → List ℕ
word_at words n = unwrap_or (slice_get words n) []

-- the words that the values of a language are printed with
abbrev pub words_of_language : Language → Words
words_of_language d = record { labels = d.labels; symbols = [] }

-- The text of a run: the word of its outcome, the number of instances fired, and the configuration reached.
abbrev pub run_text : List ℕ → Language → List Fired → Configuration → List ℕ
run_text word d fired end =
    word ++ (32 ∷ decimal (length fired)) ++ line_end ++ configuration_text (words_of_language d) (names_of d.cells) (plain end)

-- The definition and the program are what the files are, where these are told, and nothing refuses the definition. The entries fire, one after the other, from
-- the initial configuration to the last one, and are an ordinary rewriting between the two. The outcome is Final exactly
-- where no rule matches the last configuration, and Budget exactly where the budget is used up and a rule still matches.
-- Worker 0, the caller, fired each entry.
-- The text has the outcome's word, the number of entries and the last configuration without its numbers.
pub record IsRun (definition program : Option (List ℕ)) (outcome : Outcome) (word : List ℕ) (fired : List Fired) (end : Option LiveState) (text : List ℕ) : Type 0 where
  pub language : Small
  pub value : Value
  pub last : LiveState
  pub is_last : end ≡ Some last
  pub definition_read : IfSome definition (λ bytes. IsSmallText bytes language)
  pub accepted : IfSome definition HasNoRefusal
  pub program_read : IfSome program (λ bytes. IsTermText language.productions bytes value)
  pub log : IsLog (language_of language) (one_cell (value ∷ [])) fired last.now
  pub within : length fired ≤ budget
  pub alone : AllByRecursion (λ (entry : Fired). entry.by ≡ 0) fired
  pub final : (outcome ≡ Final) ↔ IsStuck (language_of language) (plain last.now)
  pub used_up : (outcome ≡ Budget) ↔ ((length fired ≡ budget) × ¬ IsStuck (language_of language) (plain last.now))
  pub text_is : text ≡ run_text word (language_of language) fired last.now

-- where the sink tells its bytes, these were added at their end
abbrev pub Took : Option (List ℕ) → Option (List ℕ) → List ℕ → Type 0
Took before after text = IfSome before (λ bytes. after ≡ Some (bytes ++ text))
