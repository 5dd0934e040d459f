use Rattle.std.proofs.Common.{subst, ap, ◌∙◌, ◌≡◌, ◌∷◌, [], map, string_bytes, IfSome, IfOk}
use Rattle.rule_terms.specs.Rewriting.{IsStuck}
use Rattle.small_form.specs.Small.{IsSmallText, unplaced}
use Rattle.small_form.specs.Program.{IsTermText}
use Rattle.live_config.specs.Configuration.{plain}
use Rattle.live_config.specs.Runs.{IsLog}
use Rattle.front_run.specs.Front.{one_cell, AreFrontRules}
use Rattle.k_terms.specs.declared.value.Value.{Value}
use Rattle.small_form.specs.declared.small.Small.{Small}
use Rattle.krun.specs.Refusals.{HasNoRefusal}
use Rattle.krun.specs.Causes.{IsDefinition, IsProgram}
use Rattle.krun.specs.Headline.{word_at}
use Rattle.program_reader.specs.declared.refusal.ReadRefusal.TheVariants.{NoReading}
use Rattle.krun.specs.declared.outcome.Outcome.TheVariants.{Final, Budget, Program}
use Rattle.krun.specs.Outcome.{run_word}
use Rattle.krun.specs.Headline.{run_text as text_of_run}
use Rattle.krun.proofs.Headlines.{is_run, refused_program, handed_on}
use Rattle.krun.proofs.top.run_job.Goals as goal

pub returns-clause-run : goal.returns-clause-run
returns-clause-run g c =
    let told = g.H.Shelf.told in
    let words = map string_bytes c.args.words.now in
    let small = c.in_ok-small.small in
    let value = c.in_ok-program.program in
    let r = c.run_of.result in
    let is_defs = c.in_ok-defs.ensures.ok in
    is_run _ _ small value r
    (subst (λ name. IfSome (told c.args.shelf.now name) HasNoRefusal) c.in-Some.ensures.definition c.in_ok-small.ensures.accepted)
    (subst (λ name. IfSome (told c.args.shelf.now name) (λ bytes. IsSmallText bytes small)) c.in-Some.ensures.definition c.in_ok-small.ensures.read)
    (subst (λ file. IfSome file (λ bytes. IsTermText small.productions bytes value))
    (c.definition_at.ensures.kept c.in-Some.job.program.now ∙ ap (told c.args.shelf.now) c.in-Some.ensures.program)
    c.in_ok-program.ensures.read)
    c.in_ok-small.ensures.small
    (subst (λ d. IfOk r (λ ran. IsLog d (one_cell (value ∷ [])) ran.fired ran.end.now)) is_defs c.run_of.ensures.log)
    c.run_of.ensures.within
    c.run_of.ensures.alone
    (subst (λ d. IfOk r (λ ran. ran.outcome ≡ Final → AreFrontRules d → IsStuck d (plain ran.end.now))) is_defs c.run_of.ensures.stuck)
    (subst (λ d. IfOk r (λ ran. ran.outcome ≡ Budget → IsStuck d (plain ran.end.now) → ⊥)) is_defs c.run_of.ensures.goes_on)
    c.run_of.ensures.used_up
    (subst (λ d. IfOk r (λ ran. IfSome (run_word ran.outcome) (λ word. ran.text.items ≡ text_of_run word d ran.fired ran.end.now))) is_defs c.run_of.ensures.text)

pub returns-in_err-program-clause-no_reading : goal.returns-in_err-program-clause-no_reading
returns-in_err-program-clause-no_reading g c = λ cause.
    let told = g.H.Shelf.told in
    let small = c.in_ok-small.small in
    let refusal = c.in_err-program.field-0.0 in
    let definition = told c.args.shelf.now (word_at (map string_bytes c.args.words.now) 2) in
    let program = told c.args.shelf.now (word_at (map string_bytes c.args.words.now) 3) in
    let name = c.in-Some.ensures.definition in
    handed_on c.from_residual-in_err-program.result refusal
    (λ e. e ≡ Program cause → (cause ≡ NoReading 0) × IfSome definition (λ bytes. IsDefinition bytes × IfSome program (λ text. IsProgram bytes text → ⊥)))
    c.from_residual-in_err-program.ensures.1
    (refused_program definition program small cause refusal
    (subst (λ n. IfSome (told c.args.shelf.now n) HasNoRefusal) name c.in_ok-small.ensures.accepted)
    (subst (λ n. IfSome (told c.args.shelf.now n) (λ bytes. IsSmallText bytes small)) name c.in_ok-small.ensures.read)
    (subst (λ n. IfSome (told c.args.shelf.now n) (λ bytes. (d : Small) → IsSmallText bytes d → unplaced small ≡ unplaced d)) name c.in_ok-small.ensures.only_one)
    (subst (λ file. refusal ≡ Program cause → (cause ≡ NoReading 0) × IfSome file (λ bytes. (v : Value) → IsTermText small.productions bytes v → ⊥))
    (c.definition_at.ensures.kept c.in-Some.job.program.now ∙ ap (told c.args.shelf.now) c.in-Some.ensures.program)
    (c.in_err-program.ensures.no_reading c.in_ok-small.ensures.labels cause)))
