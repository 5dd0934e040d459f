use Rattle.std.proofs.Common.{ap, sym, ◌∙◌, map, string_bytes, IfSome, Some, List, ℕ, subst}
use Rattle.k_edge.specs.Faults.{Rose}
use Rattle.live_config.specs.declared.site.Fired.{Fired}
use Rattle.live_config.specs.Live.{LiveState}
use Rattle.std.specs.Prelude.{Option}
use Rattle.krun.specs.declared.outcome.Outcome.{Outcome}
use Rattle.krun.specs.Outcome.{run_word}
use Rattle.krun.specs.Headline.{word_at, IsRun}
use Rattle.krun.proofs.Causes.{Refused, HasRead, none_holds, stop_word, reported, refused_definition, refused_definition_where, refused_unbuilt, refused_no_reading, refused_complete, run_read, ran_definition, ran_unbuilt, ran_no_reading, ran_whole}
use Rattle.krun.proofs.top.run_report.Given.{Over}
use Rattle.krun.proofs.top.run_report.Goals.{After-report_run, After-report_refusal}
use Rattle.krun.proofs.top.run_report.Goals as goal

-- ---- a run

has_read : (g : Over) (c : After-report_run g)
    → HasRead (g.H.Shelf.told c.args.shelf.now (word_at (map string_bytes c.args.words.now) 2)) (g.H.Shelf.told c.args.shelf.now (word_at (map string_bytes c.args.words.now) 3))
has_read g c =
    let ran = c.in-Ok.ran in
    run_read _ _ ran.outcome ran.outcome ran.fired (Some ran.end) ran.text.items c.in-Ok.ensures.ended c.in-Ok.ensures.run

pub returns-in-Ok-clause-refusal : goal.returns-in-Ok-clause-refusal
returns-in-Ok-clause-refusal g c stop _ = absurd (c.in-Ok.ensures.ended (ap run_word (sym c.report_run.ensures.same.0) ∙ stop_word _ stop))

pub returns-in-Ok-clause-definition_where : goal.returns-in-Ok-clause-definition_where
returns-in-Ok-clause-definition_where g c fault job = ran_definition _ _ fault _ _ (has_read g c)

pub returns-in-Ok-clause-unbuilt_where : goal.returns-in-Ok-clause-unbuilt_where
returns-in-Ok-clause-unbuilt_where g c job = ran_unbuilt _ _ _ _ (has_read g c)

pub returns-in-Ok-clause-no_reading_where : goal.returns-in-Ok-clause-no_reading_where
returns-in-Ok-clause-no_reading_where g c job = ran_no_reading _ _ _ _ _ (has_read g c)

pub returns-in-Ok-clause-complete : goal.returns-in-Ok-clause-complete
returns-in-Ok-clause-complete g c job =
    let told = g.H.Shelf.told c.args.shelf.now in
    let words = map string_bytes c.args.words.now in
    let ran = c.in-Ok.ran in
    let same = c.report_run.ensures.same in
    let report = c.report_run.result in
    ran_whole report.status report.outcome report.fired report.end ran.text.items (g.O.Sink.taken c.args.out.now) (g.O.Sink.taken c.report_run.new.out)
    (Rose (g.O.Sink.faults c.args.out.now) (g.O.Sink.faults c.report_run.new.out)) c.report_run.ensures.status c.report_run.ensures.took c.report_run.ensures.fault
    (told (word_at words 2)) (told (word_at words 3)) _ _ _
    (λ none. c.in-Ok.ensures.ended (ap run_word (sym same.0) ∙ none))
    (subst (λ (t : Outcome × List Fired × Option LiveState). IfSome (run_word t.0) (λ word. IsRun (told (word_at words 2)) (told (word_at words 3)) t.0 word t.1 t.2 ran.text.items))
    (λ i. (sym same.0 i, sym same.1 i, sym same.2 i)) c.in-Ok.ensures.run)

-- ---- a refusal

causes : (g : Over) (c : After-report_refusal g) → let words = map string_bytes c.args.words.now in
    let told = λ (n : ℕ). g.H.Shelf.told c.args.shelf.now (word_at words n) in
    let rose = λ (n : ℕ). Rose (g.H.Shelf.faults c.args.shelf.now (word_at words n)) (g.H.Shelf.faults c.run_job.new.shelf (word_at words n)) in
    Refused words (told 2) (told 3) (rose 2) (rose 3) c.report_refusal.result.outcome
causes g c =
    let e = c.in-Err.ensures in
    reported _ _ _ _ _ c.in-Err.outcome c.report_refusal.result.outcome c.report_refusal.ensures.same
    (record { refused = e.refused; usage = e.words; definition_fault = e.definition_fault; of_definition = e.definition; never_memory = e.never_memory; unbuilt = e.unbuilt; program_fault = e.program_fault; no_reading = e.no_reading })

pub returns-in-Err-clause-run : goal.returns-in-Err-clause-run
returns-in-Err-clause-run g c = none_holds _ _ (stop_word _ (causes g c).refused)

pub returns-in-Err-clause-usage : goal.returns-in-Err-clause-usage
returns-in-Err-clause-usage g c = (causes g c).usage

pub returns-in-Err-clause-definition_fault : goal.returns-in-Err-clause-definition_fault
returns-in-Err-clause-definition_fault g c = (causes g c).definition_fault

pub returns-in-Err-clause-definition : goal.returns-in-Err-clause-definition
returns-in-Err-clause-definition g c fault = refused_definition _ _ _ _ _ _ fault (causes g c)

pub returns-in-Err-clause-never_memory : goal.returns-in-Err-clause-never_memory
returns-in-Err-clause-never_memory g c = (causes g c).never_memory

pub returns-in-Err-clause-unbuilt : goal.returns-in-Err-clause-unbuilt
returns-in-Err-clause-unbuilt g c = (causes g c).unbuilt

pub returns-in-Err-clause-program_fault : goal.returns-in-Err-clause-program_fault
returns-in-Err-clause-program_fault g c = (causes g c).program_fault

pub returns-in-Err-clause-no_reading : goal.returns-in-Err-clause-no_reading
returns-in-Err-clause-no_reading g c = (causes g c).no_reading

pub returns-in-Err-clause-definition_where : goal.returns-in-Err-clause-definition_where
returns-in-Err-clause-definition_where g c fault job = refused_definition_where _ _ _ _ _ _ fault (causes g c) job

pub returns-in-Err-clause-unbuilt_where : goal.returns-in-Err-clause-unbuilt_where
returns-in-Err-clause-unbuilt_where g c job = refused_unbuilt _ _ _ _ _ _ (causes g c) job

pub returns-in-Err-clause-no_reading_where : goal.returns-in-Err-clause-no_reading_where
returns-in-Err-clause-no_reading_where g c job = refused_no_reading _ _ _ _ _ _ (causes g c) job

pub returns-in-Err-clause-complete : goal.returns-in-Err-clause-complete
returns-in-Err-clause-complete g c job = refused_complete _ _ _ _ _ _ _ _ (causes g c) job
