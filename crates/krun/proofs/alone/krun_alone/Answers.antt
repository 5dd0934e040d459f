use Rattle.std.proofs.Common.{List, ℕ, map, string_bytes}
use Rattle.k_edge.specs.Faults.{Rose}
use Rattle.krun.specs.Headline.{word_at}
use Rattle.krun.proofs.Kasting.{reported_of, answer_where, nothing_where}
use Rattle.krun.proofs.Ruling.{listed_of, rules_where}
use Rattle.krun.proofs.alone.krun_alone.Goals as goal

pub returns-in-Some-clause-kast_nothing_where : goal.returns-in-Some-clause-kast_nothing_where
returns-in-Some-clause-kast_nothing_where g c asked =
    let words = map string_bytes c.args.words.now in
    let job = c.in-Some.job in
    let e = c.kast_report.ensures in
    nothing_where _ _ _ _ c.kast_report.result.outcome
    (reported_of (g.H.Shelf.told c.args.shelf.now)
    (λ (name : List ℕ). Rose (g.H.Shelf.faults c.args.shelf.now name) (g.H.Shelf.faults c.kast_report.new.shelf name))
    job.definition.now job.program.now (word_at words 2) (word_at words 3) c.kast_report.result.outcome
    c.in-Some.ensures.definition c.in-Some.ensures.program
    (λ is. let answer = e.answer is in (answer.0, answer.1)) e.stop)

pub returns-in-Some-clause-kast_where : goal.returns-in-Some-clause-kast_where
returns-in-Some-clause-kast_where g c asked =
    let words = map string_bytes c.args.words.now in
    let job = c.in-Some.job in
    let e = c.kast_report.ensures in
    answer_where _ _ _ _ c.kast_report.result.outcome
    (reported_of (g.H.Shelf.told c.args.shelf.now)
    (λ (name : List ℕ). Rose (g.H.Shelf.faults c.args.shelf.now name) (g.H.Shelf.faults c.kast_report.new.shelf name))
    job.definition.now job.program.now (word_at words 2) (word_at words 3) c.kast_report.result.outcome
    c.in-Some.ensures.definition c.in-Some.ensures.program
    (λ is. let answer = e.answer is in (answer.0, answer.1)) e.stop)

pub returns-in-Some-rules_of-clause-rules_where : goal.returns-in-Some-rules_of-clause-rules_where
returns-in-Some-rules_of-clause-rules_where g c asked =
    let words = map string_bytes c.args.words.now in
    let e = c.rules_report.ensures in
    rules_where _ _ c.rules_report.result.outcome
    (listed_of (g.H.Shelf.told c.args.shelf.now)
    (λ (name : List ℕ). Rose (g.H.Shelf.faults c.args.shelf.now name) (g.H.Shelf.faults c.rules_report.new.shelf name))
    c.in-Some-rules_of.definition.now (word_at words 2) c.rules_report.result.outcome c.in-Some-rules_of.ensures.definition
    (λ is. let lines = e.lines is in (lines.0, lines.1)) e.stop)
