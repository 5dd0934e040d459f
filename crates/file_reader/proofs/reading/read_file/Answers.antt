use Rattle.std.proofs.Common.{◌≡◌, [], ◌<◌, refl, sym, ◌∙◌, subst, arith}
use Rattle.file_reader.specs.Progress.{IsReading}
use Rattle.file_reader.specs.Reads.{IsFileRead}
use Rattle.file_reader.proofs.Completing.{reading_start, file_is}
use Rattle.file_reader.proofs.reading.read_file.Goals as goal

pub modules-init : goal.modules-init
modules-init c = (
  subst (λ seen. IsReading c.args.tokens.now c.new-source.result seen c.new-2.result record { names = c.new-3.result; imports = c.new-4.result; sentences = c.new-5.result } 0) (sym c.new.ensures)
      (subst (λ sorts. IsReading c.args.tokens.now c.new-source.result [] sorts record { names = c.new-3.result; imports = c.new-4.result; sentences = c.new-5.result } 0) (sym c.new-2.ensures)
      (reading_start c.args.tokens.now c.new-source.result record { names = c.new-3.result; imports = c.new-4.result; sentences = c.new-5.result } c.new-3.ensures c.new-4.ensures c.new-5.ensures)),
  λ some. absurd (some refl),
)

pub returns-then-at-count : goal.returns-then-at-count
returns-then-at-count c =
    let further : c.modules.at < c.in-Ok.next = c.in-Ok.ensures.1 in
    subst (λ all. IsFileRead c.args.tokens.now all c.read_module.new.reading.found) c.new-source.ensures
    (file_is c.args.tokens.now c.new-source.result c.read_module.new.reading.seen c.read_module.new.reading.sorts c.read_module.new.reading.found c.in-Ok.next c.in-Ok.ensures.0
    (λ none. absurd (let none : c.in-Ok.next ≡ 0 = none in omega arith)) (c.if-at-count.true ∙ c.len-count.ensures))
