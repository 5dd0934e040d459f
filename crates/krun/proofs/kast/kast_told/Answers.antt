use Rattle.std.proofs.Common.{IfSome, subst}
use Rattle.program_answer.specs.Answers.{IsTold}
use Rattle.context_transform.specs.Assembling.{assembly_of}
use Rattle.krun.specs.Kast.{IsReadOf}
use Rattle.krun.proofs.Kasting.{answered}
use Rattle.krun.proofs.kast.kast_told.Goals as goal

pub returns-clause-told : goal.returns-clause-told
returns-clause-told g c =
    let bytes = c.in-Ok-program_bytes.bytes.items in
    let assembly = assembly_of c.in-Ok.definition in
    let told = c.in-Ok-answer_text.told in
    answered _ _ assembly bytes told.answer told.text.items c.in-Ok.ensures.ok
    (subst (λ file. IfSome file (λ f. IsReadOf f bytes)) (c.in-Ok.ensures.kept c.args.job.now.program.now) c.in-Ok-program_bytes.ensures.same)
    (subst (λ sort. IsTold assembly.grammar assembly.names sort bytes told.answer told.text.items) c.pgm_sort.ensures
    (subst (λ b. IsTold assembly.grammar assembly.names c.pgm_sort.result b told.answer told.text.items) c.as_slice.ensures.value c.in-Ok-answer_text.ensures))
