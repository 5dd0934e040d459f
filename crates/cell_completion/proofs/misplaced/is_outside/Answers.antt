use Rattle.std.proofs.lemmas.Bool.{not-false}
use Rattle.cell_completion.proofs.Firsts.{is_inside_of, is_enclosed_by}
use Rattle.cell_completion.proofs.misplaced.is_outside.Goals as goal

pub returns-in-Some-with_mark-clause-inside : goal.returns-in-Some-with_mark-clause-inside
returns-in-Some-with_mark-clause-inside c = λ e outside.
    let found = c.in-Some-with_mark.ensures.some in
    is_inside_of c.args.shapes.now c.args.written.now c.requires.written c.args.one.now c.in-Some-with_mark.outer c.in-Some.mark c.in-Some.is found.0 found.1
    (c.is_below.ensures.below (not-false c.is_below.result e)) outside

pub returns-in-None-clause-inside : goal.returns-in-None-clause-inside
returns-in-None-clause-inside c = λ _ outside.
    is_enclosed_by c.args.shapes.now c.args.written.now c.args.one.now c.in-Some.mark c.in-Some.is c.in-None.ensures.none outside
