use Rattle.std.proofs.Common.{subst}
use Rattle.sorted_grammar.specs.Leading.{kitem_by, k_by}
use Rattle.sorted_grammar.specs.Marks.{IsFired}
use Rattle.sorted_grammar.proofs.Marking.{fired_nullable}
use Rattle.sorted_grammar.proofs.nullable.next_sort.Goals as goal

pub returns-in-Some-clause-sound : goal.returns-in-Some-clause-sound
returns-in-Some-clause-sound c = λ sound.
    fired_nullable c.args.grammar.now c.args.row.now sound c.in-Some.sort (subst (λ prods. IsFired prods c.args.row.now c.in-Some.sort) c.prods.ensures c.in-Some.ensures)

pub returns-then-not-has_mark-clause-sound : goal.returns-then-not-has_mark-clause-sound
returns-then-not-has_mark-clause-sound c = λ sound. let found = c.has_declared.ensures.0 c.if-not-has_declared.false in kitem_by found.sort found.declared (sound found.sort found.is)

pub returns-then-not-has_mark-2-clause-sound : goal.returns-then-not-has_mark-2-clause-sound
returns-then-not-has_mark-2-clause-sound c = λ sound. let found = c.has_declared.ensures.0 c.if-not-has_declared.false in k_by found.sort found.declared (sound found.sort found.is)
