use Rattle.std.proofs.Common.{◌≡◌, ◌<◌, length, false, arith, ap, sym, subst, ◌∙◌}
use Rattle.sorted_grammar.specs.Marks.{marked, IsClosed}
use Rattle.sorted_grammar.proofs.Marking.{unmarked_set, nullable_marked}
use Rattle.sorted_grammar.proofs.nullable.nullable_row.Goals as goal

pub loop-sort-smaller : goal.loop-sort-smaller
loop-sort-smaller c =
    let row = c.loop-sort.row.items in
    let sort = c.in-Some.sort in
    let within : sort < length row = let here = c.in-Some.ensures.within in omega (arith, here, c.loop-sort.invariant.long) in
    let new : marked row sort ≡ false = ap (λ r. marked r sort) (sym c.deref.ensures.value) ∙ c.in-Some.ensures.new in
    unmarked_set row sort within new

pub returns : goal.returns
returns c =
    let row = c.loop-sort.row.items in
    let closed : IsClosed c.args.grammar.now row = subst (IsClosed c.args.grammar.now) c.deref.ensures.value c.in_default.ensures.new in
    record { long = c.loop-sort.invariant.long; decides = λ sort. (c.loop-sort.invariant.sound sort, nullable_marked c.args.grammar.now row closed sort) }
