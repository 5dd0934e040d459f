use Rattle.std.proofs.Common.{arith, rules, refl, [], ◌∷◌, ◌++◌, ap, subst, sym, length, ◌≤◌, ◌<◌, ◌+◌}
use Rattle.small_form.specs.Pieces.{Reads}
use Rattle.std.specs.Prelude.{codes, replicate, Some}
use Rattle.small_form.specs.Small.{separated, comma_before}
use Rattle.small_form.proofs.ReadsLemmas.{Reads-append, reads_sort}
use Rattle.small_form.proofs.Parts.{sorts_from, sorts_begin, sorts_go, sorts_end, sort_solid, sort_some}
use Rattle.small_form.proofs.definition.read_sorts.Goals as goal

pub returns-then-eat-clause-read : goal.returns-then-eat-clause-read
returns-then-eat-clause-read c =
    Reads-append (separated (codes ",") (replicate c.loop-count.count (c.args.sort.now ∷ []))) (codes ")" ∷ [])
    c.args.reader.now c.loop-count.reader c.eat.new.self c.loop-count.invariant.read c.if-eat.ensures.read

pub returns-then-eat-clause-exact : goal.returns-then-eat-clause-exact
returns-then-eat-clause-exact c = λ count pieces rest sort short read.
    let s = sorts_end c.args.sort.now count c.loop-count.count pieces c.loop-count.reader c.eat.new.self rest sort c.if-eat.ensures.read (c.loop-count.invariant.exact count pieces rest (sort_solid c.args.sort.now sort) read) in
    (ap Some s.0, (c.if-eat.ensures.exact pieces rest refl s.1).1)

pub returns-then-not-read_next_sort-clause-exact : goal.returns-then-not-read_next_sort-clause-exact
returns-then-not-read_next_sort-clause-exact c = λ count pieces rest sort short read.
    let next = sorts_go c.args.sort.now count c.loop-count.count pieces c.loop-count.reader rest
    (λ ps r there. let none = (c.if-eat.ensures.exact ps r refl there).0 in absurd (cc)) (c.loop-count.invariant.exact count pieces rest (sort_solid c.args.sort.now sort) read) in
    let others = sorts_from c.args.sort.now (c.loop-count.count + 1) next.left ++ codes ")" ∷ pieces in
    let none = (c.if-not-read_next_sort.ensures.exact others rest (sort_solid c.args.sort.now sort)
    (subst (λ t. Reads (comma_before c.loop-count.count ++ c.args.sort.now ∷ others) t rest) (sym c.if-eat.ensures.kept) next.read)).0 in
    absurd (cc)

pub loop-count-init : goal.loop-count-init
loop-count-init c = record {
  read = search rules;
  shorter = search rules;
  room = λ solid. omega arith;
  exact = λ count pieces rest solid read. sorts_begin c.args.sort.now count pieces c.args.reader.now rest read;
}

pub loop-count-preserved : goal.loop-count-preserved
loop-count-preserved c = record {
  read = reads_sort c.args.sort.now c.loop-count.count c.args.reader.now c.eat.new.self c.read_next_sort.new.reader (subst (λ t. Reads (separated (codes ",") (replicate c.loop-count.count (c.args.sort.now ∷ []))) c.args.reader.now t) (sym c.if-eat.ensures.kept) c.loop-count.invariant.read) c.if-not-read_next_sort.ensures.first c.if-not-read_next_sort.ensures.later;
  shorter = omega arith;
  room = λ solid.
      let some : 0 < length c.args.sort.now = sort_some c.args.sort.now solid in
      let before : c.loop-count.count + length c.loop-count.reader ≤ length c.args.reader.now = c.loop-count.invariant.room solid in
      omega (arith, c.if-eat.ensures.shorter, c.if-not-read_next_sort.ensures.sort_shorter);
  exact = λ count pieces rest solid read.
      let next = sorts_go c.args.sort.now count c.loop-count.count pieces c.loop-count.reader rest
      (λ ps r there. let none = (c.if-eat.ensures.exact ps r refl there).0 in absurd (cc)) (c.loop-count.invariant.exact count pieces rest solid read) in
      let others = sorts_from c.args.sort.now (c.loop-count.count + 1) next.left ++ codes ")" ∷ pieces in
      let found = c.if-not-read_next_sort.ensures.exact others rest solid
      (subst (λ t. Reads (comma_before c.loop-count.count ++ c.args.sort.now ∷ others) t rest) (sym c.if-eat.ensures.kept) next.read) in
      record { left = next.left; is = next.is; read = found.1 };
}
