use Rattle.std.proofs.Common.{◌-◌, sym, drop}
use Rattle.std.specs.Prelude.{codes}
use Rattle.file_reader.specs.Passages.{stands_here}
use Rattle.file_reader.proofs.Passing.{counted_short, counted_all, counted_less, and_first, and_second, and_third, and_all}
use Rattle.file_reader.proofs.passages.counted_past.Goals as goal

pub returns-then-not-stands_here : goal.returns-then-not-stands_here
returns-then-not-stands_here c = counted_all c.args.source.now c.args.first c.args.past c.requires.order c.requires.within c.if-past-first-lt3.false
    (and_first (stands_here (codes "[") (drop (c.args.past - 3) c.args.source.now)) (stands_here (codes "structural") (drop (c.args.past - 2) c.args.source.now)) (stands_here (codes "]") (drop (c.args.past - 1) c.args.source.now)) (sym c.if-not-stands_here.ensures))

pub returns-then-not-stands_here-2 : goal.returns-then-not-stands_here-2
returns-then-not-stands_here-2 c = counted_all c.args.source.now c.args.first c.args.past c.requires.order c.requires.within c.if-past-first-lt3.false
    (and_second (stands_here (codes "[") (drop (c.args.past - 3) c.args.source.now)) (stands_here (codes "structural") (drop (c.args.past - 2) c.args.source.now)) (stands_here (codes "]") (drop (c.args.past - 1) c.args.source.now)) (sym c.if-not-stands_here-2.ensures))

pub returns-then-not-stands_here-3 : goal.returns-then-not-stands_here-3
returns-then-not-stands_here-3 c = counted_all c.args.source.now c.args.first c.args.past c.requires.order c.requires.within c.if-past-first-lt3.false
    (and_third (stands_here (codes "[") (drop (c.args.past - 3) c.args.source.now)) (stands_here (codes "structural") (drop (c.args.past - 2) c.args.source.now)) (stands_here (codes "]") (drop (c.args.past - 1) c.args.source.now)) (sym c.if-not-stands_here-3.ensures))

pub returns : goal.returns
returns c = counted_less c.args.source.now c.args.first c.args.past c.requires.order c.requires.within c.if-past-first-lt3.false
    (and_all (stands_here (codes "[") (drop (c.args.past - 3) c.args.source.now)) (stands_here (codes "structural") (drop (c.args.past - 2) c.args.source.now)) (stands_here (codes "]") (drop (c.args.past - 1) c.args.source.now)) (sym c.if-not-stands_here.ensures) (sym c.if-not-stands_here-2.ensures) (sym c.if-not-stands_here-3.ensures))

pub returns-then-past-first-lt3 : goal.returns-then-past-first-lt3
returns-then-past-first-lt3 c = counted_short c.args.source.now c.args.first c.args.past c.requires.order c.requires.within c.if-past-first-lt3.true
