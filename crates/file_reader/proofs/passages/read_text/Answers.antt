use Rattle.std.proofs.Common.{◌≡◌, sym, arith, ◌≤◌}
use Rattle.file_reader.proofs.Passing.{passage_read, passage_stops}
use Rattle.file_reader.proofs.passages.read_text.Goals as goal

pub returns-then-past-from : goal.returns-then-past-from
returns-then-past-from c = passage_stops c.args.source.now c.args.from c.passage_end-past.result c.passage_end-past.ensures (sym c.if-past-from.true)

pub returns : goal.returns
returns c =
    let order : c.args.from ≤ c.passage_end-past.result = c.passage_end-past.ensures.order in
    passage_read c.args.source.now c.args.from c.passage_end-past.result c.passage_end-past.ensures (let other : (c.passage_end-past.result ≡ c.args.from → ⊥) = c.if-past-from.false in omega arith)
