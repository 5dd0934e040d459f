use Rattle.std.proofs.Common.{◌<◌, ◌≤◌, length, sym, ◌∙◌, arith}
use Rattle.file_reader.proofs.Heads.{no_true}
use Rattle.file_reader.proofs.Gathering.{gathered_more, gathered_stop, gathered_next, gathered_end}
use Rattle.file_reader.proofs.bodies.read_body.Goals as goal

pub returns-in-Err : goal.returns-in-Err
returns-in-Err c =
    gathered_stop c.args.tokens.now c.args.source.now c.args.from c.args.sorts.now c.sentences.sorts c.sentences.body.imports c.sentences.body.sentences c.sentences.at c.sentences.invariant
    (λ is. no_true (sym c.sentences-test.true ∙ c.has_word.ensures.1 is)) c.in-Err.stop c.in-Err.ensures

pub sentences-smaller : goal.sentences-smaller
sentences-smaller c =
    let next = gathered_next c.args.tokens.now c.args.source.now c.args.from c.args.sorts.now c.sentences.sorts c.sentences.body.imports c.sentences.body.sentences c.sentences.at c.sentences.invariant
    (λ is. no_true (sym c.sentences-test.true ∙ c.has_word.ensures.1 is)) c.read_sentence.new.sorts c.in-Ok.read c.in-Ok.next c.in-Ok.ensures in
    let further : c.sentences.at < c.in-Ok.next = next.0 in
    let within : c.in-Ok.next ≤ length c.args.source.now = next.1 in
    omega arith

pub sentences-preserved : goal.sentences-preserved
sentences-preserved c =
    gathered_more c.args.tokens.now c.args.source.now c.args.from c.args.sorts.now c.sentences.sorts c.sentences.body.imports c.sentences.body.sentences c.sentences.at c.sentences.invariant
    (λ is. no_true (sym c.sentences-test.true ∙ c.has_word.ensures.1 is)) c.read_sentence.new.sorts c.in-Ok.read c.in-Ok.next c.add_read.new.body.imports c.add_read.new.body.sentences
    c.in-Ok.ensures c.in-Ok-add_read.ensures.imports c.in-Ok-add_read.ensures.sentences

pub returns : goal.returns
returns c =
    gathered_end c.args.tokens.now c.args.source.now c.args.from c.args.sorts.now c.sentences.sorts c.sentences.body.imports c.sentences.body.sentences c.sentences.at c.past.result c.sentences.invariant
    (c.has_word.ensures.0 c.sentences-test.false) c.past.ensures
