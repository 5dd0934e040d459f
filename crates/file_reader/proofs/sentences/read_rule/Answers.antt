use Rattle.file_reader.proofs.Sentencing.{rule_answer, rule_answer_stop}
use Rattle.file_reader.proofs.sentences.read_rule.Goals as goal

pub returns-in-Ok : goal.returns-in-Ok
returns-in-Ok c =
    rule_answer c.args.tokens.now c.args.source.now c.args.from c.args.sorts.now c.past-first.result c.in-Ok.next c.start_at.result c.counted_past.result c.past-first.ensures c.start_at.ensures c.counted_past.ensures c.requires c.in-Ok.ensures

pub returns-in-Err : goal.returns-in-Err
returns-in-Err c = rule_answer_stop c.args.tokens.now c.args.source.now c.args.from c.args.sorts.now c.past-first.result c.in-Err.stop c.past-first.ensures c.requires c.in-Err.ensures
