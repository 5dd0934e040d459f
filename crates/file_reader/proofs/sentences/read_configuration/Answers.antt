use Rattle.file_reader.proofs.Sentencing.{config_answer, config_answer_stop}
use Rattle.file_reader.proofs.sentences.read_configuration.Goals as goal

pub returns-in-Ok : goal.returns-in-Ok
returns-in-Ok c = config_answer c.args.tokens.now c.args.source.now c.args.from c.args.sorts.now c.past-first.result c.in-Ok.past c.past-first.ensures c.requires c.in-Ok.ensures

pub returns-in-Err : goal.returns-in-Err
returns-in-Err c = config_answer_stop c.args.tokens.now c.args.source.now c.args.from c.args.sorts.now c.past-first.result c.in-Err.stop c.past-first.ensures c.requires c.in-Err.ensures
