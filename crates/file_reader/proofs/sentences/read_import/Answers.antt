use Rattle.file_reader.proofs.Sentencing.{import_answer, import_answer_stop}
use Rattle.file_reader.proofs.sentences.read_import.Goals as goal

pub returns-in-Ok : goal.returns-in-Ok
returns-in-Ok c = import_answer c.args.tokens.now c.args.source.now c.args.from c.args.sorts.now c.past.result c.in-Ok.name c.in-Ok.next c.past.ensures c.requires c.in-Ok.ensures.read

pub returns-in-Err : goal.returns-in-Err
returns-in-Err c = import_answer_stop c.args.tokens.now c.args.source.now c.args.from c.args.sorts.now c.past.result c.in-Err.stop c.past.ensures c.requires c.in-Err.ensures.read
