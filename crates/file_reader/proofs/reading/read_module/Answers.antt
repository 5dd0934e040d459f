use Rattle.std.proofs.Common.{ap, ◌∙◌}
use Rattle.production_reader.specs.Allowed.{is_among}
use Rattle.file_reader.proofs.Deciding.{header_answer, twice_answer, body_answer, module_answer}
use Rattle.file_reader.proofs.reading.read_module.Goals as goal

pub returns-in-Err : goal.returns-in-Err
returns-in-Err c = header_answer c.args.tokens.now c.args.source.now c.args.reading.now.seen c.args.reading.now.sorts c.args.reading.now.found c.args.from c.requires.reading c.requires.going c.in-Err.stop c.stop_of.result c.stop_of.ensures c.in-Err.ensures.read

pub returns-then-has : goal.returns-then-has
returns-then-has c = twice_answer c.args.tokens.now c.args.source.now c.args.reading.now.seen c.args.reading.now.sorts c.args.reading.now.found c.args.from c.requires.reading c.requires.going c.in-Ok.name c.in-Ok.next c.in-Ok.ensures.read c.has.result (c.has.ensures ∙ ap (is_among c.args.reading.now.seen) c.as_slice.ensures) c.if-has.true c.in-Ok.ensures.ended

pub returns-in-Err-read_body : goal.returns-in-Err-read_body
returns-in-Err-read_body c =
    body_answer c.args.tokens.now c.args.source.now c.args.reading.now.seen c.args.reading.now.sorts c.args.reading.now.found c.args.from c.requires.reading c.requires.going c.in-Ok.name c.in-Ok.next c.in-Ok.ensures.read c.has.result (c.has.ensures ∙ ap (is_among c.args.reading.now.seen) c.as_slice.ensures) c.if-has.false c.in-Err-read_body.stop c.stop_of-in-Err-read_body.result c.stop_of-in-Err-read_body.ensures c.in-Err-read_body.ensures

pub returns : goal.returns
returns c =
    module_answer c.args.tokens.now c.args.source.now c.args.reading.now.seen c.args.reading.now.sorts c.args.reading.now.found c.args.from c.requires.reading c.requires.going c.in-Ok.name c.in-Ok.next c.in-Ok.ensures.read c.has.result (c.has.ensures ∙ ap (is_among c.args.reading.now.seen) c.as_slice.ensures) c.if-has.false c.read_body.new.sorts c.in-Ok-read_body.body.imports c.in-Ok-read_body.body.sentences c.in-Ok-read_body.past c.in-Ok-read_body.ensures
    c.add_name.new.seen c.add_found.new.found c.in-Ok-add_name.ensures c.in-Ok-add_found.ensures.names c.in-Ok-add_found.ensures.imports c.in-Ok-add_found.ensures.sentences
