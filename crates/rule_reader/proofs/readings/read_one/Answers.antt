use Rattle.rule_reader.proofs.Asked.{unread_told}
use Rattle.rule_reader.proofs.readings.read_one.Goals as goal

pub returns-in-Err-clause-fault : goal.returns-in-Err-clause-fault
returns-in-Err-clause-fault c =
    unread_told c.args.grammar.now c.args.cells.now c.args.tokens.now c.args.words.now c.args.behind c.args.content.now c.kind_of-kind.result c.between-part.result.now c.place_of.result
    c.in-Err.fault c.content_fault.result c.kind_of-kind.ensures c.between-part.ensures c.place_of.ensures c.content_fault.ensures c.in-Err.ensures.fault
