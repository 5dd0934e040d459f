use Rattle.context_transform.proofs.CellFaults.{strict_told, cells_told}
use Rattle.context_transform.proofs.assembling.cells_of.Goals as goal

pub returns-in-Err-heat_cool-clause-fault : goal.returns-in-Err-heat_cool-clause-fault
returns-in-Err-heat_cool-clause-fault c =
    strict_told c.args.grammar.now c.args.names.now c.args.text.now c.args.tokens.now c.args.sentences.now c.in-Err-heat_cool.fault c.strict_fault.result
    c.in-Err-heat_cool.ensures.fault c.strict_fault.ensures

pub returns-in-Ok-heat_cool-2-clause-fault : goal.returns-in-Ok-heat_cool-2-clause-fault
returns-in-Ok-heat_cool-2-clause-fault c =
    cells_told c.args.grammar.now c.args.names.now c.args.text.now c.args.tokens.now c.args.sentences.now c.in-Err.refusal c.read_cells.new.names c.cell_fault.result
    c.in-Ok-heat_cool-2.ensures.ok.1 c.in-Err.ensures.fault c.cell_fault.ensures

pub returns-in-Err-heat_cool-2-clause-fault : goal.returns-in-Err-heat_cool-2-clause-fault
returns-in-Err-heat_cool-2-clause-fault c =
    strict_told c.args.grammar.now c.args.names.now c.args.text.now c.args.tokens.now c.args.sentences.now c.in-Err-heat_cool-2.fault c.strict_fault-in-Err-heat_cool-2.result
    c.in-Err-heat_cool-2.ensures.fault c.strict_fault-in-Err-heat_cool-2.ensures
