use Rattle.std.proofs.Common.{ap, sym, ◌∙◌}
use Rattle.rule_cells.proofs.Deciding.{stops_of, open_of, whole_of}
use Rattle.rule_cells.specs.Marks.{marks}
use Rattle.rule_cells.proofs.read.read_cells.Goals as goal

pub returns-in-Err : goal.returns-in-Err
returns-in-Err c = stops_of c.args.cells.now c.args.tokens.now c.in-Err.fault c.requires c.in-Err.ensures

pub returns-in_default : goal.returns-in_default
returns-in_default c =
    open_of c.args.cells.now c.args.tokens.now c.end_of.result c.in-Ok.state c.requires c.end_of.ensures c.in-Ok.ensures (sym c.side_read.ensures ∙ c.in_default.is)

pub returns : goal.returns
returns c = whole_of c.args.cells.now (marks c.args.tokens.now) c.in-Ok.state c.in-Some.side c.in-Ok.ensures (sym c.side_read.ensures ∙ c.in-Some.is)
