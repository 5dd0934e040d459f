use Rattle.std.proofs.Common.{◌∙◌, codes}
use Rattle.std.specs.Fmt.{decimal}
use Rattle.krun.specs.Lines.{line_end}
use Rattle.krun.proofs.Grouping.{to_left}
use Rattle.krun.proofs.rule_fault.place_line.Goals as goal

pub returns : goal.returns
returns c =
    c.in_ok-from_slice.ensures.items ∙ c.as_bytes.ensures.value ∙ c.in_ok-line.ensures.ok
    ∙ to_left c.args.name.now (codes " prod=") (decimal c.args.prod) (codes " place=") (decimal c.args.place) line_end
