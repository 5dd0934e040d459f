use Rattle.std.proofs.Common.{◌≡◌, ◌++◌, take, map, codes}
use Rattle.printed_form.specs.Pieces.{each_after}
use Rattle.rule_listing.specs.Lines.{cell_name}
use Rattle.rule_listing.proofs.lines.add_names.Given as goal

abbrev pub invariant-loop-number : goal.invariant-loop-number
invariant-loop-number l = l.line.items ≡ l.initial.line.items ++ each_after (codes ",") (map (cell_name l.cells) (take l.number-index l.rest))
