use Rattle.std.proofs.Common.{◌≡◌, ◌++◌, not, take}
use Rattle.std.specs.List.{filter}
use Rattle.cell_completion.specs.declared.tree.Written.{Written}
use Rattle.rule_completion.specs.Writing.{is_among}
use Rattle.rule_completion.proofs.writing.add_new.Given as goal

abbrev pub invariant-loop-one : goal.invariant-loop-one
invariant-loop-one l = l.all.items ≡ l.fn.all.items ++ filter (λ (w : Written). not (is_among l.others w.mark)) (take l.one-index l.cells)
