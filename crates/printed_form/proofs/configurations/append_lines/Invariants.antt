use Rattle.std.proofs.Common.{◌≡◌, ◌++◌, take}
use Rattle.std.specs.List.{flat_map}
use Rattle.printed_form.proofs.configurations.append_lines.Given as goal

abbrev pub invariant-loop-lines : goal.invariant-loop-lines
invariant-loop-lines l = l.out.items ≡ l.initial.out.items ++ flat_map (λ child. child.1) (take l.lines-index l.children)
