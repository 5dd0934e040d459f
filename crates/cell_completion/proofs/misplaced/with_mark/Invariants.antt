use Rattle.std.proofs.Common.{◌≡◌, take}
use Rattle.cell_completion.specs.declared.tree.Written.{Written}
use Rattle.cell_completion.proofs.Prefixes.{NoneOf}
use Rattle.cell_completion.proofs.misplaced.with_mark.Given as goal

abbrev pub invariant-loop-one : goal.invariant-loop-one
invariant-loop-one l = NoneOf (λ (w : Written). w.mark ≡ l.mark) (take l.one-index l.written)
