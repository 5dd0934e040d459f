use Rattle.std.proofs.Common.{◌≡◌, false}
use Rattle.std.specs.Prelude.{None}
use Rattle.live_config.proofs.Members.{contains-has}
use Rattle.cell_completion.specs.declared.tree.Written.{Written}
use Rattle.cell_completion.proofs.Prefixes.{none_begins, none_goes_on, none_ends}
use Rattle.cell_completion.proofs.misplaced.with_mark.Goals as goal

pub loop-one-init : goal.loop-one-init
loop-one-init c = none_begins (λ (w : Written). w.mark ≡ c.args.mark) c.args.written.now

pub loop-one-preserved : goal.loop-one-preserved
loop-one-preserved c =
    none_goes_on (λ (w : Written). w.mark ≡ c.args.mark) c.args.written.now c.loop-one.one-index (record { mark = 0; cell = 0; above = None; both = false })
    c.loop-one-test.true c.loop-one.invariant c.if-one-mark.false

pub returns-clause-none : goal.returns-clause-none
returns-clause-none c = λ w has same.
    none_ends (λ (v : Written). v.mark ≡ c.args.mark) c.args.written.now c.loop-one.one-index c.loop-one-test.false c.loop-one.invariant w (contains-has c.args.written.now w has) same
