use Rattle.std.proofs.Common.{◌≡◌, sym, subst}
use Rattle.span_rows.specs.Rows.{Adds}
use Rattle.span_rows.proofs.Adding.{adds_one}
use Rattle.span_rows.proofs.rows.add.Goals as goal

pub returns-clause-ok : goal.returns-clause-ok
returns-clause-ok c = subst (Adds (λ row. row ≡ c.args.made) c.args.rows.now.items) (sym c.in_ok-push.ensures.items) (adds_one c.args.rows.now.items c.args.made)
