use Rattle.std.proofs.Common.{◌⊎◌, inl, inr, subst}
use Rattle.span_rows.specs.Rows.{Adds, IsMade, IsJoin, IsNear, Finishes}
use Rattle.span_rows.proofs.Adding.{adds_both}
use Rattle.span_table.proofs.passes.near.Goals as goal

pub returns : goal.returns
returns c =
    let g = c.args.grammar.now in
    let rows = c.args.rows.now in
    let empty = c.args.empty.now in
    adds_both (IsMade (Finishes g) rows) (λ x. IsJoin g empty rows x ⊎ IsJoin g rows empty x) (IsNear g empty rows) _ _ _
    (λ x is. inl is) (λ x is. inr is) (λ x is. is)
    (subst (λ old. Adds (IsMade (Finishes g) rows) old c.finish_all.new.rows.items) c.new-made.ensures.items c.in_ok-finish_all.ensures)
    (adds_both (IsJoin g empty rows) (IsJoin g rows empty) (λ x. IsJoin g empty rows x ⊎ IsJoin g rows empty x) _ _ _ (λ x is. inl is) (λ x is. inr is) (λ x is. is) c.in_ok-join.ensures c.in_ok-join-2.ensures)
