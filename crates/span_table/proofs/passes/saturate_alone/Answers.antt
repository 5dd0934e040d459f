use Rattle.std.proofs.Common.{List, [], subst}
use Rattle.span_rows.specs.declared.row.Row.{Row}
use Rattle.span_rows.specs.Rows.{Adds, IsNear}
use Rattle.span_table.proofs.Saturating.{saturated_alone, near_sound_alone}
use Rattle.span_table.proofs.passes.saturate_alone.Goals as goal

pub returns-then-not-branch-clause-covers : goal.returns-then-not-branch-clause-covers
returns-then-not-branch-clause-covers c =
    let near =
    subst (λ (rows : List Row). Adds (IsNear c.args.grammar.now rows c.loop-made.rows.items) [] c.in_ok-made.made.items) c.as_slice.ensures.value
    (subst (λ (rows : List Row). Adds (IsNear c.args.grammar.now c.as_slice.result.now rows) [] c.in_ok-made.made.items) c.as_slice-in-loop-made.ensures.value c.in_ok-made.ensures) in
    saturated_alone c.args.grammar.now c.args.rows.now.items c.loop-made.rows.items c.in_ok-made.made.items c.add_all.new.rows.items c.loop-made.invariant.grows near
    c.in_ok-add_all.ensures.ok (c.in_ok-add_all.ensures.same c.if-not-branch.true)

pub loop-made-preserved : goal.loop-made-preserved
loop-made-preserved c =
    let near =
    subst (λ (rows : List Row). Adds (IsNear c.args.grammar.now rows c.loop-made.rows.items) [] c.in_ok-made.made.items) c.as_slice.ensures.value
    (subst (λ (rows : List Row). Adds (IsNear c.args.grammar.now c.as_slice.result.now rows) [] c.in_ok-made.made.items) c.as_slice-in-loop-made.ensures.value c.in_ok-made.ensures) in
    record {
      grows = λ x has. c.in_ok-add_all.ensures.ok.grows x (c.loop-made.invariant.grows x has);
      sound = near_sound_alone c.args.grammar.now c.args.rows.now.items c.loop-made.rows.items c.in_ok-made.made.items c.add_all.new.rows.items c.loop-made.invariant.sound near
          c.in_ok-add_all.ensures.ok;
    }

pub returns-then-not-branch-clause-sound : goal.returns-then-not-branch-clause-sound
returns-then-not-branch-clause-sound c =
    let near =
    subst (λ (rows : List Row). Adds (IsNear c.args.grammar.now rows c.loop-made.rows.items) [] c.in_ok-made.made.items) c.as_slice.ensures.value
    (subst (λ (rows : List Row). Adds (IsNear c.args.grammar.now c.as_slice.result.now rows) [] c.in_ok-made.made.items) c.as_slice-in-loop-made.ensures.value c.in_ok-made.ensures) in
    near_sound_alone c.args.grammar.now c.args.rows.now.items c.loop-made.rows.items c.in_ok-made.made.items c.add_all.new.rows.items c.loop-made.invariant.sound near
    c.in_ok-add_all.ensures.ok
