use Rattle.std.proofs.Common.{◌≡◌, List, ◌+◌, ◌-◌, arith, sym, subst}
use Rattle.span_rows.specs.declared.row.Row.{Row}
use Rattle.span_table.specs.Table.{IsFull, IsSoundColumn, IsFullColumn}
use Rattle.span_table.proofs.Columns.{column_next, sound_next}
use Rattle.span_table.proofs.table.column_of.Goals as goal

pub loop-width-preserved : goal.loop-width-preserved
loop-width-preserved c =
    let g = c.args.grammar.now in
    let words = c.args.tokens.now in
    let last = c.args.last in
    let width = c.loop-width.width in
    let column = c.loop-width.column.items in
    let rows = c.in_ok-rows.rows in
    let same = c.as_slice.ensures.value in
    let back : width ≡ last - (last - width) = omega arith in
    let now = subst (λ (front : List (List Row)). IsFull g words c.args.empty.now c.args.columns.now front (last - width) last rows) same c.in_ok-rows.ensures.full in
    record {
      full = subst (λ (spans : List (List Row)). IsFullColumn g words c.args.empty.now c.args.columns.now last spans (width + 1)) (sym c.in_ok-push.ensures.items)
          (column_next g words c.args.empty.now c.args.columns.now last width column rows c.loop-width.invariant.full now);
      sound = λ up.
          let before = c.loop-width.invariant.sound up in
          subst (λ (spans : List (List Row)). IsSoundColumn g words last spans (width + 1)) (sym c.in_ok-push.ensures.items)
          (sound_next g words last width column rows c.loop-width.invariant.full.length_is before
          (c.in_ok-rows.ensures.sound up (subst (IsSoundColumn g words last c.as_slice.result.now) back (subst (λ (front : List (List Row)). IsSoundColumn g words last front width) (sym same) before))));
    }
