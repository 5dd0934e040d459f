use Rattle.std.proofs.Common.{List, ◌<◌, ◌≤◌, arith, subst}
use Rattle.span_rows.specs.declared.row.Row.{Row}
use Rattle.span_rows.specs.Rows.{Adds, IsJoin}
use Rattle.span_table.specs.Table.{rows_of}
use Rattle.span_table.proofs.Spanning.{middles_next, middles_all}
use Rattle.span_table.proofs.table.join_middles.Goals as goal

pub loop-middle-preserved : goal.loop-middle-preserved
loop-middle-preserved c =
    let s = c.args.spans in
    let fronts = rows_of s.empty.now s.columns.now c.args.from c.loop-middle.middle in
    let join =
    subst (λ (rows : List Row). Adds (IsJoin c.args.grammar.now fronts rows) c.loop-middle.rows.items c.join.new.rows.items) c.rows_in-children.ensures
    (subst (λ (rows : List Row). Adds (IsJoin c.args.grammar.now rows c.rows_in-children.result.now) c.loop-middle.rows.items c.join.new.rows.items) c.rows_of-fronts.ensures c.in_ok-join.ensures) in
    let above : c.args.from < c.loop-middle.middle = omega arith in
    let below : c.loop-middle.middle ≤ c.args.last = omega arith in
    middles_next c.args.grammar.now s.empty.now s.columns.now s.column.now c.args.from c.args.last c.loop-middle.middle _ _ _ above below c.loop-middle.invariant join

pub returns : goal.returns
returns c =
    let s = c.args.spans in
    middles_all c.args.grammar.now s.empty.now s.columns.now s.column.now c.args.from c.args.last c.loop-middle.middle _ _ (omega arith) c.loop-middle.invariant
