use Rattle.std.proofs.Common.{◌≡◌, List, ◌+◌, length, arith, sym, subst}
use Rattle.span_rows.specs.declared.row.Row.{Row}
use Rattle.span_table.specs.Table.{IsSoundUpTo, IsFullColumn, AreFullColumns}
use Rattle.span_table.proofs.Columns.{columns_next, sound_more, table_full}
use Rattle.span_table.proofs.table.columns_of.Goals as goal

pub loop-last-preserved : goal.loop-last-preserved
loop-last-preserved c =
    let g = c.args.grammar.now in
    let words = c.args.tokens.now in
    let empty = c.args.empty.now in
    let last = c.loop-last.last in
    let columns = c.loop-last.columns.items in
    let column = c.in_ok-column.column in
    let same = c.as_slice.ensures.value in
    let full = subst (λ (front : List (List (List Row))). IsFullColumn g words empty front last column (last + 1)) same c.in_ok-column.ensures.full in
    let before = c.loop-last.invariant.sound in
    record {
      full = subst (λ (all : List (List (List Row))). AreFullColumns g words empty all (last + 1)) (sym c.in_ok-push.ensures.items)
          (columns_next g words empty last columns column c.loop-last.invariant.full full);
      sound = subst (λ (all : List (List (List Row))). IsSoundUpTo g words empty all (last + 1)) (sym c.in_ok-push.ensures.items)
          (sound_more g words empty columns column last c.loop-last.invariant.full.length_is before
          (c.in_ok-column.ensures.sound (subst (λ (front : List (List (List Row))). IsSoundUpTo g words empty front last) (sym same) before)));
    }

pub returns-clause-full : goal.returns-clause-full
returns-clause-full c =
    let end : c.loop-last.last ≡ length c.args.tokens.now = omega arith in
    table_full c.args.grammar.now c.args.tokens.now c.args.empty.now c.loop-last.columns.items c.requires
    (subst (AreFullColumns c.args.grammar.now c.args.tokens.now c.args.empty.now c.loop-last.columns.items) end c.loop-last.invariant.full)
