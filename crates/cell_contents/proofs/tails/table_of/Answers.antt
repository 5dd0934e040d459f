use Rattle.std.proofs.Common.{◌≡◌, length, refl, ap, arith}
use Rattle.cell_contents.specs.declared.found.Found.TheVariants.{One}
use Rattle.cell_contents.proofs.Growing.{table_empty, rest_table_by, more_count, table_step, table_whole}
use Rattle.cell_contents.proofs.tails.table_of.Goals as goal

pub loop-left-init : goal.loop-left-init
loop-left-init c = (ap length c.new-entries.ensures, table_empty c.args.grammar.now c.args.words.now _ (ap One c.new-nothing.ensures) refl)

pub entry_at-requires : goal.entry_at-requires
entry_at-requires c =
    rest_table_by c.args.grammar.now c.args.words.now c.split_at.result.1.now c.loop-left.left c.loop-left.table c.split_at.ensures.back c.loop-left-test.true c.loop-left.invariant.1

pub loop-left-preserved : goal.loop-left-preserved
loop-left-preserved c = (
  more_count c.loop-left.table.entries _ c.in_ok-entry.entry c.loop-left.left c.loop-left.invariant.0 c.in_ok-push.ensures.ok,
  table_step c.args.grammar.now c.args.words.now c.split_at.result.0.now c.split_at.result.1.now c.loop-left.left c.loop-left.table _ c.in_ok-entry.entry
      c.loop-left.invariant.0 c.split_at.ensures.front c.split_at.ensures.back c.in_ok-push.ensures.ok c.in_ok-entry.ensures c.loop-left.invariant.1,
)

pub returns : goal.returns
returns c =
    let a = c.loop-left.auto.left-end in
    let b = c.loop-left-test.false in
    let e : c.loop-left.left ≡ length c.args.words.now = omega (arith, a, b) in
    table_whole c.args.grammar.now c.args.words.now c.loop-left.left c.loop-left.table e c.loop-left.invariant.1
