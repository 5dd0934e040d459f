use Rattle.std.proofs.Common.{◌≡◌, ◌+◌, ◌≤◌, length, arith}
use Rattle.cell_contents.proofs.Stepping.{found_first, found_step, found_whole}
use Rattle.cell_contents.proofs.Growing.{part_table}
use Rattle.cell_contents.proofs.tails.found_from.Goals as goal

pub loop-size-init : goal.loop-size-init
loop-size-init c = found_first c.args.grammar.now c.args.way c.args.words.now

pub found_by-requires-clause-table : goal.found_by-requires-clause-table
found_by-requires-clause-table c =
    part_table c.args.grammar.now c.args.words.now c.split_at.result.0.now c.split_at.result.1.now c.loop-size.size c.args.table.now
    c.split_at.ensures.front c.split_at.ensures.back c.loop-size-test.true c.requires

pub loop-size-preserved : goal.loop-size-preserved
loop-size-preserved c =
    let less = c.loop-size-test.true in
    let within : c.loop-size.size + 1 ≤ length c.args.words.now = omega (arith, less) in
    found_step c.args.grammar.now c.args.way c.args.words.now (c.loop-size.size + 1) c.split_at.result.0.now c.split_at.result.1.now
    c.loop-size.found c.in_ok-more.more c.also-found.result within c.split_at.ensures.front c.split_at.ensures.back c.also-found.ensures
    c.loop-size.invariant c.in_ok-more.ensures

pub returns : goal.returns
returns c =
    let a = c.loop-size.auto.size-end in
    let b = c.loop-size-test.false in
    let e : c.loop-size.size ≡ length c.args.words.now = omega (arith, a, b) in
    found_whole c.args.grammar.now c.args.way c.args.words.now c.loop-size.size c.loop-size.found e c.loop-size.invariant
