use Rattle.std.proofs.Common.{◌+◌, List, sym, subst}
use Rattle.span_rows.specs.declared.row.Row.{Row}
use Rattle.span_rows.specs.Rows.{Adds, IsMade, GoesOn}
use Rattle.span_table.specs.Meaning.{AreSound}
use Rattle.span_rows.specs.Tokens.{IsTokenOver}
use Rattle.span_table.specs.Table.{IsFull}
use Rattle.span_table.proofs.Spanning.{full_of, sound_of}
use Rattle.span_table.proofs.table.fill.Goals as goal

pub returns-clause-full : goal.returns-clause-full
returns-clause-full c =
    let s = c.args.spans in
    let g = c.args.grammar.now in
    let token = subst (λ (old : List Row). Adds (IsTokenOver g c.args.tokens.now c.args.from c.args.last) old c.add_token.new.rows.items) c.new-rows.ensures.items c.in_ok-add_token.ensures in
    let passed =
    subst (λ (fronts : List Row). Adds (IsMade (GoesOn g c.args.tokens.now c.args.last) fronts) c.add_token.new.rows.items c.go_on_all.new.rows.items) c.rows_of-fronts.ensures c.in_ok-go_on_all.ensures in
    subst (IsFull g c.args.tokens.now s.empty.now s.columns.now s.column.now c.args.from c.args.last) (sym c.from_vec.ensures)
    (full_of g c.args.tokens.now s.empty.now s.columns.now s.column.now c.args.from c.args.last c.add_token.new.rows.items c.go_on_all.new.rows.items c.join_middles.new.rows.items c.saturate.new.rows.items
    token passed c.in_ok-join_middles.ensures c.in_ok-saturate.ensures.covers)

pub returns-clause-sound : goal.returns-clause-sound
returns-clause-sound c =
    let s = c.args.spans in
    let g = c.args.grammar.now in
    let token = subst (λ (old : List Row). Adds (IsTokenOver g c.args.tokens.now c.args.from c.args.last) old c.add_token.new.rows.items) c.new-rows.ensures.items c.in_ok-add_token.ensures in
    let passed =
    subst (λ (fronts : List Row). Adds (IsMade (GoesOn g c.args.tokens.now c.args.last) fronts) c.add_token.new.rows.items c.go_on_all.new.rows.items) c.rows_of-fronts.ensures c.in_ok-go_on_all.ensures in
    λ up beside.
    subst (AreSound g c.args.tokens.now c.args.from (c.args.last + 1)) (sym c.from_vec.ensures)
    (sound_of g c.args.tokens.now s.empty.now s.columns.now s.column.now c.args.from c.args.last c.add_token.new.rows.items c.go_on_all.new.rows.items c.join_middles.new.rows.items c.saturate.new.rows.items
    c.requires.within token passed c.in_ok-join_middles.ensures c.in_ok-saturate.ensures.sound up beside)
