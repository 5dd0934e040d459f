use Rattle.std.proofs.Common.{inl, inr, ◌∙◌, sym}
use Rattle.span_rows.proofs.Adding.{has_item, has_row, has_same}
use Rattle.span_rows.proofs.rows.is_kept.Goals as goal

pub returns-then-same_code : goal.returns-then-same_code
returns-then-same_code c = λ told.
    inl (has_same c.args.rows.now c.row-item.result c.args.made.now (c.same_key.ensures.0 c.if-same_key.true)
    (sym c.as_slice.ensures ∙ c.same_code.ensures.0 c.if-same_code.true ∙ c.as_slice-then-same_key.ensures)
    (has_item c.args.rows.now c.loop-row.row-index c.row-item.result c.loop-row-test.true c.row-item.is))

pub returns-then-same_key : goal.returns-then-same_key
returns-then-same_key c = λ told.
    let apart = c.has_apart.ensures told in
    inr (record {
      one = c.row-item.result.code;
      other = apart.other;
      has_one = has_row c.args.rows.now c.row-item.result c.args.made.now.key (c.same_key.ensures.0 c.if-same_key.true) (has_item c.args.rows.now c.loop-row.row-index c.row-item.result c.loop-row-test.true c.row-item.is);
      has_other = apart.has;
      differ = λ same. apart.differ (sym same ∙ sym c.as_slice-then-same_key-2.ensures);
    })
