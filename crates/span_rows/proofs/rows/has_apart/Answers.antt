use Rattle.std.proofs.Common.{◌∙◌, sym, true≢false}
use Rattle.span_rows.proofs.Adding.{has_item, has_row}
use Rattle.span_rows.proofs.rows.has_apart.Goals as goal

pub returns-then-not-same_code : goal.returns-then-not-same_code
returns-then-not-same_code c = λ told. record {
  other = c.row-item.result.code;
  has = has_row c.args.rows.now c.row-item.result c.args.key.now (c.same_key.ensures.0 c.if-same_key.true) (has_item c.args.rows.now c.loop-row.row-index c.row-item.result c.loop-row-test.true c.row-item.is);
  differ = λ same. true≢false (sym (c.same_code.ensures.1 (c.as_slice.ensures ∙ same)) ∙ c.if-not-same_code.true);
}
