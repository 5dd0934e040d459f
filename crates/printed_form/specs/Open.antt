-- Opens the printed form at closed values and configurations, so that a proof computes there: a proof elsewhere writes
-- `unfolding open_printed`.
use Rattle.std.specs.Fmt.{digits}
use Rattle.rule_terms.specs.Open.{open_rules}
use Rattle.printed_form.specs.Printed.{has_parts, has_entries, is_enclosed, value_text, row_texts, pair_row_texts}
use Rattle.printed_form.specs.Configurations.{cell_text, row_of_lines}

unfoldable pub open_printed : Unit {0}
unfolding open_rules digits has_parts has_entries is_enclosed value_text row_texts pair_row_texts cell_text row_of_lines
open_printed = tt
