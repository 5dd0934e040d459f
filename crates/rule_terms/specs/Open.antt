-- Opens the definitions of rules at closed values, so that a proof computes there: a proof elsewhere writes
-- `unfolding open_rules`.
use denote.Hole.Carrier.{out, roll, hidden, shown}
use Rattle.k_terms.specs.Value.{open_values}
use Rattle.rule_terms.specs.declared.pattern.Pattern.{out-Pattern}
use Rattle.rule_terms.specs.declared.pattern.Pattern.TheBlock.{shape-the_row-Pattern-0, hidden-the_row-Pattern-0, shown-the_row-Pattern-0}
use Rattle.rule_terms.specs.declared.pattern.Body.{out-Body}
use Rattle.rule_terms.specs.declared.pattern.Body.TheBlock.{shape-the_row-CellPat-0, hidden-the_row-CellPat-0, shown-the_row-CellPat-0}
use Rattle.rule_terms.specs.declared.plain.Plain.{out-Plain, roll-Plain}
use Rattle.rule_terms.specs.declared.plain.Plain.TheBlock.{shape-the_row-Plain-0, hidden-the_row-Plain-0, shown-the_row-Plain-0}
use Rattle.rule_terms.specs.Eval.{eval, eval_row}
use Rattle.rule_terms.specs.Fill.{fill_body, fill_row}
use Rattle.rule_terms.specs.Rewriting.{Alike, AllAlike}
use Rattle.rule_terms.specs.Patterns.{same_pattern, same_row, mentions, row_mentions}
use Rattle.rule_terms.specs.Spots.{spots_in, row_spots}
use Rattle.rule_terms.specs.InRange.{is_value_in_range, value_row_in_range, pair_row_in_range, is_pattern_in_range, row_in_range}
use Rattle.rule_terms.specs.Sound.{has_formed_values, row_has_formed_values, has_no_operator, row_has_no_operator, has_whole_sequences, row_has_whole_sequences, row_has_items}

unfoldable pub open_rules : Unit {0}
unfolding open_values eval eval_row fill_body fill_row Alike AllAlike same_pattern same_row mentions row_mentions spots_in row_spots has_formed_values row_has_formed_values has_no_operator row_has_no_operator has_whole_sequences row_has_whole_sequences row_has_items is_value_in_range value_row_in_range pair_row_in_range is_pattern_in_range row_in_range out roll hidden shown out-Pattern shape-the_row-Pattern-0 hidden-the_row-Pattern-0 shown-the_row-Pattern-0 out-Body shape-the_row-CellPat-0 hidden-the_row-CellPat-0 shown-the_row-CellPat-0 out-Plain roll-Plain shape-the_row-Plain-0 hidden-the_row-Plain-0 shown-the_row-Plain-0
open_rules = tt
