use Rattle.std.proofs.Common.{sym, ◌∙◌}
use Rattle.production_reader.proofs.SortReading.{no_word, no_sort, some_sort}
use Rattle.production_reader.proofs.prefixes.read_sort.Goals as goal

pub returns-in_default : goal.returns-in_default
returns-in_default c = no_word c.args.source.now c.args.from c.requires c.in_default.ensures

pub returns-then-not-is_item_sort : goal.returns-then-not-is_item_sort
returns-then-not-is_item_sort c = no_sort c.args.source.now c.args.from c.in-Some.word.now c.requires c.in-Some.ensures.0 (sym c.is_item_sort.ensures ∙ c.if-not-is_item_sort.true)

pub returns : goal.returns
returns c =
    some_sort c.args.source.now c.args.from c.in-Some.word.now c.in-Some-text_of.sort c.in-Some.ensures.0 (sym c.is_item_sort.ensures ∙ c.if-not-is_item_sort.false) c.in-Some-text_of.ensures
