use Rattle.std.proofs.Common.{sym, ◌∙◌}
use Rattle.production_reader.proofs.ProductionReading.{no_reserved, prefix_stops, prefix_read, list_stops, list_read, no_paren, sort_stops, sort_read}
use Rattle.production_reader.proofs.production.read_by_word.Goals as goal

pub returns-then-is_reserved : goal.returns-then-is_reserved
returns-then-is_reserved c = no_reserved c.args.had c.requires.goes c.args.source.now c.args.from c.requires.within c.args.word.now c.requires.there (sym c.is_reserved.ensures ∙ c.if-is_reserved.true)

pub returns-in-Ok : goal.returns-in-Ok
returns-in-Ok c = prefix_read c.args.had c.requires.goes c.args.source.now c.args.from c.requires.within c.args.word.now c.requires.there (sym c.is_reserved.ensures ∙ c.if-is_reserved.false) (sym c.if-is_mark.ensures.is) c.in-Ok.found.0 c.in-Ok.found.1 c.in-Ok.ensures

pub returns-in-Err : goal.returns-in-Err
returns-in-Err c = prefix_stops c.args.had c.requires.goes c.args.source.now c.args.from c.requires.within c.args.word.now c.requires.there (sym c.is_reserved.ensures ∙ c.if-is_reserved.false) (sym c.if-is_mark.ensures.is) c.in-Err.stop c.in-Err.ensures

pub returns-in-Ok-read_user_list : goal.returns-in-Ok-read_user_list
returns-in-Ok-read_user_list c =
    list_read c.args.had c.requires.goes c.args.source.now c.args.from c.requires.within c.args.word.now c.requires.there (sym c.if-is_mark.ensures.is) (sym c.if-begins_list.ensures.is) c.in-Ok-read_user_list.found.0 c.in-Ok-read_user_list.found.1 c.in-Ok-read_user_list.ensures

pub returns-in-Err-read_user_list : goal.returns-in-Err-read_user_list
returns-in-Err-read_user_list c = list_stops c.args.had c.requires.goes c.args.source.now c.args.from c.requires.within c.args.word.now c.requires.there (sym c.if-is_mark.ensures.is) (sym c.if-begins_list.ensures.is) c.in-Err-read_user_list.stop c.in-Err-read_user_list.ensures

pub returns-then-not-is_item_sort : goal.returns-then-not-is_item_sort
returns-then-not-is_item_sort c =
    no_paren c.args.had c.requires.goes c.args.source.now c.args.from c.requires.within c.args.word.now c.requires.there (sym c.if-is_mark.ensures.is) (sym c.if-begins_list.ensures.is) (sym c.is_reserved.ensures ∙ c.if-is_reserved.false) (sym c.is_item_sort.ensures ∙ c.if-not-is_item_sort.true)

pub returns-in-Ok-read_rest : goal.returns-in-Ok-read_rest
returns-in-Ok-read_rest c =
    sort_read c.args.had c.requires.goes c.args.source.now c.args.from c.requires.within c.args.word.now c.requires.there (sym c.if-is_mark.ensures.is) (sym c.if-begins_list.ensures.is) c.in-Some.sort c.in-Some.ensures (sym c.is_item_sort.ensures ∙ c.if-not-is_item_sort.false)
    c.in-Ok-read_rest.found.0 c.in-Ok-read_rest.found.1 c.in-Ok-read_rest.ensures

pub returns-in-Err-read_rest : goal.returns-in-Err-read_rest
returns-in-Err-read_rest c =
    sort_stops c.args.had c.requires.goes c.args.source.now c.args.from c.requires.within c.args.word.now c.requires.there (sym c.if-is_mark.ensures.is) (sym c.if-begins_list.ensures.is) c.in-Some.sort c.in-Some.ensures (sym c.is_item_sort.ensures ∙ c.if-not-is_item_sort.false)
    c.in-Err-read_rest.stop c.in-Err-read_rest.ensures
