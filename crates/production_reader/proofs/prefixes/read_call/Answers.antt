use Rattle.std.proofs.Common.{ap, ◌∙◌}
use Rattle.production_reader.specs.Allowed.{may_bracket}
use Rattle.production_reader.specs.Items.{sorts_of_items}
use Rattle.production_reader.proofs.SortReading.{call_no_arguments, call_no_attributes, call_read}
use Rattle.production_reader.proofs.prefixes.read_call.Goals as goal

pub returns-in-Err : goal.returns-in-Err
returns-in-Err c = call_no_arguments c.args.source.now c.args.from c.requires c.in-Err.stop c.in-Err.ensures

pub returns-in-Err-read_attributes : goal.returns-in-Err-read_attributes
returns-in-Err-read_attributes c =
    call_no_attributes c.args.source.now c.args.from c.requires c.args.name.now c.in-Some.head c.in-Ok.read.0 c.in-Ok.read.1 c.in-Ok.ensures c.in-Some.ensures c.in-Some-with_mark.items
    c.in-Some-with_mark.ensures c.may_bracket-brackets.result (c.may_bracket-brackets.ensures ∙ ap (λ t. may_bracket (sorts_of_items t)) c.as_slice.ensures) c.in-Err-read_attributes.stop
    c.in-Err-read_attributes.ensures

pub returns : goal.returns
returns c =
    call_read c.args.source.now c.args.from c.requires c.args.name.now c.in-Some.head c.in-Ok.read.0 c.in-Ok.read.1 c.in-Ok.ensures c.in-Some.ensures c.in-Some-with_mark.items
    c.in-Some-with_mark.ensures c.may_bracket-brackets.result (c.may_bracket-brackets.ensures ∙ ap (λ t. may_bracket (sorts_of_items t)) c.as_slice.ensures)
    c.in-Ok-read_attributes.read.0 c.in-Ok-read_attributes.read.1 c.in-Some-text_of.label c.in-Some-text_of.ensures c.in-Ok-read_attributes.ensures
