use Rattle.std.proofs.Common.{sym, ◌∙◌, subst, IsTrue}
use Rattle.production_reader.specs.Allowed.{IsTerminal}
use Rattle.production_reader.proofs.PartReading.{no_part, other_word, refused_text, sort_part, text_part}
use Rattle.production_reader.proofs.items.read_part.Goals as goal

pub returns-then-not-is_item_sort : goal.returns-then-not-is_item_sort
returns-then-not-is_item_sort c = other_word c.in-Some.word.now c.args.source.now c.args.from c.requires c.in-Some.ensures.0 (sym c.is_item_sort.ensures ∙ c.if-not-is_item_sort.true)

pub returns-in-Some : goal.returns-in-Some
returns-in-Some c =
    sort_part c.in-Some.word.now c.in-Some-text_of.sort c.args.source.now c.args.from c.in-Some.ensures.0 c.in-Some-text_of.ensures (sym c.is_item_sort.ensures ∙ c.if-not-is_item_sort.false)

pub returns-in_default-text_at : goal.returns-in_default-text_at
returns-in_default-text_at c = no_part c.args.source.now c.args.from c.requires c.in_default.ensures c.in_default-text_at.ensures

pub returns-then-not-is_terminal : goal.returns-then-not-is_terminal
returns-then-not-is_terminal c =
    refused_text c.in-Some-text_at.string.now c.as_slice.result.now c.is_terminal.result c.args.source.now c.args.from c.requires c.in-Some-text_at.ensures.0
    (c.as_slice.ensures ∙ c.in-Some-text_of_string.ensures) c.is_terminal.ensures c.if-not-is_terminal.true

pub returns : goal.returns
returns c =
    text_part c.in-Some-text_at.string.now c.in-Some-text_of_string.text c.is_terminal.result c.args.source.now c.args.from c.in-Some-text_at.ensures.0
    c.in-Some-text_of_string.ensures (subst (λ t. (IsTrue c.is_terminal.result → IsTerminal t) × (IsTerminal t → IsTrue c.is_terminal.result)) c.as_slice.ensures c.is_terminal.ensures)
    c.if-not-is_terminal.false
