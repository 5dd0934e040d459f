use Rattle.std.proofs.Common.{◌≡◌, sym, ap, ◌∙◌, subst, drop, None}
use Rattle.std.specs.List.{AllByRecursion}
use Rattle.std.specs.Option.{option_or}
use Rattle.program_tokens.specs.Splits.{first_place}
use Rattle.program_tokens.specs.Words.{IsInside, first_word, first_wide}
use Rattle.program_tokens.proofs.Reading.{words_are}
use Rattle.program_tokens.proofs.Splitting.{words_from, is_split}
use Rattle.program_tokens.proofs.split.split_base.Goals as goal

pub first_wide-wide-requires : goal.first_wide-wide-requires
first_wide-wide-requires c =
    subst (AllByRecursion (IsInside c.args.text.now)) (sym c.as_slice.ensures)
    (words_are c.in_ok-terminals.terminals c.args.names.now c.args.text.now c.in_ok-words.words c.args.base.now.tokens.items (drop c.in_ok-words.at c.args.base.now.tokens.items)
    c.requires.stand
    (words_from c.in_ok-terminals.terminals c.args.names.now c.args.text.now c.in_ok-words.words c.in_ok-words.at c.deref.result.now c.args.base.now.tokens.items
    c.deref.ensures.value c.in_ok-words.ensures.words)).0

pub returns-clause-split : goal.returns-clause-split
returns-clause-split c = λ before names.
    is_split c.args.grammar.now before c.args.names.now c.in_ok-terminals.terminals c.args.text.now _ c.args.base.now.tokens.items c.args.base.now.fault c.in_ok-words.at
    c.in_ok-terminals.ensures c.requires.base names
    (words_from c.in_ok-terminals.terminals c.args.names.now c.args.text.now c.in_ok-words.words c.in_ok-words.at c.deref.result.now c.args.base.now.tokens.items
    c.deref.ensures.value c.in_ok-words.ensures.words)
    (subst (λ ts. first_word c.in_ok-terminals.terminals c.args.names.now c.args.text.now (drop c.in_ok-words.at ts) ≡ None) c.deref.ensures.value c.in_ok-words.ensures.ends)
    (c.bad_place.ensures ∙ ap (λ ts. option_or (first_place (drop c.in_ok-words.at ts)) c.args.base.now.fault) c.deref-2.ensures.value)
    (c.first_wide-wide.ensures ∙ ap (first_wide c.args.text.now) c.as_slice.ensures)

pub returns-clause-words : goal.returns-clause-words
returns-clause-words c =
    (words_are c.in_ok-terminals.terminals c.args.names.now c.args.text.now c.in_ok-words.words c.args.base.now.tokens.items (drop c.in_ok-words.at c.args.base.now.tokens.items)
    c.requires.stand
    (words_from c.in_ok-terminals.terminals c.args.names.now c.args.text.now c.in_ok-words.words c.in_ok-words.at c.deref.result.now c.args.base.now.tokens.items
    c.deref.ensures.value c.in_ok-words.ensures.words)).1
