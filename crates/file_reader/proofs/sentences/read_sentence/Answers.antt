use Rattle.std.proofs.Common.{sym, ◌∙◌}
use Rattle.file_reader.proofs.Heads.{no_true}
use Rattle.file_reader.proofs.Declaring.{no_sentence}
use Rattle.file_reader.proofs.sentences.read_sentence.Goals as goal

pub returns : goal.returns
returns c = no_sentence c.args.source.now c.args.sorts.now c.args.from c.requires
    (λ is. no_true (sym c.if-has_word.false ∙ c.has_word.ensures.1 is)) (λ is. no_true (sym c.if-has_word-2.false ∙ c.has_word-2.ensures.1 is))
    (λ is. no_true (sym c.if-has_word-3.false ∙ c.has_word-3.ensures.1 is)) (λ is. no_true (sym c.if-has_word-4.false ∙ c.has_word-4.ensures.1 is))
