use Rattle.std.proofs.Common.{sym, ◌∙◌}
use Rattle.k_lexer.proofs.Words.{other_first, decides}
use Rattle.k_lexer.proofs.whole.is_word.Goals as goal

pub returns-then-not-starts_word : goal.returns-then-not-starts_word
returns-then-not-starts_word c = (
  λ no. absurd (cc),
  λ token. absurd (other_first c.args.text.now c.in-Some.first c.in-Some.width c.in-Some.ensures (sym c.starts_word.ensures ∙ c.if-not-starts_word.true) token),
)

pub returns : goal.returns
returns c =
    decides c.args.text.now c.split_at.result.1.now c.in-Some.first c.in-Some.width c.run_size.result c.in-Some.ensures (sym c.starts_word.ensures ∙ c.if-not-starts_word.false)
    c.run_size.ensures c.split_at.ensures.back
