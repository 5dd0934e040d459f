use Rattle.std.proofs.Common.{length}
use Rattle.k_lexer.proofs.Standing.{all_stand}
use Rattle.definition_syntax.proofs.syntax.words_of.Goals as goal

pub number_tokens-requires : goal.number_tokens-requires
number_tokens-requires c = all_stand c.args.text.now c.args.tokens.now (length c.args.text.now) c.requires.whole
