use Rattle.rule_tokens.proofs.Known.{word_utf8}
use Rattle.rule_tokens.proofs.forms.sorted_at.Goals as goal

pub name_of-requires-clause-utf8 : goal.name_of-requires-clause-utf8
name_of-requires-clause-utf8 c = word_utf8 c.args.text.now c.args.tokens.now 0 c.bytes_at-word.result.now c.requires.stand c.bytes_at-word.ensures
