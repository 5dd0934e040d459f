use Rattle.rule_tokens.proofs.Symbols.{rule_symbols}
use Rattle.rule_tokens.proofs.laws.rule_symbols.Goals as goal

pub returns : goal.returns
returns c = rule_symbols
