use Rattle.program_tokens.proofs.Symbols.{symbols}
use Rattle.program_tokens.proofs.laws.symbols.Goals as goal

pub returns : goal.returns
returns c = symbols
