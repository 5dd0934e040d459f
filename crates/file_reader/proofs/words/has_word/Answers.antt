use Rattle.file_reader.proofs.Heads.{no_true}
use Rattle.file_reader.proofs.words.has_word.Goals as goal

pub returns-in-None : goal.returns-in-None
returns-in-None c = ((λ no. absurd (no_true no)), λ is. absurd (c.in-None.ensures c.args.text.now is))
