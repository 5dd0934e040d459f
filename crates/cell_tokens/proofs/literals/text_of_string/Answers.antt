use Rattle.std.proofs.Common.{sym, ◌∙◌}
use Rattle.production_reader.proofs.Texts.{says_empty}
use Rattle.cell_tokens.proofs.literals.text_of_string.Goals as goal

pub returns-in_default : goal.returns-in_default
returns-in_default c = c.new.ensures ∙ sym (says_empty c.args.string.now c.in_default.ensures.cases)
