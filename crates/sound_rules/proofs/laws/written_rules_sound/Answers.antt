use Rattle.sound_rules.proofs.Written.{written_rules}
use Rattle.sound_rules.proofs.laws.written_rules_sound.Goals as goal

pub returns : goal.returns
returns c =
    written_rules c.sound_values.ensures c.whole_sequences.ensures c.cells_fit.ensures c.knows_its_variables.ensures c.binds_its_variables.ensures c.is_of_kinds.ensures
    c.written_rules.ensures c.completed_soundly.ensures
