use Rattle.sound_rules.proofs.Strict.{strict_rules}
use Rattle.sound_rules.proofs.laws.strict_rules_sound.Goals as goal

pub returns : goal.returns
returns c = strict_rules c.are_sound_drafts.ensures c.strict_fit.ensures c.written_strict.ensures c.completed_soundly.ensures
