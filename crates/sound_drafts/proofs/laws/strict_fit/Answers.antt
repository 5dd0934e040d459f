use Rattle.sound_drafts.proofs.Strict.{strict_fit}
use Rattle.sound_drafts.proofs.laws.strict_fit.Goals as goal

pub returns : goal.returns
returns c = strict_fit
