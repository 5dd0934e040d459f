use Rattle.std.proofs.Common.{rules}
use Rattle.small_form.proofs.SmallIsSound.{sound_as}
use Rattle.small_form.proofs.defined.language.Goals as goal

pub new-requires-2 : goal.new-requires-2
new-requires-2 c = sound_as c.args.definition c.requires _ (search rules)
