use Rattle.std.proofs.Common.{◌∙◌}
use Rattle.live_config.proofs.PlaceTests.{place_eq}
use Rattle.live_config.proofs.conflicts.is_same.Goals as goal

pub returns : goal.returns
returns c = c.eq.ensures ∙ place_eq c.args.a.now c.args.b.now
