use Rattle.std.proofs.Common.{ap, ◌∙◌, sym, ◌&&◌}
use Rattle.std.specs.Prelude.{nat_eq}
use Rattle.std.specs.List.{starts_with}
use Rattle.live_config.specs.Places.{is_whole, begins}
use Rattle.live_config.proofs.PlaceTests.{path_begins}
use Rattle.live_config.proofs.conflicts.is_above.Goals as goal

pub returns-in-Whole : goal.returns-in-Whole
returns-in-Whole c =
    c.starts_with.ensures.value
    ∙ (λ i. starts_with nat_eq (c.as_slice.ensures i) (c.as_slice-in-Whole.ensures i))
    ∙ path_begins c.args.a.now.path c.args.b.now.path
    ∙ sym (ap (λ e. is_whole e && begins c.args.a.now.path c.args.b.now.path) c.in-Whole.is)
