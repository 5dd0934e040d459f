use Rattle.std.proofs.Common.{ap, ◌∙◌, sym}
use Rattle.live_config.specs.Places.{first_over, first_of}
use Rattle.live_config.proofs.PlaceTests.{over_append}
use Rattle.live_config.proofs.conflicts.overlapped_of_two.Goals as goal

pub returns-in-Some : goal.returns-in-Some
returns-in-Some c =
    ap (λ o. first_of o (first_over c.args.place.now c.args.second.now)) c.in-Some.ensures ∙ sym (over_append c.args.place.now c.args.first.now c.args.second.now)

pub returns-in-None : goal.returns-in-None
returns-in-None c =
    c.overlapped-in-None.ensures
    ∙ ap (λ o. first_of o (first_over c.args.place.now c.args.second.now)) c.in-None.ensures
    ∙ sym (over_append c.args.place.now c.args.first.now c.args.second.now)
