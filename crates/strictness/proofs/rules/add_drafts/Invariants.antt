use Rattle.std.proofs.Common.{◌≡◌, ◌++◌}
use Rattle.std.specs.List.{flat_map, filter}
use Rattle.strictness.specs.Places.{places_to, is_named}
use Rattle.strictness.specs.Drafts.{drafts_at}
use Rattle.strictness.proofs.rules.add_drafts.Given as goal

abbrev pub invariant-loop-index : goal.invariant-loop-index
invariant-loop-index l = l.drafts.items ≡ l.initial.drafts.items ++ flat_map (drafts_at l.cell l.prod l.production) (filter (is_named l.production) (places_to l.index))
