use Rattle.std.proofs.Common.{◌≡◌, ◌++◌, take}
use Rattle.std.specs.List.{flat_map}
use Rattle.rule_drafts.specs.Cells.{event_occurrences}
use Rattle.rule_drafts.proofs.contents.add_all_occurrences.Given as goal

abbrev pub invariant-loop-event : goal.invariant-loop-event
invariant-loop-event l = l.found.items ≡ l.fn.found.items ++ flat_map (event_occurrences l.grammar l.leaves l.cells l.readings) (take l.event-index l.events)
